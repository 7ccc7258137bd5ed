-- the node is called to ask
use Rattle.std.proofs.Common.{refl}
use Rattle.cs_script.specs.declared.event.Event.TheVariants as events
use Rattle.cs_machine.specs.Happens.{happens}
use Rattle.cs_world.proofs.Calling.{ask-called}
use Rattle.cs_world.proofs.Leads.{leads-under}
use Rattle.cs_world.proofs.nodes.Nodes.ask.Goals as goal

pub returns-clause-answers : goal.returns-clause-answers
returns-clause-answers g c = λ world stands.
    let to = c.args.to in
    let leads = c.is_leader-leads.result in
    let under = leads-under g.L.Link g.G.Log c.args.self.now world to leads stands c.is_leader-leads.ensures c.args.id in
    c.act.ensures.answers refl world (happens world (events.Ask c.args.id to)) stands tt
    (ask-called world stands.reached c.args.id to leads under c.requires)
