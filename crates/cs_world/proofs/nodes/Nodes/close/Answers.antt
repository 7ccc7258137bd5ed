-- the leader is called to close
use Rattle.std.proofs.Common.{refl, sym, subst, ◌∙◌}
use Rattle.cs_packet.specs.declared.own.Own.{Own}
use Rattle.cs_script.specs.declared.event.Event.TheVariants as events
use Rattle.cs_machine.specs.Happens.{happens}
use Rattle.cs_machine.specs.Names.{Node, leader_of}
use Rattle.cs_machine.proofs.Nodes.{option_map-some}
use Rattle.cs_world.specs.Happening.{IsCalled}
use Rattle.cs_world.specs.declared.call.Call.TheVariants as calls
use Rattle.cs_world.proofs.Calling.{close-called}
use Rattle.cs_world.proofs.nodes.Nodes.close.Goals as goal

pub returns-in-Some-clause-answers : goal.returns-in-Some-clause-answers
returns-in-Some-clause-answers g c = λ world stands.
    let own = c.in-Some.own in
    let is = option_map-some (λ (n : Node). n.own) (leader_of world) own (sym stands.leader ∙ c.in-Some.is) in
    c.act.ensures.answers refl world (happens world events.Close) stands tt
    (subst (λ (o : Own). IsCalled world o.id calls.Close (happens world events.Close)) (sym is.2)
    (close-called world stands.reached is.0 is.1))
