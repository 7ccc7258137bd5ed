-- A call that a joining node has ends as its method says.
use Rattle.std.proofs.Common.{◌≡◌, ◌∙◌, true, Some, None, cond, ap}
use Rattle.cs_node.specs.Calls.{ends_in}
use Rattle.cs_world.specs.declared.call.Refusal.TheVariants.{Unknown}
use Rattle.cs_world.proofs.Calls.{answers_asked, answers_had, asking_without_view, refused_without_view}
use Rattle.cs_world.proofs.call.call_on_joining.Goals as goal

pub returns-in-Join : goal.returns-in-Join
returns-in-Join g c =
    answers_had _ _ _ _ _ _ _ _ c.in-Join.is (refused_without_view _ _ c.requires) c.acted.ensures.answer
    (ap (ends_in g.L.Link g.G.Log) c.acted.ensures.state) c.join.ensures (g.met.G.Log.within _)

pub returns-in-Deliver : goal.returns-in-Deliver
returns-in-Deliver g c =
    answers_had _ _ _ _ _ _ _ _ c.in-Deliver.is (refused_without_view _ _ c.requires) c.acted-in-Deliver.ensures.answer
    (ap (ends_in g.L.Link g.G.Log) c.acted-in-Deliver.ensures.state) c.deliver.ensures (g.met.G.Log.within _)

pub returns-in-Ask-default-true : goal.returns-in-Ask-default-true
returns-in-Ask-default-true g c =
    let asked = c.in-Ask-default-true in
    let leads : asked.leads ≡ true = (let test = asked.leads-test in let is = asked.leads-is in cc) in
    answers_asked _ _ _ _ _ _ _ _ _ _ asked.is
    (refused_without_view _ _ c.requires ∙ ap (λ b. cond b None (Some (Unknown asked.to))) leads)
    (asking_without_view _ _ c.requires) c.acted-in-Ask-default-true.ensures.answer
    (ap (ends_in g.L.Link g.G.Log) c.acted-in-Ask-default-true.ensures.state) c.ask.ensures (g.met.G.Log.within _)
