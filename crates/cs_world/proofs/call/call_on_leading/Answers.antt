-- A call that the leader has ends as its method says.
use Rattle.std.proofs.Common.{ap}
use Rattle.cs_node.specs.Calls.{ends_in}
use Rattle.cs_world.proofs.Calls.{answers_had, refused_leading}
use Rattle.cs_world.proofs.call.call_on_leading.Goals as goal

pub returns-in-Close : goal.returns-in-Close
returns-in-Close g c =
    answers_had _ _ _ _ _ _ _ _ c.in-Close.is (refused_leading _ _ c.requires) c.acted.ensures.answer
    (ap (ends_in g.L.Link g.G.Log) c.acted.ensures.state) c.close.ensures (g.met.G.Log.within _)

pub returns-in-Deliver : goal.returns-in-Deliver
returns-in-Deliver g c =
    answers_had _ _ _ _ _ _ _ _ c.in-Deliver.is (refused_leading _ _ c.requires) c.acted-in-Deliver.ensures.answer
    (ap (ends_in g.L.Link g.G.Log) c.acted-in-Deliver.ensures.state) c.deliver.ensures (g.met.G.Log.within _)
