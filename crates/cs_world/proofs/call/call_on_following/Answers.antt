-- A call that a member has ends as its method says.
use Rattle.std.proofs.Common.{ap}
use Rattle.cs_node.specs.Calls.{ends_in}
use Rattle.cs_world.proofs.Calls.{answers_asked, answers_had, asking_with_view, refused_with_view}
use Rattle.cs_world.proofs.call.call_on_following.Goals as goal

pub returns-in-Leave : goal.returns-in-Leave
returns-in-Leave g c =
    answers_had _ _ _ _ _ _ _ _ c.in-Leave.is (refused_with_view _ _ c.requires) c.acted.ensures.answer
    (ap (ends_in g.L.Link g.G.Log) c.acted.ensures.state) c.leave.ensures (g.met.G.Log.within _)

pub returns-in-Flush : goal.returns-in-Flush
returns-in-Flush g c =
    answers_had _ _ _ _ _ _ _ _ c.in-Flush.is (refused_with_view _ _ c.requires) c.acted-in-Flush.ensures.answer
    (ap (ends_in g.L.Link g.G.Log) c.acted-in-Flush.ensures.state) c.flush.ensures (g.met.G.Log.within _)

pub returns-in-Move : goal.returns-in-Move
returns-in-Move g c =
    answers_had _ _ _ _ _ _ _ _ c.in-Move.is (refused_with_view _ _ c.requires) c.acted-in-Move.ensures.answer
    (ap (ends_in g.L.Link g.G.Log) c.acted-in-Move.ensures.state) c.moved.ensures (g.met.G.Log.within _)

pub returns-in-Ask : goal.returns-in-Ask
returns-in-Ask g c =
    answers_asked _ _ _ _ _ _ _ _ _ _ c.in-Ask.is (refused_with_view _ _ c.requires) (asking_with_view _ _ c.requires)
    c.acted-in-Ask.ensures.answer (ap (ends_in g.L.Link g.G.Log) c.acted-in-Ask.ensures.state) c.ask.ensures (g.met.G.Log.within _)

pub returns-in-Need : goal.returns-in-Need
returns-in-Need g c =
    answers_had _ _ _ _ _ _ _ _ c.in-Need.is (refused_with_view _ _ c.requires) c.acted-in-Need.ensures.answer
    (ap (ends_in g.L.Link g.G.Log) c.acted-in-Need.ensures.state) c.need.ensures (g.met.G.Log.within _)

pub returns-in-Deliver : goal.returns-in-Deliver
returns-in-Deliver g c =
    answers_had _ _ _ _ _ _ _ _ c.in-Deliver.is (refused_with_view _ _ c.requires) c.acted-in-Deliver.ensures.answer
    (ap (ends_in g.L.Link g.G.Log) c.acted-in-Deliver.ensures.state) c.deliver.ensures (g.met.G.Log.within _)
