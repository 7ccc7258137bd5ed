-- the leader's node is one that leads
use Rattle.std.proofs.Common.{ap, subst, sym}
use Rattle.cs_node.specs.States.{IsOfItsKind}
use Rattle.cs_node.proofs.state.State.is_of_its_kind.Goals as goal

pub returns-in-Leading : goal.returns-in-Leading
returns-in-Leading g c =
    subst IsOfItsKind (sym c.in-Leading.is) (c.s-in-Leading.inside.node, sym (ap (λ (s : _). s.node) c.s-in-Leading.view_is))
