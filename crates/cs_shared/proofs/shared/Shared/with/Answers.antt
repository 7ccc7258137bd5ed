use Rattle.std.proofs.Common.{subst, sym}
use Rattle.cs_base.specs.Ascending.{IsAscendingBy}
use Rattle.cs_base.proofs.Ascending.{IsAscendingBy-placed}
use Rattle.cs_shared.specs.Tree.{elements}
use Rattle.cs_shared.proofs.shared.Shared.with.Goals as goal

-- a placed element keeps the order
pub invariant_of-result : goal.invariant_of-result
invariant_of-result g c =
    let key = g.T.Ranked.rank_of in
    subst (IsAscendingBy key) (sym c.in_ok-with.ensures) (IsAscendingBy-placed key c.args.x (elements c.self.inside.tree) c.self.invariant)
