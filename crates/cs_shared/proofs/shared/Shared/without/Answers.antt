use Rattle.std.proofs.Common.{subst, sym}
use Rattle.cs_base.specs.Ascending.{IsAscendingBy}
use Rattle.cs_base.proofs.Ascending.{IsAscendingBy-without}
use Rattle.cs_shared.specs.Tree.{elements}
use Rattle.cs_shared.proofs.shared.Shared.without.Goals as goal

-- the elements that stay are in order
pub invariant_of-result : goal.invariant_of-result
invariant_of-result g c =
    let key = g.T.Ranked.rank_of in
    subst (IsAscendingBy key) (sym c.in_ok-without.ensures) (IsAscendingBy-without key c.args.rank (elements c.self.inside.tree) c.self.invariant)
