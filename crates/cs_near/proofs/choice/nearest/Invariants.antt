use Rattle.std.proofs.Common.{◌≡◌, ◌≤◌, ◌*◌, ◌^◌, get_or}
use Rattle.cs_near.proofs.Nearness.{IsBest, IsCounted}
use Rattle.cs_near.specs.Distance.{squared_distance}
use Rattle.cs_near.proofs.choice.nearest.Given as goal

-- of the first places this one is nearest, and that is its squared distance
abbrev pub invariant-loop-i : goal.invariant-loop-i
invariant-loop-i g l = record {
  counted : IsCounted g.T.Keyed.key_of g.T.HasSum.sum_of l.from l.others l.i;
  best : IsBest g.T.Keyed.key_of g.T.HasSum.sum_of l.from l.others l.i l.best;
  gap : (x : g.row.T.Denot) → x ≡ get_or l.others l.best x → l.gap ≡ squared_distance l.from (g.T.HasSum.sum_of x);
  bound : l.gap ≤ 12 * 10 ^ 28;
}
