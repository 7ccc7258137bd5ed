use Rattle.std.proofs.Common.{◌≡◌, ℕ, ◌<◌, get_or, take, true}
use Rattle.cs_roll.specs.SameByRegion.{is_alike_pair}
use Rattle.cs_roll.proofs.alike.are_alike.Given as goal

-- the pairs so far are the same, and each of them by the test
abbrev pub invariant-loop-i : goal.invariant-loop-i
invariant-loop-i g l =
    (take l.i l.pairs ≡ take l.i l.others)
    × ((k : ℕ) → k < l.i → (d e : ℕ × g.row.T.Denot) → is_alike_pair g.T.Alike.is_alike (get_or l.pairs k d) (get_or l.others k e) ≡ true)
