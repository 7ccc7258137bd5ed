use Rattle.std.proofs.Common.{length}
use Rattle.cs_tree.proofs.grow.+place_below.Given as goal

-- each side has fewer own elements
abbrev pub decreases-place_below : goal.decreases-place_below
decreases-place_below g l = length l.own.now
