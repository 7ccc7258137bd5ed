use Rattle.std.proofs.Common.{refl}
use Rattle.std.proofs.lemmas.List.Sorted.{IsPermutation-filter_both}
use Rattle.cs_base.specs.Split.{is_lower, is_upper}
use Rattle.cs_roll.proofs.Parts.{IsRoll-lower, IsRoll-upper, disjoint-parts}
use Rattle.cs_roll.proofs.roll.Roll.part.Goals as goal

-- the lower members stay in order
pub from_vec-lower-requires : goal.from_vec-lower-requires
from_vec-lower-requires c =
    rw (c.in_ok-lower.ensures.lower, c.as_slice.ensures.value) (IsRoll-lower c.args.s.now c.args.self.now c.as_slice.ensures.roll)

-- and so do the upper ones
pub from_vec-upper-requires : goal.from_vec-upper-requires
from_vec-upper-requires c =
    rw (c.in_ok-lower.ensures.upper, c.as_slice.ensures.value) (IsRoll-upper c.args.s.now c.args.self.now c.as_slice.ensures.roll)

-- each member is lower or upper
pub returns-clause-together : goal.returns-clause-together
returns-clause-together c =
    let s = c.args.s.now in
    rw (c.from_vec-lower.ensures, c.from_vec-upper.ensures, c.in_ok-lower.ensures.lower, c.in_ok-lower.ensures.upper, c.as_slice.ensures.value)
    (IsPermutation-filter_both (is_lower s) (is_upper s) (λ m. refl) c.args.self.now)

-- and none is both
pub returns-clause-disjoint : goal.returns-clause-disjoint
returns-clause-disjoint c =
    rw (c.from_vec-lower.ensures, c.from_vec-upper.ensures, c.in_ok-lower.ensures.lower, c.in_ok-lower.ensures.upper, c.as_slice.ensures.value)
    (disjoint-parts c.args.s.now c.args.self.now c.as_slice.ensures.roll.ascending)
