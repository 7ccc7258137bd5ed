-- Where a region is cut in two, and which of its members go where.
use Rattle.std.specs.Prelude.{ℕ, ℤ, Bool, not, List}
use Rattle.std.specs.declared.cmp.Ordering.{Ordering}
use Rattle.std.specs.List.{filter}
use Rattle.std.specs.Ordering.{int_cmp, nat_cmp, ordering_then, is_lt}
use Rattle.cs_base.specs.Axes.{on_axis}
use Rattle.cs_base.specs.declared.member.Member.{Member}
use Rattle.cs_base.specs.declared.point.Axis.{Axis}
use Rattle.cs_base.specs.declared.split.Split.{Split}

-- the pair by which members are ordered on an axis: the coordinate, and the id
abbrev pub pair_on : Axis → Member → ℤ × ℕ
pair_on axis m = (on_axis axis m.at, m.id)

-- of two pairs the one with the lower coordinate is below, and of equal coordinates the one with the lower id
abbrev pub pair_cmp : ℤ × ℕ → ℤ × ℕ → Ordering
pair_cmp p q = ordering_then (int_cmp p.0 q.0) (nat_cmp p.1 q.1)

-- a member is lower where its pair is below that of the split
abbrev pub is_lower : Split → Member → Bool
is_lower s m = is_lt (pair_cmp (pair_on s.axis m) (s.at, s.id))

-- and upper where it isn't
abbrev pub is_upper : Split → Member → Bool
is_upper s m = not (is_lower s m)

-- the lower members
abbrev pub lower_part : Split → List Member → List Member
lower_part s members = filter (is_lower s) members

-- the upper members
abbrev pub upper_part : Split → List Member → List Member
upper_part s members = filter (is_upper s) members
