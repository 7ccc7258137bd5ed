-- How many steps a renewal of kept trees may take: what didn't change is kept.
--
--     five members in region 0, of which 5 moves from x = 40 to 41: the four local trees are built anew, with five
--     keys each, and no inter-region tree is, since the representatives are 1, 2, 3 and 4 and stand where they stood
use Rattle.std.specs.Prelude.{ℕ, ◌+◌, ◌*◌, ◌==◌, ◌&&◌, if◌then◌else◌, Bool, false, List, length}
use Rattle.std.specs.List.{range_with_len, sum_by}
use Rattle.std.specs.Option.{option_map_or}
use Rattle.std.specs.Cmp.Lexicographic.{pointwise}
use Rattle.cs_base.specs.Limits.{colours}
use Rattle.cs_base.specs.declared.member.Member.{Member}
use Rattle.cs_roll.specs.Same.{are_same_axes, are_same_members}
use Rattle.cs_roll.specs.Sight.{Rolls, Summaries, at_region}
use Rattle.cs_tree.specs.Colour.{trees_of}
use Rattle.cs_tree.specs.Inter.{region_points}
use Rattle.cs_tree.specs.declared.region_point.RegionPoint.{RegionPoint}

-- whether a known region was known before with the same roll
abbrev pub was_known : Rolls → ℕ × List Member → Bool
was_known before known =
    option_map_or (λ (roll : List Member). are_same_members roll known.1) (at_region known.0 before) false

-- all the keys of its trees, where it wasn't
abbrev pub steps_within : Rolls → ℕ × List Member → ℕ
steps_within before known = if was_known before known then 0 else trees_of (length known.1) * length known.1

abbrev pub is_same_region_point : RegionPoint → RegionPoint → Bool
is_same_region_point p q = (p.region == q.region) && are_same_axes p.at q.at

-- whether the regions and the points of their representatives for a colour are the same
abbrev pub are_same_points : ℕ → Summaries → Summaries → Bool
are_same_points colour before now =
    pointwise is_same_region_point (region_points colour before) (region_points colour now)

-- the regions, where they aren't
abbrev pub steps_between : Summaries → Summaries → ℕ → ℕ
steps_between before now colour = if are_same_points colour before now then 0 else length now

-- of all colours, and of all regions that are known now
abbrev pub steps_of_renewal : Summaries → Rolls → Summaries → Rolls → ℕ
steps_of_renewal old_summaries old_rolls summaries rolls =
    sum_by (steps_between old_summaries summaries) (range_with_len 0 colours)
    + sum_by (steps_within old_rolls) rolls
