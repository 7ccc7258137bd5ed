-- Colours: each member of a roll has one, and each colour that a member has gives the region one local tree.
--
--     ids in the roll   3  5  8 13 21 34          6 members: 4 trees
--     colours           0  1  2  3  0  1          colour 0: 3 and 21; the others of colour 0: 5, 8, 13 and 34
use Rattle.std.specs.Prelude.{ℕ, ◌%◌, min, ◌==◌, not, Bool, List, map, Option, slice_get}
use Rattle.std.specs.List.{filter, enumerate_from}
use Rattle.cs_base.specs.Limits.{colours}
use Rattle.cs_base.specs.declared.member.Member.{Member}
use Rattle.cs_roll.specs.Summary.{RegionSummary}

-- how many local trees a region of so many members has
abbrev pub trees_of : ℕ → ℕ
trees_of size = min colours size

-- whether the member at a place of its roll, from 0, has the colour. A roll ascends by id, so its place is its rank
abbrev pub has_colour : ℕ → ℕ × Member → Bool
has_colour colour placed = placed.0 % colours == colour

-- the members of a roll that have the colour
abbrev pub members_of_colour : ℕ → List Member → List Member
members_of_colour colour roll =
    map (λ (placed : ℕ × Member). placed.1) (filter (has_colour colour) (enumerate_from 0 roll))

-- the members of the other colours
abbrev pub members_of_others : ℕ → List Member → List Member
members_of_others colour roll =
    map (λ (placed : ℕ × Member). placed.1) (filter (λ placed. not (has_colour colour placed)) (enumerate_from 0 roll))

-- the member that stands for a region in the trees of a colour: the global at the place of the colour, or, where
-- there are fewer than four, at what is left of it
abbrev pub representative : ℕ → RegionSummary → Option Member
representative colour summary = slice_get summary.globals (colour % trees_of summary.size)
