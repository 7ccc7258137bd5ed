-- The local trees of a region, one for each colour: members of the colour are inside, and the others are leaves.
--
--     members 1 to 5 at x = 0, 10, 20, 30, 40 have the colours 0 1 2 3 0. The trees of colours 0 and 1 are
--
--           1                  2
--          / \              / / \ \
--         4   5            1 3   4 5
--            / \
--           2   3
use Rattle.std.specs.Prelude.{ℕ, List, length, Option}
use Rattle.std.specs.List.{filter_map, range_with_len}
use Rattle.cs_base.specs.Axes.{Axes}
use Rattle.cs_base.specs.declared.member.Member.{Member}
use Rattle.cs_roll.specs.Roll.{member_id}
use Rattle.cs_tree.specs.Colour.{members_of_colour, members_of_others, trees_of}
use Rattle.cs_tree.specs.Skeleton.{Part, tree_of}
use Rattle.cs_tree.specs.Tree.{RootedTree}

abbrev pub member_point : Member → Axes
member_point member = member.at

-- the members of a colour, with the others
abbrev pub part_of_colour : ℕ → List Member → Part Member
part_of_colour colour roll = record {
  own = members_of_colour colour roll;
  others = members_of_others colour roll;
}

-- the local tree of a colour, where a member has it
abbrev pub local_tree : ℕ → List Member → Option RootedTree
local_tree colour roll = tree_of member_id member_point (part_of_colour colour roll)

-- the local trees of a region, by ascending colour
abbrev pub local_trees : List Member → List RootedTree
local_trees roll = filter_map (λ colour. local_tree colour roll) (range_with_len 0 (trees_of (length roll)))
