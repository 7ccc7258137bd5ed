-- Whom an item lets in.
use Rattle.std.specs.Prelude.{◌≡◌, true, List, [], Option, Some, None}
use Rattle.std.specs.List.{AllByRecursion, filter_map, fold}
use Rattle.cs_base.specs.declared.change.Change.{Change}
use Rattle.cs_base.specs.declared.change.Change.TheVariants.{Join, Move, Leave}
use Rattle.cs_base.specs.declared.member.Member.{Member}
use Rattle.cs_group.specs.Group.{GroupState}
use Rattle.cs_group.specs.Rows.{has_member}
use Rattle.cs_roll.specs.Roll.{with_member}

-- whom a change lets in
abbrev pub joiner_in : Change → Option Member
joiner_in (Join member) = Some member
joiner_in (Move id seq at) = None
joiner_in (Leave id) = None

-- the members that an item lets in, ascending by id
abbrev pub joiners : List Change → List Member
joiners item = fold (λ roll member. with_member member roll) [] (filter_map joiner_in item)

-- each of these is a member of the group
abbrev pub AreMembersOf : GroupState → List Member → Type 0
AreMembersOf group members = AllByRecursion (λ (m : Member). has_member m.id group.rows ≡ true) members
