-- The part of an old region: what its members become.
use Rattle.std.specs.Prelude.{ℕ, ◌&&◌, not, Bool, false, List, map, Option, Some, None, is_some}
use Rattle.std.specs.Prelude.{if◌then◌else◌}
use Rattle.std.specs.List.{filter}
use Rattle.std.specs.Option.{option_map_or}
use Rattle.cs_base.specs.declared.member.Member.{Member}
use Rattle.cs_base.specs.declared.split.Cut.{Cut}
use Rattle.cs_group.specs.Group.{GroupState, is_among}
use Rattle.cs_group.specs.Rows.{members_in, regions}
use Rattle.cs_group.specs.declared.next.Turn.{Turn}
use Rattle.cs_item.specs.declared.part.Part.{Part}
use Rattle.cs_item.specs.declared.part.PartKind.{PartKind}
use Rattle.cs_item.specs.declared.part.PartKind.TheVariants.{Same, Diff, Whole}
use Rattle.cs_roll.specs.Roll.{member_of}
use Rattle.cs_roll.specs.Same.{are_same_members, is_same_member}
use Rattle.cs_slicer.specs.Turn.{cut_of, middle_rows, taken_in_by}

-- the ids of the old roll that aren't in the new one
abbrev pub gone_from : List Member → List Member → List ℕ
gone_from old new =
    map (λ (m : Member). m.id) (filter (λ (m : Member). not (is_some (member_of m.id new))) old)

-- the members of the new roll that aren't in the old one or differ from it
abbrev pub new_in : List Member → List Member → List Member
new_in old new = filter (λ (m : Member). not (option_map_or (is_same_member m) (member_of m.id old) false)) new

-- a region whose members are the same, and that isn't cut, is the same
abbrev pub diff_or_same : List Member → List Member → Bool → PartKind
diff_or_same old new is_cut =
    if are_same_members old new && not is_cut then Same else Diff (gone_from old new) (new_in old new)

-- what becomes of the members of a region that wasn't merged: one that isn't there before the cut has lost them all
abbrev pub kind_of_kept : GroupState → Turn → ℕ → PartKind
kind_of_kept before turn region =
    let middle = middle_rows before turn in
    if is_among (regions middle) region
    then diff_or_same (members_in region before.rows) (members_in region middle) (is_some (cut_of turn.cut region))
    else Same

-- and of one that was merged into another
abbrev pub kind_of : GroupState → Turn → ℕ → Option ℕ → PartKind
kind_of before turn region (Some into) = Whole into (members_in into (middle_rows before turn))
kind_of before turn region None = kind_of_kept before turn region

-- the region whose roll a part gives
abbrev pub target_of : ℕ → PartKind → Option ℕ
target_of region Same = None
target_of region (Diff gone here) = Some region
target_of region (Whole into roll) = Some into

-- the cut of that region
abbrev pub cut_of_target : Option (ℕ × Cut) → Option ℕ → Option Cut
cut_of_target cut None = None
cut_of_target cut (Some target) = cut_of cut target

-- the part of an old region
abbrev pub part_in : GroupState → Turn → ℕ → Part
part_in before turn region =
    let kind = kind_of before turn region (taken_in_by turn.merged region) in
    record { region = region; kind = kind; cut = cut_of_target turn.cut (target_of region kind) }
