-- What is wrong with a step of a view: the first fault that fits, and so the step.
use Rattle.std.specs.Prelude.{ℕ, ◌+◌, ◌==◌, ◌&&◌, not, Bool, true, List, Option, Some, None, is_some, Result, Ok}
use Rattle.std.specs.Prelude.{if◌then◌else◌}
use Rattle.std.specs.List.{find, fold, list_all}
use Rattle.std.specs.Option.{option_map, option_map_or, option_or}
use Rattle.cs_base.specs.Ascending.{placed_by}
use Rattle.cs_base.specs.declared.change.Mode.{Mode}
use Rattle.cs_base.specs.declared.member.Member.{Member}
use Rattle.cs_item.specs.declared.head.Head.{Head}
use Rattle.cs_item.specs.declared.part.Part.{Part}
use Rattle.cs_item.specs.declared.part.PartKind.{PartKind}
use Rattle.cs_item.specs.declared.part.PartKind.TheVariants.{Same, Diff, Whole}
use Rattle.cs_item.specs.declared.picture.Picture.{Picture}
use Rattle.cs_roll.specs.Roll.{member_of}
use Rattle.cs_roll.specs.Sight.{at_region}
use Rattle.cs_view.specs.Step.{is_among, is_known, next_rolls, next_summaries, next_view, part_of}
use Rattle.cs_view.specs.Taking.{few_members, few_regions, or_fault, roll_fault, unless}
use Rattle.cs_view.specs.declared.fault.ViewFault.{ViewFault}
use Rattle.cs_view.specs.declared.fault.ViewFault.TheVariants as faults
use Rattle.cs_view.specs.declared.next.Next.{Next}
use Rattle.cs_view.specs.declared.next.Next.TheVariants as next

-- the head is that of the next epoch
abbrev pub epoch_fault : Picture → Head → Option ViewFault
epoch_fault view head = unless (head.epoch == view.epoch + 1) (faults.Epoch view.epoch head.epoch)

-- the least dropped or touched region that the view doesn't list
abbrev pub region_fault : Picture → Head → Option ViewFault
region_fault view head =
    option_map faults.Region
    (find (λ r. not (is_some (at_region r view.summaries)))
    (fold (λ rs r. placed_by (λ n. n) r rs) head.dropped head.touched))

-- the least touched known region without a part
abbrev pub missing_fault : Picture → Head → List Part → Option ViewFault
missing_fault view head parts =
    option_map faults.Missing
    (find (λ r. is_known view.rolls r && not (is_some (part_of r parts))) head.touched)

-- whether the roll has each of those who go out
abbrev pub has_gone : List Member → PartKind → Bool
has_gone roll Same = true
has_gone roll (Diff gone here) = list_all (λ id. is_some (member_of id roll)) gone
has_gone roll (Whole into other) = true

-- whether the part of a known region fits its roll, where the region is touched
abbrev pub fits_part : Head → List Part → ℕ × List Member → Bool
fits_part head parts pair =
    if is_among head.touched pair.0
    then option_map_or (λ (p : Part). has_gone pair.1 p.kind) (part_of pair.0 parts) true else true

-- the least known region whose part doesn't fit
abbrev pub part_fault : Picture → Head → List Part → Option ViewFault
part_fault view head parts =
    option_map (λ (pair : ℕ × List Member). faults.Part pair.0)
    (find (λ (pair : ℕ × List Member). not (fits_part head parts pair)) view.rolls)

-- the first fault before anyone departs
abbrev pub step_fault : Picture → Head → List Part → Option ViewFault
step_fault view head parts =
    let summaries = next_summaries view.summaries head in
    option_or (epoch_fault view head)
    (option_or (region_fault view head)
    (option_or (missing_fault view head parts)
    (option_or (unless (few_regions summaries) faults.Size)
    (option_or (part_fault view head parts) (roll_fault summaries (next_rolls view.rolls head parts))))))

-- the view of the next epoch, where its rolls don't have too many members
abbrev pub member_of_next : ℕ → Mode → Picture → Head → List Part → Result Next ViewFault
member_of_next me mode view head parts =
    let after = next_view me mode view head parts in
    or_fault (unless (few_members after.rolls) faults.Size) (next.Member after)

-- where there was no fault so far a node that left departs, and any other goes on
abbrev pub gone_or_next : ℕ → Mode → Picture → Head → List Part → Option ViewFault → Result Next ViewFault
gone_or_next me mode view head parts (Some fault) = or_fault (Some fault) next.Departed
gone_or_next me mode view head parts None =
    if is_among head.left me then Ok next.Departed else member_of_next me mode view head parts

-- the step: the view of the next epoch, or that the node departed, or the first fault
abbrev pub step : ℕ → Mode → Picture → Head → List Part → Result Next ViewFault
step me mode view head parts = gone_or_next me mode view head parts (step_fault view head parts)
