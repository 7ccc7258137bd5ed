-- What a node takes from a picture, or the first fault of the picture.
use Rattle.std.specs.Prelude.{◌≡◌, ℕ, nat_lt, nat_le, ◌&&◌, ◌⊎◌, not, Bool, false, List, length, Option, Some, None}
use Rattle.std.specs.Prelude.{is_some, Result, Ok, Err, if◌then◌else◌}
use Rattle.std.specs.List.{find}
use Rattle.std.specs.Option.{option_map, option_map_or, option_or}
use Rattle.cs_base.specs.Limits.{most_members, most_regions}
use Rattle.cs_base.specs.declared.change.Mode.{Mode}
use Rattle.cs_base.specs.declared.member.Member.{Member}
use Rattle.cs_roll.specs.Same.{is_same_summary}
use Rattle.cs_roll.specs.Sight.{Rolls, Summaries, at_region}
use Rattle.cs_roll.specs.Summary.{RegionSummary, summary_of}
use Rattle.cs_item.specs.Picture.{members_in}
use Rattle.cs_item.specs.declared.picture.Picture.{Picture}
use Rattle.cs_view.specs.View.{holder, kept}
use Rattle.cs_view.specs.declared.fault.ViewFault.{ViewFault}
use Rattle.cs_view.specs.declared.fault.ViewFault.TheVariants as faults

-- the fault, unless the test passes
abbrev pub unless : Bool → ViewFault → Option ViewFault
unless passes fault = if passes then None else Some fault

-- the value, unless there is a fault
abbrev pub or_fault : {T : Type 0} → Option ViewFault → T → Result T ViewFault
or_fault None value = Ok value
or_fault (Some fault) value = Err fault

-- some regions, and not too many
abbrev pub few_regions : Summaries → Bool
few_regions summaries = nat_lt 0 (length summaries) && nat_le (length summaries) most_regions

-- not too many members together
abbrev pub few_members : Rolls → Bool
few_members rolls = nat_le (members_in rolls) most_members

-- whether the roll has members, and its region is listed with its summary
abbrev pub is_listed : Summaries → ℕ × List Member → Bool
is_listed summaries pair =
    let is_its : RegionSummary → Bool = λ s. is_same_summary (summary_of pair.1) s in
    nat_lt 0 (length pair.1) && option_map_or is_its (at_region pair.0 summaries) false

-- the least region whose roll isn't listed
abbrev pub roll_fault : Summaries → Rolls → Option ViewFault
roll_fault summaries rolls =
    option_map (λ (pair : ℕ × List Member). faults.Roll pair.0)
    (find (λ (pair : ℕ × List Member). not (is_listed summaries pair)) rolls)

-- the first fault of a picture that a node is to take as its view
abbrev pub picture_fault : ℕ → Picture → Option ViewFault
picture_fault me p =
    option_or (unless (few_regions p.summaries && few_members p.rolls) faults.Size)
    (option_or (roll_fault p.summaries p.rolls) (unless (is_some (holder me p.rolls)) faults.Absent))

-- the view that a node takes from a picture
abbrev pub view_from : ℕ → Mode → Picture → Picture
view_from me mode p = record { epoch = p.epoch; summaries = p.summaries; rolls = kept me mode p.rolls }

-- the fault is this one; memory may run out at any time
abbrev pub IsFirst : Option ViewFault → ViewFault → Type 0
IsFirst first fault = (fault ≡ faults.Memory) ⊎ (first ≡ Some fault)

-- the fault is that of the answer which is due; memory may run out at any time
abbrev pub IsFaultOf : {T : Type 0} → Result T ViewFault → ViewFault → Type 0
IsFaultOf due fault = (fault ≡ faults.Memory) ⊎ (due ≡ Err fault)

-- the view, or the first fault
abbrev pub taken : ℕ → Mode → Picture → Result Picture ViewFault
taken me mode p = or_fault (picture_fault me p) (view_from me mode p)
