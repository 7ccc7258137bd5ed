-- All slices of a turn together: the head, and the part of each old region.
use Rattle.std.specs.Prelude.{ℕ, ◌≤◌, List, map, Option}
use Rattle.std.specs.List.{AllByRecursion}
use Rattle.std.specs.Option.{option_map}
use Rattle.cs_base.specs.Ascending.{at_key}
use Rattle.cs_base.specs.Limits.{last_number}
use Rattle.cs_group.specs.Group.{GroupState}
use Rattle.cs_group.specs.Rows.{regions}
use Rattle.cs_group.specs.declared.next.Turn.{Turn}
use Rattle.cs_item.specs.SliceField.{HasLists, IsPart}
use Rattle.cs_item.specs.declared.head.Head.{Head}
use Rattle.cs_item.specs.declared.part.Part.{Part}
use Rattle.cs_item.specs.declared.slice.Slice.{Slice}
use Rattle.cs_slicer.specs.Head.{head_in}
use Rattle.cs_slicer.specs.Part.{part_in}

pub record Slices : Type 0 where
  pub head : Head
  pub parts : List Part

-- those of a turn
abbrev pub slices_in : GroupState → Turn → ℕ → Slices
slices_in before turn epoch =
    record { head = head_in before turn epoch; parts = map (part_in before turn) (regions before.rows) }

-- the slice of a region, where it is one of these
abbrev pub slice_of : Slices → ℕ → Option Slice
slice_of slices region =
    option_map (λ part. record { head = slices.head; part = part })
    (at_key (λ (p : Part). p.region) region slices.parts)

-- each is well formed, but for the epoch, which may be 0
pub record AreWellFormed (slices : Slices) : Type 0 where
  pub epoch : slices.head.epoch ≤ last_number
  pub lists : HasLists slices.head
  pub parts : AllByRecursion IsPart slices.parts
