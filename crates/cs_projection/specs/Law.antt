-- The projection law: a view stepped by slices is the projection of the next group on its image.
use Rattle.std.specs.Prelude.{◌≡◌, ℕ, ◌+◌, true, List, map, is_some, Result, Ok, if◌then◌else◌}
use Rattle.std.specs.List.{AllByRecursion, filter}
use Rattle.cs_base.specs.Ascending.{IsAscendingBy}
use Rattle.cs_base.specs.declared.change.Mode.{Mode}
use Rattle.cs_group.specs.Group.{GroupState, is_among}
use Rattle.cs_group.specs.Rows.{regions}
use Rattle.cs_group.specs.declared.next.Turn.{Turn}
use Rattle.cs_item.specs.declared.part.Part.{Part}
use Rattle.cs_slicer.specs.Head.{head_in, left_in, touched_in}
use Rattle.cs_slicer.specs.Part.{part_in}
use Rattle.cs_slicer.specs.Projection.{image, projection}
use Rattle.cs_view.specs.Faults.{step}
use Rattle.cs_view.specs.Step.{part_of}
use Rattle.cs_view.specs.declared.fault.ViewFault.{ViewFault}
use Rattle.cs_view.specs.declared.next.Next.{Next}
use Rattle.cs_view.specs.declared.next.Next.TheVariants.{Departed, Member}

-- these are the parts of some old regions, each touched known one among them
pub record ArePartsFor (before : GroupState) (turn : Turn) (known : List ℕ) (parts : List Part) : Type 0 where
  pub ascending : IsAscendingBy (λ (p : Part). p.region) parts
  pub old : AllByRecursion (λ (p : Part). is_among (regions before.rows) p.region ≡ true) parts
  pub exact : AllByRecursion (λ (p : Part). p ≡ part_in before turn p.region) parts
  pub enough :
      AllByRecursion (λ r. is_among known r ≡ true → is_some (part_of r parts) ≡ true) (touched_in before turn)

-- the parts of the known ones of the old regions
abbrev pub known_parts : GroupState → Turn → List ℕ → List Part
known_parts before turn known =
    map (part_in before turn) (filter (λ region. is_among known region) (regions before.rows))

-- what a node is that knew these regions: departed where the turn retired it, and otherwise a member that knows their
-- image
abbrev pub after_turn : GroupState → Turn → ℕ → List ℕ → ℕ → Mode → Next
after_turn before turn epoch known me mode =
    if is_among (left_in before turn.group) me then Departed
    else Member (projection (epoch + 1) (image before turn known me mode) turn.group)

-- the projection steps to that
abbrev pub StepsTo : GroupState → Turn → ℕ → List ℕ → ℕ → Mode → List Part → Type 0
StepsTo before turn epoch known me mode parts =
    let given = step me mode (projection epoch known before) (head_in before turn (epoch + 1)) parts in
    let wanted : Result Next ViewFault = Ok (after_turn before turn epoch known me mode) in given ≡ wanted
