-- Each old region has its slice among the slices of a turn.
use Rattle.std.proofs.Common.{◌≡◌, ◌∙◌, ◌<◌, ℕ, true, length, get_or, Some, sym, ap}
use Rattle.std.specs.List.{slice_get}
use Rattle.std.proofs.lemmas.Option.{get_or_from_slice_get}
use Rattle.cs_base.proofs.Ascending.{All-at}
use Rattle.cs_group.specs.Group.{GroupState, is_among}
use Rattle.cs_group.specs.Rows.{regions}
use Rattle.cs_group.specs.declared.next.Turn.{Turn}
use Rattle.cs_slicer.specs.Slice.{slice_in}
use Rattle.cs_slicer.specs.Slicer.{Slices, slice_of, slices_in}
use Rattle.cs_slicer.proofs.Slices.{slice_of-slices_in}
use Rattle.cs_slicer.proofs.Summaries.{regions-listed}

pub old-slice : (before : GroupState) (turn : Turn) (epoch i region : ℕ) (slices : Slices) → slices ≡ slices_in before turn epoch
    → i < length (regions before.rows) → slice_get (regions before.rows) i ≡ Some region
    → slice_of slices region ≡ Some (slice_in before turn epoch region)
old-slice before turn epoch i region slices all lt got =
    let old = regions before.rows in
    let is : region ≡ get_or old i region = sym (get_or_from_slice_get old i region region got) in
    let listed = All-at (λ n. is_among old n ≡ true) old (regions-listed before.rows) i region lt in
    let there : is_among old region ≡ true = ap (is_among old) is ∙ listed in
    ap (λ (s : Slices). slice_of s region) all ∙ slice_of-slices_in before turn epoch region there
