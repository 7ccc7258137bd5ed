-- The field of a slice.
use Rattle.std.specs.Prelude.{◌≡◌, ℕ, zero, suc, ◌+◌, List, [], ◌∷◌, ◌++◌, Option, Some, None, IfSome, Ok}
use Rattle.cs_base.specs.Limits.{most_members}
use Rattle.cs_base.specs.Ranges.{IsRegion, IsCut}
use Rattle.cs_base.specs.declared.split.Cut.{Cut}
use Rattle.cs_fields.specs.Fields.{cut_at, cut_bytes, cut_sizes, id_bytes, ids_at, ids_bytes, ids_len, ids_sizes}
use Rattle.cs_fields.specs.Fields.{IsIds, IsLaterEpoch, IsRegionList, later_epoch_at, region_at, region_list_at}
use Rattle.cs_fields.specs.Fields.{region_list_len}
use Rattle.cs_fields.specs.Numbers.{number_bytes, number_in}
use Rattle.cs_fields.specs.Reading.{Reader, ◌>>=◌}
use Rattle.cs_item.specs.RegionsField.{IsRegions, regions_at, regions_bytes, regions_len, regions_sizes}
use Rattle.cs_item.specs.RollField.{AreMembers, roll_at, roll_bytes, roll_len, roll_sizes}
use Rattle.cs_item.specs.declared.head.Head.{Head}
use Rattle.cs_item.specs.declared.part.Part.{Part}
use Rattle.cs_item.specs.declared.part.PartKind.{PartKind}
use Rattle.cs_item.specs.declared.part.PartKind.TheVariants.{Same, Diff, Whole}
use Rattle.cs_item.specs.declared.slice.Slice.{Slice}

-- the lists of a head
pub record HasLists (h : Head) : Type 0 where
  pub left : IsIds h.left
  pub dropped : IsRegionList h.dropped
  pub summaries : IsRegions 0 h.summaries
  pub touched : IsRegionList h.touched

pub record IsHead (h : Head) : Type 0 where
  pub epoch : IsLaterEpoch h.epoch
  pub lists : HasLists h

-- what becomes of the members, and whether a cut may be there
abbrev pub IsKind : PartKind → Option Cut → Type 0
IsKind Same cut = cut ≡ None
IsKind (Diff gone here) cut = IsIds gone × AreMembers 0 most_members here
IsKind (Whole into roll) cut = IsRegion into × AreMembers 0 most_members roll

pub record IsPart (p : Part) : Type 0 where
  pub region : IsRegion p.region
  pub kind : IsKind p.kind p.cut
  pub cut : IfSome p.cut IsCut

pub record IsSlice (s : Slice) : Type 0 where
  pub head : IsHead s.head
  pub part : IsPart s.part

-- the head of this epoch
abbrev pub IsHeadOf : ℕ → Head → Type 0
IsHeadOf epoch h = (h.epoch ≡ epoch) × HasLists h

unfoldable pub head_at : ℕ → Reader Head
head_at epoch bytes at = do
  left ← ids_at bytes at
  dropped ← region_list_at bytes left.1
  summaries ← regions_at 0 bytes dropped.1
  touched ← region_list_at bytes summaries.1
  Ok (
    record {
      epoch = epoch;
      left = left.0;
      dropped = dropped.0;
      summaries = summaries.0;
      touched = touched.0;
    },
    touched.1,
  )

-- the head without its epoch
unfoldable pub head_bytes : Head → List ℕ
head_bytes h = ids_bytes h.left ++ ids_bytes h.dropped ++ regions_bytes h.summaries ++ ids_bytes h.touched

-- the sizes of its fields
abbrev pub head_sizes : Head → List ℕ
head_sizes h = ids_sizes h.left ++ ids_sizes h.dropped ++ regions_sizes h.summaries ++ ids_sizes h.touched

-- the greatest number of its bytes
abbrev pub head_len : ℕ
head_len = ids_len + region_list_len + regions_len + region_list_len

-- a cut where the flag isn't 0
abbrev pub cut_behind : ℕ → Reader (Option Cut)
cut_behind zero bytes at = Ok (None, at)
cut_behind (suc n) bytes at = do
  cut ← cut_at bytes at
  Ok (Some cut.0, cut.1)

-- a flag, and a cut where it is 1
unfoldable pub optional_cut_at : Reader (Option Cut)
optional_cut_at bytes at = do
  flag ← number_in 1 0 1 bytes at
  cut_behind flag.0 bytes flag.1

unfoldable pub optional_cut_bytes : Option Cut → List ℕ
optional_cut_bytes None = number_bytes 1 0
optional_cut_bytes (Some cut) = number_bytes 1 1 ++ cut_bytes cut

-- the sizes of its fields
abbrev pub optional_cut_sizes : Option Cut → List ℕ
optional_cut_sizes None = 1 ∷ []
optional_cut_sizes (Some cut) = 1 ∷ cut_sizes cut

-- what goes out and what comes in
unfoldable pub diff_at : ℕ → Reader Part
diff_at region bytes at = do
  gone ← ids_at bytes at
  here ← roll_at most_members bytes gone.1
  cut ← optional_cut_at bytes here.1
  Ok (record { region = region; kind = Diff gone.0 here.0; cut = cut.0 }, cut.1)

-- the region that took this one in, and its roll
unfoldable pub whole_at : ℕ → Reader Part
whole_at region bytes at = do
  into ← region_at bytes at
  roll ← roll_at most_members bytes into.1
  cut ← optional_cut_at bytes roll.1
  Ok (record { region = region; kind = Whole into.0 roll.0; cut = cut.0 }, cut.1)

-- what stands behind the number of a part's kind
abbrev pub part_rest : ℕ → ℕ → Reader Part
part_rest zero region bytes at = Ok (record { region = region; kind = Same; cut = None }, at)
part_rest (suc zero) region bytes at = diff_at region bytes at
part_rest (suc (suc n)) region bytes at = whole_at region bytes at

-- the part of this region
unfoldable pub part_at : ℕ → Reader Part
part_at region bytes at = do
  kind ← number_in 1 0 2 bytes at
  part_rest kind.0 region bytes kind.1

-- the kind of a part, and behind it the cut
abbrev pub kind_bytes : PartKind → List ℕ → List ℕ
kind_bytes Same cut = number_bytes 1 0
kind_bytes (Diff gone here) cut = number_bytes 1 1 ++ ids_bytes gone ++ roll_bytes here ++ cut
kind_bytes (Whole into roll) cut = number_bytes 1 2 ++ id_bytes into ++ roll_bytes roll ++ cut

-- the sizes of the fields of both
abbrev pub kind_sizes : PartKind → List ℕ → List ℕ
kind_sizes Same cut = 1 ∷ []
kind_sizes (Diff gone here) cut = 1 ∷ ids_sizes gone ++ roll_sizes here ++ cut
kind_sizes (Whole into roll) cut = 1 ∷ 4 ∷ roll_sizes roll ++ cut

-- the part without its region
unfoldable pub part_bytes : Part → List ℕ
part_bytes p = kind_bytes p.kind (optional_cut_bytes p.cut)

-- the sizes of the fields of a part
abbrev pub part_sizes : Part → List ℕ
part_sizes p = kind_sizes p.kind (optional_cut_sizes p.cut)

-- the greatest number of its bytes
abbrev pub part_len : ℕ
part_len = 1 + ids_len + roll_len most_members + 14

-- the epoch, the region of the part, the rest of the head, and the rest of the part
unfoldable pub slice_at : Reader Slice
slice_at bytes at = do
  epoch ← later_epoch_at bytes at
  region ← region_at bytes epoch.1
  head ← head_at epoch.0 bytes region.1
  part ← part_at region.0 bytes head.1
  Ok (record { head = head.0; part = part.0 }, part.1)

unfoldable pub slice_bytes : Slice → List ℕ
slice_bytes s = id_bytes s.head.epoch ++ id_bytes s.part.region ++ head_bytes s.head ++ part_bytes s.part

-- the sizes of the fields of a slice
abbrev pub slice_sizes : Slice → List ℕ
slice_sizes s = 4 ∷ 4 ∷ head_sizes s.head ++ part_sizes s.part

-- the greatest number of its bytes
abbrev pub slice_len : ℕ
slice_len = 4 + 4 + head_len + part_len
