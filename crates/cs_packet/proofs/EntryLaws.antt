-- The laws of log entries.
use Rattle.std.proofs.Common.{◌≡◌, ℕ, zero, suc, ◌≤◌, Bool, List, [], ◌∷◌, ◌++◌, length, Ok, refl, ap, ◌∙◌, append_assoc, arith}
use Rattle.std.specs.Prelude.{sum, pos}
use Rattle.std.proofs.lemmas.List.{append-nil}
use Rattle.cs_base.specs.Axes.{Axes, IsPoint}
use Rattle.cs_base.specs.Limits.{last_id, most_together}
use Rattle.cs_base.specs.Ranges.{IsFromTo, IsId, IsRegion, IsSeq}
use Rattle.cs_base.specs.declared.change.Change.{Change}
use Rattle.cs_fields.specs.Changes.{changes_at, changes_bytes, changes_sizes, IsChanges}
use Rattle.cs_fields.specs.Fields.{id_bytes, IsLaterEpoch, IsManyIds, many_ids_at, many_ids_bytes, many_ids_sizes, point_at, point_bytes, point_sizes}
use Rattle.cs_fields.specs.Numbers.{number_bytes, number_in}
use Rattle.cs_fields.specs.Reading.{◌>>=◌}
use Rattle.cs_fields.proofs.Changes.{changes_codec, changes_size}
use Rattle.cs_fields.proofs.Codec.{IsCodec, IsCodec-bind, IsCodec-done, IsCodec-text, sum-append, sum-cons}
use Rattle.cs_fields.proofs.Fields.{point_codec, region_from_codec}
use Rattle.cs_fields.proofs.Lists.{many_ids_codec, numbers_size}
use Rattle.cs_fields.proofs.Numbers.{number_in_codec}
use Rattle.cs_group.specs.declared.row.Row.{Row}
use Rattle.cs_item.specs.PictureField.{IsPicture}
use Rattle.cs_item.specs.declared.picture.Picture.{Picture}
use Rattle.cs_item.specs.declared.slice.Slice.{Slice}
use Rattle.cs_item.proofs.PictureLaws.{picture_codec, picture_size}
use Rattle.cs_packet.specs.BootField.{IsBoot}
use Rattle.cs_packet.specs.EntryField.{base_entry_at, boot_entry_at, entry_at, entry_bytes, entry_field_sizes, entry_fields, entry_kind, entry_len}
use Rattle.cs_packet.specs.EntryField.{entry_of_kind, entry_sizes, gone_entry_at, IsEntry, item_entry_at, seq_entry_at, step_entry_at, view_entry_at}
use Rattle.cs_packet.specs.RowsField.{AreRows, rows_at, rows_bytes, rows_sizes}
use Rattle.cs_packet.specs.SlicesField.{AreSlices, slices_len}
use Rattle.cs_packet.specs.declared.entry.Entry.{Entry}
use Rattle.cs_packet.specs.declared.entry.Entry.TheVariants.{Boot, Seq, View, Step, Gone, Item, Base}
use Rattle.cs_packet.specs.declared.own.Own.{Own}
use Rattle.cs_packet.proofs.BootLaws.{boot_codec}
use Rattle.cs_packet.proofs.KindLaws.{kind_codec}
use Rattle.cs_packet.proofs.OneField.{of_one_field}
use Rattle.cs_packet.proofs.RowsLaws.{rows_codec, rows_size}
use Rattle.cs_packet.proofs.SlicesLaws.{slices_codec, slices_size}

-- an allowed entry of this kind
abbrev IsEntryOf : ℕ → Entry → Type 0
IsEntryOf kind e = (entry_kind e ≡ kind) × IsEntry e

-- ---- entries of one field
boot_parts : (e : Entry) → IsEntryOf 1 e → (boot : Bool × Own) × IsBoot boot.0 boot.1 × (e ≡ Boot boot.0 boot.1)
boot_parts (Boot leads own) is = ((leads, own), is.1, refl)
boot_parts e is = cc

boot_entry_codec : IsCodec boot_entry_at entry_fields entry_field_sizes (IsEntryOf 1)
unfolding boot_entry_at
boot_entry_codec = of_one_field (λ boot. Boot boot.0 boot.1) boot_codec (λ boot is. (refl, is)) boot_parts (λ boot. (refl, refl))

view_parts : (e : Entry) → IsEntryOf 3 e → (picture : Picture) × IsPicture picture × (e ≡ View picture)
view_parts (View picture) is = (picture, is.1, refl)
view_parts e is = cc

view_entry_codec : IsCodec view_entry_at entry_fields entry_field_sizes (IsEntryOf 3)
unfolding view_entry_at
view_entry_codec = of_one_field View picture_codec (λ picture is. (refl, is)) view_parts (λ picture. (refl, refl))

step_parts : (e : Entry) → IsEntryOf 4 e → (slices : List Slice) × AreSlices slices × (e ≡ Step slices)
step_parts (Step slices) is = (slices, is.1, refl)
step_parts e is = cc

step_entry_codec : IsCodec step_entry_at entry_fields entry_field_sizes (IsEntryOf 4)
unfolding step_entry_at
step_entry_codec = of_one_field Step slices_codec (λ slices are. (refl, are)) step_parts (λ slices. (refl, refl))

gone_parts : (e : Entry) → IsEntryOf 5 e → (epoch : ℕ) × IsRegion epoch × (e ≡ Gone epoch)
gone_parts (Gone epoch) is = (epoch, is.1, refl)
gone_parts e is = cc

gone_entry_codec : IsCodec gone_entry_at entry_fields entry_field_sizes (IsEntryOf 5)
unfolding gone_entry_at
gone_entry_codec = of_one_field Gone (region_from_codec 0) (λ epoch is. (refl, is)) gone_parts (λ epoch. (refl, refl))

-- ---- the fields of the three others
abbrev seq_of : Entry → ℕ
seq_of (Seq seq at) = seq
seq_of e = 0

abbrev point_of : Entry → Axes
point_of (Seq seq at) = at
point_of e = record { x = pos 0; y = pos 0; z = pos 0 }

abbrev epoch_of : Entry → ℕ
epoch_of (Item epoch changes) = epoch
epoch_of (Base epoch next_region retired rows changes) = epoch
epoch_of e = 0

abbrev changes_of : Entry → List Change
changes_of (Item epoch changes) = changes
changes_of (Base epoch next_region retired rows changes) = changes
changes_of e = []

abbrev next_region_of : Entry → ℕ
next_region_of (Base epoch next_region retired rows changes) = next_region
next_region_of e = 0

abbrev retired_of : Entry → List ℕ
retired_of (Base epoch next_region retired rows changes) = retired
retired_of e = []

abbrev rows_of : Entry → List Row
rows_of (Base epoch next_region retired rows changes) = rows
rows_of e = []

-- ---- moves
seq_is : (e : Entry) → entry_kind e ≡ 2 → e ≡ Seq (seq_of e) (point_of e)
seq_is (Seq seq at) is = refl
seq_is e is = cc

seq_allowed : (e : Entry) → IsEntryOf 2 e → IsSeq (seq_of e) × IsPoint (point_of e)
seq_allowed (Seq seq at) is = is.1
seq_allowed e is = cc

seq_spelt : (e : Entry) → entry_kind e ≡ 2
    → (number_bytes 4 (seq_of e) ++ (point_bytes (point_of e) ++ []) ≡ entry_fields e) × (4 ∷ (point_sizes (point_of e) ++ []) ≡ entry_field_sizes e)
seq_spelt (Seq seq at) is = (ap (λ (s : List ℕ). number_bytes 4 seq ++ s) (append-nil (point_bytes at)), refl)
seq_spelt e is = cc

seq_entry_codec : IsCodec seq_entry_at entry_fields entry_field_sizes (IsEntryOf 2)
unfolding seq_entry_at
seq_entry_codec =
    IsCodec-text
    (IsCodec-bind (λ seq. λ bytes at. point_at bytes at >>= λ point. Ok (Seq seq.0 point.0, point.1))
    seq_of (number_in_codec 4 1 last_id (omega arith) (omega arith))
    (λ seq is_seq. IsCodec-bind (λ point. λ bytes at. Ok (Seq seq.0 point.0, at)) point_of point_codec
    (λ point is_point. IsCodec-done (Seq seq.0 point.0) (refl, (refl, (refl, (is_seq, is_point))))
    (λ e is. seq_is e is.1.1.0 ∙ rw (is.0, is.1.0) refl))
    (λ e is. (seq_allowed e is.1).1))
    (λ e is. (seq_allowed e is).0))
    (λ e is. seq_spelt e is.0)

-- ---- items
item_is : (e : Entry) → entry_kind e ≡ 6 → e ≡ Item (epoch_of e) (changes_of e)
item_is (Item epoch changes) is = refl
item_is e is = cc

item_allowed : (e : Entry) → IsEntryOf 6 e → IsLaterEpoch (epoch_of e) × IsChanges 0 (changes_of e)
item_allowed (Item epoch changes) is = is.1
item_allowed e is = cc

item_spelt : (e : Entry) → entry_kind e ≡ 6
    → (id_bytes (epoch_of e) ++ (changes_bytes (changes_of e) ++ []) ≡ entry_fields e) × (4 ∷ (changes_sizes (changes_of e) ++ []) ≡ entry_field_sizes e)
item_spelt (Item epoch changes) is = (
  ap (λ (s : List ℕ). id_bytes epoch ++ s) (append-nil (changes_bytes changes)),
  ap (λ (s : List ℕ). 4 ∷ s) (append-nil (changes_sizes changes)),
)
item_spelt e is = cc

item_entry_codec : IsCodec item_entry_at entry_fields entry_field_sizes (IsEntryOf 6)
unfolding item_entry_at
item_entry_codec =
    IsCodec-text
    (IsCodec-bind (λ epoch. λ bytes at. changes_at 0 bytes at >>= λ changes. Ok (Item epoch.0 changes.0, changes.1)) epoch_of (region_from_codec 1)
    (λ epoch is_epoch. IsCodec-bind (λ changes. λ bytes at. Ok (Item epoch.0 changes.0, at)) changes_of (changes_codec 0)
    (λ changes are_changes. IsCodec-done (Item epoch.0 changes.0) (refl, (refl, (refl, (is_epoch, are_changes))))
    (λ e is. item_is e is.1.1.0 ∙ rw (is.0, is.1.0) refl))
    (λ e is. (item_allowed e is.1).1))
    (λ e is. (item_allowed e is).0))
    (λ e is. item_spelt e is.0)

-- ---- bases
base_is : (e : Entry) → entry_kind e ≡ 7 → e ≡ Base (epoch_of e) (next_region_of e) (retired_of e) (rows_of e) (changes_of e)
base_is (Base epoch next_region retired rows changes) is = refl
base_is e is = cc

base_allowed : (e : Entry) → IsEntryOf 7 e
    → IsLaterEpoch (epoch_of e) × IsFromTo 0 last_id (next_region_of e) × IsManyIds (retired_of e) × AreRows (rows_of e) × IsChanges 0 (changes_of e)
base_allowed (Base epoch next_region retired rows changes) is = is.1
base_allowed e is = cc

base_spelt : (e : Entry) → entry_kind e ≡ 7
    → (id_bytes (epoch_of e) ++ (number_bytes 4 (next_region_of e)
    ++ (many_ids_bytes (retired_of e) ++ (rows_bytes (rows_of e) ++ (changes_bytes (changes_of e) ++ [])))) ≡ entry_fields e)
    × (4 ∷ 4 ∷ (many_ids_sizes (retired_of e) ++ (rows_sizes (rows_of e) ++ (changes_sizes (changes_of e) ++ []))) ≡ entry_field_sizes e)
base_spelt (Base epoch next_region retired rows changes) is = (simp (append_assoc, append-nil), simp (append_assoc, append-nil))
base_spelt e is = cc

base_entry_codec : IsCodec base_entry_at entry_fields entry_field_sizes (IsEntryOf 7)
unfolding base_entry_at
base_entry_codec =
    IsCodec-text
    (IsCodec-bind
    (λ epoch. λ bytes at. number_in 4 0 last_id bytes at >>= λ next_region. many_ids_at bytes next_region.1 >>= λ retired.
    rows_at bytes retired.1 >>= λ rows. changes_at 0 bytes rows.1 >>= λ changes. Ok (Base epoch.0 next_region.0 retired.0 rows.0 changes.0, changes.1))
    epoch_of (region_from_codec 1)
    (λ epoch is_epoch. IsCodec-bind
    (λ next_region. λ bytes at. many_ids_at bytes at >>= λ retired. rows_at bytes retired.1 >>= λ rows. changes_at 0 bytes rows.1 >>= λ changes.
    Ok (Base epoch.0 next_region.0 retired.0 rows.0 changes.0, changes.1))
    next_region_of (number_in_codec 4 0 last_id (omega arith) (omega arith))
    (λ next_region is_next. IsCodec-bind
    (λ retired. λ bytes at. rows_at bytes at >>= λ rows. changes_at 0 bytes rows.1 >>= λ changes.
    Ok (Base epoch.0 next_region.0 retired.0 rows.0 changes.0, changes.1))
    retired_of many_ids_codec
    (λ retired are_retired. IsCodec-bind
    (λ rows. λ bytes at. changes_at 0 bytes at >>= λ changes. Ok (Base epoch.0 next_region.0 retired.0 rows.0 changes.0, changes.1))
    rows_of rows_codec
    (λ rows are_rows. IsCodec-bind (λ changes. λ bytes at. Ok (Base epoch.0 next_region.0 retired.0 rows.0 changes.0, at)) changes_of (changes_codec 0)
    (λ changes are_changes. IsCodec-done (Base epoch.0 next_region.0 retired.0 rows.0 changes.0)
    (refl, (refl, (refl, (refl, (refl, (refl, (is_epoch, is_next, are_retired, are_rows, are_changes)))))))
    (λ e is. base_is e is.1.1.1.1.1.0 ∙ rw (is.0, is.1.0, is.1.1.0, is.1.1.1.0, is.1.1.1.1.0) refl))
    (λ e is. (base_allowed e is.1.1.1.1).4))
    (λ e is. (base_allowed e is.1.1.1).3))
    (λ e is. (base_allowed e is.1.1).2))
    (λ e is. (base_allowed e is.1).1))
    (λ e is. (base_allowed e is).0))
    (λ e is. base_spelt e is.0)

-- ---- entries
-- the fields of an entry of each kind
fields_codec : (kind : ℕ) → IsFromTo 1 7 kind → IsCodec (entry_of_kind kind) entry_fields entry_field_sizes (IsEntryOf kind)
fields_codec zero small = absurd (omega (arith, small.0))
fields_codec (suc zero) small = boot_entry_codec
fields_codec (suc (suc zero)) small = seq_entry_codec
fields_codec (suc (suc (suc zero))) small = view_entry_codec
fields_codec (suc (suc (suc (suc zero)))) small = step_entry_codec
fields_codec (suc (suc (suc (suc (suc zero))))) small = gone_entry_codec
fields_codec (suc (suc (suc (suc (suc (suc zero)))))) small = item_entry_codec
fields_codec (suc (suc (suc (suc (suc (suc (suc zero))))))) small = base_entry_codec
fields_codec (suc (suc (suc (suc (suc (suc (suc (suc n)))))))) small = absurd (omega (arith, small.1))

kind_small : (e : Entry) → IsFromTo 1 7 (entry_kind e)
kind_small (Boot leads own) = (omega arith, omega arith)
kind_small (Seq seq at) = (omega arith, omega arith)
kind_small (View picture) = (omega arith, omega arith)
kind_small (Step slices) = (omega arith, omega arith)
kind_small (Gone epoch) = (omega arith, omega arith)
kind_small (Item epoch changes) = (omega arith, omega arith)
kind_small (Base epoch next_region retired rows changes) = (omega arith, omega arith)

pub entry_codec : IsCodec entry_at entry_bytes entry_sizes IsEntry
unfolding entry_at entry_bytes
entry_codec =
    IsCodec-text
    (IsCodec-bind (λ kind. entry_of_kind kind.0) entry_kind (kind_codec 7 (omega arith)) (λ kind small. fields_codec kind.0 small) (λ e is. kind_small e))
    (λ e is. (refl, refl))

-- ---- how long an entry is
fields_size : (e : Entry) → IsEntry e → sum (entry_field_sizes e) ≤ slices_len
fields_size (Boot leads own) is = omega arith
fields_size (Seq seq at) is = omega arith
fields_size (View picture) is = omega (arith, picture_size picture is)
fields_size (Step slices) is = slices_size slices is
fields_size (Gone epoch) is = omega arith
fields_size (Item epoch changes) is = omega (arith, changes_size 0 changes is.1, sum-cons 4 (changes_sizes changes))
fields_size (Base epoch next_region retired rows changes) is =
    omega (
      arith,
      numbers_size IsId 2 most_together retired is.2,
      rows_size rows is.3,
      changes_size 0 changes is.4,
      sum-cons 4 (4 ∷ many_ids_sizes retired ++ rows_sizes rows ++ changes_sizes changes),
      sum-cons 4 (many_ids_sizes retired ++ rows_sizes rows ++ changes_sizes changes),
      sum-append (many_ids_sizes retired ++ rows_sizes rows) (changes_sizes changes),
      sum-append (many_ids_sizes retired) (rows_sizes rows),
    )

pub entry_size : (e : Entry) → IsEntry e → length (entry_bytes e) ≤ entry_len
entry_size e is = omega (arith, entry_codec.sized e is, fields_size e is, sum-cons 1 (entry_field_sizes e))
