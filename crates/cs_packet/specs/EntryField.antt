-- An entry of a node's log, and its bytes.
use Rattle.std.specs.Prelude.{ℕ, ◌+◌, ◌==◌, List, [], ◌∷◌, ◌++◌, Result, Ok, if◌then◌else◌}
use Rattle.cs_base.specs.Axes.{IsPoint}
use Rattle.cs_base.specs.Limits.{last_id}
use Rattle.cs_base.specs.Ranges.{IsFromTo, IsRegion, IsSeq}
use Rattle.cs_fields.specs.Changes.{changes_at, changes_bytes, changes_len, changes_sizes, IsChanges}
use Rattle.cs_fields.specs.Fields.{id_bytes, IsLaterEpoch, later_epoch_at, point_at, point_bytes, point_sizes}
use Rattle.cs_fields.specs.Fields.{IsManyIds, many_ids_at, many_ids_bytes, many_ids_len, many_ids_sizes, region_at}
use Rattle.cs_fields.specs.Numbers.{number_bytes, number_in}
use Rattle.cs_fields.specs.Reading.{Reader, ◌>>=◌}
use Rattle.cs_fields.specs.Whole.{whole_of}
use Rattle.cs_fields.specs.declared.fault.PacketFault.{PacketFault}
use Rattle.cs_item.specs.PictureField.{IsPicture, picture_at, picture_bytes, picture_sizes}
use Rattle.cs_packet.specs.BootField.{boot_at, boot_bytes, boot_sizes, IsBoot}
use Rattle.cs_packet.specs.KindField.{kind_at}
use Rattle.cs_packet.specs.RowsField.{AreRows, rows_at, rows_bytes, rows_len, rows_sizes}
use Rattle.cs_packet.specs.SlicesField.{AreSlices, slices_at, slices_bytes, slices_len, slices_sizes}
use Rattle.cs_packet.specs.declared.entry.Entry.{Entry}
use Rattle.cs_packet.specs.declared.entry.Entry.TheVariants.{Boot, Seq, View, Step, Gone, Item, Base}

-- the number of an entry's kind
abbrev pub entry_kind : Entry → ℕ
entry_kind (Boot leads own) = 1
entry_kind (Seq seq at) = 2
entry_kind (View picture) = 3
entry_kind (Step slices) = 4
entry_kind (Gone epoch) = 5
entry_kind (Item epoch changes) = 6
entry_kind (Base epoch next_region retired rows changes) = 7

-- whether the fields of an entry have values that are allowed, and fit together
abbrev pub IsEntry : Entry → Type 0
IsEntry (Boot leads own) = IsBoot leads own
IsEntry (Seq seq at) = IsSeq seq × IsPoint at
IsEntry (View picture) = IsPicture picture
IsEntry (Step slices) = AreSlices slices
IsEntry (Gone epoch) = IsRegion epoch
IsEntry (Item epoch changes) = IsLaterEpoch epoch × IsChanges 0 changes
IsEntry (Base epoch next_region retired rows changes) =
    IsLaterEpoch epoch × IsFromTo 0 last_id next_region × IsManyIds retired × AreRows rows × IsChanges 0 changes

-- the fields behind the kind
abbrev pub entry_fields : Entry → List ℕ
entry_fields (Boot leads own) = boot_bytes (leads, own)
entry_fields (Seq seq at) = number_bytes 4 seq ++ point_bytes at
entry_fields (View picture) = picture_bytes picture
entry_fields (Step slices) = slices_bytes slices
entry_fields (Gone epoch) = id_bytes epoch
entry_fields (Item epoch changes) = id_bytes epoch ++ changes_bytes changes
entry_fields (Base epoch next_region retired rows changes) =
    id_bytes epoch ++ number_bytes 4 next_region ++ many_ids_bytes retired ++ rows_bytes rows ++ changes_bytes changes

-- the sizes of the fields
abbrev pub entry_field_sizes : Entry → List ℕ
entry_field_sizes (Boot leads own) = boot_sizes (leads, own)
entry_field_sizes (Seq seq at) = 4 ∷ point_sizes at
entry_field_sizes (View picture) = picture_sizes picture
entry_field_sizes (Step slices) = slices_sizes slices
entry_field_sizes (Gone epoch) = 4 ∷ []
entry_field_sizes (Item epoch changes) = 4 ∷ changes_sizes changes
entry_field_sizes (Base epoch next_region retired rows changes) =
    4 ∷ 4 ∷ many_ids_sizes retired ++ rows_sizes rows ++ changes_sizes changes

-- whether a node leads, who it is, and who leads it
unfoldable pub boot_entry_at : Reader Entry
boot_entry_at bytes at = do
  boot ← boot_at bytes at
  Ok (Boot boot.0.0 boot.0.1, boot.1)

-- the number of a move, and where the node stands since
unfoldable pub seq_entry_at : Reader Entry
seq_entry_at bytes at = do
  seq ← number_in 4 1 last_id bytes at
  point ← point_at bytes seq.1
  Ok (Seq seq.0 point.0, point.1)

-- a picture
unfoldable pub view_entry_at : Reader Entry
view_entry_at bytes at = do
  picture ← picture_at bytes at
  Ok (View picture.0, picture.1)

-- slices
unfoldable pub step_entry_at : Reader Entry
step_entry_at bytes at = do
  slices ← slices_at bytes at
  Ok (Step slices.0, slices.1)

-- an epoch
unfoldable pub gone_entry_at : Reader Entry
gone_entry_at bytes at = do
  epoch ← region_at bytes at
  Ok (Gone epoch.0, epoch.1)

-- an epoch, and its changes
unfoldable pub item_entry_at : Reader Entry
item_entry_at bytes at = do
  epoch ← later_epoch_at bytes at
  changes ← changes_at 0 bytes epoch.1
  Ok (Item epoch.0 changes.0, changes.1)

-- an epoch, the group before it, and its changes
unfoldable pub base_entry_at : Reader Entry
base_entry_at bytes at = do
  epoch ← later_epoch_at bytes at
  next_region ← number_in 4 0 last_id bytes epoch.1
  retired ← many_ids_at bytes next_region.1
  rows ← rows_at bytes retired.1
  changes ← changes_at 0 bytes rows.1
  Ok (Base epoch.0 next_region.0 retired.0 rows.0 changes.0, changes.1)

-- the greatest number of their bytes
abbrev pub base_len : ℕ
base_len = 4 + 4 + many_ids_len + rows_len + changes_len

-- the entry of this kind
abbrev pub entry_of_kind : ℕ → Reader Entry
entry_of_kind kind bytes at =
    if kind == 1 then boot_entry_at bytes at else
    (if kind == 2 then seq_entry_at bytes at else
    (if kind == 3 then view_entry_at bytes at else
    (if kind == 4 then step_entry_at bytes at else
    (if kind == 5 then gone_entry_at bytes at else
    (if kind == 6 then item_entry_at bytes at else base_entry_at bytes at)))))

-- the kind of an entry, and its fields
unfoldable pub entry_at : Reader Entry
entry_at bytes at = do
  kind ← kind_at 7 bytes at
  entry_of_kind kind.0 bytes kind.1

unfoldable pub entry_bytes : Entry → List ℕ
entry_bytes e = number_bytes 1 (entry_kind e) ++ entry_fields e

-- the sizes of its fields
abbrev pub entry_sizes : Entry → List ℕ
entry_sizes e = 1 ∷ entry_field_sizes e

-- the greatest number of its bytes, which a step has
abbrev pub entry_len : ℕ
entry_len = 1 + slices_len

-- the entry that is spelt by the bytes, all of them
abbrev pub entry_of : List ℕ → Result Entry PacketFault
entry_of bytes = whole_of entry_at bytes
