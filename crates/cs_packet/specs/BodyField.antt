-- The body of a packet of each kind.
use Rattle.std.specs.Prelude.{ℕ, ◌-◌, ◌==◌, List, [], ◌∷◌, ◌++◌, Ok, if◌then◌else◌}
use Rattle.cs_base.specs.Address.{IsAddress}
use Rattle.cs_base.specs.Limits.{colours}
use Rattle.cs_base.specs.Ranges.{IsFromTo, IsRegion}
use Rattle.cs_fields.specs.Changes.{changes_at, changes_bytes, changes_sizes, IsChanges}
use Rattle.cs_fields.specs.Fields.{address_at, address_bytes, address_sizes, id_bytes, IsLaterEpoch, later_epoch_at}
use Rattle.cs_fields.specs.Fields.{mode_at, mode_bytes, region_at}
use Rattle.cs_fields.specs.Numbers.{number_bytes, number_in}
use Rattle.cs_fields.specs.Reading.{Reader, ◌>>=◌}
use Rattle.cs_item.specs.PictureField.{IsPicture, picture_at, picture_bytes, picture_sizes}
use Rattle.cs_item.specs.SliceField.{IsSlice, slice_at, slice_bytes, slice_sizes}
use Rattle.cs_packet.specs.PieceField.{IsPieceText, piece_text_at, piece_text_sizes}
use Rattle.cs_packet.specs.declared.packet.Body.{Body}
use Rattle.cs_packet.specs.declared.packet.Body.TheVariants.{Report, Piece, Need, Slice, Ask, Snap, Bye}

-- the number of a body's kind
abbrev pub kind_of : Body → ℕ
kind_of (Report changes) = 1
kind_of (Piece epoch region colour text) = 2
kind_of (Need addr mode epoch region) = 3
kind_of (Slice slice) = 4
kind_of (Ask addr mode least) = 5
kind_of (Snap picture) = 6
kind_of (Bye epoch) = 7

-- whether the fields of a body have values that are allowed
abbrev pub IsBody : Body → Type 0
IsBody (Report changes) = IsChanges 1 changes
IsBody (Piece epoch region colour text) =
    IsLaterEpoch epoch × IsRegion region × IsFromTo 0 (colours - 1) colour × IsPieceText text
IsBody (Need addr mode epoch region) = IsAddress addr × IsLaterEpoch epoch × IsRegion region
IsBody (Slice slice) = IsSlice slice
IsBody (Ask addr mode least) = IsAddress addr × IsFromTo 0 4294967295 least
IsBody (Snap picture) = IsPicture picture
IsBody (Bye epoch) = IsRegion epoch

-- the fields of a body, one behind the other
abbrev pub body_bytes : Body → List ℕ
body_bytes (Report changes) = changes_bytes changes
body_bytes (Piece epoch region colour text) = id_bytes epoch ++ id_bytes region ++ number_bytes 1 colour ++ text
body_bytes (Need addr mode epoch region) = address_bytes addr ++ mode_bytes mode ++ id_bytes epoch ++ id_bytes region
body_bytes (Slice slice) = slice_bytes slice
body_bytes (Ask addr mode least) = address_bytes addr ++ mode_bytes mode ++ number_bytes 4 least
body_bytes (Snap picture) = picture_bytes picture
body_bytes (Bye epoch) = id_bytes epoch

-- the sizes of the fields
abbrev pub body_sizes : Body → List ℕ
body_sizes (Report changes) = changes_sizes changes
body_sizes (Piece epoch region colour text) = 4 ∷ 4 ∷ 1 ∷ piece_text_sizes text
body_sizes (Need addr mode epoch region) = address_sizes addr ++ 1 ∷ 4 ∷ 4 ∷ []
body_sizes (Slice slice) = slice_sizes slice
body_sizes (Ask addr mode least) = address_sizes addr ++ 1 ∷ 4 ∷ []
body_sizes (Snap picture) = picture_sizes picture
body_sizes (Bye epoch) = 4 ∷ []

-- changes, at least one
unfoldable pub report_at : Reader Body
report_at bytes at = do
  changes ← changes_at 1 bytes at
  Ok (Report changes.0, changes.1)

-- the epoch, the region, the colour and the bytes of a piece
unfoldable pub piece_at : Reader Body
piece_at bytes at = do
  epoch ← later_epoch_at bytes at
  region ← region_at bytes epoch.1
  colour ← number_in 1 0 (colours - 1) bytes region.1
  text ← piece_text_at bytes colour.1
  Ok (Piece epoch.0 region.0 colour.0 text.0, text.1)

-- who asks, and of which epoch and region
unfoldable pub need_at : Reader Body
need_at bytes at = do
  addr ← address_at bytes at
  mode ← mode_at bytes addr.1
  epoch ← later_epoch_at bytes mode.1
  region ← region_at bytes epoch.1
  Ok (Need addr.0 mode.0 epoch.0 region.0, region.1)

-- a slice
unfoldable pub slice_body_at : Reader Body
slice_body_at bytes at = do
  slice ← slice_at bytes at
  Ok (Slice slice.0, slice.1)

-- who asks, and from which epoch on
unfoldable pub ask_at : Reader Body
ask_at bytes at = do
  addr ← address_at bytes at
  mode ← mode_at bytes addr.1
  least ← number_in 4 0 4294967295 bytes mode.1
  Ok (Ask addr.0 mode.0 least.0, least.1)

-- a picture
unfoldable pub snap_at : Reader Body
snap_at bytes at = do
  picture ← picture_at bytes at
  Ok (Snap picture.0, picture.1)

-- an epoch
unfoldable pub bye_at : Reader Body
bye_at bytes at = do
  epoch ← region_at bytes at
  Ok (Bye epoch.0, epoch.1)

-- the body of this kind
abbrev pub body_at : ℕ → Reader Body
body_at kind bytes at =
    if kind == 1 then report_at bytes at else
    (if kind == 2 then piece_at bytes at else
    (if kind == 3 then need_at bytes at else
    (if kind == 4 then slice_body_at bytes at else
    (if kind == 5 then ask_at bytes at else
    (if kind == 6 then snap_at bytes at else bye_at bytes at)))))
