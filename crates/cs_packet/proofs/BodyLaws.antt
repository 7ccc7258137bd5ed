-- The laws of the bodies.
use Rattle.std.proofs.Common.{◌≡◌, ℕ, zero, suc, ◌-◌, ◌≤◌, List, [], ◌∷◌, ◌++◌, Ok}
use Rattle.std.proofs.Common.{refl, ◌∙◌, append_assoc, arith}
use Rattle.std.specs.Prelude.{sum}
use Rattle.std.proofs.lemmas.List.{append-nil}
use Rattle.cs_base.specs.Address.{Address, IsAddress}
use Rattle.cs_base.specs.Limits.{colours}
use Rattle.cs_base.specs.Ranges.{IsFromTo, IsRegion}
use Rattle.cs_base.specs.declared.change.Change.{Change}
use Rattle.cs_base.specs.declared.change.Mode.{Mode}
use Rattle.cs_base.specs.declared.change.Mode.TheVariants.{Partial}
use Rattle.cs_fields.specs.Reading.{◌>>=◌}
use Rattle.cs_fields.specs.Changes.{IsChanges}
use Rattle.cs_fields.specs.Fields.{address_bytes, address_sizes, id_bytes, IsLaterEpoch, later_epoch_at, mode_at, mode_bytes, region_at}
use Rattle.cs_fields.specs.Numbers.{number_bytes, number_in}
use Rattle.cs_fields.proofs.Changes.{changes_codec, changes_size}
use Rattle.cs_fields.proofs.Codec.{IsCodec, IsCodec-bind, IsCodec-done, IsCodec-text}
use Rattle.cs_fields.proofs.Fields.{address_codec, mode_codec, region_from_codec}
use Rattle.cs_fields.proofs.Numbers.{number_in_codec}
use Rattle.cs_item.specs.PictureField.{IsPicture}
use Rattle.cs_item.specs.SliceField.{IsSlice, slice_len}
use Rattle.cs_item.specs.declared.picture.Picture.{Picture as PictureType}
use Rattle.cs_item.specs.declared.slice.Slice.{Slice as SliceType}
use Rattle.cs_item.proofs.PictureLaws.{picture_codec, picture_size}
use Rattle.cs_item.proofs.SliceLaws.{slice_codec, slice_size}
use Rattle.cs_packet.specs.PieceField.{IsPieceText, piece_text_at, piece_text_sizes}
use Rattle.cs_packet.specs.BodyField.{ask_at, body_at, body_bytes, body_sizes, bye_at, IsBody, kind_of, need_at, piece_at, report_at, snap_at, slice_body_at}
use Rattle.cs_packet.specs.declared.packet.Body.{Body}
use Rattle.cs_packet.specs.declared.packet.Body.TheVariants.{Report, Piece, Need, Slice, Ask, Snap, Bye}
use Rattle.cs_packet.proofs.OneField.{of_one_field}
use Rattle.cs_packet.proofs.PieceLaws.{piece_text_codec, piece_text_size}

-- an allowed body of this kind
abbrev pub IsBodyOf : ℕ → Body → Type 0
IsBodyOf kind b = (kind_of b ≡ kind) × IsBody b

-- ---- bodies of one field
report_parts : (b : Body) → IsBodyOf 1 b → (changes : List Change) × IsChanges 1 changes × (b ≡ Report changes)
report_parts (Report changes) is = (changes, is.1, refl)
report_parts b is = cc

report_codec : IsCodec report_at body_bytes body_sizes (IsBodyOf 1)
unfolding report_at
report_codec = of_one_field Report (changes_codec 1) (λ changes is. (refl, is)) report_parts (λ changes. (refl, refl))

slice_parts : (b : Body) → IsBodyOf 4 b → (slice : SliceType) × IsSlice slice × (b ≡ Slice slice)
slice_parts (Slice slice) is = (slice, is.1, refl)
slice_parts b is = cc

slice_body_codec : IsCodec slice_body_at body_bytes body_sizes (IsBodyOf 4)
unfolding slice_body_at
slice_body_codec = of_one_field Slice slice_codec (λ slice is. (refl, is)) slice_parts (λ slice. (refl, refl))

snap_parts : (b : Body) → IsBodyOf 6 b → (picture : PictureType) × IsPicture picture × (b ≡ Snap picture)
snap_parts (Snap picture) is = (picture, is.1, refl)
snap_parts b is = cc

snap_codec : IsCodec snap_at body_bytes body_sizes (IsBodyOf 6)
unfolding snap_at
snap_codec = of_one_field Snap picture_codec (λ picture is. (refl, is)) snap_parts (λ picture. (refl, refl))

bye_parts : (b : Body) → IsBodyOf 7 b → (epoch : ℕ) × IsRegion epoch × (b ≡ Bye epoch)
bye_parts (Bye epoch) is = (epoch, is.1, refl)
bye_parts b is = cc

bye_codec : IsCodec bye_at body_bytes body_sizes (IsBodyOf 7)
unfolding bye_at
bye_codec = of_one_field Bye (region_from_codec 0) (λ epoch is. (refl, is)) bye_parts (λ epoch. (refl, refl))

-- ---- the fields of the others
abbrev addr_of : Body → Address
addr_of (Need addr mode epoch region) = addr
addr_of (Ask addr mode least) = addr
addr_of b = record { ip = []; port = 0 }

abbrev mode_in : Body → Mode
mode_in (Need addr mode epoch region) = mode
mode_in (Ask addr mode least) = mode
mode_in b = Partial

abbrev epoch_of : Body → ℕ
epoch_of (Piece epoch region colour text) = epoch
epoch_of (Need addr mode epoch region) = epoch
epoch_of b = 0

abbrev region_of : Body → ℕ
region_of (Piece epoch region colour text) = region
region_of (Need addr mode epoch region) = region
region_of b = 0

abbrev colour_of : Body → ℕ
colour_of (Piece epoch region colour text) = colour
colour_of b = 0

abbrev text_of : Body → List ℕ
text_of (Piece epoch region colour text) = text
text_of b = []

abbrev least_of : Body → ℕ
least_of (Ask addr mode least) = least
least_of b = 0

-- ---- pieces
piece_is : (b : Body) → kind_of b ≡ 2 → b ≡ Piece (epoch_of b) (region_of b) (colour_of b) (text_of b)
piece_is (Piece epoch region colour text) e = refl
piece_is b e = cc

piece_allowed : (b : Body) → IsBodyOf 2 b
    → IsLaterEpoch (epoch_of b) × IsRegion (region_of b) × IsFromTo 0 (colours - 1) (colour_of b) × IsPieceText (text_of b)
piece_allowed (Piece epoch region colour text) is = is.1
piece_allowed b is = cc

piece_spelt : (b : Body) → kind_of b ≡ 2
    → (id_bytes (epoch_of b) ++ (id_bytes (region_of b) ++ (number_bytes 1 (colour_of b) ++ (text_of b ++ []))) ≡ body_bytes b)
    × (4 ∷ 4 ∷ 1 ∷ piece_text_sizes (text_of b) ≡ body_sizes b)
piece_spelt (Piece epoch region colour text) e = (simp (append_assoc, append-nil), refl)
piece_spelt b e = cc

piece_codec : IsCodec piece_at body_bytes body_sizes (IsBodyOf 2)
unfolding piece_at
piece_codec =
    IsCodec-text
    (IsCodec-bind
    (λ epoch. λ bytes at. region_at bytes at >>= λ region. number_in 1 0 (colours - 1) bytes region.1 >>= λ colour. piece_text_at bytes colour.1 >>= λ text.
    Ok (Piece epoch.0 region.0 colour.0 text.0, text.1))
    epoch_of (region_from_codec 1)
    (λ epoch is_epoch. IsCodec-bind
    (λ region. λ bytes at. number_in 1 0 (colours - 1) bytes at >>= λ colour. piece_text_at bytes colour.1 >>= λ text.
    Ok (Piece epoch.0 region.0 colour.0 text.0, text.1))
    region_of (region_from_codec 0)
    (λ region is_region. IsCodec-bind
    (λ colour. λ bytes at. piece_text_at bytes at >>= λ text. Ok (Piece epoch.0 region.0 colour.0 text.0, text.1))
    colour_of (number_in_codec 1 0 (colours - 1) (omega arith) (omega arith))
    (λ colour is_colour. IsCodec-bind (λ text. λ bytes at. Ok (Piece epoch.0 region.0 colour.0 text.0, at)) text_of piece_text_codec
    (λ text is_text. IsCodec-done (Piece epoch.0 region.0 colour.0 text.0)
    (refl, (refl, (refl, (refl, (refl, (is_epoch, is_region, is_colour, is_text))))))
    (λ b is. piece_is b is.1.1.1.1.0 ∙ rw (is.0, is.1.0, is.1.1.0, is.1.1.1.0) refl))
    (λ b is. (piece_allowed b is.1.1.1).3))
    (λ b is. (piece_allowed b is.1.1).2))
    (λ b is. (piece_allowed b is.1).1))
    (λ b is. (piece_allowed b is).0))
    (λ b is. piece_spelt b is.0)

-- ---- needs
need_is : (b : Body) → kind_of b ≡ 3 → b ≡ Need (addr_of b) (mode_in b) (epoch_of b) (region_of b)
need_is (Need addr mode epoch region) e = refl
need_is b e = cc

need_allowed : (b : Body) → IsBodyOf 3 b → IsAddress (addr_of b) × IsLaterEpoch (epoch_of b) × IsRegion (region_of b)
need_allowed (Need addr mode epoch region) is = is.1
need_allowed b is = cc

need_spelt : (b : Body) → kind_of b ≡ 3
    → (address_bytes (addr_of b) ++ (mode_bytes (mode_in b) ++ (id_bytes (epoch_of b) ++ (id_bytes (region_of b) ++ []))) ≡ body_bytes b)
    × (address_sizes (addr_of b) ++ 1 ∷ 4 ∷ 4 ∷ [] ≡ body_sizes b)
need_spelt (Need addr mode epoch region) e = (simp (append_assoc, append-nil), refl)
need_spelt b e = cc

need_codec : IsCodec need_at body_bytes body_sizes (IsBodyOf 3)
unfolding need_at
need_codec =
    IsCodec-text
    (IsCodec-bind
    (λ addr. λ bytes at. mode_at bytes at >>= λ mode. later_epoch_at bytes mode.1 >>= λ epoch. region_at bytes epoch.1 >>= λ region.
    Ok (Need addr.0 mode.0 epoch.0 region.0, region.1))
    addr_of address_codec
    (λ addr is_addr. IsCodec-bind
    (λ mode. λ bytes at. later_epoch_at bytes at >>= λ epoch. region_at bytes epoch.1 >>= λ region. Ok (Need addr.0 mode.0 epoch.0 region.0, region.1))
    mode_in mode_codec
    (λ mode _. IsCodec-bind (λ epoch. λ bytes at. region_at bytes at >>= λ region. Ok (Need addr.0 mode.0 epoch.0 region.0, region.1))
    epoch_of (region_from_codec 1)
    (λ epoch is_epoch. IsCodec-bind (λ region. λ bytes at. Ok (Need addr.0 mode.0 epoch.0 region.0, at)) region_of (region_from_codec 0)
    (λ region is_region. IsCodec-done (Need addr.0 mode.0 epoch.0 region.0)
    (refl, (refl, (refl, (refl, (refl, (is_addr, is_epoch, is_region))))))
    (λ b is. need_is b is.1.1.1.1.0 ∙ rw (is.0, is.1.0, is.1.1.0, is.1.1.1.0) refl))
    (λ b is. (need_allowed b is.1.1.1).2))
    (λ b is. (need_allowed b is.1.1).1))
    (λ b is. tt))
    (λ b is. (need_allowed b is).0))
    (λ b is. need_spelt b is.0)

-- ---- asks
ask_is : (b : Body) → kind_of b ≡ 5 → b ≡ Ask (addr_of b) (mode_in b) (least_of b)
ask_is (Ask addr mode least) e = refl
ask_is b e = cc

ask_allowed : (b : Body) → IsBodyOf 5 b → IsAddress (addr_of b) × IsFromTo 0 4294967295 (least_of b)
ask_allowed (Ask addr mode least) is = is.1
ask_allowed b is = cc

ask_spelt : (b : Body) → kind_of b ≡ 5
    → (address_bytes (addr_of b) ++ (mode_bytes (mode_in b) ++ (number_bytes 4 (least_of b) ++ [])) ≡ body_bytes b)
    × (address_sizes (addr_of b) ++ 1 ∷ 4 ∷ [] ≡ body_sizes b)
ask_spelt (Ask addr mode least) e = (simp (append_assoc, append-nil), refl)
ask_spelt b e = cc

ask_codec : IsCodec ask_at body_bytes body_sizes (IsBodyOf 5)
unfolding ask_at
ask_codec =
    IsCodec-text
    (IsCodec-bind (λ addr. λ bytes at. mode_at bytes at >>= λ mode. number_in 4 0 4294967295 bytes mode.1 >>= λ least. Ok (Ask addr.0 mode.0 least.0, least.1))
    addr_of address_codec
    (λ addr is_addr. IsCodec-bind (λ mode. λ bytes at. number_in 4 0 4294967295 bytes at >>= λ least. Ok (Ask addr.0 mode.0 least.0, least.1))
    mode_in mode_codec
    (λ mode _. IsCodec-bind (λ least. λ bytes at. Ok (Ask addr.0 mode.0 least.0, at)) least_of (number_in_codec 4 0 4294967295 (omega arith) (omega arith))
    (λ least is_least. IsCodec-done (Ask addr.0 mode.0 least.0)
    (refl, (refl, (refl, (refl, (is_addr, is_least)))))
    (λ b is. ask_is b is.1.1.1.0 ∙ rw (is.0, is.1.0, is.1.1.0) refl))
    (λ b is. (ask_allowed b is.1.1).1))
    (λ b is. tt))
    (λ b is. (ask_allowed b is).0))
    (λ b is. ask_spelt b is.0)

-- ---- how long a body is
pub body_size : (b : Body) → IsBody b → sum (body_sizes b) ≤ slice_len
body_size (Report changes) is = omega (arith, changes_size 1 changes is)
body_size (Piece epoch region colour text) is = omega (arith, piece_text_size text is.3)
body_size (Need addr mode epoch region) is = omega arith
body_size (Slice slice) is = slice_size slice is
body_size (Ask addr mode least) is = omega arith
body_size (Snap picture) is = omega (arith, picture_size picture is)
body_size (Bye epoch) is = omega arith

-- ---- the body of each kind
pub body_codec : (kind : ℕ) → IsFromTo 1 7 kind → IsCodec (body_at kind) body_bytes body_sizes (IsBodyOf kind)
body_codec zero small = absurd (omega (arith, small.0))
body_codec (suc zero) small = report_codec
body_codec (suc (suc zero)) small = piece_codec
body_codec (suc (suc (suc zero))) small = need_codec
body_codec (suc (suc (suc (suc zero)))) small = slice_body_codec
body_codec (suc (suc (suc (suc (suc zero))))) small = ask_codec
body_codec (suc (suc (suc (suc (suc (suc zero)))))) small = snap_codec
body_codec (suc (suc (suc (suc (suc (suc (suc zero))))))) small = bye_codec
body_codec (suc (suc (suc (suc (suc (suc (suc (suc n)))))))) small = absurd (omega (arith, small.1))

pub kind_small : (b : Body) → IsFromTo 1 7 (kind_of b)
kind_small (Report changes) = (omega arith, omega arith)
kind_small (Piece epoch region colour text) = (omega arith, omega arith)
kind_small (Need addr mode epoch region) = (omega arith, omega arith)
kind_small (Slice slice) = (omega arith, omega arith)
kind_small (Ask addr mode least) = (omega arith, omega arith)
kind_small (Snap picture) = (omega arith, omega arith)
kind_small (Bye epoch) = (omega arith, omega arith)
