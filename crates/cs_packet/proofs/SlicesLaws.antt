-- The laws of slices with their lengths in front.
use Rattle.std.proofs.Common.{◌≡◌, ℕ, zero, suc, ◌^◌, ◌+◌, ◌<◌, ◌≤◌, nat_le, List, [], ◌∷◌, ◌++◌, length, take, drop, Result, Ok, Err}
use Rattle.std.proofs.Common.{refl, sym, ap, subst, ◌∙◌, append_assoc, arith}
use Rattle.std.specs.Prelude.{sum}
use Rattle.std.proofs.lemmas.Bool.{leb-true, le-leb}
use Rattle.std.proofs.lemmas.List.{length-append, length-take-le}
use Rattle.cs_base.specs.Limits.{most_regions}
use Rattle.cs_fields.specs.declared.fault.PacketFault.{PacketFault}
use Rattle.cs_fields.specs.declared.fault.PacketFault.TheVariants.{Short, Value}
use Rattle.cs_fields.specs.Numbers.{number_at, number_bytes, raw_at}
use Rattle.cs_fields.specs.Reading.{Reader, ◌>>=◌, IsSpelt}
use Rattle.cs_fields.specs.Whole.{whole_of}
use Rattle.cs_fields.proofs.Codec.{bind_ok, drop_behind, IsBytes, IsCodec, IsCodec-checked, IsCodec-same, IsSpelt-then, short_then, sum-cons, whole}
use Rattle.cs_fields.proofs.Codec.{whole_only}
use Rattle.cs_fields.proofs.Counted.{counted_size, listed_codec}
use Rattle.cs_fields.proofs.Numbers.{length-number_bytes, number_codec}
use Rattle.cs_fields.proofs.Raw.{IsBytes-drop, raw_codec, raw_ended, raw_long, raw_read, rest_at}
use Rattle.cs_item.specs.SliceField.{head_sizes, IsSlice, part_sizes, slice_at, slice_bytes, slice_len}
use Rattle.cs_item.specs.declared.slice.Slice.{Slice}
use Rattle.cs_item.proofs.SliceLaws.{slice_codec, slice_size}
use Rattle.cs_packet.specs.SlicesField.{allowed_at, AreSlices, framed_at, framed_bytes, framed_sizes, framed_slice_len, IsSliceFrom, region_of_slice}
use Rattle.cs_packet.specs.SlicesField.{slice_from, slices_at, slices_bytes, slices_len, slices_sizes}

-- ---- a length and so many bytes
-- the front of bytes are bytes
front_bytes : (text rest : List ℕ) → IsBytes (text ++ rest) → IsBytes text
front_bytes [] rest are_bytes i = omega arith
front_bytes (b ∷ text) rest are_bytes zero = are_bytes 0
front_bytes (b ∷ text) rest are_bytes (suc i) = front_bytes text rest (λ j. are_bytes (suc j)) i

-- what is spelt in bytes are bytes
text_bytes : (bytes : List ℕ) (at : ℕ) (text : List ℕ) (behind : ℕ) → IsBytes bytes → IsSpelt bytes at text behind → IsBytes text
text_bytes bytes at text behind are_bytes is = front_bytes text (drop behind bytes) (subst IsBytes is.parts (IsBytes-drop at bytes are_bytes))

-- so many bytes that were read, maybe none, stand there
raw_found : (n : ℕ) (bytes : List ℕ) (at : ℕ) (x : List ℕ × ℕ) → IsBytes bytes → at ≤ length bytes → raw_at n bytes at ≡ Ok x
    → (length x.0 ≡ n) × IsSpelt bytes at x.0 x.1
raw_found zero bytes at x are_bytes within e =
    let none = raw_long 0 bytes at (omega arith) in
    let is : ([], at + 0) ≡ x = cc in
    let place : at + 0 ≡ at = omega arith in
    subst (λ (y : List ℕ × ℕ). (length y.0 ≡ 0) × IsSpelt bytes at y.0 y.1) is
    (refl, record { parts = ap (λ (k : ℕ). drop k bytes) (sym place); ends = refl; within = omega (arith, within) })
raw_found (suc n) bytes at x are_bytes within e = (raw_codec (suc n) (omega arith)).found bytes at x are_bytes within e

-- a value without a fault was read so
allowed_ok : {T : Type 0} (at : ℕ) (r : Result T PacketFault) (v : T) → allowed_at at r ≡ Ok v → r ≡ Ok v
allowed_ok at (Ok x) v e = e
allowed_ok at (Err fault) v e = cc

-- the bytes of a text and of their number, by another name
framed_text : (size : ℕ) (text s : List ℕ) → length text ≡ size → text ≡ s → number_bytes 4 size ++ text ≡ number_bytes 4 (length s) ++ s
framed_text size text s long same = rw (← long, same) refl

module _ {T : Type 0} {read : Reader T} {spell sizes : T → List ℕ} {Allowed : T → Type 0} (law : IsCodec read spell sizes Allowed)
    (some : (v : T) → Allowed v → 0 < length (spell v)) (fits : (v : T) → Allowed v → length (spell v) < 256 ^ 4) where
  -- a number, and a text of so many bytes that spells a value
  as_framed : (bytes : List ℕ) (at : ℕ) (size : ℕ × ℕ) (text : List ℕ × ℕ) (item : T) (y : T × ℕ) → IsSpelt bytes at (number_bytes 4 size.0) size.1
      → (length text.0 ≡ size.0) × IsSpelt bytes size.1 text.0 text.1 → Allowed item × (text.0 ≡ spell item) → (item, text.1) ≡ y
      → Allowed y.0 × IsSpelt bytes at (number_bytes 4 (length (spell y.0)) ++ spell y.0) y.1
  as_framed bytes at size text item y one two all is =
      let spelt : number_bytes 4 size.0 ++ text.0 ≡ number_bytes 4 (length (spell item)) ++ spell item =
      framed_text size.0 text.0 (spell item) two.0 all.1 in
      subst (λ (z : T × ℕ). Allowed z.0 × IsSpelt bytes at (number_bytes 4 (length (spell z.0)) ++ spell z.0) z.1) is (
        all.0,
        subst (λ (s : List ℕ). IsSpelt bytes at s text.1) spelt (IsSpelt-then bytes at (number_bytes 4 size.0) size.1 text.0 text.1 one two.1),
      )

  -- a value with its length in front
  framed_codec : IsCodec (framed_at read) (framed_bytes spell) (framed_sizes spell) Allowed
  unfolding framed_at framed_bytes
  framed_codec =
      let number = number_codec 4 (omega arith) in
      record {
        found = λ bytes at y are_bytes within e.
            let step = bind_ok (number_at 4 bytes at)
            (λ size. raw_at size.0 bytes size.1 >>= λ text. allowed_at at (whole_of read text.0) >>= λ item. Ok (item, text.1)) y e in
            let size = step.0 in
            let one = number.found bytes at size are_bytes within step.1 in
            let middle = bind_ok (raw_at size.0 bytes size.1) (λ text. allowed_at at (whole_of read text.0) >>= λ item. Ok (item, text.1)) y step.2 in
            let text = middle.0 in
            let two = raw_found size.0 bytes size.1 text are_bytes one.1.within middle.1 in
            let last = bind_ok (allowed_at at (whole_of read text.0)) (λ item. Ok (item, text.1)) y middle.2 in
            let item = last.0 in
            let were_bytes = text_bytes bytes size.1 text.0 text.1 are_bytes two.1 in
            let all = (whole law text.0 (Ok item) were_bytes (allowed_ok at (whole_of read text.0) item last.1)).found in
            let is : (item, text.1) ≡ y = cc in
            as_framed bytes at size text item y one.1 two all is;
        only = λ bytes at v rest allowed e.
            let s = number_bytes 4 (length (spell v)) in
            let grouped : drop at bytes ≡ s ++ (spell v ++ rest) = e ∙ append_assoc s (spell v) rest in
            let one = number.only bytes at (length (spell v)) (spell v ++ rest) (fits v allowed) grouped in
            let mid = at + length s in
            let two = (raw_codec (length (spell v)) (some v allowed)).only bytes mid (spell v) rest refl
            (drop_behind bytes at s (spell v ++ rest) grouped) in
            let place : mid + length (spell v) ≡ at + length (s ++ spell v) = omega (arith, length-append s (spell v)) in
            rw (one, two, whole_only law v allowed, place) refl;
        sized = λ v allowed.
            let size = length (spell v) in
            omega (arith, length-append (number_bytes 4 size) (spell v), length-number_bytes 4 size);
        short = λ bytes at v n allowed within lt e.
            let s = number_bytes 4 (length (spell v)) in
            short_then number (λ size. raw_at size.0 bytes size.1 >>= λ text. allowed_at at (whole_of read text.0) >>= λ item. Ok (item, text.1))
            (length (spell v)) (spell v) (length (spell v) ∷ []) bytes at n (fits v allowed) within lt e
            (λ k ends small cut. rw ((raw_codec (length (spell v)) (some v allowed)).short bytes (at + length s) (spell v) k refl ends small cut) refl);
      }

-- ---- slices
-- how long a slice is
slice_length : (s : Slice) → IsSlice s → (0 < length (slice_bytes s)) × (length (slice_bytes s) ≤ slice_len)
slice_length s is =
    let sized = slice_codec.sized s is in
    (omega (arith, sized, sum-cons 4 (4 ∷ head_sizes s.head ++ part_sizes s.part)), omega (arith, sized, slice_size s is))

pub framed_slice_codec : IsCodec (framed_at slice_at) (framed_bytes slice_bytes) (framed_sizes slice_bytes) IsSlice
framed_slice_codec = framed_codec slice_codec (λ s is. (slice_length s is).0) (λ s is. omega (arith, (slice_length s is).1))

pub slice_from_codec : (least : ℕ) → IsCodec (slice_from least) (framed_bytes slice_bytes) (framed_sizes slice_bytes) (IsSliceFrom least)
slice_from_codec least =
    IsCodec-same (IsCodec-checked (λ s. nat_le least (region_of_slice s)) framed_slice_codec)
    (λ s is. (leb-true least (region_of_slice s) is.1, is.0)) (λ s is. (is.1, le-leb least (region_of_slice s) is.0)) (λ s _. (refl, refl))

pub slices_codec : IsCodec slices_at slices_bytes slices_sizes AreSlices
unfolding slices_at slices_bytes
slices_codec =
    listed_codec region_of_slice IsSlice 0 IsSlice (λ s low is. is) (λ s is. (omega arith, is)) slice_from_codec 1 1 most_regions (omega arith) (omega arith)

pub framed_slice_size : (s : Slice) → IsSlice s → sum (framed_sizes slice_bytes s) ≤ framed_slice_len
framed_slice_size s is =
    let size = length (slice_bytes s) in
    omega (arith, (slice_length s is).1, sum-cons 4 (size ∷ []), sum-cons size [])

pub slices_size : (slices : List Slice) → AreSlices slices → sum (slices_sizes slices) ≤ slices_len
slices_size slices are = counted_size (framed_sizes slice_bytes) IsSlice 1 framed_slice_len most_regions framed_slice_size slices are.allowed are.few

-- ---- what the code reads
-- a length, and too few bytes behind it
pub framed_ended : (bytes : List ℕ) (at size mid : ℕ) → Ok (size, mid) ≡ number_at 4 bytes at → mid ≤ length bytes → length (rest_at bytes mid) < size
    → framed_at slice_at bytes at ≡ Err (Short mid)
unfolding framed_at
framed_ended bytes at size mid read within short = rw (← read, ← raw_ended size bytes mid within short) refl

-- so many bytes behind it
module _ (bytes : List ℕ) (at size mid : ℕ) (text : List ℕ) (read : Ok (size, mid) ≡ number_at 4 bytes at) (within : mid ≤ length bytes)
    (long : size ≤ length (rest_at bytes mid)) (is : text ≡ take size (rest_at bytes mid)) where
  -- that spell a slice
  pub framed_read : (slice : Slice) → whole_of slice_at text ≡ Ok slice → framed_at slice_at bytes at ≡ Ok (slice, mid + size)
  unfolding framed_at
  framed_read slice whole = rw (← read, ← raw_read size bytes mid text within long is, whole) refl

  -- that don't
  pub framed_damaged : (fault : PacketFault) → whole_of slice_at text ≡ Err fault → framed_at slice_at bytes at ≡ Err (Value at)
  unfolding framed_at
  framed_damaged fault damaged = rw (← read, ← raw_read size bytes mid text within long is, damaged) refl

  -- a slice has only so many
  pub framed_small : (slice : Slice) → IsSlice slice → text ≡ slice_bytes slice → size ≤ slice_len
  framed_small slice is_slice spelt =
      omega (arith, ap length spelt, ap length is, length-take-le size (rest_at bytes mid) long, (slice_length slice is_slice).1)
