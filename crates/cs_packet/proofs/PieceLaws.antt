-- The laws of a piece.
use Rattle.std.proofs.Common.{◌≡◌, ℕ, ◌+◌, ◌-◌, ◌<◌, ◌≤◌, List, [], ◌∷◌, ◌++◌, length, take, drop, Ok, Err}
use Rattle.std.proofs.Common.{refl, ap, subst, ◌∙◌, append_assoc, arith}
use Rattle.std.specs.Prelude.{sum}
use Rattle.std.proofs.Math.Seq.{take-append-add}
use Rattle.std.proofs.lemmas.List.{length-append}
use Rattle.cs_base.specs.Limits.{most_piece_total}
use Rattle.cs_fields.specs.declared.fault.PacketFault.TheVariants.{Short}
use Rattle.cs_fields.specs.Reading.{◌>>=◌, IsSpelt}
use Rattle.cs_fields.specs.Numbers.{number_bytes, number_in, raw_at}
use Rattle.cs_fields.proofs.Codec.{bind_ok, drop_behind, IsCodec, IsSpelt-then, short_then}
use Rattle.cs_fields.proofs.Raw.{raw_codec, raw_long, raw_short}
use Rattle.cs_fields.proofs.Numbers.{length-number_bytes, number_in_codec}
use Rattle.cs_piece.specs.Blocks.{block_len}
use Rattle.cs_packet.specs.PieceField.{IsPieceText, piece_text_at, piece_text_len, piece_text_sizes}

-- a block has a byte
some_block : (total : ℕ) → 1 ≤ total → 0 < block_len total
some_block total some = omega arith

-- the sizes of the total and of the block
piece_parts : (text : List ℕ) → (is : IsPieceText text) → (length text ≡ 4 + length is.block) × (length text - 4 ≡ block_len is.total)
piece_parts text is =
    let all : length text ≡ 4 + length is.block =
    omega (arith, ap length is.parts, length-append (number_bytes 4 is.total) is.block, length-number_bytes 4 is.total) in
    (all, omega (arith, all, is.third))

pub piece_text_codec : IsCodec piece_text_at (λ text. text) piece_text_sizes IsPieceText
unfolding piece_text_at
piece_text_codec =
    let number = number_in_codec 4 1 most_piece_total (omega arith) (omega arith) in
    record {
      found = λ bytes at y are_bytes within e.
          let step = bind_ok (number_in 4 1 most_piece_total bytes at)
          (λ total. raw_at (block_len total.0) bytes total.1 >>= λ block. Ok (number_bytes 4 total.0 ++ block.0, block.1)) y e in
          let total = step.0 in
          let one = number.found bytes at total are_bytes within step.1 in
          let last = bind_ok (raw_at (block_len total.0) bytes total.1) (λ block. Ok (number_bytes 4 total.0 ++ block.0, block.1)) y step.2 in
          let block = last.0 in
          let two = (raw_codec (block_len total.0) (some_block total.0 one.0.0)).found bytes total.1 block are_bytes one.1.within last.1 in
          let is : (number_bytes 4 total.0 ++ block.0, block.1) ≡ y = cc in
          let text : IsPieceText (number_bytes 4 total.0 ++ block.0) =
          record { total = total.0; block = block.0; parts = refl; few = one.0; third = two.0 } in
          subst (λ (x : List ℕ × ℕ). IsPieceText x.0 × IsSpelt bytes at x.0 x.1) is
          (text, IsSpelt-then bytes at (number_bytes 4 total.0) total.1 block.0 block.1 one.1 two.1);
      only = λ bytes at v rest allowed e.
          let s = number_bytes 4 allowed.total in
          let grouped : drop at bytes ≡ s ++ (allowed.block ++ rest) = rw allowed.parts at e ∙ append_assoc s allowed.block rest in
          let one = number.only bytes at allowed.total (allowed.block ++ rest) allowed.few grouped in
          let mid = at + length s in
          let law = raw_codec (block_len allowed.total) (some_block allowed.total allowed.few.0) in
          let two = law.only bytes mid allowed.block rest allowed.third (drop_behind bytes at s (allowed.block ++ rest) grouped) in
          let place : mid + length allowed.block ≡ at + length v = omega (arith, length-append s allowed.block, ap length allowed.parts) in
          rw (one, two, place, ← allowed.parts) refl;
      sized = λ v allowed. omega (arith, (piece_parts v allowed).0);
      short = λ bytes at v n allowed within lt e.
          let s = number_bytes 4 allowed.total in
          let law = raw_codec (block_len allowed.total) (some_block allowed.total allowed.few.0) in
          let lower : n < length (s ++ allowed.block) = omega (arith, ap length allowed.parts) in
          short_then number (λ total. raw_at (block_len total.0) bytes total.1 >>= λ block. Ok (number_bytes 4 total.0 ++ block.0, block.1))
          allowed.total allowed.block ((length v - 4) ∷ []) bytes at n allowed.few within lower (e ∙ ap (take n) allowed.parts)
          (λ k ends small cut. rw (law.short bytes (at + length s) allowed.block k allowed.third ends small cut, (piece_parts v allowed).1) refl);
    }

pub piece_text_size : (text : List ℕ) → IsPieceText text → sum (piece_text_sizes text) ≤ piece_text_len
piece_text_size text is = omega (arith, (piece_parts text is).1, is.few.1)

-- ---- what the code reads
-- a text and so many bytes behind it, in one
both_texts : (bytes : List ℕ) (at : ℕ) (s : List ℕ) (mid n : ℕ) → IsSpelt bytes at s mid → take (mid + n - at) (drop at bytes) ≡ s ++ take n (drop mid bytes)
both_texts bytes at s mid n spelt =
    let size : mid + n - at ≡ length s + n = omega (arith, spelt.ends) in
    rw (size, spelt.parts) (take-append-add s (drop mid bytes) n)

-- the total, and the block behind it
pub piece_read : (bytes : List ℕ) (at total mid size : ℕ) → Ok (total, mid) ≡ number_in 4 1 most_piece_total bytes at
    → IsSpelt bytes at (number_bytes 4 total) mid → size ≡ block_len total → mid + size ≤ length bytes
    → piece_text_at bytes at ≡ Ok (take (mid + size - at) (drop at bytes), mid + size)
unfolding piece_text_at
piece_read bytes at total mid size read spelt third long =
    let raw = raw_long (block_len total) bytes mid (omega (arith, third)) in
    rw (← read, raw, third, both_texts bytes at (number_bytes 4 total) mid (block_len total) spelt) refl

-- and where the bytes end within the block
pub piece_ended : (bytes : List ℕ) (at total mid size : ℕ) → Ok (total, mid) ≡ number_in 4 1 most_piece_total bytes at
    → size ≡ block_len total → length bytes < mid + size → piece_text_at bytes at ≡ Err (Short mid)
unfolding piece_text_at
piece_ended bytes at total mid size read third short = rw (← read, raw_short (block_len total) bytes mid (omega (arith, third))) refl
