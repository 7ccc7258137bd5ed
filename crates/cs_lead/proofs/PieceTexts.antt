-- The pieces of a slice can stand in a packet.
use Rattle.std.proofs.Common.{◌≡◌, ℕ, zero, suc, ◌<◌, ◌≤◌, List, [], ◌∷◌, ◌++◌, length, sum, refl, arith}
use Rattle.cs_base.specs.Limits.{colours, most_piece_total}
use Rattle.cs_fields.specs.Numbers.{number_bytes}
use Rattle.cs_fields.proofs.Codec.{sum-append}
use Rattle.cs_item.specs.SliceField.{IsSlice, head_sizes, part_sizes, slice_bytes, slice_sizes}
use Rattle.cs_item.specs.declared.slice.Slice.{Slice}
use Rattle.cs_item.proofs.SliceLaws.{slice_codec, slice_size}
use Rattle.cs_packet.specs.PieceField.{IsPieceText}
use Rattle.cs_piece.specs.Blocks.{block, block_len, piece_of}
use Rattle.cs_piece.proofs.Pieces.{blocks-even}

-- each block is a third of the bytes
length-block : (bytes : List ℕ) (colour : ℕ) → colour < colours → length (block bytes colour) ≡ block_len (length bytes)
length-block bytes zero lt = (blocks-even bytes).first
length-block bytes (suc zero) lt = (blocks-even bytes).second
length-block bytes (suc (suc zero)) lt = (blocks-even bytes).third
length-block bytes (suc (suc (suc zero))) lt = (blocks-even bytes).fourth
length-block bytes (suc (suc (suc (suc c)))) lt = absurd (omega arith)

-- the pieces of some bytes are texts
IsPieceText-piece : (bytes : List ℕ) (colour : ℕ) → colour < colours → 1 ≤ length bytes → length bytes ≤ most_piece_total
    → IsPieceText (piece_of bytes colour)
unfolding piece_of number_bytes
IsPieceText-piece bytes colour lt some few = record {
  total = length bytes;
  block = block bytes colour;
  parts = refl;
  few = (some, few);
  third = length-block bytes colour lt;
}

-- and so are those of a slice
pub IsPieceText-slice : (s : Slice) (colour : ℕ) → IsSlice s → colour < colours → IsPieceText (piece_of (slice_bytes s) colour)
IsPieceText-slice s colour is lt =
    let long : sum (slice_sizes s) ≡ length (slice_bytes s) = slice_codec.sized s is in
    let parts = sum-append (4 ∷ 4 ∷ []) (head_sizes s.head ++ part_sizes s.part) in
    IsPieceText-piece (slice_bytes s) colour lt (omega (arith, long, parts)) (omega (arith, long, slice_size s is))
