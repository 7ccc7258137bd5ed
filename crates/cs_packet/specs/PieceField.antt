-- The field of a piece: the length of a slice, and one of the blocks that the slice is parted into.
use Rattle.std.specs.Prelude.{◌≡◌, ℕ, ◌+◌, ◌-◌, List, [], ◌∷◌, ◌++◌, length, Ok}
use Rattle.cs_base.specs.Limits.{most_piece_total}
use Rattle.cs_base.specs.Ranges.{IsFromTo}
use Rattle.cs_fields.specs.Numbers.{number_bytes, number_in, raw_at}
use Rattle.cs_fields.specs.Reading.{Reader, ◌>>=◌}
use Rattle.cs_piece.specs.Blocks.{block_len}

-- a total in four bytes, at least 1, and a block of a third of it
pub record IsPieceText (text : List ℕ) : Type 0 where
  pub total : ℕ
  pub block : List ℕ
  pub parts : text ≡ number_bytes 4 total ++ block
  pub few : IsFromTo 1 most_piece_total total
  pub third : length block ≡ block_len total

-- and how they are read
unfoldable pub piece_text_at : Reader (List ℕ)
piece_text_at bytes at = do
  total ← number_in 4 1 most_piece_total bytes at
  block ← raw_at (block_len total.0) bytes total.1
  Ok (number_bytes 4 total.0 ++ block.0, block.1)

-- the sizes of the two
abbrev pub piece_text_sizes : List ℕ → List ℕ
piece_text_sizes text = 4 ∷ (length text - 4) ∷ []

-- the most bytes of both
abbrev pub piece_text_len : ℕ
piece_text_len = 4 + block_len most_piece_total
