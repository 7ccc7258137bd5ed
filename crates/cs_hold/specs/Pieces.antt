-- The pieces of one region, each with its colour.
use Rattle.std.specs.Prelude.{◌≡◌, ℕ, ◌^◌, ◌<◌, List, [], ◌∷◌, length, Result, Ok, Err}
use Rattle.std.specs.List.{AllByRecursion}
use Rattle.cs_base.specs.Ascending.{IsAscendingBy, placed_by}
use Rattle.cs_base.specs.Limits.{colours}
use Rattle.cs_piece.specs.Blocks.{piece_of}
use Rattle.cs_piece.specs.Joining.{joined}
use Rattle.cs_piece.specs.declared.fault.PieceFault.{PieceFault}

-- the colour of a piece
abbrev pub colour_of : ℕ × List ℕ → ℕ
colour_of piece = piece.0

-- the four pieces of some bytes
abbrev pub four_of : List ℕ → List (ℕ × List ℕ)
four_of bytes = (0, piece_of bytes 0) ∷ (1, piece_of bytes 1) ∷ (2, piece_of bytes 2) ∷ (3, piece_of bytes 3) ∷ []

-- these are all four pieces of some bytes
pub record AreWhole (pieces : List (ℕ × List ℕ)) : Type 0 where
  pub bytes : List ℕ
  pub few : length bytes < 2 ^ 32
  pub all : pieces ≡ four_of bytes

-- at most two pieces of different colours, or all four of some bytes
pub record ArePieces (pieces : List (ℕ × List ℕ)) : Type 0 where
  pub ascending : IsAscendingBy colour_of pieces
  pub allowed : AllByRecursion (λ piece. colour_of piece < colours) pieces
  pub whole : 2 < length pieces → AreWhole pieces

-- the four pieces of the bytes that were joined
abbrev pub four_from : Result (List ℕ) PieceFault → Result (List (ℕ × List ℕ)) PieceFault
four_from (Ok bytes) = Ok (four_of bytes)
four_from (Err fault) = Err fault

-- the pieces of a region after one more came; where it is the third, all four of the bytes that the three give
abbrev pub gained : ℕ → List ℕ → List (ℕ × List ℕ) → Result (List (ℕ × List ℕ)) PieceFault
gained colour bytes (x ∷ y ∷ []) = four_from (joined colour bytes x.0 x.1 y.0 y.1)
gained colour bytes pieces = Ok (placed_by colour_of (colour, bytes) pieces)
