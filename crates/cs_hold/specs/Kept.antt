-- What is new where a piece or a slice comes, and what is as before.
use Rattle.std.specs.Prelude.{◌≡◌, ◌≢◌, ℕ, ◌^◌, ◌<◌, ◌≤◌, List, [], ◌∷◌, length, Some, None, IsSome, Ok}
use Rattle.std.specs.List.{AllByRecursion}
use Rattle.cs_base.specs.Ascending.{at_key, placed_by}
use Rattle.cs_hold.specs.Held.{Held, IsHold, of_region, piece_in}
use Rattle.cs_hold.specs.Pieces.{colour_of, four_of}
use Rattle.cs_piece.specs.Blocks.{piece_of}
use Rattle.cs_piece.specs.Joining.{joined}

-- all regions but this one are as before
abbrev pub AreOthersKept : ℕ → List Held → List Held → Type 0
AreOthersKept region held next = (other : ℕ) → other ≢ region → of_region other next ≡ of_region other held

-- to two pieces a third came: then they are the four pieces of the bytes that the three give
pub record IsCompleted (colour : ℕ) (bytes : List ℕ) (before after : List (ℕ × List ℕ)) : Type 0 where
  pub x : ℕ × List ℕ
  pub y : ℕ × List ℕ
  pub whole : List ℕ
  pub two : before ≡ x ∷ y ∷ []
  pub few : length whole < 2 ^ 32
  pub joins : joined colour bytes x.0 x.1 y.0 y.1 ≡ Ok whole
  pub four : after ≡ four_of whole

-- among the pieces of a region is the one that came, and so is each that was there before
pub record HasAll (colour : ℕ) (bytes : List ℕ) (before after : List (ℕ × List ℕ)) : Type 0 where
  pub there : at_key colour_of colour after ≡ Some (colour, bytes)
  pub kept : (c : ℕ) (piece : ℕ × List ℕ) → at_key colour_of c before ≡ Some piece
      → at_key colour_of c after ≡ Some piece

-- the hold after a piece came: the same if its colour was there, else with the piece, or with all four where it is
-- the third of its region
pub record Takes (region colour : ℕ) (bytes : List ℕ) (held next : List Held) : Type 0 where
  pub hold : IsHold next
  pub others : AreOthersKept region held next
  pub already : IsSome (piece_in region colour held) → next ≡ held
  pub first : piece_in region colour held ≡ None → length (of_region region held) < 2
      → of_region region next ≡ placed_by colour_of (colour, bytes) (of_region region held)
  pub few : piece_in region colour held ≡ None → length (of_region region held) < 2
      → length (of_region region next) ≤ 2
  pub third : piece_in region colour held ≡ None → 2 ≤ length (of_region region held)
      → IsCompleted colour bytes (of_region region held) (of_region region next)

-- the piece that came is there with its bytes, and so is each piece of its region that was there before
pub record KeepsPieces (region colour : ℕ) (bytes : List ℕ) (held next : List Held) : Type 0 where
  pub there : piece_in region colour held ≡ None → piece_in region colour next ≡ Some bytes
  pub kept : (c : ℕ) (b : List ℕ) → piece_in region c held ≡ Some b → piece_in region c next ≡ Some b

-- the hold after a slice came: with the four pieces of the slice, unless the region had four
pub record TakesSlice (region : ℕ) (bytes : List ℕ) (held next : List Held) : Type 0 where
  pub hold : IsHold next
  pub others : AreOthersKept region held next
  pub whole : length (of_region region held) ≢ 4 → of_region region next ≡ four_of bytes
  pub already : length (of_region region held) ≡ 4 → next ≡ held

-- these are bytes
abbrev pub AreBytes : List ℕ → Type 0
AreBytes bytes = AllByRecursion (λ b. b < 256) bytes

-- each of these pieces is that of its colour of some bytes
abbrev pub ArePiecesOf : List ℕ → List (ℕ × List ℕ) → Type 0
ArePiecesOf whole pieces = AllByRecursion (λ piece. piece.1 ≡ piece_of whole piece.0) pieces
