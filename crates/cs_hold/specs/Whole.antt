-- The bytes of a region with four pieces, and the least such region.
use Rattle.std.specs.Prelude.{ℕ, ◌==◌, Bool, List, ◌∷◌, length, map, Option, None}
use Rattle.std.specs.List.{find}
use Rattle.std.specs.Result.{result_ok}
use Rattle.cs_hold.specs.Held.{Held, of_region}
use Rattle.cs_piece.specs.Joining.{joined}

-- the bytes that three or more pieces give: the first three are those of the colours 0, 1 and 2
abbrev pub given_by : List (ℕ × List ℕ) → Option (List ℕ)
given_by (x ∷ y ∷ z ∷ pieces) = result_ok (joined 0 x.1 1 y.1 2 z.1)
given_by pieces = None

-- the bytes of a region with four pieces
abbrev pub whole_in : ℕ → List Held → Option (List ℕ)
whole_in region held = given_by (of_region region held)

-- whether a region has four pieces
abbrev pub is_whole_in : List Held → ℕ → Bool
is_whole_in held region = length (of_region region held) == 4

-- the first region with four pieces, in the order in which the pieces stand
abbrev pub least_whole : List Held → Option ℕ
least_whole held = find (is_whole_in held) (map (λ h. h.region) held)
