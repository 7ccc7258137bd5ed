-- Held pieces: a list that ascends by region, and within a region by colour.
use Rattle.std.specs.Prelude.{ℕ, ◌+◌, ◌*◌, ◌==◌, nat_lt, List, [], ◌++◌, map, filter, Option}
use Rattle.std.specs.List.{flat_map}
use Rattle.std.specs.Option.{option_map, option_map_or}
use Rattle.cs_base.specs.Ascending.{at_key, IsAscendingBy}
use Rattle.cs_base.specs.Limits.{colours}
use Rattle.cs_hold.specs.Pieces.{ArePieces, colour_of}

-- a piece that is held
pub record Held : Type 0 where
  pub region : ℕ
  pub colour : ℕ
  pub bytes : List ℕ

-- the pieces of a region, each with its colour
abbrev pub of_region : ℕ → List Held → List (ℕ × List ℕ)
of_region region held = map (λ h. (h.colour, h.bytes)) (filter (λ h. h.region == region) held)

-- the bytes of a piece
abbrev pub piece_in : ℕ → ℕ → List Held → Option (List ℕ)
piece_in region colour held = option_map (λ piece. piece.1) (at_key colour_of colour (of_region region held))

-- pieces as those of a region
abbrev pub in_region : ℕ → List (ℕ × List ℕ) → List Held
in_region region pieces = map (λ piece. record { region = region; colour = piece.0; bytes = piece.1 }) pieces

-- these pieces in the place of those of a region
abbrev pub with_region : ℕ → List (ℕ × List ℕ) → List Held → List Held
with_region region pieces held =
    filter (λ h. nat_lt h.region region) held ++ in_region region pieces ++ filter (λ h. nat_lt region h.region) held

-- where a piece stands in the order
abbrev pub order_of : Held → ℕ
order_of h = colours * h.region + h.colour

-- the list ascends, and each region has 0, 1, 2 or 4 pieces
pub record IsHold (held : List Held) : Type 0 where
  pub ascending : IsAscendingBy order_of held
  pub regions : (region : ℕ) → ArePieces (of_region region held)

-- the region of a shelf, by which shelves ascend
abbrev pub region_of : ℕ × List (ℕ × List ℕ) → ℕ
region_of shelf = shelf.0

-- the pieces on a shelf
abbrev pub on_shelf : ℕ × List (ℕ × List ℕ) → List Held
on_shelf shelf = in_region shelf.0 shelf.1

-- the pieces on all shelves
abbrev pub on_shelves : List (ℕ × List (ℕ × List ℕ)) → List Held
on_shelves shelves = flat_map on_shelf shelves

-- the pieces of a region, by the shelves
abbrev pub pieces_at : ℕ → List (ℕ × List (ℕ × List ℕ)) → List (ℕ × List ℕ)
pieces_at region shelves = option_map_or (λ shelf. shelf.1) (at_key region_of region shelves) []
