-- The regions and the colours of the pieces on shelves.
use Rattle.std.proofs.Common.{◌≡◌, ℕ, ◌+◌, ◌<◌, List, [], ◌∷◌, ◌++◌, get_or, length, map, take, refl, ap, ◌∙◌}
use Rattle.std.specs.List.{flat_map}
use Rattle.std.proofs.lemmas.Grind.{flat_map-append}
use Rattle.std.proofs.lemmas.List.{append-nil, map-append, take_more}
use Rattle.cs_hold.specs.Held.{Held, in_region, on_shelf, on_shelves}

-- the region and the colour of a piece
abbrev pub name_of : Held → ℕ × ℕ
name_of h = (h.region, h.colour)

-- and of one of a region
abbrev pub name_in : ℕ → ℕ × List ℕ → ℕ × ℕ
name_in region piece = (region, piece.0)

-- those of each piece on a shelf
abbrev pub names_on : ℕ × List (ℕ × List ℕ) → List (ℕ × ℕ)
names_on shelf = map (name_in shelf.0) shelf.1

-- they are those of its pieces as held ones
names-in_region : (region : ℕ) (pieces : List (ℕ × List ℕ)) → map name_of (in_region region pieces) ≡ map (name_in region) pieces
names-in_region region [] = refl
names-in_region region (p ∷ ps) = ap (λ rest. name_in region p ∷ rest) (names-in_region region ps)

-- and so of all shelves
pub names-on_shelves : (shelves : List (ℕ × List (ℕ × List ℕ))) → map name_of (on_shelves shelves) ≡ flat_map names_on shelves
names-on_shelves [] = refl
names-on_shelves (s ∷ ss) =
    map-append name_of (on_shelf s) (on_shelves ss)
    ∙ λ j. names-in_region s.0 s.1 j ++ names-on_shelves ss j

-- one shelf more has the names on it behind
pub names-more : (shelves : List (ℕ × List (ℕ × List ℕ))) (i : ℕ) (d : ℕ × List (ℕ × List ℕ)) → i < length shelves
    → flat_map names_on (take (i + 1) shelves) ≡ flat_map names_on (take i shelves) ++ names_on (get_or shelves i d)
names-more shelves i d lt =
    ap (flat_map names_on) (take_more shelves i d lt)
    ∙ flat_map-append names_on (take i shelves) (get_or shelves i d ∷ [])
    ∙ ap (λ names. flat_map names_on (take i shelves) ++ names) (append-nil (names_on (get_or shelves i d)))
