-- Where the node of an id sits.
use Rattle.std.specs.Prelude.{◌≡◌, ℕ, List, slice_get, Option, Some}

-- each id has its place noted; what is noted for any other id tells nothing
abbrev pub ArePlaced : List ℕ → (ℕ → Option ℕ) → Type 0
ArePlaced ids place_of = (place id : ℕ) → slice_get ids place ≡ Some id → place_of id ≡ Some place
