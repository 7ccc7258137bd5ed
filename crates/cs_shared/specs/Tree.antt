-- A tree as a list: its elements, from the first to the last.
use Rattle.std.specs.Prelude.{ℕ, Bool, ◌&&◌, nat_le, List, [], ◌∷◌, ◌++◌}
use Rattle.cs_shared.specs.declared.tree.Tree.{Tree}
use Rattle.cs_shared.specs.declared.tree.Tree.TheVariants.{Empty, Fork'}

-- a fork's value stands between the elements of its two trees
abbrev pub elements : {T : Type 0} → Tree T → List T
elements Empty = []
elements (Fork' p left value height right) = elements left ++ value ∷ elements right

-- whether the rank is from the low to the high number
abbrev pub is_from_to : {T : Type 0} → (T → ℕ) → ℕ → ℕ → T → Bool
is_from_to rank low high x = nat_le low (rank x) && nat_le (rank x) high
