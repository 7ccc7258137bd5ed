-- Lists of a known length are their entries.
use Rattle.std.proofs.Common.{◌≡◌, ℕ, List, [], ◌∷◌, length, slice_index_or, refl, arith}

pub four_entries : (xs : List ℕ) → length xs ≡ 4
    → slice_index_or xs 0 0 ∷ slice_index_or xs 1 0 ∷ slice_index_or xs 2 0 ∷ slice_index_or xs 3 0 ∷ [] ≡ xs
four_entries (a ∷ b ∷ c ∷ d ∷ []) e = refl
four_entries [] e = absurd (omega arith)
four_entries (a ∷ []) e = absurd (omega arith)
four_entries (a ∷ b ∷ []) e = absurd (omega arith)
four_entries (a ∷ b ∷ c ∷ []) e = absurd (omega arith)
four_entries (a ∷ b ∷ c ∷ d ∷ f ∷ xs) e = absurd (omega arith)
