-- A list in order has the same elements.
use Rattle.std.proofs.Common.{true, false, List, [], ◌∷◌, if◌then◌else◌}
use Rattle.std.specs.List.Sorted.{IsPermutation}
use Rattle.std.specs.Ordering.{is_lt}
use Rattle.std.specs.declared.cmp.Ordering.{Ordering}
use Rattle.std.proofs.lemmas.List.Sorted.{IsPermutation-refl, IsPermutation-cons, IsPermutation-trans, IsPermutation-middle}
use Rattle.cs_tree.specs.Order.{inserted_by, sorted_by}

-- the list with one more element
IsPermutation-inserted : {T : Type 0} (compare : T → T → Ordering) (t : T) (ts : List T) → IsPermutation (t ∷ ts) (inserted_by compare t ts)
IsPermutation-inserted compare t [] = IsPermutation-refl (t ∷ [])
IsPermutation-inserted compare t (u ∷ us) =
    elim (is_lt (compare u t)) as (λ b. IsPermutation (t ∷ u ∷ us) (if b then u ∷ inserted_by compare t us else t ∷ u ∷ us)) [
      | true ↦ IsPermutation-trans (t ∷ u ∷ us) (u ∷ t ∷ us) (u ∷ inserted_by compare t us) (IsPermutation-middle (t ∷ []) u us)
          (IsPermutation-cons u (t ∷ us) (inserted_by compare t us) (IsPermutation-inserted compare t us))
      | false ↦ IsPermutation-refl (t ∷ u ∷ us)
    ]

-- and all of them
pub IsPermutation-sorted : {T : Type 0} (compare : T → T → Ordering) (ts : List T) → IsPermutation ts (sorted_by compare ts)
IsPermutation-sorted compare [] = IsPermutation-refl []
IsPermutation-sorted compare (t ∷ ts) =
    IsPermutation-trans (t ∷ ts) (t ∷ sorted_by compare ts) (sorted_by compare (t ∷ ts))
    (IsPermutation-cons t ts (sorted_by compare ts) (IsPermutation-sorted compare ts)) (IsPermutation-inserted compare t (sorted_by compare ts))
