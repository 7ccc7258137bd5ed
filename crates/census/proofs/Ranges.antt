use Rattle.std.proofs.Common.{◌≡◌, ℕ, ◌+◌, List, [], ◌∷◌, ◌++◌, Option, Some, None, Bool, map, refl, ap, sym, ◌∙◌}
use Rattle.std.specs.Prelude.{filter}
use Rattle.std.specs.List.{filter_map, range_with_len}
use Rattle.std.specs.Option.{option_to_list}
use Rattle.std.proofs.lemmas.List.Elements.{filter-append, filter_map-append}
use Rattle.std.proofs.lemmas.List.FromFn.{map-range_with_len_more}

-- the numbers themselves
same : {A : Type 0} (xs : List A) → map (λ x. x) xs ≡ xs
same [] = refl
same (x ∷ xs) = ap (λ more. x ∷ more) (same xs)

-- one number more
pub range-more : (a n : ℕ) → range_with_len a (n + 1) ≡ range_with_len a n ++ (a + n) ∷ []
range-more a n =
    sym (same (range_with_len a (n + 1))) ∙ map-range_with_len_more (λ x. x) a n (a + n) refl ∙ ap (λ xs. xs ++ (a + n) ∷ []) (same (range_with_len a n))

module _ {A : Type 0} (h : ℕ → Option A) (p : A → Bool) where
  -- what is found at one number
  found-one : (n : ℕ) → filter_map h (n ∷ []) ≡ option_to_list (h n)
  found-one n = elim (h n) as (λ o. filter_map (λ (k : ℕ). o) (n ∷ []) ≡ option_to_list o) [ None ↦ refl | Some x ↦ refl ]

  -- one number more adds those that are found at it
  pub found-more : (a n : ℕ) → filter p (filter_map h (range_with_len a (n + 1)))
      ≡ filter p (filter_map h (range_with_len a n)) ++ filter p (option_to_list (h (a + n)))
  found-more a n =
      ap (λ xs. filter p (filter_map h xs)) (range-more a n) ∙ ap (filter p) (filter_map-append h (range_with_len a n) ((a + n) ∷ []))
      ∙ filter-append p (filter_map h (range_with_len a n)) (filter_map h ((a + n) ∷ []))
      ∙ ap (λ xs. filter p (filter_map h (range_with_len a n)) ++ filter p xs) (found-one (a + n))
