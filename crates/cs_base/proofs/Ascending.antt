-- Ascending lists: the order of their keys by place, what a binary search finds in them, and what an edit there gives.
use Rattle.std.proofs.Common.{◌≡◌, ℕ, zero, suc, ◌<◌, ◌≤◌, ◌≢◌, ◌==◌, List, [], ◌∷◌, length, get_or, set, take, Bool, cond, if◌then◌else◌}
use Rattle.std.proofs.Common.{◌∙◌, ◌⊎◌, ap, Some, None, Result, Ok, Err, IfOk, IfErr, true, false, refl, sym, subst, inl, inr, arith}
use Rattle.std.specs.List.{AllByRecursion, insert, remove, find, filter}
use Rattle.std.specs.List.Sorted.{IsSearchInRange, IsBinarySearchResult, IsNonDecreasingBy}
use Rattle.std.specs.Ordering.{nat_cmp, ordering_index}
use Rattle.std.proofs.lemmas.Bool.{cases_lt, cases_order, eqb-true, ne_eqb}
use Rattle.std.proofs.lemmas.Bool.Decides.{nat_tests}
use Rattle.std.proofs.lemmas.Cmp.{ranked}
use Rattle.std.proofs.lemmas.Option.{none-some, same_Some}
use Rattle.std.proofs.lemmas.List.Elements.{All-filter, All-from_recursion, recursion_from_All}
pub use Rattle.cs_base.specs.Ascending.{IsAt, IsGap}
use Rattle.cs_base.proofs.Elements.{All-take, All-weaker}
use Rattle.cs_base.specs.Ascending.{at_key, IsAscendingBy, IsOrderedBy, placed_by, without_key}

-- what holds of all holds at each place
pub All-at : {T : Type 0} (P : T → Type 0) (xs : List T) → AllByRecursion P xs → (i : ℕ) (d : T) → i < length xs → P (get_or xs i d)
All-at P [] all i d lt = absurd (omega arith)
All-at P (x ∷ xs) all zero d lt = all.0
All-at P (x ∷ xs) all (suc i) d lt = All-at P xs all.1 i d (omega arith)

-- what holds at each place holds of all
pub All-from_places : {T : Type 0} (P : T → Type 0) (xs : List T) → ((i : ℕ) (d : T) → i < length xs → P (get_or xs i d)) → AllByRecursion P xs
All-from_places P [] at = tt
All-from_places P (x ∷ xs) at = (at 0 x (omega arith), All-from_places P xs (λ i d lt. at (suc i) d (omega arith)))

-- what holds of all holds of those that are kept
pub All-of_filter : {T : Type 0} (P : T → Type 0) (p : T → Bool) (xs : List T) → AllByRecursion P xs → AllByRecursion P (filter p xs)
All-of_filter P p xs all = recursion_from_All P _ (All-filter p P xs (All-from_recursion P xs all))

module _ {T : Type 0} (key : T → ℕ) where
  -- in an ascending list the key at a later place is greater
  pub key-lt : (xs : List T) → IsAscendingBy key xs
      → (i j : ℕ) (d : T) → i < j → j < length xs → key (get_or xs i d) < key (get_or xs j d)
  key-lt [] up i j d lt in_range = absurd (omega arith)
  key-lt (x ∷ xs) up i zero d lt in_range = absurd (omega arith)
  key-lt (x ∷ xs) up zero (suc j) d lt in_range = All-at (λ y. key x < key y) xs up.0 j d (omega arith)
  key-lt (x ∷ xs) up (suc i) (suc j) d lt in_range = key-lt xs up.1 i j d (omega arith) (omega arith)

  -- a list whose keys are greater at later places is ascending
  pub IsAscendingBy-from_places : (xs : List T)
      → ((i j : ℕ) (d : T) → i < j → j < length xs → key (get_or xs i d) < key (get_or xs j d)) → IsAscendingBy key xs
  IsAscendingBy-from_places [] rise = tt
  IsAscendingBy-from_places (x ∷ xs) rise = (
    All-from_places (λ y. key x < key y) xs (λ j d lt. rise 0 (suc j) d (omega arith) (omega arith)),
    IsAscendingBy-from_places xs (λ i j d lt in_range. rise (suc i) (suc j) d (omega arith) (omega arith)),
  )

  -- in the tail, what holds a key is one place lower
  IsAt-tail : (k : ℕ) (x : T) (xs : List T) (i : ℕ) → IsAt key k (x ∷ xs) (suc i) → IsAt key k xs i
  IsAt-tail k x xs i at = record { in_range = omega (arith, at.in_range); has_key = at.has_key }

  -- and so is a gap
  IsGap-tail : (k : ℕ) (x : T) (xs : List T) (i : ℕ) → IsGap key k (x ∷ xs) (suc i) → IsGap key k xs i
  IsGap-tail k x xs i gap = record {
    in_range = omega (arith, gap.in_range);
    smaller_before = λ j d lt. gap.smaller_before (suc j) d (omega arith);
    greater_after = λ j d le lt. gap.greater_after (suc j) d (omega arith) (omega arith);
  }

  -- the first key is below that of a later place
  first-lt : (k : ℕ) (x : T) (xs : List T) (i : ℕ) → IsAscendingBy key (x ∷ xs) → IsAt key k (x ∷ xs) (suc i) → key x < k
  first-lt k x xs i up at = omega (arith, key-lt (x ∷ xs) up 0 (suc i) x (omega arith) at.in_range, at.has_key x)

  -- keys that are all greater leave a gap in front
  IsGap-front : (k : ℕ) (xs : List T) → AllByRecursion (λ y. k < key y) xs → IsGap key k xs 0
  IsGap-front k xs above = record {
    in_range = omega arith;
    smaller_before = λ j d lt. absurd (omega arith);
    greater_after = λ j d le lt. All-at (λ y. k < key y) xs above j d lt;
  }

  -- at a gap the new element goes in
  pub placed-gap : (x : T) (xs : List T) (i : ℕ) → IsGap key (key x) xs i → placed_by key x xs ≡ insert xs i x
  placed-gap x [] zero gap = refl
  placed-gap x [] (suc i) gap = absurd (omega (arith, gap.in_range))
  placed-gap x (y ∷ ys) zero gap = grind (arith, nat_tests, gap.greater_after 0 y)
  placed-gap x (y ∷ ys) (suc i) gap =
      grind (arith, nat_tests, gap.smaller_before 0 y (omega arith), placed-gap x ys i (IsGap-tail (key x) y ys i gap))

  -- where the key stands, the element is written over
  pub placed-at : (x : T) (xs : List T) (i : ℕ) → IsAscendingBy key xs → IsAt key (key x) xs i → placed_by key x xs ≡ set xs i x
  placed-at x [] i up at = absurd (omega (arith, at.in_range))
  placed-at x (y ∷ ys) zero up at = grind (arith, nat_tests, at.has_key y)
  placed-at x (y ∷ ys) (suc i) up at =
      grind (arith, nat_tests, first-lt (key x) y ys i up at, placed-at x ys i up.1 (IsAt-tail (key x) y ys i at))

  -- no element has a key for which there is a gap
  pub no_key-gap : (k : ℕ) (xs : List T) (i : ℕ) → IsGap key k xs i → (j : ℕ) (d : T) → j < length xs → key (get_or xs j d) ≢ k
  no_key-gap k xs i gap j d lt same = elim (cases_lt j i) [
    | inl before ↦ omega (arith, gap.smaller_before j d before)
    | inr after ↦ omega (arith, gap.greater_after j d after lt)
  ]

  -- where no element has the key, nothing is taken out
  pub without-absent : (k : ℕ) (xs : List T) → ((j : ℕ) (d : T) → j < length xs → key (get_or xs j d) ≢ k) → without_key key k xs ≡ xs
  without-absent k [] absent = refl
  without-absent k (y ∷ ys) absent =
      grind (arith, nat_tests, absent 0 y (omega arith), without-absent k ys (λ j d lt. absent (suc j) d (omega arith)))

  -- and nothing is found
  pub find-absent : (k : ℕ) (xs : List T) → ((j : ℕ) (d : T) → j < length xs → key (get_or xs j d) ≢ k) → find (λ y. key y == k) xs ≡ None
  find-absent k [] absent = refl
  find-absent k (y ∷ ys) absent =
      grind (arith, nat_tests, absent 0 y (omega arith), find-absent k ys (λ j d lt. absent (suc j) d (omega arith)))

  -- a list with a gap for the key has nothing to take out
  pub without-gap : (k : ℕ) (xs : List T) (i : ℕ) → IsGap key k xs i → without_key key k xs ≡ xs
  without-gap k xs i gap = without-absent k xs (no_key-gap k xs i gap)

  -- and nothing to find
  pub find-gap : (k : ℕ) (xs : List T) (i : ℕ) → IsGap key k xs i → find (λ y. key y == k) xs ≡ None
  find-gap k xs i gap = find-absent k xs (no_key-gap k xs i gap)

  -- where the key stands, its element is taken out
  pub without-at : (k : ℕ) (xs : List T) (i : ℕ) → IsAscendingBy key xs → IsAt key k xs i → without_key key k xs ≡ remove xs i
  without-at k [] i up at = absurd (omega (arith, at.in_range))
  without-at k (y ∷ ys) zero up at =
      let same : key y ≡ k = at.has_key y in
      let rest : without_key key k ys ≡ ys = without-absent k ys (λ j d lt. (let above = All-at (λ z. key y < key z) ys up.0 j d lt in λ e. omega arith)) in
      grind (arith, nat_tests)
  without-at k (y ∷ ys) (suc i) up at =
      grind (arith, nat_tests, first-lt k y ys i up at, without-at k ys i up.1 (IsAt-tail k y ys i at))

  -- where the key stands, its element is found
  pub find-at : (k : ℕ) (xs : List T) (i : ℕ) (d : T) → IsAscendingBy key xs → IsAt key k xs i → find (λ y. key y == k) xs ≡ Some (get_or xs i d)
  find-at k [] i d up at = absurd (omega (arith, at.in_range))
  find-at k (y ∷ ys) zero d up at = grind (arith, nat_tests, at.has_key y)
  find-at k (y ∷ ys) (suc i) d up at =
      grind (arith, nat_tests, first-lt k y ys i up at, find-at k ys i d up.1 (IsAt-tail k y ys i at))

  -- what holds of all and of the element that is placed holds of all then
  pub All-placed : (P : T → Type 0) (x : T) (xs : List T) → P x → AllByRecursion P xs → AllByRecursion P (placed_by key x xs)
  All-placed P x [] here all = (here, tt)
  All-placed P x (y ∷ ys) here all = grind (arith, nat_tests, All-placed P x ys here all.1)

  -- what holds of all holds of those that stay
  pub All-without : (P : T → Type 0) (k : ℕ) (xs : List T) → AllByRecursion P xs → AllByRecursion P (without_key key k xs)
  All-without P k [] all = tt
  All-without P k (y ∷ ys) all = grind (arith, nat_tests, All-without P k ys all.1)

  -- what is above the greater of two keys is above the smaller
  All-above : (k : ℕ) (y : T) (ys : List T) → k ≤ key y → AllByRecursion (λ z. key y < key z) ys → AllByRecursion (λ z. k < key z) ys
  All-above k y [] le above = tt
  All-above k y (z ∷ zs) le above = (omega (arith, above.0), All-above k y zs le above.1)

  -- a placed element keeps the order
  pub IsAscendingBy-placed : (x : T) (xs : List T) → IsAscendingBy key xs → IsAscendingBy key (placed_by key x xs)
  IsAscendingBy-placed x [] up = (tt, tt)
  IsAscendingBy-placed x (y ∷ ys) up =
      let P : List T → Type 0 = IsAscendingBy key in
      elim (cases_lt (key x) (key y)) [
        | inl below ↦
            let e : placed_by key x (y ∷ ys) ≡ x ∷ y ∷ ys = grind (arith, nat_tests) in
            subst P (sym e) ((below, All-above (key x) y ys (omega arith) up.0), up)
        | inr not_below ↦ elim (cases_lt (key y) (key x)) [
          | inl above ↦
              let e : placed_by key x (y ∷ ys) ≡ y ∷ placed_by key x ys = grind (arith, nat_tests) in
              subst P (sym e) (All-placed (λ z. key y < key z) x ys above up.0, IsAscendingBy-placed x ys up.1)
          | inr not_above ↦
              let e : placed_by key x (y ∷ ys) ≡ x ∷ ys = grind (arith, nat_tests) in
              subst P (sym e) (All-above (key x) y ys (omega arith) up.0, up.1)
        ]
      ]

  -- the elements that stay are in order
  pub IsAscendingBy-without : (k : ℕ) (xs : List T) → IsAscendingBy key xs → IsAscendingBy key (without_key key k xs)
  IsAscendingBy-without k [] up = tt
  IsAscendingBy-without k (y ∷ ys) up =
      elim (key y == k) as (λ b. IsAscendingBy key (if b then without_key key k ys else y ∷ without_key key k ys)) [
        | true ↦ IsAscendingBy-without k ys up.1
        | false ↦ (All-without (λ z. key y < key z) k ys up.0, IsAscendingBy-without k ys up.1)
      ]

  -- the comparisons with k rise along the list, as a binary search asks
  comparisons_rise : (k : ℕ) (xs : List T) → IsAscendingBy key xs → IsNonDecreasingBy (λ y. ordering_index (nat_cmp (key y) k)) xs
  comparisons_rise k xs up i j d le in_range =
      let rise : key (get_or xs i d) ≤ key (get_or xs j d) = elim (cases_lt i j) [
        | inl lt ↦ omega (arith, key-lt xs up i j d lt in_range)
        | inr ge ↦ (let same : i ≡ j = omega arith in rw same (omega arith))
      ] in
      grind (arith, nat_tests)

  -- a search by key ends at the key, or at the gap for it
  pub searched : (k : ℕ) (xs : List T) (r : Result ℕ ℕ) → IsAscendingBy key xs → IsSearchInRange r (length xs)
      → IsBinarySearchResult (λ y. nat_cmp (key y) k) xs r
      → record { found : IfOk r (IsAt key k xs); absent : IfErr r (IsGap key k xs) }
  searched k xs (Ok at) up in_range equal = record {
    found = record { in_range = in_range; has_key = λ d. ranked (key (get_or xs at d)) k _ (sym (equal d)) };
    absent = tt;
  }
  searched k xs (Err at) up in_range parted =
      let parts = parted (comparisons_rise k xs up) in
      record {
        found = tt;
        absent = record {
          in_range = in_range;
          smaller_before = λ j d lt. ranked (key (get_or xs j d)) k _ (sym (parts.0 j d (omega arith) lt));
          greater_after = λ j d le lt. ranked (key (get_or xs j d)) k _ (sym (parts.1 j d le lt));
        };
      }

  -- what is found after an element is placed
  pub find-placed : (x : T) (q : ℕ) (xs : List T)
      → find (λ y. key y == q) (placed_by key x xs) ≡ (if key x == q then Some x else find (λ y. key y == q) xs)
  find-placed x q [] = refl
  find-placed x q (y ∷ ys) = grind (arith, nat_tests, find-placed x q ys)

  -- what is found after a key is taken out
  pub find-without : (k q : ℕ) (xs : List T)
      → find (λ y. key y == q) (without_key key k xs) ≡ (if k == q then None else find (λ y. key y == q) xs)
  find-without k q [] = grind (arith, nat_tests)
  find-without k q (y ∷ ys) = grind (arith, nat_tests, find-without k q ys)

  -- what is kept of an ascending list ascends
  pub IsAscendingBy-filter : (p : T → Bool) (xs : List T) → IsAscendingBy key xs → IsAscendingBy key (filter p xs)
  IsAscendingBy-filter p [] up = tt
  IsAscendingBy-filter p (x ∷ xs) up =
      elim (p x) as (λ b. IsAscendingBy key (cond b (x ∷ filter p xs) (filter p xs))) [
        | true ↦ (All-of_filter (λ y. key x < key y) p xs up.0, IsAscendingBy-filter p xs up.1)
        | false ↦ IsAscendingBy-filter p xs up.1
      ]

  -- a front of an ascending list ascends
  pub IsAscendingBy-take : (n : ℕ) (xs : List T) → IsAscendingBy key xs → IsAscendingBy key (take n xs)
  IsAscendingBy-take zero xs up = tt
  IsAscendingBy-take (suc n) [] up = tt
  IsAscendingBy-take (suc n) (x ∷ xs) up = (All-take (λ y. key x < key y) n xs up.0, IsAscendingBy-take n xs up.1)

  module _ (IsAllowed : T → Type 0) where
    -- an ordered list with an allowed element placed is ordered
    pub IsOrderedBy-placed : (x : T) (xs : List T) → IsAllowed x → IsOrderedBy key IsAllowed xs → IsOrderedBy key IsAllowed (placed_by key x xs)
    IsOrderedBy-placed x xs here before = record {
      ascending = IsAscendingBy-placed x xs before.ascending;
      allowed = All-placed IsAllowed x xs here before.allowed;
    }

    -- and so is one without a key
    pub IsOrderedBy-without : (k : ℕ) (xs : List T) → IsOrderedBy key IsAllowed xs → IsOrderedBy key IsAllowed (without_key key k xs)
    IsOrderedBy-without k xs before = record {
      ascending = IsAscendingBy-without k xs before.ascending;
      allowed = All-without IsAllowed k xs before.allowed;
    }

    -- and what is kept of one
    pub IsOrderedBy-filter : (p : T → Bool) (xs : List T) → IsOrderedBy key IsAllowed xs → IsOrderedBy key IsAllowed (filter p xs)
    IsOrderedBy-filter p xs before = record {
      ascending = IsAscendingBy-filter p xs before.ascending;
      allowed = All-of_filter IsAllowed p xs before.allowed;
    }

    -- and a front of one
    pub IsOrderedBy-take : (n : ℕ) (xs : List T) → IsOrderedBy key IsAllowed xs → IsOrderedBy key IsAllowed (take n xs)
    IsOrderedBy-take n xs before = record {
      ascending = IsAscendingBy-take n xs before.ascending;
      allowed = All-take IsAllowed n xs before.allowed;
    }

-- where every key is above, none is the key
pub at_key-above : {T : Type 0} (key : T → ℕ) (k : ℕ) (xs : List T) → AllByRecursion (λ x. k < key x) xs → at_key key k xs ≡ None
at_key-above key k [] above = refl
at_key-above key k (x ∷ xs) above =
    let differs : (key x == k) ≡ false = ne_eqb (key x) k (λ e. omega (arith, e, above.0)) in
    rw differs (at_key-above key k xs above.1)

-- the first element is the one with its key
pub at_key-first : {T : Type 0} (key : T → ℕ) (x : T) (xs : List T) → at_key key (key x) (x ∷ xs) ≡ Some x
at_key-first key x xs = grind (arith, nat_tests)

-- and no element of an ascending list has a key below that of the first
at_key-below : {T : Type 0} (key : T → ℕ) (x y : T) (ys : List T) → key x < key y → IsAscendingBy key (y ∷ ys)
    → at_key key (key x) (y ∷ ys) ≡ None
at_key-below key x y ys below up =
    at_key-above key (key x) (y ∷ ys)
    (below, All-weaker (λ z. key y < key z) (λ z. key x < key z) (λ z above. omega (arith, below, above)) ys up.0)

-- of the elements behind the first none has its key
at_key-rest : {T : Type 0} (key : T → ℕ) (x : T) (xs ys : List T)
    → IsAscendingBy key (x ∷ xs) → IsAscendingBy key (x ∷ ys)
    → ((k : ℕ) → at_key key k (x ∷ xs) ≡ at_key key k (x ∷ ys)) → (k : ℕ) → at_key key k xs ≡ at_key key k ys
at_key-rest key x xs ys up_x up_y same k = by_key (key x == k) refl
  where
    by_key : (b : Bool) → (key x == k) ≡ b → at_key key k xs ≡ at_key key k ys
    by_key true e =
        let is : key x ≡ k = eqb-true (key x) k e in
        at_key-above key k xs (subst (λ n. AllByRecursion (λ y. n < key y) xs) is up_x.0)
        ∙ sym (at_key-above key k ys (subst (λ n. AllByRecursion (λ y. n < key y) ys) is up_y.0))
    by_key false e = subst (λ b. cond b (Some x) (at_key key k xs) ≡ cond b (Some x) (at_key key k ys)) e (same k)

-- ascending lists with the same element at each key are the same
pub same_at_keys : {T : Type 0} (key : T → ℕ) (xs ys : List T) → IsAscendingBy key xs → IsAscendingBy key ys
    → ((k : ℕ) → at_key key k xs ≡ at_key key k ys) → xs ≡ ys
same_at_keys key [] [] up_x up_y same = refl
same_at_keys key [] (y ∷ ys) up_x up_y same = absurd (none-some y (same (key y) ∙ at_key-first key y ys))
same_at_keys key (x ∷ xs) [] up_x up_y same = absurd (none-some x (sym (same (key x)) ∙ at_key-first key x xs))
same_at_keys key (x ∷ xs) (y ∷ ys) up_x up_y same =
    by_order (same_at_keys key xs ys up_x.1 up_y.1) (cases_order (key x) (key y))
  where
    by_order : (((k : ℕ) → at_key key k xs ≡ at_key key k ys) → xs ≡ ys)
        → (key x ≡ key y) ⊎ ((key x < key y) ⊎ (key y < key x)) → x ∷ xs ≡ y ∷ ys
    by_order rest (inl e) =
        let is : x ≡ y =
        same_Some x y (sym (at_key-first key x xs) ∙ (same (key x) ∙ (ap (λ k. at_key key k (y ∷ ys)) e ∙ at_key-first key y ys))) in
        let up : IsAscendingBy key (x ∷ ys) = subst (λ z. IsAscendingBy key (z ∷ ys)) (sym is) up_y in
        let alike : (k : ℕ) → at_key key k (x ∷ xs) ≡ at_key key k (x ∷ ys) =
        λ k. same k ∙ ap (λ z. at_key key k (z ∷ ys)) (sym is) in
        ap (λ zs. x ∷ zs) (rest (at_key-rest key x xs ys up_x up alike))
        ∙ ap (λ z. z ∷ ys) is
    by_order rest (inr (inl below)) =
        absurd (none-some x (sym (at_key-below key x y ys below up_y) ∙ (sym (same (key x)) ∙ at_key-first key x xs)))
    by_order rest (inr (inr above)) =
        absurd (none-some y (sym (at_key-below key y x xs above up_x) ∙ (same (key y) ∙ at_key-first key y ys)))
