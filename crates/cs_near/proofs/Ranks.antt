-- In an ascending list without repeats, each place has as many elements below its own as stand before it.
use Rattle.std.proofs.Common.{◌≡◌, ◌≢◌, ℕ, zero, suc, ◌<◌, ◌≤◌, Bool, true, false, List, [], ◌∷◌, length, get_or}
use Rattle.std.proofs.Common.{refl, ap, sym, ◌∙◌, arith}
use Rattle.std.specs.declared.cmp.Ordering.{Ordering}
use Rattle.std.specs.declared.cmp.Ordering.TheVariants.{Less, Equal, Greater}
use Rattle.std.specs.Cmp.{IsTotalOrder}
use Rattle.std.specs.List.{filter, AllPairs}
use Rattle.std.specs.List.Sorted.{IsSorted}
use Rattle.std.specs.Ordering.{is_lt, ordering_reverse}
use Rattle.std.proofs.lemmas.List.{get_or_default}
use Rattle.std.proofs.lemmas.List.Sorted.{sorted_far, ranks_by}

-- what passes at the first k places and nowhere else
length-filter_front : {T : Type 0} (p : T → Bool) (ts : List T) (k : ℕ) → k ≤ length ts
    → ((i : ℕ) (d : T) → i < k → p (get_or ts i d) ≡ true)
    → ((i : ℕ) (d : T) → k ≤ i → i < length ts → p (get_or ts i d) ≡ false) → length (filter p ts) ≡ k
length-filter_front p [] k le front rest = omega arith
length-filter_front p (t ∷ ts) zero le front rest =
    let no : p t ≡ false = rest 0 t (omega arith) (omega arith) in
    rw no (length-filter_front p ts 0 (omega arith) (λ i d lt. absurd (omega arith)) (λ i d ge lt. rest (suc i) d (omega arith) (omega arith)))
length-filter_front p (t ∷ ts) (suc k) le front rest =
    let yes : p t ≡ true = front 0 t (omega arith) in
    let later = length-filter_front p ts k (omega arith) (λ i d lt. front (suc i) d (omega arith)) (λ i d ge lt. rest (suc i) d (omega arith) (omega arith)) in
    rw yes (ap suc later)

module _ {K : Type 0} {cmp : K → K → Ordering} (order : IsTotalOrder cmp) (id : K → ℕ) (exact : (x y : K) → cmp x y ≡ Equal → id x ≡ id y) where
  -- of two elements with other ids one is below the other
  below-from_not_above : (x y : K) → is_lt (cmp y x) ≡ false → id x ≢ id y → is_lt (cmp x y) ≡ true
  below-from_not_above x y not_above other = go (cmp x y) refl
    where
      go : (o : Ordering) → cmp x y ≡ o → is_lt o ≡ true
      go Less e = refl
      go Equal e = absurd (other (exact x y e))
      go Greater e = (let back : cmp y x ≡ Less = order.antisymm y x ∙ ap ordering_reverse e in sym (rw back at not_above))

  -- the number of elements below that of place j
  pub below-place : (ks : List K) → IsSorted cmp ks → AllPairs (λ x y. id x ≢ id y) ks → (j : ℕ) (d : K) → j < length ks
      → length (filter (λ k. is_lt (cmp k (get_or ks j d))) ks) ≡ j
  below-place ks up distinct j d lt =
      let far = sorted_far (λ x y. is_lt (cmp x y)) (ranks_by order (λ (k : K). k)) ks up in
      let x = get_or ks j d in
      let front : (i : ℕ) (e : K) → i < j → is_lt (cmp (get_or ks i e) x) ≡ true = λ i e before. (
      let same : get_or ks i e ≡ get_or ks i d = get_or_default ks i e d (omega arith) in
      rw same (below-from_not_above (get_or ks i d) x (far i j d (omega arith) lt) (distinct i j d before lt))
      ) in
      let rest : (i : ℕ) (e : K) → j ≤ i → i < length ks → is_lt (cmp (get_or ks i e) x) ≡ false = λ i e after in_range. (
      rw (get_or_default ks i e d in_range) (far j i d after in_range)
      ) in
      length-filter_front (λ k. is_lt (cmp k x)) ks j (omega arith) front rest
