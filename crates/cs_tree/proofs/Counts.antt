-- How often a key stands among some keys, and among those of some elements.
use Rattle.std.proofs.Common.{◌≡◌, ◌≢◌, ℕ, zero, suc, ◌+◌, ◌<◌, ◌≤◌, ◌==◌, Bool, true, false, cond, List, [], ◌∷◌, length, map, Contains}
use Rattle.std.proofs.Common.{refl, sym, subst, ap, ◌∙◌, inl, inr, if◌then◌else◌, add-one, arith}
use Rattle.std.specs.List.{count_by, sum_by, AllByRecursion}
use Rattle.std.proofs.lemmas.Bool.{eqb-true, eq-eqb, cases_eq, ne_eqb}
use Rattle.std.proofs.lemmas.List.Sums.{sum_by-cons}
use Rattle.cs_base.specs.Ascending.{IsAscendingBy, IsDistinctBy, without_key}

-- a list that is no longer than the empty one
pub nil-short : {T : Type 0} (ts : List T) → length ts ≤ 0 → ts ≡ []
nil-short [] short = refl
nil-short (t ∷ ts) short = absurd (omega arith)

-- how often a key stands in a list
abbrev pub count : ℕ → List ℕ → ℕ
count k ks = count_by (λ n. n == k) ks

-- one for the key itself
abbrev pub here : ℕ → ℕ → ℕ
here root k = cond (root == k) 1 0

-- the first element stands in the list
pub Contains-first : {T : Type 0} (t : T) (ts : List T) → Contains (t ∷ ts) t
Contains-first t ts = (0, omega arith, refl)

-- and so does one of the rest
pub Contains-rest : {T : Type 0} (t : T) (ts : List T) (u : T) → Contains ts u → Contains (t ∷ ts) u
Contains-rest t ts u has = (has.0 + 1, omega (arith, has.1), rw add-one has.2)

-- a counted element stands in the list
pub Contains-counted : {T : Type 0} (p : T → Bool) (ts : List T) → 0 < count_by p ts → (t : T) × Contains ts t × (p t ≡ true)
Contains-counted p [] some = absurd (omega arith)
Contains-counted {T} p (t ∷ ts) some = go (p t) refl (Contains-counted p ts)
  where
    go : (b : Bool) → p t ≡ b → (0 < count_by p ts → (u : T) × Contains ts u × (p u ≡ true)) → (u : T) × Contains (t ∷ ts) u × (p u ≡ true)
    go true e later = (t, Contains-first t ts, e)
    go false e later =
        let fewer : count_by p (t ∷ ts) ≡ count_by p ts = sum_by-cons (λ x. cond (p x) 1 0) t ts ∙ rw e (omega arith) in
        let found = later (omega arith) in
        (found.0, Contains-rest t ts found.0 found.1, found.2)

-- an element that stands in the list is counted
pub counted-Contains : {T : Type 0} (p : T → Bool) (ts : List T) (t : T) → Contains ts t → p t ≡ true → 0 < count_by p ts
counted-Contains p [] t has passes = absurd (omega (arith, has.1))
counted-Contains p (u ∷ us) t (zero, lt, is) passes =
    let more = sum_by-cons (λ x. cond (p x) 1 0) u us in
    let passes_here : p u ≡ true = ap p is ∙ passes in
    let one : cond {A = ℕ} (p u) 1 0 ≡ 1 = rw passes_here refl in
    omega arith
counted-Contains p (u ∷ us) t (suc i, lt, is) passes =
    let more = sum_by-cons (λ x. cond (p x) 1 0) u us in
    omega (arith, counted-Contains p us t (i, omega arith, is) passes)

-- the key that is counted stands in the list
pub Contains-count : (k : ℕ) (ks : List ℕ) → 0 < count k ks → Contains ks k
Contains-count k ks some =
    let found = Contains-counted (λ n. n == k) ks some in
    subst (Contains ks) (eqb-true found.0 k found.2) found.1

-- and the other way round
pub count-Contains : (k : ℕ) (ks : List ℕ) → Contains ks k → 0 < count k ks
count-Contains k ks has = counted-Contains (λ n. n == k) ks k has (eq-eqb k k refl)

-- a sum over what is read off some elements
pub sum_by-map : {S T : Type 0} (f : T → ℕ) (g : S → T) (ss : List S) → sum_by f (map g ss) ≡ sum_by (λ s. f (g s)) ss
sum_by-map f g [] = refl
sum_by-map f g (s ∷ ss) =
    sum_by-cons f (g s) (map g ss) ∙ (ap (λ n. f (g s) + n) (sum_by-map f g ss) ∙ sym (sum_by-cons (λ x. f (g x)) s ss))

module _ {T : Type 0} (key : T → ℕ) where
  -- how often a key stands among those of some elements
  abbrev pub count_of : ℕ → List T → ℕ
  count_of k ts = count_by (λ t. key t == k) ts

  -- the same in the list of their keys
  pub count-map : (k : ℕ) (ts : List T) → count k (map key ts) ≡ count_of k ts
  count-map k ts = sum_by-map (λ n. here n k) key ts

  -- no key stands there twice
  abbrev pub AreDistinct : List T → Type 0
  AreDistinct ts = (k : ℕ) → count_of k ts ≤ 1

  -- where no element has the key it isn't counted
  count_of-none : (k : ℕ) (ts : List T) → AllByRecursion (λ t. k ≢ key t) ts → count_of k ts ≡ 0
  count_of-none k [] none = refl
  count_of-none k (t ∷ ts) none =
      let more = sum_by-cons (λ u. here (key u) k) t ts in
      let not_here : here (key t) k ≡ 0 = rw (ne_eqb (key t) k (λ e. none.0 (sym e))) refl in
      omega (arith, count_of-none k ts none.1)

  -- distinct keys stand there once each
  pub AreDistinct-from_distinct : (ts : List T) → IsDistinctBy key ts → AreDistinct ts
  AreDistinct-from_distinct [] distinct k = omega arith
  AreDistinct-from_distinct (t ∷ ts) distinct k =
      let more = sum_by-cons (λ u. here (key u) k) t ts in
      elim (cases_eq (key t) k) [
        | inl same ↦
            let one : here (key t) k ≡ 1 = rw (eq-eqb (key t) k same) refl in
            let none : count_of k ts ≡ 0 = rw (← same) (count_of-none (key t) ts distinct.0) in
            omega arith
        | inr other ↦
            let not_here : here (key t) k ≡ 0 = rw (ne_eqb (key t) k other) refl in
            omega (arith, AreDistinct-from_distinct ts distinct.1 k)
      ]

  -- keys that ascend are distinct
  pub AreDistinct-ascending : (ts : List T) → IsAscendingBy key ts → AreDistinct ts
  AreDistinct-ascending ts up = AreDistinct-from_distinct ts (go ts up)
    where
      apart : (t : T) (us : List T) → AllByRecursion (λ u. key t < key u) us → AllByRecursion (λ u. key t ≢ key u) us
      apart t [] above = tt
      apart t (u ∷ us) above = ((λ e. omega (arith, above.0)), apart t us above.1)

      go : (us : List T) → IsAscendingBy key us → IsDistinctBy key us
      go [] up = tt
      go (u ∷ us) up = (apart u us up.0, go us up.1)

  -- the elements with a key are taken out
  pub count_of-without : (k : ℕ) (ts : List T) → count_of k (without_key key k ts) ≡ 0
  count_of-without k [] = refl
  count_of-without k (t ∷ ts) = go (key t == k) refl (count_of-without k ts)
    where
      go : (b : Bool) → (key t == k) ≡ b → count_of k (without_key key k ts) ≡ 0
          → count_of k (if b then without_key key k ts else t ∷ without_key key k ts) ≡ 0
      go true e rest = rest
      go false e rest =
          let not_here : here (key t) k ≡ 0 = rw e refl in
          omega (arith, sum_by-cons (λ u. here (key u) k) t (without_key key k ts))

  -- those with other keys stay
  pub count_of-without_other : (k j : ℕ) → k ≢ j → (ts : List T) → count_of j (without_key key k ts) ≡ count_of j ts
  count_of-without_other k j other [] = refl
  count_of-without_other k j other (t ∷ ts) = go (key t == k) refl (count_of-without_other k j other ts)
    where
      go : (b : Bool) → (key t == k) ≡ b → count_of j (without_key key k ts) ≡ count_of j ts
          → count_of j (if b then without_key key k ts else t ∷ without_key key k ts) ≡ count_of j (t ∷ ts)
      go true e rest =
          let not_here : here (key t) j ≡ 0 = rw (ne_eqb (key t) j (λ same. other (sym (eqb-true (key t) k e) ∙ same))) refl in
          omega (arith, sum_by-cons (λ u. here (key u) j) t ts)
      go false e rest = omega (arith, sum_by-cons (λ u. here (key u) j) t ts, sum_by-cons (λ u. here (key u) j) t (without_key key k ts))

  -- and so many fewer elements are left
  pub length-without : (k : ℕ) (ts : List T) → length (without_key key k ts) + count_of k ts ≡ length ts
  length-without k [] = refl
  length-without k (t ∷ ts) = go (key t == k) refl (length-without k ts)
    where
      go : (b : Bool) → (key t == k) ≡ b → length (without_key key k ts) + count_of k ts ≡ length ts
          → length (if b then without_key key k ts else t ∷ without_key key k ts) + count_of k (t ∷ ts) ≡ length (t ∷ ts)
      go true e rest =
          let one : here (key t) k ≡ 1 = rw e refl in
          omega (arith, sum_by-cons (λ u. here (key u) k) t ts)
      go false e rest =
          let not_here : here (key t) k ≡ 0 = rw e refl in
          omega (arith, sum_by-cons (λ u. here (key u) k) t ts)

  -- one element of some with distinct keys is there once, beside those with other keys
  pub count_of-parted : (t : T) (ts : List T) → AreDistinct ts → Contains ts t → (k : ℕ)
      → count_of k ts ≡ here (key t) k + count_of k (without_key key (key t) ts)
  count_of-parted t ts distinct has k = elim (cases_eq (key t) k) [
    | inl same ↦
        let one : here (key t) k ≡ 1 = rw (eq-eqb (key t) k same) refl in
        let some : 0 < count_of k ts = counted-Contains (λ u. key u == k) ts t has (eq-eqb (key t) k same) in
        let none : count_of k (without_key key (key t) ts) ≡ 0 = rw same (count_of-without k ts) in
        omega (arith, distinct k)
    | inr other ↦
        let not_here : here (key t) k ≡ 0 = rw (ne_eqb (key t) k other) refl in
        omega (arith, count_of-without_other (key t) k other ts)
  ]

  -- and the others are one fewer
  pub length-parted : (t : T) (ts : List T) → AreDistinct ts → Contains ts t → length (without_key key (key t) ts) + 1 ≡ length ts
  length-parted t ts distinct has =
      let some : 0 < count_of (key t) ts = counted-Contains (λ u. key u == key t) ts t has (eq-eqb (key t) (key t) refl) in
      omega (arith, distinct (key t), length-without (key t) ts)
