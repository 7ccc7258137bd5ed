-- Elements that their keys tell apart, and those that are left without one, which goes before them.
use Rattle.std.proofs.Common.{◌≡◌, ℕ, zero, suc, ◌-◌, ◌<◌, ◌≤◌, ◌==◌, Bool, true, false, List, [], ◌∷◌, ◌++◌, length, get_or, take, drop}
use Rattle.std.proofs.Common.{Contains, inl, inr}
use Rattle.std.proofs.Common.{refl, sym, ap, ◌∙◌, arith}
use Rattle.std.specs.List.{AllByRecursion}
use Rattle.std.proofs.lemmas.Bool.{cases_lt, eq-eqb}
use Rattle.std.proofs.lemmas.List.{get_or_default, length-take-le, take-take}
use Rattle.std.proofs.lemmas.List.Elements.{All-contains, All-contains_itself, All-from_recursion, recursion_from_All}
use Rattle.std.proofs.lemmas.List.Sorted.{All-permutation}
use Rattle.std.proofs.lemmas.List.Sums.{sum_by-cons}
use Rattle.cs_base.proofs.Ascending.{key-lt}
use Rattle.cs_base.specs.Ascending.{IsAscendingBy, without_key}
use Rattle.cs_base.specs.Axes.{Axes}
use Rattle.cs_base.specs.declared.point.Axis.{Axis}
use Rattle.cs_tree.proofs.Counts.{count_of, counted-Contains, here, length-without}
use Rattle.cs_tree.proofs.Sorting.{IsPermutation-sorted}
use Rattle.cs_tree.specs.Skeleton.{ordered_on}

-- what holds of each element of one list holds of what stands in it
pub in-all : {T : Type 0} (P : T → Type 0) (ts : List T) (t : T) → AllByRecursion P ts → Contains ts t → P t
in-all P ts t all has = All-contains P ts t (All-from_recursion P ts all) has

pub all-in : {T : Type 0} (ts : List T) → AllByRecursion (Contains ts) ts
all-in ts = recursion_from_All (Contains ts) ts (All-contains_itself ts)

module _ {T : Type 0} (key : T → ℕ) where
  -- elements with one key are the same
  abbrev pub AreApart : List T → Type 0
  AreApart ts = (t u : T) → Contains ts t → Contains ts u → key t ≡ key u → t ≡ u

  -- so are those that stand in a list of such elements
  pub AreApart-part : (ts us : List T) → AreApart ts → AllByRecursion (Contains ts) us → AreApart us
  AreApart-part ts us apart all t u has has' same = apart t u (in-all (Contains ts) us t all has) (in-all (Contains ts) us u all has') same

  -- and those that ascend
  pub AreApart-ascending : (ts : List T) → IsAscendingBy key ts → AreApart ts
  AreApart-ascending ts up t u has has' same = elim (cases_lt has.0 has'.0) [
    | inl before ↦
        let below = key-lt key ts up has.0 has'.0 t before has'.1 in
        let last : get_or ts has'.0 t ≡ u = get_or_default ts has'.0 t u has'.1 ∙ has'.2 in
        absurd (omega (arith, below, ap key has.2, ap key last))
    | inr behind ↦ elim (cases_lt has'.0 has.0) [
      | inl before ↦
          let below = key-lt key ts up has'.0 has.0 u before has.1 in
          let last : get_or ts has.0 u ≡ t = get_or_default ts has.0 u t has.1 ∙ has.2 in
          absurd (omega (arith, below, ap key has'.2, ap key last))
      | inr upto ↦
          let place : has.0 ≡ has'.0 = omega arith in
          sym has.2 ∙ (ap (λ i. get_or ts i t) place ∙ (get_or_default ts has'.0 t u has'.1 ∙ has'.2))
    ]
  ]

  -- all are left without a key that none has
  without-none : (k : ℕ) (ts : List T) → count_of key k ts ≡ 0 → without_key key k ts ≡ ts
  without-none k [] none = refl
  without-none k (t ∷ ts) none = go (key t == k) refl (without-none k ts)
    where
      go : (b : Bool) → (key t == k) ≡ b → (count_of key k ts ≡ 0 → without_key key k ts ≡ ts) → without_key key k (t ∷ ts) ≡ t ∷ ts
      go true e later =
          let one : here (key t) k ≡ 1 = rw e refl in
          absurd (omega (arith, one, none, sum_by-cons (λ u. here (key u) k) t ts))
      go false e later = rw e (ap (λ us. t ∷ us) (later (omega (arith, none, sum_by-cons (λ u. here (key u) k) t ts))))

  -- all but one are left without the key that this one alone has
  pub without-place : (k : ℕ) (ts : List T) (i : ℕ) (d : T) → i < length ts → key (get_or ts i d) ≡ k → count_of key k ts ≤ 1
      → take i ts ++ drop (suc i) ts ≡ without_key key k ts
  without-place k [] i d lt at once = absurd (omega (arith, lt))
  without-place k (t ∷ ts) zero d lt at once =
      let one : here (key t) k ≡ 1 = rw (eq-eqb (key t) k at) refl in
      let none : count_of key k ts ≡ 0 = omega (arith, one, once, sum_by-cons (λ u. here (key u) k) t ts) in
      rw (eq-eqb (key t) k at) (sym (without-none k ts none))
  without-place k (t ∷ ts) (suc i) d lt at once = go (key t == k) refl (without-place k ts i d (omega (arith, lt)) at)
    where
      some : 0 < count_of key k ts
      some = counted-Contains (λ u. key u == k) ts (get_or ts i d) (i, omega (arith, lt), get_or_default ts i _ d (omega (arith, lt))) (eq-eqb _ k at)

      go : (b : Bool) → (key t == k) ≡ b → (count_of key k ts ≤ 1 → take i ts ++ drop (suc i) ts ≡ without_key key k ts)
          → t ∷ take i ts ++ drop (suc i) ts ≡ without_key key k (t ∷ ts)
      go true e later =
          let one : here (key t) k ≡ 1 = rw e refl in
          absurd (omega (arith, one, once, some, sum_by-cons (λ u. here (key u) k) t ts))
      go false e later = rw e (ap (λ us. t ∷ us) (later (omega (arith, once, sum_by-cons (λ u. here (key u) k) t ts))))

  -- the last of the first so many, and those before it
  last-taken : (ts : List T) (i : ℕ) (d : T) → i < length ts → drop i (take (suc i) ts) ≡ get_or ts i d ∷ []
  last-taken [] i d lt = absurd (omega (arith, lt))
  last-taken (t ∷ ts) zero d lt = refl
  last-taken (t ∷ ts) (suc i) d lt = last-taken ts i d (omega (arith, lt))

  turned : (ts : List T) (i : ℕ) (d : T) → i < length ts → let front = take (suc i) ts in
      drop (length front - 1) front ++ take (length front - 1) front ≡ get_or ts i d ∷ take i ts
  turned ts i d lt =
      let many : length (take (suc i) ts) - 1 ≡ i = omega (arith, length-take-le (suc i) ts (omega (arith, lt))) in
      rw (many, last-taken ts i d lt) (ap (λ us. get_or ts i d ∷ us) (take-take i (suc i) ts (omega arith)))

  -- so where it goes before those, the one element comes first, and then all others
  pub put-first : (t : T) (ts us : List T) (i : ℕ) → i < length ts → get_or ts i t ≡ t → count_of key (key t) ts ≤ 1
      → let front = take (suc i) ts in us ≡ drop (length front - 1) front ++ take (length front - 1) front
      → us ++ drop (suc i) ts ≡ t ∷ without_key key (key t) ts
  put-first t ts us i lt at once after =
      let first : us ≡ t ∷ take i ts = after ∙ (turned ts i t lt ∙ ap (λ u. u ∷ take i ts) at) in
      rw first (ap (λ rest. t ∷ rest) (without-place (key t) ts i t lt (ap key at) once))

  -- fewer are left without one that stands there
  pub fewer-without : (t : T) (ts : List T) → Contains ts t → length (without_key key (key t) ts) < length ts
  fewer-without t ts has =
      omega (arith, length-without key (key t) ts, counted-Contains (λ u. key u == key t) ts t has (eq-eqb (key t) (key t) refl))

  module _ (point : T → Axes) (axis : Axis) where
    -- in order they are the same elements
    pub all-in-ordered : (P : T → Type 0) (ts : List T) → AllByRecursion P ts → AllByRecursion P (ordered_on key point axis ts)
    all-in-ordered P ts all =
        let ordered = ordered_on key point axis ts in
        recursion_from_All P ordered (All-permutation P ts ordered (IsPermutation-sorted _ ts) (All-from_recursion P ts all))
