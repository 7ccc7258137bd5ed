-- Values that stand beside ascending numbers, as a summary or a roll does beside its region: what a look-up finds there.
use Rattle.std.proofs.Common.{◌≡◌, ℕ, ◌<◌, ◌==◌, ◌&&◌, Bool, true, false, cond, if◌then◌else◌, List, [], ◌∷◌, map, Some, None}
use Rattle.std.proofs.Common.{refl, sym, ap, subst, ◌∙◌}
use Rattle.std.specs.List.{AllByRecursion, filter, fold}
use Rattle.std.specs.Option.{option_or}
use Rattle.std.proofs.lemmas.Bool.{and_right, eqb-true}
use Rattle.cs_base.specs.Ascending.{IsAscending, IsAscendingBy, at_key, placed_by}
use Rattle.cs_base.proofs.Ascending.{IsAscendingBy-placed, All-placed, at_key-above, find-placed}
use Rattle.cs_base.proofs.Elements.{All-changed}
use Rattle.cs_group.specs.Group.{is_among}

-- a filter of a map keeps the images of those that are kept
pub filter-map : {S T : Type 0} (p : T → Bool) (g : S → T) (xs : List S) → filter p (map g xs) ≡ map g (filter (λ x. p (g x)) xs)
filter-map p g [] = refl
filter-map p g (x ∷ xs) =
    elim (p (g x)) as (λ b. cond b (g x ∷ filter p (map g xs)) (filter p (map g xs))
    ≡ map g (cond b (x ∷ filter (λ y. p (g y)) xs) (filter (λ y. p (g y)) xs))) [
      | true ↦ ap (λ ys. g x ∷ ys) (filter-map p g xs)
      | false ↦ filter-map p g xs
    ]

-- a number is among those that are kept where it is among all and passes
pub among-filter : (q : ℕ → Bool) (k : ℕ) (ns : List ℕ) → is_among (filter q ns) k ≡ (is_among ns k && q k)
among-filter q k [] = refl
among-filter q k (n ∷ ns) = by_key (n == k) refl (q n) refl (among-filter q k ns)
  where
    by_key : (same : Bool) → (n == k) ≡ same → (passes : Bool) → q n ≡ passes → is_among (filter q ns) k ≡ (is_among ns k && q k)
        → is_among (cond (q n) (n ∷ filter q ns) (filter q ns)) k ≡ (is_among (n ∷ ns) k && q k)
    by_key true e true f rest = (let here : q k ≡ true = ap q (sym (eqb-true n k e)) ∙ f in rw (f, e, here) refl)
    by_key true e false f rest =
        (let here : q k ≡ false = ap q (sym (eqb-true n k e)) ∙ f in rw (f, e, here) (rest ∙ and_right (is_among ns k) (q k) here))
    by_key false e true f rest = rw (f, e) rest
    by_key false e false f rest = rw (f, e) rest

module _ {T : Type 0} (f : ℕ → T) where
  abbrev pub beside : ℕ → ℕ × T
  beside n = (n, f n)

  -- beside a number stands its value, where the number is there
  pub at_key-beside : (k : ℕ) (ns : List ℕ) → at_key (λ (p : ℕ × T). p.0) k (map beside ns) ≡ (if is_among ns k then Some (beside k) else None)
  at_key-beside k [] = refl
  at_key-beside k (n ∷ ns) = by_key (n == k) refl (at_key-beside k ns)
    where
      by_key : (same : Bool) → (n == k) ≡ same
          → at_key (λ (p : ℕ × T). p.0) k (map beside ns) ≡ (if is_among ns k then Some (beside k) else None)
          → at_key (λ (p : ℕ × T). p.0) k (map beside (n ∷ ns)) ≡ (if is_among (n ∷ ns) k then Some (beside k) else None)
      by_key true e rest = (let same : n ≡ k = eqb-true n k e in rw e (ap (λ m. Some (beside m)) same))
      by_key false e rest = rw e rest

  -- the pairs ascend as the numbers do
  pub IsAscendingBy-beside : (ns : List ℕ) → IsAscending ns → IsAscendingBy (λ (p : ℕ × T). p.0) (map beside ns)
  IsAscendingBy-beside [] up = tt
  IsAscendingBy-beside (n ∷ ns) up =
      (All-changed (λ m. n < m) (λ (p : ℕ × T). n < p.0) beside (λ m above. above) ns up.0, IsAscendingBy-beside ns up.1)

module _ {T : Type 0} (key : T → ℕ) where
  -- elements that are placed, one behind the other
  abbrev pub placed_each : List T → List T → List T
  placed_each before xs = fold (λ ys x. placed_by key x ys) before xs

  -- keep the order
  pub IsAscendingBy-placed_each : (before xs : List T) → IsAscendingBy key before → IsAscendingBy key (placed_each before xs)
  IsAscendingBy-placed_each before [] up = up
  IsAscendingBy-placed_each before (x ∷ xs) up = IsAscendingBy-placed_each (placed_by key x before) xs (IsAscendingBy-placed key x before up)

  -- what holds of all holds of all then
  pub All-placed_each : (P : T → Type 0) (before xs : List T) → AllByRecursion P before → AllByRecursion P xs → AllByRecursion P (placed_each before xs)
  All-placed_each P before [] all more = all
  All-placed_each P before (x ∷ xs) all more = All-placed_each P (placed_by key x before) xs (All-placed key P x before more.0 all) more.1

  -- and at a key stands the placed element, where there is one, and else what stood there before
  pub at_key-placed_each : (k : ℕ) (before xs : List T) → IsAscendingBy key xs
      → at_key key k (placed_each before xs) ≡ option_or (at_key key k xs) (at_key key k before)
  at_key-placed_each k before [] up = refl
  at_key-placed_each k before (x ∷ xs) up =
      at_key-placed_each k (placed_by key x before) xs up.1
      ∙ (ap (option_or (at_key key k xs)) (find-placed key x k before) ∙ by_key (key x == k) refl)
    where
      by_key : (same : Bool) → (key x == k) ≡ same
          → option_or (at_key key k xs) (if key x == k then Some x else at_key key k before) ≡ option_or (at_key key k (x ∷ xs)) (at_key key k before)
      by_key true e =
          let none : at_key key k xs ≡ None = at_key-above key k xs (subst (λ n. AllByRecursion (λ y. n < key y) xs) (eqb-true (key x) k e) up.0) in
          rw (e, none) refl
      by_key false e = rw e refl
