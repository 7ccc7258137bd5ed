-- What holds of each element, and of each two: after a filter, a front, a map, and of lists one behind the other.
use Rattle.std.proofs.Common.{◌≡◌, ◌≢◌, ℕ, zero, suc, Bool, true, false, cond, List, [], ◌∷◌, ◌++◌, take, map}
use Rattle.std.specs.List.{AllByRecursion, filter}
use Rattle.std.proofs.lemmas.Bool.{cond_both}
use Rattle.cs_base.specs.Ascending.{IsDistinctBy}
use Rattle.cs_base.proofs.Ascending.{All-of_filter}
use Rattle.cs_base.proofs.Elements.{All-take}
use Rattle.cs_group.specs.Rows.{IsPairwise}

module _ {T : Type 0} where
  -- what follows of each element
  pub ByRecursion-weaken : (P Q : T → Type 0) → ((x : T) → P x → Q x) → (xs : List T) → AllByRecursion P xs → AllByRecursion Q xs
  ByRecursion-weaken P Q follows [] all = tt
  ByRecursion-weaken P Q follows (x ∷ xs) all = (follows x all.0, ByRecursion-weaken P Q follows xs all.1)

  -- two facts of each
  pub ByRecursion-both : (P Q : T → Type 0) (xs : List T) → AllByRecursion P xs → AllByRecursion Q xs → AllByRecursion (λ x. P x × Q x) xs
  ByRecursion-both P Q [] p q = tt
  ByRecursion-both P Q (x ∷ xs) p q = ((p.0, q.0), ByRecursion-both P Q xs p.1 q.1)

  -- what a filter keeps passes the test
  pub ByRecursion-passes : (p : T → Bool) (xs : List T) → AllByRecursion (λ x. p x ≡ true) (filter p xs)
  ByRecursion-passes p [] = tt
  ByRecursion-passes p (x ∷ xs) =
      let rest = ByRecursion-passes p xs in
      cond_both (p x) (x ∷ filter p xs) (filter p xs) (AllByRecursion (λ y. p y ≡ true)) (λ e. (e, rest)) (λ e. rest)

  -- those of two lists
  pub ByRecursion-append : (P : T → Type 0) (xs ys : List T) → AllByRecursion P xs → AllByRecursion P ys → AllByRecursion P (xs ++ ys)
  ByRecursion-append P [] ys p q = q
  ByRecursion-append P (x ∷ xs) ys p q = (p.0, ByRecursion-append P xs ys p.1 q)

  -- the elements that are kept stay in pairs
  pub IsPairwise-filter : (R : T → T → Type 0) (p : T → Bool) (xs : List T) → IsPairwise R xs → IsPairwise R (filter p xs)
  IsPairwise-filter R p [] each = tt
  IsPairwise-filter R p (x ∷ xs) each =
      elim (p x) as (λ b. IsPairwise R (cond b (x ∷ filter p xs) (filter p xs))) [
        | true ↦ (All-of_filter (R x) p xs each.0, IsPairwise-filter R p xs each.1)
        | false ↦ IsPairwise-filter R p xs each.1
      ]

  -- and so do those of a front
  pub IsPairwise-take : (R : T → T → Type 0) (n : ℕ) (xs : List T) → IsPairwise R xs → IsPairwise R (take n xs)
  IsPairwise-take R zero xs each = tt
  IsPairwise-take R (suc n) [] each = tt
  IsPairwise-take R (suc n) (x ∷ xs) each = (All-take (R x) n xs each.0, IsPairwise-take R n xs each.1)

  -- and those of two lists, where it holds across
  pub IsPairwise-append : (R : T → T → Type 0) (xs ys : List T) → IsPairwise R xs → IsPairwise R ys
      → AllByRecursion (λ x. AllByRecursion (R x) ys) xs → IsPairwise R (xs ++ ys)
  IsPairwise-append R [] ys p q across = q
  IsPairwise-append R (x ∷ xs) ys p q across =
      (ByRecursion-append (R x) xs ys p.0 across.0, IsPairwise-append R xs ys p.1 q across.1)

module _ {T : Type 0} (key : T → ℕ) where
  -- in a list with distinct keys each two differ
  pub pairwise-from_distinct : (xs : List T) → IsDistinctBy key xs → IsPairwise (λ x y. key x ≢ key y) xs
  pairwise-from_distinct [] each = tt
  pairwise-from_distinct (x ∷ xs) each = (each.0, pairwise-from_distinct xs each.1)

  -- and the other way round
  pub distinct-from_pairwise : (xs : List T) → IsPairwise (λ x y. key x ≢ key y) xs → IsDistinctBy key xs
  distinct-from_pairwise [] each = tt
  distinct-from_pairwise (x ∷ xs) each = (each.0, distinct-from_pairwise xs each.1)

  -- so a filter keeps them
  pub IsDistinctBy-filter : (p : T → Bool) (xs : List T) → IsDistinctBy key xs → IsDistinctBy key (filter p xs)
  IsDistinctBy-filter p xs each =
      distinct-from_pairwise (filter p xs) (IsPairwise-filter (λ x y. key x ≢ key y) p xs (pairwise-from_distinct xs each))

module _ {T U : Type 0} (f : T → U) where
  -- what holds of each image
  pub ByRecursion-map : (P : U → Type 0) (xs : List T) → AllByRecursion (λ x. P (f x)) xs → AllByRecursion P (map f xs)
  ByRecursion-map P [] all = tt
  ByRecursion-map P (x ∷ xs) all = (all.0, ByRecursion-map P xs all.1)

  -- and of each two
  pub IsPairwise-map : (R : U → U → Type 0) (xs : List T) → IsPairwise (λ x y. R (f x) (f y)) xs → IsPairwise R (map f xs)
  IsPairwise-map R [] each = tt
  IsPairwise-map R (x ∷ xs) each = (ByRecursion-map (R (f x)) xs each.0, IsPairwise-map R xs each.1)
