-- Numbers in lists: which are among those that were given, and what stands beside those that were placed.
use Rattle.std.proofs.Common.{◌≡◌, ◌==◌, ◌||◌, ℕ, Bool, true, false, List, [], ◌∷◌, ◌++◌, map, Option, Some, None}
use Rattle.std.proofs.Common.{refl, sym, ap, ◌∙◌, inl, inr, ◌⊎◌, nat_lt}
use Rattle.std.specs.List.{AllByRecursion, filter_map, flat_map}
use Rattle.std.proofs.lemmas.Bool.{eqb-true, eq-eqb, or_cases, or_left, or_right, false≢true}
use Rattle.std.proofs.lemmas.List.{map-append}
use Rattle.std.proofs.lemmas.Option.{same_Some, none-some}
use Rattle.cs_base.specs.Ascending.{placed_by}
use Rattle.cs_group.specs.Group.{is_among}
use Rattle.cs_slicer.proofs.Beside.{beside, placed_each}

-- two tests that follow from each other are the same
pub same_tests : (a b : Bool) → (a ≡ true → b ≡ true) → (b ≡ true → a ≡ true) → a ≡ b
same_tests true b to from = sym (to refl)
same_tests false true to from = from refl
same_tests false false to from = refl

-- a number in a list in front, or behind
among-append : (k : ℕ) (ms ns : List ℕ) → is_among (ms ++ ns) k ≡ (is_among ms k || is_among ns k)
among-append k [] ns = refl
among-append k (m ∷ ms) ns = elim (m == k) as (λ b. (b || is_among (ms ++ ns) k) ≡ ((b || is_among ms k) || is_among ns k)) [
  | true ↦ refl
  | false ↦ among-append k ms ns
]

module _ (give : ℕ → List ℕ) (k : ℕ) where
  -- a number that was given was given by one
  pub given-by : (ns : List ℕ) → is_among (flat_map give ns) k ≡ true → (n : ℕ) × (is_among ns n ≡ true) × (is_among (give n) k ≡ true)
  given-by [] there = absurd (false≢true there)
  given-by (n ∷ ns) there = elim (or_cases (is_among (give n) k) (is_among (flat_map give ns) k) (sym (among-append k (give n) (flat_map give ns)) ∙ there)) [
    | inl here ↦ (n, or_left (n == n) (is_among ns n) (eq-eqb n n refl), here)
    | inr later ↦ (let rest = given-by ns later in (rest.0, or_right (n == rest.0) (is_among ns rest.0) rest.1, rest.2))
  ]

  -- and what one gives was given
  pub gives : (ns : List ℕ) (n : ℕ) → is_among ns n ≡ true → is_among (give n) k ≡ true → is_among (flat_map give ns) k ≡ true
  gives [] n there here = absurd (false≢true there)
  gives (m ∷ ms) n there here =
      among-append k (give m) (flat_map give ms)
      ∙ elim (or_cases (m == n) (is_among ms n) there) [
        | inl same ↦ or_left (is_among (give m) k) (is_among (flat_map give ms) k) (ap (λ j. is_among (give j) k) (eqb-true m n same) ∙ here)
        | inr later ↦ or_right (is_among (give m) k) (is_among (flat_map give ms) k) (gives ms n later here)
      ]

module _ (f : ℕ → Option ℕ) (k : ℕ) where
  -- the first image, where there is one
  first-image : (n : ℕ) (ns : List ℕ) (m : ℕ) → f n ≡ Some m → filter_map f (n ∷ ns) ≡ m ∷ filter_map f ns
  first-image n ns m e = rw e refl

  -- and where there is none
  no-image : (n : ℕ) (ns : List ℕ) → f n ≡ None → filter_map f (n ∷ ns) ≡ filter_map f ns
  no-image n ns e = rw e refl

  -- an image is that of one
  pub image-of : (ns : List ℕ) → is_among (filter_map f ns) k ≡ true → (n : ℕ) × (is_among ns n ≡ true) × (f n ≡ Some k)
  image-of [] there = absurd (false≢true there)
  image-of (n ∷ ns) there = go (f n) refl (image-of ns)
    where
      later : (is_among (filter_map f ns) k ≡ true → (m : ℕ) × (is_among ns m ≡ true) × (f m ≡ Some k)) → is_among (filter_map f ns) k ≡ true
          → (m : ℕ) × (is_among (n ∷ ns) m ≡ true) × (f m ≡ Some k)
      later rest there_later = (let found = rest there_later in (found.0, or_right (n == found.0) (is_among ns found.0) found.1, found.2))

      go : (o : Option ℕ) → f n ≡ o → (is_among (filter_map f ns) k ≡ true → (m : ℕ) × (is_among ns m ≡ true) × (f m ≡ Some k))
          → (m : ℕ) × (is_among (n ∷ ns) m ≡ true) × (f m ≡ Some k)
      go None e rest = later rest (sym (ap (λ ms. is_among ms k) (no-image n ns e)) ∙ there)
      go (Some m) e rest = elim (or_cases (m == k) (is_among (filter_map f ns) k) (sym (ap (λ ms. is_among ms k) (first-image n ns m e)) ∙ there)) [
        | inl here ↦ (n, or_left (n == n) (is_among ns n) (eq-eqb n n refl), (e ∙ ap (λ j. Some j) (eqb-true m k here)))
        | inr behind ↦ later rest behind
      ]

  -- and the image of one is an image
  pub is_image : (ns : List ℕ) (n : ℕ) → is_among ns n ≡ true → f n ≡ Some k → is_among (filter_map f ns) k ≡ true
  is_image [] n there e = absurd (false≢true there)
  is_image (m ∷ ms) n there e = go (f m) refl (is_image ms n) (or_cases (m == n) (is_among ms n) there)
    where
      go : (o : Option ℕ) → f m ≡ o → (is_among ms n ≡ true → f n ≡ Some k → is_among (filter_map f ms) k ≡ true)
          → ((m == n) ≡ true) ⊎ (is_among ms n ≡ true) → is_among (filter_map f (m ∷ ms)) k ≡ true
      go None none rest (inl same) = absurd (none-some k (sym none ∙ (ap f (eqb-true m n same) ∙ e)))
      go None none rest (inr later) = ap (λ js. is_among js k) (no-image m ms none) ∙ rest later e
      go (Some j) some rest (inl same) =
          let is_k : j ≡ k = same_Some j k (sym some ∙ (ap f (eqb-true m n same) ∙ e)) in
          ap (λ js. is_among js k) (first-image m ms j some) ∙ or_left (j == k) (is_among (filter_map f ms) k) (eq-eqb j k is_k)
      go (Some j) some rest (inr later) =
          ap (λ js. is_among js k) (first-image m ms j some) ∙ or_right (j == k) (is_among (filter_map f ms) k) (rest later e)

module _ {T : Type 0} (f : ℕ → T) where
  -- a pair that is placed among such pairs stands beside its number
  placed-beside : (m : ℕ) (ns : List ℕ) → placed_by (λ (p : ℕ × T). p.0) (beside f m) (map (beside f) ns) ≡ map (beside f) (placed_by (λ n. n) m ns)
  placed-beside m [] = refl
  placed-beside m (n ∷ ns) = go (nat_lt m n) refl (m == n) refl (placed-beside m ns)
    where
      go : (b : Bool) → nat_lt m n ≡ b → (c : Bool) → (m == n) ≡ c
          → placed_by (λ (p : ℕ × T). p.0) (beside f m) (map (beside f) ns) ≡ map (beside f) (placed_by (λ n. n) m ns)
          → placed_by (λ (p : ℕ × T). p.0) (beside f m) (map (beside f) (n ∷ ns)) ≡ map (beside f) (placed_by (λ n. n) m (n ∷ ns))
      go true e c d rest = rw e refl
      go false e true d rest = rw (e, d) refl
      go false e false d rest = rw (e, d) (ap (λ ps. beside f n ∷ ps) rest)

  -- and so do all that are placed
  pub placed_each-beside : (ms ns : List ℕ)
      → placed_each (λ (p : ℕ × T). p.0) (map (beside f) ms) (map (beside f) ns) ≡ map (beside f) (placed_each (λ n. n) ms ns)
  placed_each-beside ms [] = refl
  placed_each-beside ms (n ∷ ns) =
      ap (λ ps. placed_each (λ (p : ℕ × T). p.0) ps (map (beside f) ns)) (placed-beside n ms) ∙ placed_each-beside (placed_by (λ m. m) n ms) ns

-- what each gives as images, all give as images
pub flat_map-images : {S T : Type 0} (give : S → List T) (g : ℕ → S) (image : ℕ → T) (numbers : ℕ → List ℕ) (ns : List ℕ)
    → AllByRecursion (λ n. give (g n) ≡ map image (numbers n)) ns → flat_map give (map g ns) ≡ map image (flat_map numbers ns)
flat_map-images give g image numbers [] each = refl
flat_map-images give g image numbers (n ∷ ns) each =
    ap (λ ps. ps ++ flat_map give (map g ns)) each.0
    ∙ (ap (λ ps. map image (numbers n) ++ ps) (flat_map-images give g image numbers ns each.1)
    ∙ sym (map-append image (numbers n) (flat_map numbers ns)))
