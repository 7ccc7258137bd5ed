-- A loop's step: what one more element adds to what is kept, and that it may stand last in an ascending list.
use Rattle.std.proofs.Common.{◌≡◌, ℕ, ◌+◌, ◌<◌, Bool, true, false, if◌then◌else◌, List, [], ◌∷◌, ◌++◌, length, get_or, map, take}
use Rattle.std.proofs.Common.{ap, subst, ◌∙◌}
use Rattle.std.proofs.Common.{Option, Some, None, refl, arith}
use Rattle.std.specs.Bool.{IsTrue}
use Rattle.std.specs.Prelude.{◌↔◌}
use Rattle.std.specs.List.{AllByRecursion, filter, filter_map, fold}
use Rattle.std.proofs.lemmas.List.{map_more, take_more}
use Rattle.std.proofs.lemmas.List.Elements.{filter_more, filter_map-append}
use Rattle.std.proofs.lemmas.List.Sums.{fold-append}
use Rattle.cs_base.specs.Ascending.{IsAscendingBy, placed_by}
use Rattle.cs_base.specs.declared.change.Change.{Change}
use Rattle.cs_base.specs.declared.change.Change.TheVariants.{Join, Move, Leave}
use Rattle.cs_base.proofs.Ascending.{IsAscendingBy-filter, IsAscendingBy-take}
use Rattle.cs_group.proofs.Loops.{read_more}
use Rattle.cs_slicer.specs.Leavers.{leaver_of, leavers}
use Rattle.cs_slicer.proofs.Lists.{IsAscendingBy-map}

-- where the images ascend, the list does by what is read off
pub IsAscendingBy-of_map : {T U : Type 0} (key : U → ℕ) (f : T → U) (xs : List T) → IsAscendingBy key (map f xs) → IsAscendingBy (λ x. key (f x)) xs
IsAscendingBy-of_map key f [] up = tt
IsAscendingBy-of_map key f (x ∷ xs) up = (All-of_map (λ y. key (f x) < key y) f xs up.0, IsAscendingBy-of_map key f xs up.1)
  where
    All-of_map : {T U : Type 0} (P : U → Type 0) (f : T → U) (xs : List T) → AllByRecursion P (map f xs) → AllByRecursion (λ x. P (f x)) xs
    All-of_map P f [] all = tt
    All-of_map P f (x ∷ xs) all = (all.0, All-of_map P f xs all.1)

module _ {T : Type 0} (p : T → Bool) (xs : List T) (i : ℕ) (x : T) (lt : i < length xs) (is : x ≡ get_or xs i x) where
  -- one more element, of those that are kept
  pub kept_more : filter p (take (i + 1) xs) ≡ filter p (take i xs) ++ (if p x then x ∷ [] else [])
  kept_more = rw is (filter_more p xs i x lt)

  -- one that is kept may stand last
  pub kept_ascends : (key : T → ℕ) → IsAscendingBy key xs → p x ≡ true → IsAscendingBy key (filter p (take i xs) ++ x ∷ [])
  kept_ascends key up passes =
      let more : filter p (take (i + 1) xs) ≡ filter p (take i xs) ++ x ∷ [] = rw passes at kept_more in
      subst (IsAscendingBy key) more (IsAscendingBy-filter key p (take (i + 1) xs) (IsAscendingBy-take key (i + 1) xs up))

  -- and so may what is read off it
  pub read_ascends : {U : Type 0} (key : U → ℕ) (f : T → U) → IsAscendingBy (λ y. key (f y)) xs → p x ≡ true
      → IsAscendingBy key (map f (filter p (take i xs)) ++ f x ∷ [])
  read_ascends key f up passes =
      let more : map f (filter p (take (i + 1) xs)) ≡ map f (filter p (take i xs)) ++ f x ∷ [] = rw passes at (read_more f p xs i x lt is) in
      subst (IsAscendingBy key) more
      (IsAscendingBy-map key f (filter p (take (i + 1) xs))
      (IsAscendingBy-filter (λ y. key (f y)) p (take (i + 1) xs) (IsAscendingBy-take (λ y. key (f y)) (i + 1) xs up)))

module _ {T U : Type 0} (f : T → U) (xs : List T) (i : ℕ) (x : T) (lt : i < length xs) (is : x ≡ get_or xs i x) where
  -- one more image
  pub image_more : map f (take (i + 1) xs) ≡ map f (take i xs) ++ f x ∷ []
  image_more = rw is (map_more f xs i x lt)

  -- may stand last, too
  pub image_ascends : (key : U → ℕ) → IsAscendingBy (λ y. key (f y)) xs → IsAscendingBy key (map f (take i xs) ++ f x ∷ [])
  image_ascends key up =
      subst (IsAscendingBy key) image_more (IsAscendingBy-map key f (take (i + 1) xs) (IsAscendingBy-take (λ y. key (f y)) (i + 1) xs up))

-- what isn't empty has some
pub some-from_test : {T : Type 0} (b : Bool) (xs : List T) → (IsTrue b ↔ (xs ≡ [])) → b ≡ false → 0 < length xs
some-from_test b [] test e = absurd (let empty : IsTrue b = test.1 refl in cc)
some-from_test b (x ∷ xs) test e = omega arith

-- the ids that leave with one more change
abbrev pub with_leaver : Option ℕ → List ℕ → List ℕ
with_leaver None ids = ids
with_leaver (Some id) ids = placed_by (λ n. n) id ids

pub leavers_more : (item : List Change) (i : ℕ) (c : Change) → i < length item → c ≡ get_or item i c
    → leavers (take (i + 1) item) ≡ with_leaver (leaver_of c) (leavers (take i item))
leavers_more item i c lt is =
    let longer : take (i + 1) item ≡ take i item ++ c ∷ [] = rw is (take_more item i c lt) in
    let place : List ℕ → ℕ → List ℕ = λ ids id. placed_by (λ n. n) id ids in
    let parts : leavers (take i item ++ c ∷ []) ≡ fold place (leavers (take i item)) (filter_map leaver_of (c ∷ [])) =
    ap (fold place []) (filter_map-append leaver_of (take i item) (c ∷ []))
    ∙ fold-append place [] (filter_map leaver_of (take i item)) (filter_map leaver_of (c ∷ [])) in
    ap leavers longer ∙ (parts ∙ one c)
  where
    one : (c : Change) → fold (λ ids id. placed_by (λ n. n) id ids) (leavers (take i item)) (filter_map leaver_of (c ∷ []))
        ≡ with_leaver (leaver_of c) (leavers (take i item))
    one (Join member) = refl
    one (Move id seq at) = refl
    one (Leave id) = refl
