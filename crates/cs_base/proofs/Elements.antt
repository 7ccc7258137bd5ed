-- What holds of each element of a list, and of each pair of elements.
use Rattle.std.proofs.Common.{◌≡◌, ℕ, zero, suc, Bool, List, [], ◌∷◌, ◌++◌, map, take, drop, Some, sym, subst, ◌∙◌, arith}
use Rattle.std.specs.List.{AllByRecursion, AllPairs, find, flat_map, position_or_len, slice_get}
use Rattle.std.proofs.lemmas.List.Elements.{All-from_recursion}
use Rattle.std.proofs.lemmas.List.Folds.{find_at}
use Rattle.std.proofs.lemmas.List.Kept.{AllPairs-cons}
use Rattle.std.proofs.lemmas.Option.{none-some, same_Some}

-- what holds of two lists holds of both in a row
pub All-append : {T : Type 0} (P : T → Type 0) (xs ys : List T) → AllByRecursion P xs → AllByRecursion P ys → AllByRecursion P (xs ++ ys)
All-append P [] ys front behind = behind
All-append P (x ∷ xs) ys front behind = (front.0, All-append P xs ys front.1 behind)

-- and of the list in front
pub All-front : {T : Type 0} (P : T → Type 0) (xs ys : List T) → AllByRecursion P (xs ++ ys) → AllByRecursion P xs
All-front P [] ys all = tt
All-front P (x ∷ xs) ys all = (all.0, All-front P xs ys all.1)

-- and of the list behind
pub All-behind : {T : Type 0} (P : T → Type 0) (xs ys : List T) → AllByRecursion P (xs ++ ys) → AllByRecursion P ys
All-behind P [] ys all = all
All-behind P (x ∷ xs) ys all = All-behind P xs ys all.1

-- and of the first n elements
pub All-take : {T : Type 0} (P : T → Type 0) (n : ℕ) (xs : List T) → AllByRecursion P xs → AllByRecursion P (take n xs)
All-take P zero xs all = tt
All-take P (suc n) [] all = tt
All-take P (suc n) (x ∷ xs) all = (all.0, All-take P n xs all.1)

-- and of those behind them
pub All-drop : {T : Type 0} (P : T → Type 0) (n : ℕ) (xs : List T) → AllByRecursion P xs → AllByRecursion P (drop n xs)
All-drop P zero xs all = all
All-drop P (suc n) [] all = tt
All-drop P (suc n) (x ∷ xs) all = All-drop P n xs all.1

-- what follows from what holds
pub All-weaker : {T : Type 0} (P Q : T → Type 0) → ((x : T) → P x → Q x) → (xs : List T) → AllByRecursion P xs → AllByRecursion Q xs
All-weaker P Q weaker [] all = tt
All-weaker P Q weaker (x ∷ xs) all = (weaker x all.0, All-weaker P Q weaker xs all.1)

-- what holds of each image holds of the list of images
pub All-map : {S T : Type 0} (P : T → Type 0) (f : S → T) → ((x : S) → P (f x)) → (xs : List S) → AllByRecursion P (map f xs)
All-map P f each [] = tt
All-map P f each (x ∷ xs) = (each x, All-map P f each xs)

-- and of the lists of images in a row
pub All-flat_map : {S T : Type 0} (P : T → Type 0) (f : S → List T) → ((x : S) → AllByRecursion P (f x)) → (xs : List S)
    → AllByRecursion P (flat_map f xs)
All-flat_map P f each [] = tt
All-flat_map P f each (x ∷ xs) = All-append P (f x) (flat_map f xs) (each x) (All-flat_map P f each xs)

-- what follows for each changed element holds of all of them
pub All-changed : {X Y : Type 0} (P : X → Type 0) (Q : Y → Type 0) (f : X → Y) → ((x : X) → P x → Q (f x))
    → (xs : List X) → AllByRecursion P xs → AllByRecursion Q (map f xs)
All-changed P Q f each [] all = tt
All-changed P Q f each (x ∷ xs) all = (each x all.0, All-changed P Q f each xs all.1)

-- what holds of all elements holds of the one at a place
pub All-get : {X : Type 0} (P : X → Type 0) (xs : List X) (i : ℕ) (x : X) → AllByRecursion P xs → slice_get xs i ≡ Some x → P x
All-get P [] i x all got = absurd (none-some x got)
All-get P (y ∷ xs) zero x all got = subst P (same_Some y x got) all.0
All-get P (y ∷ xs) (suc i) x all got = All-get P xs i x all.1 got

-- and of the one that is found
pub All-find : {X : Type 0} (P : X → Type 0) (p : X → Bool) (xs : List X) (x : X) → AllByRecursion P xs → find p xs ≡ Some x → P x
All-find P p xs x all found = All-get P xs (position_or_len p xs) x all (sym (find_at p xs) ∙ found)

-- R holds of each element and each one behind it
abbrev pub Pairwise : {T : Type 0} → (T → T → Type 0) → List T → Type 0
Pairwise R [] = Unit {0}
Pairwise R (x ∷ xs) = AllByRecursion (R x) xs × Pairwise R xs

-- in the list in front too
pub Pairwise-front : {T : Type 0} (R : T → T → Type 0) (xs ys : List T) → Pairwise R (xs ++ ys) → Pairwise R xs
Pairwise-front R [] ys pairs = tt
Pairwise-front R (x ∷ xs) ys pairs = (All-front (R x) xs ys pairs.0, Pairwise-front R xs ys pairs.1)

-- as std says it, of what follows
pub AllPairs-pairwise : {T : Type 0} (R S : T → T → Type 0) → ((x y : T) → R x y → S x y) → (xs : List T) → Pairwise R xs → AllPairs S xs
AllPairs-pairwise R S weaker [] pairs = λ i j d below within. absurd (omega arith)
AllPairs-pairwise R S weaker (x ∷ xs) pairs =
    AllPairs-cons S x xs (All-from_recursion (S x) xs (All-weaker (R x) (S x) (weaker x) xs pairs.0))
    (AllPairs-pairwise R S weaker xs pairs.1)
