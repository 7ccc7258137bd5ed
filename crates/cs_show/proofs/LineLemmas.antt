-- Lemmas on lines: how a line is put together, and one line after another.
use Rattle.std.proofs.Common.{◌≡◌, ℕ, ◌+◌, Some, List, [], ◌∷◌, ◌++◌, get_or, take, codes, Bool, true, false, cond, refl}
use Rattle.std.proofs.Common.{ap, ◌∙◌, append_assoc, append-nil, decimal, inl, inr, ℤ, Result, Ok, Err, OnOk, is_ok}
use Rattle.std.specs.Fmt.{signed_decimal}
use Rattle.std.specs.List.{AllByRecursion, filter, flat_map, slice_get}
use Rattle.std.specs.Option.{option_map}
use Rattle.std.proofs.lemmas.List.{take_more}
use Rattle.std.proofs.lemmas.Option.{slice_get_cases}
use Rattle.std.proofs.lemmas.List.Concat.{flat_map-append}
use Rattle.cs_base.specs.Axes.{Axes, axes_text}
use Rattle.cs_show.specs.Text.{ended, text_of}

-- a line whose end is written last
pub ended_put : {T E : Type 0} (r : Result T E) (start line front now end : List ℕ) → front ≡ start ++ line → end ≡ 10 ∷ []
    → now ≡ cond (is_ok r) (front ++ end) front → OnOk r (now ≡ start ++ ended line)
ended_put (Ok x) start line front now end is same put =
    put ∙ (ap (λ text. text ++ end) is ∙ (append_assoc start line end ∙ ap (λ text. start ++ (line ++ text)) same))
ended_put (Err d) start line front now end is same put = tt

-- a line with one part more, behind a space
pub part_put : (start line part front now : List ℕ) → front ≡ start ++ line → now ≡ front ++ 32 ∷ part
    → now ≡ start ++ (line ++ codes " " ++ part)
part_put start line part front now is put =
    let e : (start ++ line) ++ 32 ∷ part ≡ start ++ (line ++ codes " " ++ part) = simp append_assoc in
    put ∙ (ap (λ text. text ++ 32 ∷ part) is ∙ e)

-- a number behind a space, where it is known by an equation
pub number_put : (front now : List ℕ) (n m : ℕ) → now ≡ front ++ 32 ∷ decimal n → n ≡ m → now ≡ front ++ 32 ∷ decimal m
number_put front now n m put is = put ∙ ap (λ k. front ++ 32 ∷ decimal k) is

-- the numbers of the axes behind a space, where they are known by an equation
pub axes_put : (front now : List ℕ) (a b : Axes) → now ≡ front ++ 32 ∷ axes_text a → a ≡ b → now ≡ front ++ 32 ∷ axes_text b
axes_put front now a b put is = put ∙ ap (λ (at : Axes). front ++ 32 ∷ axes_text at) is

-- three numbers, each behind a space
pub three_put : (start first second : List ℕ) (x y z : ℤ) (at : Axes) → first ≡ start ++ 32 ∷ signed_decimal x
    → second ≡ first ++ 32 ∷ signed_decimal y → x ≡ at.x → y ≡ at.y → z ≡ at.z
    → second ++ 32 ∷ signed_decimal z ≡ start ++ 32 ∷ axes_text at
three_put start first second x y z at one two p q r = rw (two, one, p, q, r) (simp append_assoc)

-- a pair is its two parts
pair_is : {A B : Type 0} (pair : A × B) (a : A) (b : B) → pair.0 ≡ a → pair.1 ≡ b → pair ≡ (a, b)
pair_is (x, y) a b p q = cc

-- the pair at an index whose two parts are known
pub pair_at : {A B : Type 0} (pairs : List (A × B)) (i : ℕ) (a : A) (b : B)
    → option_map (λ (pair : A × B). pair.0) (slice_get pairs i) ≡ Some a
    → option_map (λ (pair : A × B). pair.1) (slice_get pairs i) ≡ Some b
    → take (i + 1) pairs ≡ take i pairs ++ (a, b) ∷ []
pair_at {A} {B} pairs i a b first second = elim ((slice_get_cases pairs i).1) [
  | inl w ↦
      let is = w.2 in
      let f = rw is at first in
      let s = rw is at second in
      let p : w.0.0 ≡ a = cc in
      let q : w.0.1 ≡ b = cc in
      let e : get_or pairs i w.0 ≡ (a, b) = w.3 ∙ pair_is w.0 a b p q in
      take_more pairs i w.0 w.1 ∙ ap (λ (pair : A × B). take i pairs ++ pair ∷ []) e
  | inr w ↦
      let is = w.1 in
      let f = rw is at first in
      cc
]

-- the lines of one item more
pub blocks_more : {A : Type 0} (f : A → List (List ℕ)) (xs ys : List A) (x : A) (start : List ℕ) → ys ≡ xs ++ x ∷ []
    → (start ++ text_of (flat_map f xs)) ++ text_of (f x) ≡ start ++ text_of (flat_map f ys)
blocks_more f xs ys x start more =
    rw (more, flat_map-append f xs (x ∷ []), append-nil (f x), flat_map-append ended (flat_map f xs) (f x))
    (append_assoc start (text_of (flat_map f xs)) (text_of (f x)))

-- no element passes
pub filter-none : {T : Type 0} (test : T → Bool) (xs : List T) → AllByRecursion (λ x. test x ≡ false) xs → filter test xs ≡ []
filter-none test [] none = refl
filter-none test (x ∷ xs) none = rw none.0 (filter-none test xs none.1)

-- each element passes
pub filter-all : {T : Type 0} (test : T → Bool) (xs : List T) → AllByRecursion (λ x. test x ≡ true) xs → filter test xs ≡ xs
filter-all test [] all = refl
filter-all test (x ∷ xs) all = rw all.0 (ap (λ ys. x ∷ ys) (filter-all test xs all.1))
