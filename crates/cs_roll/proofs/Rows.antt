-- Three numbers in an array: equal arrays are those that are equal on each axis.
use Rattle.std.proofs.Common.{◌≡◌, ℤ, List, [], ◌∷◌, length, Bool, true, false, ◌&&◌, int_eq, refl, ap, ◌∙◌, arith}
use Rattle.std.specs.Cmp.Lexicographic.{pointwise}
use Rattle.cs_base.specs.Axes.{from_row, in_a_row}
use Rattle.cs_roll.specs.Same.{are_same_axes}

-- an array of three is its three numbers in a row
row_is : (row : List ℤ) → length row ≡ 3 → row ≡ in_a_row (from_row row)
row_is [] three = absurd (omega arith)
row_is (x ∷ []) three = absurd (omega arith)
row_is (x ∷ y ∷ []) three = absurd (omega arith)
row_is (x ∷ y ∷ z ∷ []) three = refl
row_is (x ∷ y ∷ z ∷ w ∷ more) three = absurd (omega arith)

-- a test and one that passes
and-true : (b : Bool) → (b && true) ≡ b
and-true true = refl
and-true false = refl

-- `==` of two such arrays is whether they are the same on each axis
pub same_rows : (a b : List ℤ) (r : Bool) → length a ≡ 3 → length b ≡ 3 → r ≡ pointwise int_eq a b
    → r ≡ are_same_axes (from_row a) (from_row b)
same_rows a b r three_a three_b e =
    let p = from_row a in
    let q = from_row b in
    e ∙ (ap (λ c. pointwise int_eq c b) (row_is a three_a)
    ∙ (ap (λ c. pointwise int_eq (in_a_row p) c) (row_is b three_b)
    ∙ ap (λ t. int_eq p.x q.x && (int_eq p.y q.y && t)) (and-true (int_eq p.z q.z))))
