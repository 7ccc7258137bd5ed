-- An ascending list with an element in its midst: what an edit gives, and what is found, on one side of it.
use Rattle.std.proofs.Common.{◌≡◌, ℕ, ◌<◌, ◌≤◌, List, [], ◌∷◌, ◌++◌, Some, None, refl, ap, sym, ◌∙◌, arith}
use Rattle.std.specs.List.{AllByRecursion, filter}
use Rattle.std.proofs.lemmas.Bool.Decides.{nat_tests}
use Rattle.std.proofs.lemmas.List.Elements.{filter-append}
use Rattle.cs_base.specs.Ascending.{IsAscendingBy, at_key, placed_by, without_key}
use Rattle.cs_base.proofs.Elements.{All-behind, All-front, All-weaker}
use Rattle.cs_shared.specs.Tree.{is_from_to}

-- the two sides of an element of an ascending list
pub record AreSides {T : Type 0} (key : T → ℕ) (before : List T) (y : T) (after : List T) : Type 0 where
  pub before_up : IsAscendingBy key before
  pub after_up : IsAscendingBy key after
  pub below : AllByRecursion (λ z. key z < key y) before
  pub above : AllByRecursion (λ z. key y < key z) after

module _ {T : Type 0} (key : T → ℕ) where
  pub sides : (before : List T) (y : T) (after : List T) → IsAscendingBy key (before ++ y ∷ after) → AreSides key before y after
  sides [] y after up = record { before_up = tt; after_up = up.1; below = tt; above = up.0 }
  sides (z ∷ zs) y after up =
      let rest = sides zs y after up.1 in
      record {
        before_up = (All-front (λ w. key z < key w) zs (y ∷ after) up.0, rest.before_up);
        after_up = rest.after_up;
        below = ((All-behind (λ w. key z < key w) zs (y ∷ after) up.0).0, rest.below);
        above = rest.above;
      }

  -- what is below an element is below a greater number
  lower : (y : T) (k : ℕ) → key y ≤ k → (zs : List T) → AllByRecursion (λ z. key z < key y) zs → AllByRecursion (λ z. key z < k) zs
  lower y k le zs below = All-weaker (λ z. key z < key y) (λ z. key z < k) (λ z under. omega (arith, under, le)) zs below

  higher : (y : T) (k : ℕ) → k ≤ key y → (zs : List T) → AllByRecursion (λ z. key y < key z) zs → AllByRecursion (λ z. k < key z) zs
  higher y k le zs above = All-weaker (λ z. key y < key z) (λ z. k < key z) (λ z over. omega (arith, over, le)) zs above

  -- a lower element is placed before it
  placed-before : (x y : T) (before after : List T) → key x < key y → placed_by key x (before ++ y ∷ after) ≡ placed_by key x before ++ y ∷ after
  placed-before x y [] after lt = grind (arith, nat_tests)
  placed-before x y (z ∷ zs) after lt = (let rest = placed-before x y zs after lt in grind (arith, nat_tests))

  -- a higher one behind it
  placed-after : (x y : T) (before after : List T) → AllByRecursion (λ z. key z < key x) before → key y < key x
      → placed_by key x (before ++ y ∷ after) ≡ before ++ y ∷ placed_by key x after
  placed-after x y [] after below lt = grind (arith, nat_tests)
  placed-after x y (z ∷ zs) after below lt =
      let first : key z < key x = below.0 in
      let rest = placed-after x y zs after below.1 lt in
      grind (arith, nat_tests)

  -- and one of its key in its place
  placed-same : (x y : T) (before after : List T) → AllByRecursion (λ z. key z < key x) before → key x ≡ key y
      → placed_by key x (before ++ y ∷ after) ≡ before ++ x ∷ after
  placed-same x y [] after below same = grind (arith, nat_tests)
  placed-same x y (z ∷ zs) after below same =
      let first : key z < key x = below.0 in
      let rest = placed-same x y zs after below.1 same in
      grind (arith, nat_tests)

  -- nothing is taken out or found of keys that are all higher
  without-higher : (k : ℕ) (zs : List T) → AllByRecursion (λ z. k < key z) zs → without_key key k zs ≡ zs
  without-higher k [] above = refl
  without-higher k (z ∷ zs) above =
      let first : k < key z = above.0 in
      let rest = without-higher k zs above.1 in
      grind (arith, nat_tests)

  at-higher : (k : ℕ) (zs : List T) → AllByRecursion (λ z. k < key z) zs → at_key key k zs ≡ None
  at-higher k [] above = refl
  at-higher k (z ∷ zs) above =
      let first : k < key z = above.0 in
      let rest = at-higher k zs above.1 in
      grind (arith, nat_tests)

  -- a lower key is taken out before the element
  without-before : (k : ℕ) (y : T) (before after : List T) → k < key y → AllByRecursion (λ z. k < key z) after
      → without_key key k (before ++ y ∷ after) ≡ without_key key k before ++ y ∷ after
  without-before k y [] after lt above =
      let rest = without-higher k after above in
      grind (arith, nat_tests)
  without-before k y (z ∷ zs) after lt above =
      let rest = without-before k y zs after lt above in
      grind (arith, nat_tests)

  -- a higher one behind it
  without-after : (k : ℕ) (y : T) (before after : List T) → AllByRecursion (λ z. key z < k) before → key y < k
      → without_key key k (before ++ y ∷ after) ≡ before ++ y ∷ without_key key k after
  without-after k y [] after below lt = grind (arith, nat_tests)
  without-after k y (z ∷ zs) after below lt =
      let first : key z < k = below.0 in
      let rest = without-after k y zs after below.1 lt in
      grind (arith, nat_tests)

  -- and its own leaves the two sides
  without-same : (k : ℕ) (y : T) (before after : List T) → AllByRecursion (λ z. key z < k) before → key y ≡ k
      → AllByRecursion (λ z. k < key z) after → without_key key k (before ++ y ∷ after) ≡ before ++ after
  without-same k y [] after below same above =
      let rest = without-higher k after above in
      grind (arith, nat_tests)
  without-same k y (z ∷ zs) after below same above =
      let first : key z < k = below.0 in
      let rest = without-same k y zs after below.1 same above in
      grind (arith, nat_tests)

  -- a lower key is found before the element
  at-before : (k : ℕ) (y : T) (before after : List T) → k < key y → AllByRecursion (λ z. k < key z) after
      → at_key key k (before ++ y ∷ after) ≡ at_key key k before
  at-before k y [] after lt above =
      let rest = at-higher k after above in
      grind (arith, nat_tests)
  at-before k y (z ∷ zs) after lt above =
      let rest = at-before k y zs after lt above in
      grind (arith, nat_tests)

  -- a higher one behind it
  at-after : (k : ℕ) (y : T) (before after : List T) → AllByRecursion (λ z. key z < k) before → key y < k
      → at_key key k (before ++ y ∷ after) ≡ at_key key k after
  at-after k y [] after below lt = grind (arith, nat_tests)
  at-after k y (z ∷ zs) after below lt =
      let first : key z < k = below.0 in
      let rest = at-after k y zs after below.1 lt in
      grind (arith, nat_tests)

  -- and its own is its
  at-same : (k : ℕ) (y : T) (before after : List T) → AllByRecursion (λ z. key z < k) before → key y ≡ k
      → at_key key k (before ++ y ∷ after) ≡ Some y
  at-same k y [] after below same = grind (arith, nat_tests)
  at-same k y (z ∷ zs) after below same =
      let first : key z < k = below.0 in
      let rest = at-same k y zs after below.1 same in
      grind (arith, nat_tests)

  -- below a range and above it nothing is in it
  none-below : (low high : ℕ) (zs : List T) → AllByRecursion (λ z. key z < low) zs → filter (is_from_to key low high) zs ≡ []
  none-below low high [] below = refl
  none-below low high (z ∷ zs) below =
      let first : key z < low = below.0 in
      let rest = none-below low high zs below.1 in
      grind (arith, nat_tests)

  none-above : (low high : ℕ) (zs : List T) → AllByRecursion (λ z. high < key z) zs → filter (is_from_to key low high) zs ≡ []
  none-above low high [] above = refl
  none-above low high (z ∷ zs) above =
      let first : high < key z = above.0 in
      let rest = none-above low high zs above.1 in
      grind (arith, nat_tests)

  -- so where the element is below it, what is in it stands behind the element
  from_to-after : (low high : ℕ) (y : T) (before after : List T) → AllByRecursion (λ z. key z < low) before → key y < low
      → filter (is_from_to key low high) (before ++ y ∷ after) ≡ filter (is_from_to key low high) after
  from_to-after low high y before after below lt =
      let front = none-below low high before below in
      let whole = filter-append (is_from_to key low high) before (y ∷ after) in
      let own : filter (is_from_to key low high) (y ∷ after) ≡ filter (is_from_to key low high) after = grind (arith, nat_tests) in
      whole ∙ ap (λ xs. xs ++ filter (is_from_to key low high) (y ∷ after)) front ∙ own

  -- and where it is above, before it
  from_to-before : (low high : ℕ) (y : T) (before after : List T) → high < key y → AllByRecursion (λ z. high < key z) after
      → filter (is_from_to key low high) (before ++ y ∷ after) ≡ filter (is_from_to key low high) before
  from_to-before low high y [] after lt above =
      let rest = none-above low high after above in
      grind (arith, nat_tests)
  from_to-before low high y (z ∷ zs) after lt above =
      let rest = from_to-before low high y zs after lt above in
      grind (arith, nat_tests)

  -- ---- the same of the two sides of an element
  module _ (before : List T) (y : T) (after : List T) (are : AreSides key before y after) where
    pub placed-left : (x : T) → key x < key y → placed_by key x (before ++ y ∷ after) ≡ placed_by key x before ++ y ∷ after
    placed-left x lt = placed-before x y before after lt

    pub placed-right : (x : T) → key y < key x → placed_by key x (before ++ y ∷ after) ≡ before ++ y ∷ placed_by key x after
    placed-right x lt = placed-after x y before after (lower y (key x) (omega arith) before are.below) lt

    pub placed-here : (x : T) → key x ≡ key y → placed_by key x (before ++ y ∷ after) ≡ before ++ x ∷ after
    placed-here x same = placed-same x y before after (lower y (key x) (omega arith) before are.below) same

    pub without-left : (k : ℕ) → k < key y → without_key key k (before ++ y ∷ after) ≡ without_key key k before ++ y ∷ after
    without-left k lt = without-before k y before after lt (higher y k (omega arith) after are.above)

    pub without-right : (k : ℕ) → key y < k → without_key key k (before ++ y ∷ after) ≡ before ++ y ∷ without_key key k after
    without-right k lt = without-after k y before after (lower y k (omega arith) before are.below) lt

    pub without-here : (k : ℕ) → k ≡ key y → without_key key k (before ++ y ∷ after) ≡ before ++ after
    without-here k same =
        without-same k y before after (lower y k (omega arith) before are.below) (sym same) (higher y k (omega arith) after are.above)

    pub at-left : (k : ℕ) → k < key y → at_key key k (before ++ y ∷ after) ≡ at_key key k before
    at-left k lt = at-before k y before after lt (higher y k (omega arith) after are.above)

    pub at-right : (k : ℕ) → key y < k → at_key key k (before ++ y ∷ after) ≡ at_key key k after
    at-right k lt = at-after k y before after (lower y k (omega arith) before are.below) lt

    pub at-here : (k : ℕ) → k ≡ key y → at_key key k (before ++ y ∷ after) ≡ Some y
    at-here k same = at-same k y before after (lower y k (omega arith) before are.below) (sym same)

    pub from_to-right : (low high : ℕ) → key y < low
        → filter (is_from_to key low high) (before ++ y ∷ after) ≡ filter (is_from_to key low high) after
    from_to-right low high lt = from_to-after low high y before after (lower y low (omega arith) before are.below) lt

    pub from_to-left : (low high : ℕ) → high < key y
        → filter (is_from_to key low high) (before ++ y ∷ after) ≡ filter (is_from_to key low high) before
    from_to-left low high lt = from_to-before low high y before after lt (higher y high (omega arith) after are.above)
