-- The sum of the points of a region's members: what it is with one more member, in any order, and that it is one.
use Rattle.std.proofs.Common.{◌≡◌, ℕ, ◌*◌, ◌<◌, ◌≤◌, ◌==◌, ℤ, pos, neg_ℤ, ◌+ℤ◌, ◌≤ℤ◌, Bool, true, false}
use Rattle.std.proofs.Common.{List, [], ◌∷◌, length, map, Option, Some, None, refl, sym, ap, subst, ◌∙◌, arith}
use Rattle.std.specs.Option.{SomeIff}
use Rattle.std.specs.List.{AllByRecursion, fold}
use Rattle.std.proofs.lemmas.Int.{ints}
use Rattle.cs_base.specs.Axes.{Axes, IsNear, IsPoint}
use Rattle.cs_base.specs.Limits.{farthest, most_summed}
use Rattle.cs_base.specs.Points.{coordinates, total}
use Rattle.cs_base.specs.Total.{IsTotal, Total}
use Rattle.cs_base.specs.declared.member.Member.{Member}
use Rattle.cs_base.specs.declared.point.Axis.TheVariants.{X, Y, Z}
use Rattle.cs_near.specs.Sums.{sum_of_points}
use Rattle.cs_group.specs.declared.row.Row.{Row}
use Rattle.cs_group.specs.Rows.{IsRow, members_in, rows_in}
use Rattle.cs_group.specs.Table.{with_point, without_point}
use Rattle.cs_group.proofs.Lists.{ByRecursion-map, ByRecursion-weaken}
use Rattle.cs_base.proofs.Ascending.{All-of_filter}

-- a sum by its parts
pub same-total : (t u : Total) → t.count ≡ u.count → t.sums.x ≡ u.sums.x → t.sums.y ≡ u.sums.y → t.sums.z ≡ u.sums.z → t ≡ u
same-total t u count x y z = λ i. record { count = count i; sums = record { x = x i; y = y i; z = z i } }

-- a sum that may be made is made
pub made-total : (o : Option Total) (t u : Total) → SomeIff o (IsTotal t) t → t ≡ u → IsTotal u → o ≡ Some u
made-total None t u made same is = absurd (made (subst IsTotal (sym same) is))
made-total (Some s) t u made same is = ap Some (made.1 ∙ same)

-- the point of a member
abbrev pub point : Member → Axes
point m = m.at

-- the sum of some members' points
abbrev pub sum_at : List Member → Total
sum_at ms = sum_of_points point ms

-- a sum from another number on
total-from : (a : ℤ) (ns : List ℤ) → fold ◌+ℤ◌ a ns ≡ a +ℤ total ns
total-from a [] = omega (arith, ints)
total-from a (n ∷ ns) =
    let first = total-from (a +ℤ n) ns in
    let second = total-from (pos 0 +ℤ n) ns in
    omega (arith, ints, first, second)

-- with one more number
total-cons : (n : ℤ) (ns : List ℤ) → total (n ∷ ns) ≡ total ns +ℤ n
total-cons n ns = (let first = total-from (pos 0 +ℤ n) ns in omega (arith, ints, first))

-- with one more member
sum-cons : (m : Member) (ms : List Member) → sum_at (m ∷ ms) ≡ with_point (sum_at ms) m.at
sum-cons m ms =
    same-total (sum_at (m ∷ ms)) (with_point (sum_at ms) m.at) (omega arith) (total-cons m.at.x (coordinates point X ms))
    (total-cons m.at.y (coordinates point Y ms)) (total-cons m.at.z (coordinates point Z ms))

-- two points come in any order
swapped-points : (t : Total) (p q : Axes) → with_point (with_point t p) q ≡ with_point (with_point t q) p
swapped-points t p q =
    same-total (with_point (with_point t p) q) (with_point (with_point t q) p) refl (omega (arith, ints)) (omega (arith, ints)) (omega (arith, ints))

-- and one that came and went leaves the sum
pub point-gone : (t : Total) (p : Axes) → without_point (with_point t p) p ≡ t
point-gone t p = same-total (without_point (with_point t p) p) t (omega arith) (omega (arith, ints)) (omega (arith, ints)) (omega (arith, ints))

module _ (n : ℕ) where
  -- the sum of a region
  abbrev pub sum_here : List Row → Total
  sum_here rows = sum_at (members_in n rows)

  -- a row of the region adds its point
  pub sum-own : (r : Row) (rows : List Row) → (r.region == n) ≡ true → sum_here (r ∷ rows) ≡ with_point (sum_here rows) r.member.at
  sum-own r rows e =
      let one : members_in n (r ∷ rows) ≡ r.member ∷ members_in n rows = rw e refl in
      ap sum_at one ∙ sum-cons r.member (members_in n rows)

  -- and another nothing
  pub sum-other : (r : Row) (rows : List Row) → (r.region == n) ≡ false → sum_here (r ∷ rows) ≡ sum_here rows
  sum-other r rows e = (let none : members_in n (r ∷ rows) ≡ members_in n rows = rw e refl in ap sum_at none)

  -- so the sum of a list with one more row goes by the sum of the list
  pub sum-same : (r : Row) (xs ys : List Row) → sum_here xs ≡ sum_here ys → sum_here (r ∷ xs) ≡ sum_here (r ∷ ys)
  sum-same r xs ys e = go (r.region == n) refl
    where
      go : (b : Bool) → (r.region == n) ≡ b → sum_here (r ∷ xs) ≡ sum_here (r ∷ ys)
      go true own = sum-own r xs own ∙ (ap (λ (t : Total). with_point t r.member.at) e ∙ sym (sum-own r ys own))
      go false other = sum-other r xs other ∙ (e ∙ sym (sum-other r ys other))

  -- in any order
  pub sum-swapped : (r s : Row) (xs : List Row) → sum_here (r ∷ s ∷ xs) ≡ sum_here (s ∷ r ∷ xs)
  sum-swapped r s xs = go (r.region == n) refl (s.region == n) refl
    where
      go : (b : Bool) → (r.region == n) ≡ b → (c : Bool) → (s.region == n) ≡ c → sum_here (r ∷ s ∷ xs) ≡ sum_here (s ∷ r ∷ xs)
      go true own true also =
          sum-own r (s ∷ xs) own ∙ (ap (λ (t : Total). with_point t r.member.at) (sum-own s xs also)
          ∙ (swapped-points (sum_here xs) s.member.at r.member.at
          ∙ sym (sum-own s (r ∷ xs) also ∙ ap (λ (t : Total). with_point t s.member.at) (sum-own r xs own))))
      go true own false other =
          sum-own r (s ∷ xs) own ∙ (ap (λ (t : Total). with_point t r.member.at) (sum-other s xs other)
          ∙ sym (sum-other s (r ∷ xs) other ∙ sum-own r xs own))
      go false other true own =
          sum-other r (s ∷ xs) other ∙ (sum-own s xs own
          ∙ sym (sum-own s (r ∷ xs) own ∙ ap (λ (t : Total). with_point t s.member.at) (sum-other r xs other)))
      go false other false also =
          sum-other r (s ∷ xs) other ∙ (sum-other s xs also ∙ sym (sum-other s (r ∷ xs) also ∙ sum-other r xs other))

-- the sum of coordinates that are near 0
near-total : (f : Member → ℤ) (ms : List Member) → AllByRecursion (λ m. IsNear farthest (f m)) ms
    → IsNear (farthest * length ms) (total (map f ms))
near-total f [] near = (omega (arith, ints), omega (arith, ints))
near-total f (m ∷ ms) near =
    let rest = near-total f ms near.1 in
    let one = total-cons (f m) (map f ms) in
    let low : neg_ℤ (pos farthest) ≤ℤ f m = near.0.0 in
    let high : f m ≤ℤ pos farthest = near.0.1 in
    (omega (arith, ints, one, rest.0, low), omega (arith, ints, one, rest.1, high))

-- some members, few enough, have a sum
pub IsTotal-members : (ms : List Member) → AllByRecursion (λ (m : Member). IsPoint m.at) ms → 0 < length ms → length ms ≤ most_summed
    → IsTotal (sum_at ms)
IsTotal-members ms points some few = record {
  some = some;
  few = few;
  near = record {
    x = near-total (λ m. m.at.x) ms (ByRecursion-weaken (λ (m : Member). IsPoint m.at) (λ (m : Member). IsNear farthest m.at.x) (λ m p. p.x) ms points);
    y = near-total (λ m. m.at.y) ms (ByRecursion-weaken (λ (m : Member). IsPoint m.at) (λ (m : Member). IsNear farthest m.at.y) (λ m p. p.y) ms points);
    z = near-total (λ m. m.at.z) ms (ByRecursion-weaken (λ (m : Member). IsPoint m.at) (λ (m : Member). IsNear farthest m.at.z) (λ m p. p.z) ms points);
  };
}

-- and so have those of a region
pub IsTotal-here : (n : ℕ) (rows : List Row) → AllByRecursion IsRow rows → 0 < length (members_in n rows) → length (members_in n rows) ≤ most_summed
    → IsTotal (sum_here n rows)
IsTotal-here n rows allowed some few =
    IsTotal-members (members_in n rows)
    (ByRecursion-map (λ (r : Row). r.member) (λ (m : Member). IsPoint m.at) (rows_in n rows)
    (All-of_filter (λ (r : Row). IsPoint r.member.at) (λ (r : Row). r.region == n) rows
    (ByRecursion-weaken IsRow (λ (r : Row). IsPoint r.member.at) (λ r is. is.member.at) rows allowed)))
    some few
