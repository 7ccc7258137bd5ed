-- Being at most as far away is a total preorder of sums with points, and so is being below no other; so of some one is nearest.
use Rattle.std.proofs.Common.{◌≡◌, ℕ, zero, suc, ◌+◌, ◌-◌, ◌*◌, ◌^◌, ◌<◌, ◌≤◌, Bool, true, false, IsTrue, List, [], ◌∷◌, length, get_or, Some}
use Rattle.std.proofs.Common.{refl, sym, ◌∙◌, inl, inr, arith}
use Rattle.std.specs.List.{All, AllByRecursion, Any, list_all}
use Rattle.std.specs.Ordering.{nat_cmp, ordering_then, is_le, is_lt}
use Rattle.std.proofs.Math.Nat.{mul-le-mul_right, le_of_mul-le-mul_right, one-le-pow}
use Rattle.std.proofs.lemmas.Bool.{cases_lt}
use Rattle.std.proofs.lemmas.Bool.Decides.{nat_tests}
use Rattle.std.proofs.lemmas.List.{get_or_default}
use Rattle.std.proofs.lemmas.List.Folds.{list_all_at}
use Rattle.std.proofs.lemmas.List.Sums.{list_all-from_AllPass}
use Rattle.std.proofs.lemmas.List.Elements.{All-from_recursion, All-weaker}
use Rattle.cs_base.specs.Total.{Total, IsTotal}
use Rattle.cs_near.proofs.Found.{find-first}
use Rattle.cs_near.specs.Distance.{squared_distance, IsAtMostAsFar}
use Rattle.cs_near.specs.Nearest.{nearness_cmp, nearest}

-- what the comparison of two numbers says
le-from_cmp : (m n : ℕ) → IsTrue (is_le (nat_cmp m n)) → m ≤ n
le-from_cmp m n le = grind (arith, nat_tests)

-- and what gives it
cmp-from_le : (m n : ℕ) → m ≤ n → IsTrue (is_le (nat_cmp m n))
cmp-from_le m n le = grind (arith, nat_tests)

-- fractions d / x, e / y and f / z in order, compared across
le-across : (d e f x y z : ℕ) → 0 < y → d * y ≤ e * x → e * z ≤ f * y → d * z ≤ f * x
le-across d e f x y z some first second =
    let left : (d * z) * y ≤ (e * x) * z = omega (arith, mul-le-mul_right z first) in
    let right : (e * z) * x ≤ (f * x) * y = omega (arith, mul-le-mul_right x second) in
    le_of_mul-le-mul_right {m = d * z} {n = f * x} {k = y} (omega (arith, left, right)) some

-- the middle one has points, so it can be left out
pub IsAtMostAsFar-trans : (from a b c : Total) → 0 < b.count → IsAtMostAsFar from a b → IsAtMostAsFar from b c → IsAtMostAsFar from a c
IsAtMostAsFar-trans from a b c some first second =
    cmp-from_le _ _ (le-across (squared_distance from a) (squared_distance from b) (squared_distance from c) (a.count ^ 2) (b.count ^ 2) (c.count ^ 2)
    (omega (arith, one-le-pow 2 b.count some))
    (le-from_cmp _ _ first) (le-from_cmp _ _ second))

-- the first numbers decide, and the second ones where those are equal
then-parts : (d e i j : ℕ) → is_le (ordering_then (nat_cmp d e) (nat_cmp i j)) ≡ true → IsTrue (is_le (nat_cmp d e)) × (IsTrue (is_le (nat_cmp e d)) → i ≤ j)
then-parts d e i j le = (grind (arith, nat_tests), λ back. grind (arith, nat_tests))

-- and the other way round
then-from_parts : (d e i j : ℕ) → IsTrue (is_le (nat_cmp d e)) → (IsTrue (is_le (nat_cmp e d)) → i ≤ j)
    → is_le (ordering_then (nat_cmp d e) (nat_cmp i j)) ≡ true
then-from_parts d e i j le least = elim (cases_lt d e) [
  | inl below ↦ grind (arith, nat_tests, below)
  | inr above ↦ (let order : i ≤ j = least (cmp-from_le e d above) in let same = le-from_cmp d e le in grind (arith, nat_tests))
]

-- of two pairs of numbers one is at most the other
then-total : (d e i j : ℕ) → is_le (ordering_then (nat_cmp d e) (nat_cmp i j)) ≡ false → is_le (ordering_then (nat_cmp e d) (nat_cmp j i)) ≡ true
then-total d e i j above = grind (arith, nat_tests)

-- what is not below is at most, turned round
then-from_not_lt : (d e i j : ℕ) → is_lt (ordering_then (nat_cmp d e) (nat_cmp i j)) ≡ false → is_le (ordering_then (nat_cmp e d) (nat_cmp j i)) ≡ true
then-from_not_lt d e i j not_below = grind (arith, nat_tests)

-- and what is below is not
then-from_lt : (d e i j : ℕ) → is_lt (ordering_then (nat_cmp d e) (nat_cmp i j)) ≡ true → is_le (ordering_then (nat_cmp e d) (nat_cmp j i)) ≡ false
then-from_lt d e i j below = grind (arith, nat_tests)

module _ {T : Type 0} (key : T → ℕ) (sum : T → Total) (from : Total) where
  -- one is at most as far away as another, and has no greater key where they are as near
  abbrev pub is_below : T → T → Bool
  is_below a b = is_le (nearness_cmp key sum from a b)

  -- the first places have sums with points
  pub record IsCounted (ts : List T) (i : ℕ) : Type 0 where
    pub some : (k : ℕ) (d : T) → k < i → 0 < (sum (get_or ts k d)).count

  -- place b is below each of the first places, and is the first such place
  pub record IsBest (ts : List T) (i b : ℕ) : Type 0 where
    pub in_range : b ≤ i - 1
    pub below : (k : ℕ) (d : T) → k < i → is_below (get_or ts b d) (get_or ts k d) ≡ true
    pub first : (k : ℕ) (d : T) → k < b → is_below (get_or ts k d) (get_or ts b d) ≡ false

  -- the distance to one, times the square of the count of another
  abbrev far : T → T → ℕ
  far a b = squared_distance from (sum a) * (sum b).count ^ 2

  -- of two one is below the other
  is_below-total : (a b : T) → is_below a b ≡ false → is_below b a ≡ true
  is_below-total a b above = then-total (far a b) (far b a) (key a) (key b) above

  -- and above what it is not below
  is_below-from_not_lt : (a b : T) → is_lt (nearness_cmp key sum from a b) ≡ false → is_below b a ≡ true
  is_below-from_not_lt a b not_below = then-from_not_lt (far a b) (far b a) (key a) (key b) not_below

  not_below-from_lt : (a b : T) → is_lt (nearness_cmp key sum from a b) ≡ true → is_below b a ≡ false
  not_below-from_lt a b below = then-from_lt (far a b) (far b a) (key a) (key b) below

  -- each is below itself
  is_below-refl : (a : T) → is_below a a ≡ true
  is_below-refl a = elim (is_below a a) as (λ v. is_below a a ≡ v → is_below a a ≡ true) [ true ↦ λ e. e | false ↦ λ e. is_below-total a a e ] refl

  -- below what is below a third
  is_below-trans : (a b c : T) → 0 < (sum a).count → 0 < (sum b).count → 0 < (sum c).count
      → is_below a b ≡ true → is_below b c ≡ true → is_below a c ≡ true
  is_below-trans a b c some_a some_b some_c first second =
      let ab = then-parts (far a b) (far b a) (key a) (key b) first in
      let bc = then-parts (far b c) (far c b) (key b) (key c) second in
      then-from_parts (far a c) (far c a) (key a) (key c) (IsAtMostAsFar-trans from (sum a) (sum b) (sum c) some_b ab.0 bc.0)
      (λ ca. (
      let ba = ab.1 (IsAtMostAsFar-trans from (sum b) (sum c) (sum a) some_c bc.0 ca) in
      let cb = bc.1 (IsAtMostAsFar-trans from (sum c) (sum a) (sum b) some_a ca ab.0) in
      omega (arith, ba, cb)
      ))

  -- one more place has points
  pub IsCounted-more : (ts : List T) (i : ℕ) (x : T) → i < length ts → x ≡ get_or ts i x → 0 < (sum x).count → IsCounted ts i → IsCounted ts (i + 1)
  IsCounted-more ts i x lt is some counted = record {
    some = λ k d before. elim (cases_lt k i) [
      | inl earlier ↦ counted.some k d earlier
      | inr later ↦ (let same : k ≡ i = omega arith in rw (same, ← (is ∙ get_or_default ts i x d lt)) some)
    ];
  }

  -- at one place of a list stands one element
  pub same-place : (ts : List T) (i : ℕ) (x y : T) → i < length ts → x ≡ get_or ts i x → y ≡ get_or ts i y → x ≡ y
  same-place ts i x y lt is was = is ∙ get_or_default ts i x y lt ∙ sym was

  -- of the first place alone it is the best
  pub IsBest-first : (ts : List T) → IsBest ts 1 0
  IsBest-first ts = record {
    in_range = omega arith;
    below = λ k d before. (let same : k ≡ 0 = omega arith in rw same (is_below-refl (get_or ts 0 d)));
    first = λ k d before. grind arith;
  }

  -- and it has points where its element has
  pub IsCounted-first : (ts : List T) (x : T) → 0 < length ts → x ≡ get_or ts 0 x → 0 < (sum x).count → IsCounted ts 1
  IsCounted-first ts x lt is some = IsCounted-more ts 0 x lt is some (record { some = λ k d before. grind arith })

  -- where the next one is not below the best so far, that stays the best
  pub IsBest-keeps : (ts : List T) (i b : ℕ) (x y : T) → i < length ts → x ≡ get_or ts i x → y ≡ get_or ts b y → IsBest ts i b
      → is_lt (nearness_cmp key sum from x y) ≡ false → IsBest ts (i + 1) b
  IsBest-keeps ts i b x y lt is was best not_below = record {
    in_range = omega (arith, best.in_range);
    below = λ k d before. elim (cases_lt k i) [
      | inl earlier ↦ best.below k d earlier
      | inr later ↦
          let same : k ≡ i = omega arith in
          let here : is_below y x ≡ true = is_below-from_not_lt x y not_below in
          rw (same, ← (is ∙ get_or_default ts i x d lt), ← (was ∙ get_or_default ts b y d (omega (arith, best.in_range)))) here
    ];
    first = best.first;
  }

  -- where it is, it is the best
  pub IsBest-takes : (ts : List T) (i b : ℕ) (x y : T) → i < length ts → x ≡ get_or ts i x → y ≡ get_or ts b y → IsCounted ts (i + 1) → IsBest ts i b
      → is_lt (nearness_cmp key sum from x y) ≡ true → IsBest ts (i + 1) i
  IsBest-takes ts i b x y lt is was counted best nearer =
      let b_in : b ≤ i = omega (arith, best.in_range) in
      let some : (k : ℕ) (d : T) → k ≤ i → 0 < (sum (get_or ts k d)).count = λ k d le. counted.some k d (omega arith) in
      let above : (d : T) → is_below (get_or ts b d) (get_or ts i d) ≡ false = λ d. (
      let here : is_below y x ≡ false = not_below-from_lt x y nearer in
      rw (← (is ∙ get_or_default ts i x d lt), ← (was ∙ get_or_default ts b y d (omega (arith, best.in_range)))) here
      ) in
      record {
        in_range = omega arith;
        below = λ k d before. elim (cases_lt k i) [
          | inl earlier ↦ is_below-trans (get_or ts i d) (get_or ts b d) (get_or ts k d) (some i d (omega arith)) (some b d b_in)
              (some k d (omega arith)) (is_below-total (get_or ts b d) (get_or ts i d) (above d)) (best.below k d earlier)
          | inr later ↦ (let same : k ≡ i = omega arith in rw same (is_below-refl (get_or ts i d)))
        ];
        first = λ k d before. elim (is_below (get_or ts k d) (get_or ts i d)) as (λ v. is_below (get_or ts k d) (get_or ts i d) ≡ v → v ≡ false) [
          | false ↦ λ _. refl
          | true ↦ λ e. sym (is_below-trans (get_or ts b d) (get_or ts k d) (get_or ts i d) (some b d b_in) (some k d (omega arith))
              (some i d (omega arith)) (best.below k d before) e) ∙ above d
        ] refl;
      }

  -- the best of all is the nearest
  pub nearest-best : (ts : List T) (b : ℕ) (d : T) → b < length ts → IsBest ts (length ts) b → nearest key sum from ts ≡ Some (get_or ts b d)
  nearest-best ts b d lt best =
      let one = get_or ts b d in
      let at : (e : T) → one ≡ get_or ts b e = λ e. get_or_default ts b d e lt in
      find-first (λ t. list_all (is_below t) ts) ts b d lt
      (list_all-from_AllPass (is_below one) ts (λ k e before. rw (at e) (best.below k e before)))
      (λ j before. list_all_at (is_below (get_or ts j d)) ts b d lt (best.first j d before))

  -- of the first places one is the best
  best-exists : (t : T) (ts : List T) (i : ℕ) → i ≤ length (t ∷ ts) → IsCounted (t ∷ ts) i → (b : ℕ) × IsBest (t ∷ ts) i b
  best-exists t ts zero le counted =
      (0, record { in_range = omega arith; below = λ k d lt. absurd (omega arith); first = λ k d lt. absurd (omega arith) })
  best-exists t ts (suc i) le counted =
      let us = t ∷ ts in
      let last = best-exists t ts i (omega arith) (record { some = λ k d lt. counted.some k d (omega arith) }) in
      let x = get_or us i t in
      let y = get_or us last.0 t in
      let more : IsCounted us (i + 1) = record { some = λ k d lt. counted.some k d (omega arith) } in
      let next : (b : ℕ) × IsBest us (i + 1) b = elim (is_lt (nearness_cmp key sum from x y)) as
      (λ v. is_lt (nearness_cmp key sum from x y) ≡ v → (b : ℕ) × IsBest us (i + 1) b) [
        | true ↦ λ e. (
          i,
          IsBest-takes us i last.0 x y (omega arith) (get_or_default us i t x (omega arith))
              (get_or_default us last.0 t y (omega (arith, last.1.in_range))) more last.1 e,
        )
        | false ↦ λ e. (
          last.0,
          IsBest-keeps us i last.0 x y (omega arith) (get_or_default us i t x (omega arith))
              (get_or_default us last.0 t y (omega (arith, last.1.in_range))) last.1 e,
        )
      ] refl in
      let same : i + 1 ≡ suc i = omega arith in
      rw same at next

  -- so of some with points one is nearest
  pub nearest-some : (ts : List T) → 0 < length ts → AllByRecursion (λ t. 0 < (sum t).count) ts → (t : T) × (nearest key sum from ts ≡ Some t)
  nearest-some [] some counted = absurd (omega arith)
  nearest-some (t ∷ ts) some counted =
      let us = t ∷ ts in
      let best = best-exists t ts (length us) (omega arith) (record { some = All-from_recursion (λ u. 0 < (sum u).count) us counted }) in
      (get_or us best.0 t, nearest-best us best.0 t (omega (arith, best.1.in_range)) best.1)

-- and it is at most as far away as each
pub one-is_nearest : (from : Total) (others : List Total) → 0 < length others → All IsTotal others → Any (λ a. All (IsAtMostAsFar from a) others) others
one-is_nearest from [] some valid = absurd (omega arith)
one-is_nearest from (t ∷ ts) some valid =
    let key : Total → ℕ = λ _. 0 in
    let sum : Total → Total = λ u. u in
    let us = t ∷ ts in
    let counted = All-weaker IsTotal (λ (u : Total). 0 < u.count) (λ u is. is.some) us valid in
    let best = best-exists key sum from t ts (length us) (omega arith) (record { some = counted }) in
    let a = get_or us best.0 t in
    let lt : best.0 < length us = omega (arith, best.1.in_range) in
    let far : (b : Total) → is_below key sum from a b ≡ true → IsAtMostAsFar from a b =
    λ b e. (then-parts (squared_distance from a * b.count ^ 2) (squared_distance from b * a.count ^ 2) 0 0 e).0 in
    (best.0, a, lt, get_or_default us best.0 a t lt, λ k d before. far (get_or us k d) (rw (get_or_default us best.0 t d lt) (best.1.below k d before)))
