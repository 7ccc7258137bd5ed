-- The first of hashed numbers in their order that passes a test has the least number.
use Rattle.std.proofs.Common.{◌≡◌, ◌≢◌, ◌∙◌, ℕ, ◌<◌, ◌==◌, ◌&&◌, ◌||◌, Bool, true, false, cond, List, [], ◌∷◌, Some}
use Rattle.std.proofs.Common.{refl, sym, ap, arith, nat_cmp}
use Rattle.std.specs.BTreeMap.{is_at}
use Rattle.std.specs.List.{AllByRecursion, find, list_any}
use Rattle.std.specs.List.Sorted.{IsStrictlySortedBy}
use Rattle.std.specs.Option.{option_map}
use Rattle.std.specs.Ordering.{is_eq}
use Rattle.std.specs.declared.cmp.Ordering.TheVariants.{Less}
use Rattle.std.proofs.lemmas.Bool.{and_from, and_left, and_parts, and_right, eq-eqb, eqb-true, ne_eqb, or_from}
use Rattle.std.proofs.lemmas.Bool.Decides.{nat_tests}
use Rattle.std.proofs.lemmas.Grind.{common_steps}
use Rattle.cs_world.proofs.Least.{IsLeast, least-same}
use Rattle.cs_world.proofs.SameAddress.{is_eq-nat_cmp, is_eq-then}
use Rattle.cs_world.specs.Indexed.{hashed_cmp}
use Rattle.cs_world.specs.declared.index.Hashed.{Hashed}

-- they are equal in their order where both hash and number are
pub same-hashed : (a b : Hashed) → is_at (hashed_cmp a) b ≡ ((a.hash == b.hash) && (a.number == b.number))
same-hashed a b =
    is_eq-then (nat_cmp a.hash b.hash) (nat_cmp a.number b.number)
    ∙ ap (λ x. x && is_eq (nat_cmp a.number b.number)) (is_eq-nat_cmp a.hash b.hash)
    ∙ ap (λ x. (a.hash == b.hash) && x) (is_eq-nat_cmp a.number b.number)

-- so they are the same
pub hashed-only : (a b : Hashed) → is_at (hashed_cmp a) b ≡ true → a ≡ b
hashed-only a b same =
    let parts = and_parts (a.hash == b.hash) (a.number == b.number) (sym (same-hashed a b) ∙ same) in
    let left : a ≡ record { hash = b.hash; number = a.number } =
    ap (λ hash. record { hash = hash; number = a.number }) (eqb-true a.hash b.hash parts.0) in
    left ∙ ap (λ number. record { hash = b.hash; number = number }) (eqb-true a.number b.number parts.1)

-- of two with one hash, that with the lesser number comes first
not-before : (k : Hashed) (hash n : ℕ) → k.hash ≡ hash → n < k.number → hashed_cmp k (record { hash = hash; number = n }) ≢ Less
not-before k hash n same below is = grind (arith, common_steps, nat_tests)

-- behind one nothing stands that doesn't come behind it
none-behind : (k q : Hashed) (ks : List Hashed) → AllByRecursion (λ y. hashed_cmp k y ≡ Less) ks → hashed_cmp k q ≢ Less
    → list_any (is_at (hashed_cmp q)) ks ≡ false
none-behind k q [] behind before = refl
none-behind k q (y ∷ ks) behind before =
    or_from (is_at (hashed_cmp q) y) (list_any (is_at (hashed_cmp q)) ks) (go (is_at (hashed_cmp q) y) refl)
    (none-behind k q ks behind.1 before)
  where
    go : (b : Bool) → is_at (hashed_cmp q) y ≡ b → b ≡ false
    go true same = absurd (before (ap (hashed_cmp k) (hashed-only q y same) ∙ behind.0))
    go false other = refl

module _ (hash : ℕ) (test : Hashed → Bool) where
  -- a number behind the hash
  abbrev with : ℕ → Hashed
  with n = record { hash = hash; number = n }

  -- whether it stands there and passes
  abbrev pub passes : List Hashed → ℕ → Bool
  passes ks n = list_any (is_at (hashed_cmp (with n))) ks && test (with n)

  module _ (own : (k : Hashed) → test k ≡ true → k.hash ≡ hash) where
    -- one that passes has this hash
    itself : (k : Hashed) → test k ≡ true → with k.number ≡ k
    itself k does = ap (λ h. record { hash = h; number = k.number }) (sym (own k does))

    -- one that passes passes by its number, and none behind it has a lesser one
    first-passes : (k : Hashed) (ks : List Hashed) → AllByRecursion (λ y. hashed_cmp k y ≡ Less) ks → test k ≡ true
        → IsLeast (passes (k ∷ ks)) (Some k.number)
    first-passes k ks behind does =
        let here : is_at (hashed_cmp (with k.number)) k ≡ true =
        same-hashed (with k.number) k
        ∙ and_from (hash == k.hash) (k.number == k.number) (eq-eqb hash k.hash (sym (own k does))) (eq-eqb k.number k.number refl) in (
          and_from (is_at (hashed_cmp (with k.number)) k || list_any (is_at (hashed_cmp (with k.number))) ks) (test (with k.number))
              (ap (λ b. b || list_any (is_at (hashed_cmp (with k.number))) ks) here) (ap test (itself k does) ∙ does),
          λ n below. none n below,
        )
      where
        none : (n : ℕ) → n < k.number → passes (k ∷ ks) n ≡ false
        none n below =
            and_left (is_at (hashed_cmp (with n)) k || list_any (is_at (hashed_cmp (with n))) ks) (test (with n))
            (or_from (is_at (hashed_cmp (with n)) k) (list_any (is_at (hashed_cmp (with n))) ks)
            (same-hashed (with n) k ∙ and_right (hash == k.hash) (n == k.number) (ne_eqb n k.number (λ same. omega (arith, same, below))))
            (none-behind k (with n) ks behind (not-before k hash n (own k does) below)))

    -- one that doesn't pass changes nothing
    past : (k : Hashed) (ks : List Hashed) (n : ℕ) → test k ≡ false → passes ks n ≡ passes (k ∷ ks) n
    past k ks n fails = go (is_at (hashed_cmp (with n)) k) refl
      where
        go : (b : Bool) → is_at (hashed_cmp (with n)) k ≡ b
            → passes ks n ≡ ((b || list_any (is_at (hashed_cmp (with n))) ks) && test (with n))
        go true same =
            and_right (list_any (is_at (hashed_cmp (with n))) ks) (test (with n)) (ap test (hashed-only (with n) k same) ∙ fails)
            ∙ sym (ap test (hashed-only (with n) k same) ∙ fails)
        go false other = refl

    -- so what is found first has the least number
    pub first-least : (ks : List Hashed) → IsStrictlySortedBy hashed_cmp ks
        → IsLeast (passes ks) (option_map (λ (k : Hashed). k.number) (find test ks))
    unfolding IsStrictlySortedBy
    first-least [] sorted = λ n. refl
    first-least (k ∷ ks) sorted = go (first-least ks sorted.1) (test k) refl
      where
        go : IsLeast (passes ks) (option_map (λ (k : Hashed). k.number) (find test ks)) → (b : Bool) → test k ≡ b
            → IsLeast (passes (k ∷ ks)) (option_map (λ (k : Hashed). k.number) (cond b (Some k) (find test ks)))
        go rest true does = first-passes k ks sorted.0 does
        go rest false fails =
            least-same (passes ks) (passes (k ∷ ks)) (λ n. past k ks n fails)
            (option_map (λ (k : Hashed). k.number) (find test ks)) rest
