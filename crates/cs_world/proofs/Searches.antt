-- A packet that is looked for by its hash.
use Rattle.std.proofs.Common.{◌≡◌, ◌∙◌, ℕ, zero, suc, ◌+◌, ◌<◌, ◌≤◌, ◌&&◌, Bool, true, false, List, length, Option, Some, None}
use Rattle.std.proofs.Common.{IfSome, inl, inr, refl, sym, ap, subst, arith}
use Rattle.std.proofs.lemmas.Bool.{and_parts, and_right, cases_lt, eq-eqb, false≢true}
use Rattle.std.proofs.lemmas.Bool.Decides.{nat_tests}
use Rattle.std.proofs.lemmas.Grind.{common_steps}
use Rattle.std.proofs.Math.Bool.{and-true}
use Rattle.std.proofs.Math.Numerals.{suc-eq-add-one}
use Rattle.std.proofs.lemmas.Option.{none-some}
use Rattle.std.proofs.lemmas.Slice.Eq.{bytes_eq-Decides}
use Rattle.std.specs.BTreeMap.Range.{range_contains}
use Rattle.std.specs.BTreeSet.{BTreeSet}
use Rattle.std.specs.List.{filter, find, position}
use Rattle.std.specs.List.Sorted.{IsStrictlySortedBy}
use Rattle.std.specs.Option.{option_map, option_map_or}
use Rattle.std.specs.Str.{bytes_eq}
use Rattle.std.specs.declared.ops.Bound.TheVariants.{Included}
use Rattle.cs_base.specs.Address.{Address}
use Rattle.cs_base.specs.Ranges.{IsFromTo}
use Rattle.cs_machine.specs.Happens.{same_address}
use Rattle.cs_world.proofs.Indexes.{at-past, at-place}
use Rattle.cs_world.proofs.Least.{IsLeast, find-filter, least-behind, least-in_row, least-one, least-place, least-same}
use Rattle.cs_world.proofs.SameAddress.{same_address-only}
use Rattle.cs_world.proofs.Sorted.{first-least, passes}
use Rattle.cs_world.specs.Indexed.{AreHashed, has_hash, hash_for, hashed_cmp}
use Rattle.cs_world.specs.Sending.{datagram_at, is_for, least_with}
use Rattle.cs_world.specs.declared.datagram.Datagram.{Datagram}
use Rattle.cs_world.specs.declared.index.Hashed.{Hashed}

-- whether a hashed number lies behind a hash
abbrev pub is_behind : ℕ → Hashed → Bool
is_behind hash = range_contains hashed_cmp (Included (record { hash = hash; number = 0 }))
    (Included (record { hash = hash; number = 18446744073709551615 }))

-- one that does has it
behind-hash : (hash : ℕ) (k : Hashed) → is_behind hash k ≡ true → k.hash ≡ hash
behind-hash hash k is = grind (arith, common_steps, nat_tests)

-- and a number does
behind-within : (hash n : ℕ) → n ≤ 18446744073709551615 → is_behind hash (record { hash = hash; number = n }) ≡ true
behind-within hash n within = grind (arith, common_steps, nat_tests)

-- a datagram with an address and bytes has their hash
for-hash : (addr : Address) (bytes : List ℕ) (d : Datagram) → is_for addr bytes d ≡ true → has_hash (hash_for addr bytes) d ≡ true
for-hash addr bytes d is =
    let parts = and_parts (same_address d.addr addr) (bytes_eq d.bytes bytes) is in
    let same : hash_for d.addr d.bytes ≡ hash_for addr bytes =
    ap (λ a. hash_for a d.bytes) (same_address-only d.addr addr parts.0) ∙ ap (hash_for addr) ((bytes_eq-Decides d.bytes bytes).0 parts.1) in
    eq-eqb (hash_for d.addr d.bytes) (hash_for addr bytes) same

-- the least number of a datagram that passes is the least that does
least-with : (test : Datagram → Bool) (items : List Datagram)
    → IsLeast (λ n. option_map_or test (datagram_at items n) false) (least_with test items)
least-with test items =
    least-in_row (λ n. option_map_or test (datagram_at items n) false) 1 (length items) (λ n below. nothing n below)
    (λ n past. ap (λ o. option_map_or test o false) (at-past items n (omega (arith, past))))
  where
    nothing : (n : ℕ) → n < 1 → option_map_or test (datagram_at items n) false ≡ false
    nothing zero below = refl
    nothing (suc n) below = absurd (omega (arith, below))

-- and the place of the first that passes stands before it
pub least-from_place : (test : Datagram → Bool) (items : List Datagram)
    → option_map (λ place. place + 1) (position test items) ≡ least_with test items
least-from_place test items =
    ap (λ (next : ℕ → ℕ). option_map next (position test items)) (λ i place. sym (suc-eq-add-one place) i)
    ∙ least-one (λ n. option_map_or test (datagram_at items n) false) _ _
    (least-behind _ _ refl (λ n. ap (λ o. option_map_or test o false) (at-place items n)) (position test items) (least-place test items))
    (least-with test items)

-- so there is a datagram with it
pub least-there : (test : Datagram → Bool) (items : List Datagram) (most : ℕ) (o : Option ℕ) → length items ≤ most
    → o ≡ least_with test items → IfSome o (IsFromTo 1 most)
least-there test items most None few is = tt
least-there test items most (Some n) few is = (
  from n passed,
  elim (cases_lt n (length items + 1)) [
    | inl inside ↦ omega (arith, inside, few)
    | inr past ↦ absurd (false≢true (sym (ap (λ o. option_map_or test o false) (at-past items n past)) ∙ passed))
  ],
)
  where
    passed : option_map_or test (datagram_at items n) false ≡ true
    passed = (subst (IsLeast (λ n. option_map_or test (datagram_at items n) false)) (sym is) (least-with test items)).0

    from : (n : ℕ) → option_map_or test (datagram_at items n) false ≡ true → 1 ≤ n
    from zero none = absurd (false≢true none)
    from (suc n) there = omega arith

module _ (addr : Address) (bytes : List ℕ) (items : List Datagram) where
  -- whether the datagram with a number is the one
  abbrev pub is_one : Hashed → Bool
  is_one k = option_map_or (is_for addr bytes) (datagram_at items k.number) false

  -- whether it passes a test besides
  abbrev is_sought : (Datagram → Bool) → ℕ → Bool
  is_sought test n = option_map_or (λ (d : Datagram). is_for addr bytes d && test d) (datagram_at items n) false

  module _ (test : Datagram → Bool) (set : BTreeSet Hashed) (are : AreHashed test items set) (few : length items ≤ 18446744073709551615) where
    -- to look behind the hash and compare is to look for it
    sought : (n : ℕ) → passes (hash_for addr bytes) (λ k. is_behind (hash_for addr bytes) k && is_one k) set.keys n ≡ is_sought test n
    sought n =
        ap (λ b. b && (is_behind (hash_for addr bytes) k && is_one k)) (are k)
        ∙ go (datagram_at items n) refl
      where
        k : Hashed
        k = record { hash = hash_for addr bytes; number = n }

        within : (d : Datagram) → datagram_at items n ≡ Some d → n ≤ 18446744073709551615
        within d there = elim (cases_lt n (length items + 1)) [
          | inl inside ↦ omega (arith, inside, few)
          | inr past ↦ absurd (none-some d (sym (at-past items n past) ∙ there))
        ]

        by_for : (d : Datagram) → datagram_at items n ≡ Some d → (b : Bool) → is_for addr bytes d ≡ b
            → ((has_hash (hash_for addr bytes) d && test d) && (is_behind (hash_for addr bytes) k && b)) ≡ (b && test d)
        by_for d there true is =
            ap (λ h. (h && test d) && (is_behind (hash_for addr bytes) k && true)) (for-hash addr bytes d is)
            ∙ ap (λ h. test d && (h && true)) (behind-within (hash_for addr bytes) n (within d there))
            ∙ and-true (test d)
        by_for d there false other =
            and_right (has_hash (hash_for addr bytes) d && test d) (is_behind (hash_for addr bytes) k && false)
            (and_right (is_behind (hash_for addr bytes) k) false refl)

        go : (o : Option Datagram) → datagram_at items n ≡ o
            → (option_map_or (λ (d : Datagram). has_hash (hash_for addr bytes) d && test d) o false
            && (is_behind (hash_for addr bytes) k && option_map_or (is_for addr bytes) o false))
            ≡ option_map_or (λ (d : Datagram). is_for addr bytes d && test d) o false
        go None none = refl
        go (Some d) there = by_for d there (is_for addr bytes d) refl

    -- the first behind the hash that is one has the least number
    pub first-found : IsStrictlySortedBy hashed_cmp set.keys
        → option_map (λ (k : Hashed). k.number) (find is_one (filter (is_behind (hash_for addr bytes)) set.keys))
        ≡ least_with (λ d. is_for addr bytes d && test d) items
    first-found sorted =
        ap (option_map (λ (k : Hashed). k.number)) (find-filter is_one (is_behind (hash_for addr bytes)) set.keys)
        ∙ least-one (is_sought test) _ _
        (least-same (passes (hash_for addr bytes) both set.keys) (is_sought test) (λ n. sought n) _
        (first-least (hash_for addr bytes) both own set.keys sorted))
        (least-with (λ d. is_for addr bytes d && test d) items)
      where
        both : Hashed → Bool
        both k = is_behind (hash_for addr bytes) k && is_one k

        own : (k : Hashed) → both k ≡ true → k.hash ≡ hash_for addr bytes
        own k is = behind-hash (hash_for addr bytes) k (and_parts (is_behind (hash_for addr bytes) k) (is_one k) is).0
