-- How many elements an ascending list has, and how many members some rolls have together.
use Rattle.std.proofs.Common.{◌≡◌, ℕ, ◌+◌, ◌-◌, ◌*◌, ◌<◌, ◌≤◌, ◌^◌, List, [], ◌∷◌, length, get_or, take, ap, sym, subst, arith}
use Rattle.std.specs.List.{AllByRecursion, sum_by}
use Rattle.std.proofs.lemmas.List.Sums.{sum_by-cons, sum_by_more_le}
use Rattle.cs_base.proofs.Elements.{All-weaker}
use Rattle.cs_base.specs.Ascending.{IsAscendingBy}
use Rattle.cs_base.specs.Limits.{last_id, last_number}
use Rattle.cs_base.specs.Ranges.{IsMember, IsRegion}
use Rattle.cs_base.specs.declared.member.Member.{Member}
use Rattle.cs_item.specs.Picture.{members_in}
use Rattle.cs_roll.specs.Roll.{IsRoll, member_id}
use Rattle.cs_roll.specs.Sight.{IsByRegion, Rolls}

module _ {T : Type 0} (key : T → ℕ) (n : ℕ) where
  -- the elements behind one have higher keys
  higher : (low : ℕ) (x : T) (xs : List T) → low ≤ key x → AllByRecursion (λ y. key x < key y) xs
      → AllByRecursion (λ y. (low ≤ key y) × (key y < n)) xs → AllByRecursion (λ y. (low + 1 ≤ key y) × (key y < n)) xs
  higher low x [] least above both = tt
  higher low x (y ∷ ys) least above both = ((omega (arith, least, above.0), both.0.1), higher low x ys least above.1 both.1)

  -- an ascending list has no more elements than there are keys
  pub ascending-few : (low : ℕ) (xs : List T) → IsAscendingBy key xs → AllByRecursion (λ y. (low ≤ key y) × (key y < n)) xs
      → length xs ≤ n - low
  ascending-few low [] ascend both = omega arith
  ascending-few low (x ∷ xs) ascend both =
      let fewer : length xs ≤ n - (low + 1) = ascending-few (low + 1) xs ascend.1 (higher low x xs both.0.0 ascend.0 both.1) in
      omega (arith, fewer, both.0.0, both.0.1)

-- how many members a roll may have
pub roll-few : (members : List Member) → IsRoll members → length members ≤ last_id
roll-few members roll =
    let ids = All-weaker IsMember (λ (m : Member). (1 ≤ m.id) × (m.id < last_id + 1)) (λ m is. (is.id.0, omega (arith, is.id.1)))
    members roll.allowed in
    let few : length members ≤ last_id + 1 - 1 = ascending-few member_id (last_id + 1) 1 members roll.ascending ids in
    omega (arith, few)

-- rolls of regions
abbrev pub AreRolls : Rolls → Type 0
AreRolls rolls = AllByRecursion (λ pair. IsRegion pair.0 × IsRoll pair.1) rolls

-- how many regions may have one
pub rolls-few : (rolls : Rolls) → IsByRegion rolls → AreRolls rolls → length rolls ≤ last_number + 1
rolls-few rolls ascend all =
    let regions = All-weaker (λ pair. IsRegion pair.0 × IsRoll pair.1) (λ pair. (0 ≤ pair.0) × (pair.0 < last_number + 1))
    (λ pair is. (omega arith, omega (arith, is.0.1))) rolls all in
    let few : length rolls ≤ last_number + 1 - 0 = ascending-few (λ pair. pair.0) (last_number + 1) 0 rolls ascend regions in
    omega (arith, few)

-- how many members they may have
pub members-few : (rolls : Rolls) → AreRolls rolls → members_in rolls ≤ length rolls * last_id
members-few [] all = omega arith
members-few (pair ∷ rolls) all =
    let fewer : members_in rolls ≤ length rolls * last_id = members-few rolls all.1 in
    let few : length pair.1 ≤ last_id = roll-few pair.1 all.0.1 in
    omega (arith, fewer, few, sum_by-cons (λ (p : ℕ × List Member). length p.1) pair rolls)

-- those so far and those of one more fit into 64 bits
pub next-fits : (rolls items : Rolls) (place members : ℕ) (pair : ℕ × List Member) → items ≡ rolls → IsByRegion rolls → AreRolls rolls
    → place < length items → pair ≡ get_or items place pair → members ≡ members_in (take place items)
    → members + length pair.1 < 2 ^ 64
next-fits rolls items place members pair same ascend all within is so_far =
    let few = rolls-few items (subst IsByRegion (sym same) ascend) (subst AreRolls (sym same) all) in
    let whole = members-few items (subst AreRolls (sym same) all) in
    let size : ℕ × List Member → ℕ = λ p. length p.1 in
    let next : sum_by size (take place items) + size (get_or items place pair) ≤ sum_by size items =
    sum_by_more_le size items place pair within in
    let last : size pair ≡ size (get_or items place pair) = ap size is in
    omega (arith, few, whole, next, last, so_far)
