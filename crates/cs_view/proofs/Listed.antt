-- What is put into a list by region, and how long a list can be whose regions are all in another one.
use Rattle.std.proofs.Common.{◌≡◌, ℕ, ◌<◌, ◌≤◌, ◌==◌, Bool, true, false, cond, List, [], ◌∷◌, length, Some, sym, ◌∙◌, arith}
use Rattle.std.specs.List.{AllByRecursion}
use Rattle.std.specs.Option.{is_some}
use Rattle.std.proofs.lemmas.Bool.{false≢true, ne_eqb}
use Rattle.cs_base.specs.Ascending.{at_key, placed_by, without_key}
use Rattle.cs_base.proofs.Ascending.{All-placed, find-without, IsAscendingBy-placed}
use Rattle.cs_roll.specs.Sight.{IsByRegion, at_region}
use Rattle.cs_view.specs.Step.{placed_each}
use Rattle.cs_view.proofs.Finding.{is_some-map}

-- what holds of all pairs and of those that are put in holds of all then
pub All-placed_each : {T : Type 0} (P : ℕ × T → Type 0) (more pairs : List (ℕ × T)) → AllByRecursion P more → AllByRecursion P pairs
    → AllByRecursion P (placed_each more pairs)
All-placed_each P [] pairs here all = all
All-placed_each {T} P (pair ∷ more) pairs here all =
    let key : ℕ × T → ℕ = λ p. p.0 in
    All-placed_each P more (placed_by key pair pairs) here.1 (All-placed key P pair pairs here.0 all)

-- pairs in order stay in order
pub IsByRegion-placed_each : {T : Type 0} (more pairs : List (ℕ × T)) → IsByRegion pairs → IsByRegion (placed_each more pairs)
IsByRegion-placed_each [] pairs up = up
IsByRegion-placed_each {T} (pair ∷ more) pairs up =
    let key : ℕ × T → ℕ = λ p. p.0 in
    IsByRegion-placed_each more (placed_by key pair pairs) (IsAscendingBy-placed key pair pairs up)

module _ {T : Type 0} (key : T → ℕ) where
  -- without a key a list is no longer
  length-without-le : (k : ℕ) (ys : List T) → length (without_key key k ys) ≤ length ys
  length-without-le k [] = omega arith
  length-without-le k (y ∷ ys) =
      let rest : length (without_key key k ys) ≤ length ys = length-without-le k ys in
      elim (key y == k) as (λ b. length (cond b (without_key key k ys) (y ∷ without_key key k ys)) ≤ length (y ∷ ys)) [
        | true ↦ omega (arith, rest)
        | false ↦ omega (arith, rest)
      ]

  -- and without one that is there it is shorter
  length-without : (k : ℕ) (ys : List T) → is_some (at_key key k ys) ≡ true → length (without_key key k ys) < length ys
  length-without k [] there = absurd (false≢true there)
  length-without k (y ∷ ys) there = by_key (length-without k ys) (key y == k) there
    where
      by_key : (is_some (at_key key k ys) ≡ true → length (without_key key k ys) < length ys) → (b : Bool)
          → is_some (cond b (Some y) (at_key key k ys)) ≡ true
          → length (cond b (without_key key k ys) (y ∷ without_key key k ys)) < length (y ∷ ys)
      by_key later true e = let rest : length (without_key key k ys) ≤ length ys = length-without-le k ys in omega (arith, rest)
      by_key later false e = let less : length (without_key key k ys) < length ys = later e in omega (arith, less)

-- a region with a greater number is still there without the first one
there-without : {T : Type 0} (k r : ℕ) (others : List (ℕ × T)) → k < r → is_some (at_region r others) ≡ true
    → is_some (at_region r (without_key (λ (p : ℕ × T). p.0) k others)) ≡ true
there-without {T} k r others lt there =
    let differs : (k == r) ≡ false = ne_eqb k r (λ e. omega arith) in
    rw (find-without (λ (p : ℕ × T). p.0) k r others, differs) there

-- and so are all of them
all_there-without : {S T : Type 0} (k : ℕ) (others : List (ℕ × T)) (pairs : List (ℕ × S)) → AllByRecursion (λ (p : ℕ × S). k < p.0) pairs
    → AllByRecursion (λ (p : ℕ × S). is_some (at_region p.0 others) ≡ true) pairs
    → AllByRecursion (λ (p : ℕ × S). is_some (at_region p.0 (without_key (λ (q : ℕ × T). q.0) k others)) ≡ true) pairs
all_there-without k others [] above there = tt
all_there-without k others (p ∷ pairs) above there =
    (there-without k p.0 others above.0 there.0, all_there-without k others pairs above.1 there.1)

-- pairs in order whose regions are all among others are no more than these
pub length-listed : {S T : Type 0} (pairs : List (ℕ × S)) (others : List (ℕ × T)) → IsByRegion pairs
    → AllByRecursion (λ (p : ℕ × S). is_some (at_region p.0 others) ≡ true) pairs → length pairs ≤ length others
length-listed [] others up there = omega arith
length-listed {S} {T} (p ∷ pairs) others up there =
    let key : ℕ × T → ℕ = λ q. q.0 in
    let first : is_some (at_key key p.0 others) ≡ true = sym (is_some-map (λ (q : ℕ × T). q.1) (at_key key p.0 others)) ∙ there.0 in
    let less : length (without_key key p.0 others) < length others = length-without key p.0 others first in
    let rest : length pairs ≤ length (without_key key p.0 others) =
    length-listed pairs (without_key key p.0 others) up.1 (all_there-without p.0 others pairs up.0 there.1) in
    omega (arith, less, rest)
