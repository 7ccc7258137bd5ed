-- What a shelf has room for, and what stands under each id once something was put there.
use Rattle.std.proofs.Common.{◌≡◌, ℕ, zero, suc, ◌+◌, ◌≤◌, ◌<◌, ◌≢◌, ◌==◌, not, Bool, List, [], ◌∷◌, ◌++◌, length, get_or, Contains, arith}
use Rattle.std.proofs.Common.{Result, Ok, Err, OnOk, OnErr, Some}
use Rattle.std.specs.List.{filter}
use Rattle.std.proofs.lemmas.Bool.Decides.{nat_tests}
use Rattle.cs_base.specs.Ascending.{at_key, placed_by, without_key}

-- a number that is placed makes a list longer by one at most
length-placed : (n : ℕ) (ns : List ℕ) → length (placed_by (λ m. m) n ns) ≤ length ns + 1
length-placed n [] = omega arith
length-placed n (m ∷ ms) = grind (arith, nat_tests, length-placed n ms)

-- taking a number out makes no list longer
length-without : (n : ℕ) (ns : List ℕ) → length (without_key (λ m. m) n ns) ≤ length ns
length-without n [] = omega arith
length-without n (m ∷ ms) = grind (arith, nat_tests, length-without n ms)

-- taking out what stands at some place makes the list shorter
length-without_at : (n : ℕ) (ns : List ℕ) (i : ℕ) → i < length ns → get_or ns i n ≡ n → length (without_key (λ m. m) n ns) + 1 ≤ length ns
length-without_at n [] i in_range at = absurd (omega arith)
length-without_at n (m ∷ ms) zero in_range at = grind (arith, nat_tests, length-without n ms)
length-without_at n (m ∷ ms) (suc i) in_range at = grind (arith, nat_tests, length-without n ms, length-without_at n ms i (omega arith) at)

-- the room for one more id that is out
pub room-lent : {E : Type 0} (r : Result Bool E) (n : ℕ) (out after : List ℕ) (kept room : ℕ) → OnOk r (after ≡ placed_by (λ m. m) n out)
    → OnErr r (after ≡ out) → kept + (length out + 1) ≤ room → kept + length after ≤ room
room-lent (Ok is_new) n out after kept room placed same enough = rw placed (omega (arith, length-placed n out))
room-lent (Err e) n out after kept room placed same enough = rw same (omega arith)

-- the room for an id that is out serves what is put under it
pub room-put : (n : ℕ) (out : List ℕ) (kept room : ℕ) → Contains out n → kept + length out ≤ room
    → kept + 1 + length (without_key (λ m. m) n out) ≤ room
room-put n out kept room has enough = omega (arith, length-without_at n out has.0 has.1 has.2)

module _ {T : Type 0} (key : T → ℕ) (x : T) where
  -- the others, and the new one behind them
  abbrev pub renewed : List T → List T
  renewed xs = filter (λ y. not (key y == key x)) xs ++ x ∷ []

  -- the new one stands under its key
  pub renewed-here : (xs : List T) → at_key key (key x) (renewed xs) ≡ Some x
  renewed-here [] = grind (arith, nat_tests)
  renewed-here (y ∷ ys) = grind (arith, nat_tests, renewed-here ys)

  -- under another key stands what stood there
  pub renewed-elsewhere : (k : ℕ) (xs : List T) → k ≢ key x → at_key key k (renewed xs) ≡ at_key key k xs
  renewed-elsewhere k [] other = grind (arith, nat_tests)
  renewed-elsewhere k (y ∷ ys) other = grind (arith, nat_tests, renewed-elsewhere k ys other)
