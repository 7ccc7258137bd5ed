-- How large the products are of which distances are made: counts are at most 10,000, and coordinates at most 1,000,000 away
-- from 0. The square of the gap of two centroids on one axis is at most 4 * 10 ^ 28, three of them are at most 1.2 * 10 ^ 29, and
-- times the square of a third count at most 1.2 * 10 ^ 37, which is below 2 ^ 127.
use Rattle.std.proofs.Common.{◌≡◌, ℕ, ◌*◌, ◌^◌, ◌≤◌, ℤ, pos, ◌*ℤ◌, ◌-ℤ◌, FitsSigned, w64, arith, rules}
use Rattle.std.specs.Prelude.{unsigned_abs}
use Rattle.std.proofs.Math.Nat.{mul-le-mul}
use Rattle.std.proofs.lemmas.Int.{ints, unsigned_abs-mul, fits_signed_from_abs}
use Rattle.cs_base.specs.Axes.{IsNear}

-- a number from -bound to bound has at most this absolute value
unsigned_abs-near : (bound : ℕ) (z : ℤ) → IsNear bound z → unsigned_abs z ≤ bound
unsigned_abs-near bound z near = omega (arith, ints)

-- a count times a sum on an axis
unsigned_abs-product : (n m : ℕ) (a : ℤ) → n ≤ 10000 → m ≤ 10000 → IsNear (1000000 * m) a → unsigned_abs (pos n *ℤ a) ≤ 10 ^ 14
unsigned_abs-product n m a few_n few_m near =
    let sum : unsigned_abs a ≤ 10 ^ 10 = omega (arith, unsigned_abs-near (1000000 * m) a near) in
    rw unsigned_abs-mul (mul-le-mul few_n sum)

-- it fits 64 bits
pub FitsSigned-product : (n m : ℕ) (a : ℤ) → n ≤ 10000 → m ≤ 10000 → IsNear (1000000 * m) a → FitsSigned w64 (pos n *ℤ a)
FitsSigned-product n m a few_n few_m near =
    fits_signed_from_abs w64 (pos n *ℤ a) (omega (arith, unsigned_abs-product n m a few_n few_m near))

-- the difference of two such products
unsigned_abs-difference : (a b : ℤ) → unsigned_abs a ≤ 10 ^ 14 → unsigned_abs b ≤ 10 ^ 14 → unsigned_abs (a -ℤ b) ≤ 2 * 10 ^ 14
unsigned_abs-difference a b small_a small_b = omega (arith, ints)

-- a number times itself is its square
square-is : (n : ℕ) → n * n ≡ n ^ 2
square-is n = search rules

-- the gap on one axis: its square, and a bound of it
pub squared_gap-le : (m n : ℕ) (a b : ℤ) → m ≤ 10000 → n ≤ 10000 → IsNear (1000000 * m) a → IsNear (1000000 * n) b
    → (gap : ℕ) → gap ≡ unsigned_abs (pos n *ℤ a -ℤ pos m *ℤ b) → (gap * gap ≡ gap ^ 2) × (gap * gap ≤ 4 * 10 ^ 28)
squared_gap-le m n a b few_m few_n near_a near_b gap is =
    let first = unsigned_abs-product n m a few_n few_m near_a in
    let second = unsigned_abs-product m n b few_m few_n near_b in
    let small : gap ≤ 2 * 10 ^ 14 = omega (arith, unsigned_abs-difference (pos n *ℤ a) (pos m *ℤ b) first second) in
    (square-is gap, mul-le-mul small small)
