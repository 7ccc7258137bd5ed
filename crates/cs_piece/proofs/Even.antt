-- Four blocks of which each is the XOR of the three others, in any order.
use Rattle.std.proofs.Common.{◌≡◌, ◌≢◌, ℕ, zero, suc, ◌≤◌, List, length, ap, ◌∙◌, arith}
use Rattle.cs_piece.specs.Blocks.{parity, xor}
use Rattle.cs_piece.proofs.Xor.{length-xor, parity-swap, xor-comm, xor-xor}

-- four blocks of n bytes, of which the last is the XOR of the three before it
pub record IsEven (n : ℕ) (x y z w : List ℕ) : Type 0 where
  pub first : length x ≡ n
  pub second : length y ≡ n
  pub third : length z ≡ n
  pub fourth : length w ≡ n
  pub sum : parity x y z ≡ w

-- the indexes 0 to 3 in some order
pub record AreFour (a b c d : ℕ) : Type 0 where
  pub first : a ≤ 3
  pub second : b ≤ 3
  pub third : c ≤ 3
  pub fourth : d ≤ 3
  pub ab : a ≢ b
  pub ac : a ≢ c
  pub ad : a ≢ d
  pub bc : b ≢ c
  pub bd : b ≢ d
  pub cd : c ≢ d

module _ (n : ℕ) (x y z w : List ℕ) where
  -- the first two may change places
  swap12 : IsEven n x y z w → IsEven n y x z w
  swap12 e = record {
    first = e.second;
    second = e.first;
    third = e.third;
    fourth = e.fourth;
    sum = ap (λ s. xor s z) (xor-comm y x) ∙ e.sum;
  }

  -- and the two in the middle
  swap23 : IsEven n x y z w → IsEven n x z y w
  swap23 e = record {
    first = e.first;
    second = e.third;
    third = e.second;
    fourth = e.fourth;
    sum = parity-swap x z y ∙ e.sum;
  }

  -- and the last two
  swap34 : IsEven n x y z w → IsEven n x y w z
  swap34 e =
      let pair : length (xor x y) ≡ n = length-xor x y (omega arith) ∙ e.first in
      record {
        first = e.first;
        second = e.second;
        third = e.fourth;
        fourth = e.third;
        sum = rw (← e.sum) (xor-xor (xor x y) z (omega arith));
      }

-- What holds of 0, 1, 2 and 3 in this order, and of any order where two neighbours change places, holds of any order.
module _ (P : ℕ → ℕ → ℕ → ℕ → Type 0)
    (first : (a b c d : ℕ) → P a b c d → P b a c d)
    (middle : (a b c d : ℕ) → P a b c d → P a c b d)
    (last : (a b c d : ℕ) → P a b c d → P a b d c) where
  -- with 2 and 3 at their places
  any2 : (a b : ℕ) → a ≤ 1 → b ≤ 1 → a ≢ b → P 0 1 2 3 → P a b 2 3
  any2 zero (suc zero) la lb ab p = p
  any2 (suc zero) zero la lb ab p = first 0 1 2 3 p
  any2 a b la lb ab p = absurd (omega arith)

  -- with 3 at its place
  any3 : (a b c : ℕ) → a ≤ 2 → b ≤ 2 → c ≤ 2 → a ≢ b → a ≢ c → b ≢ c → P 0 1 2 3 → P a b c 3
  any3 a b (suc (suc zero)) la lb lc ab ac bc p = any2 a b (omega arith) (omega arith) ab p
  any3 a (suc (suc zero)) c la lb lc ab ac bc p = middle a c 2 3 (any2 a c (omega arith) (omega arith) ac p)
  any3 (suc (suc zero)) b c la lb lc ab ac bc p =
      first b 2 c 3 (middle b c 2 3 (any2 b c (omega arith) (omega arith) bc p))
  any3 a b c la lb lc ab ac bc p = absurd (omega arith)

  pub any4 : (a b c d : ℕ) → AreFour a b c d → P 0 1 2 3 → P a b c d
  any4 a b c (suc (suc (suc zero))) q p = any3 a b c (omega arith) (omega arith) (omega arith) q.ab q.ac q.bc p
  any4 a b (suc (suc (suc zero))) d q p =
      last a b d 3 (any3 a b d (omega arith) (omega arith) (omega arith) q.ab q.ad q.bd p)
  any4 a (suc (suc (suc zero))) c d q p =
      middle a c 3 d (last a c d 3 (any3 a c d (omega arith) (omega arith) (omega arith) q.ac q.ad q.cd p))
  any4 (suc (suc (suc zero))) b c d q p =
      first b 3 c d (middle b c 3 d (last b c d 3 (any3 b c d (omega arith) (omega arith) (omega arith) q.bc q.bd q.cd p)))
  any4 a b c d q p = absurd (omega arith)

module _ (n : ℕ) (f : ℕ → List ℕ) where
  -- blocks a, b, c and d are even
  abbrev pub Are : ℕ → ℕ → ℕ → ℕ → Type 0
  Are a b c d = IsEven n (f a) (f b) (f c) (f d)

  -- where the four blocks are even, they are so in any order
  pub even-any : (a b c d : ℕ) → AreFour a b c d → Are 0 1 2 3 → Are a b c d
  even-any =
      any4 Are (λ a b c d. swap12 n (f a) (f b) (f c) (f d)) (λ a b c d. swap23 n (f a) (f b) (f c) (f d))
      (λ a b c d. swap34 n (f a) (f b) (f c) (f d))

  -- and where they are so in some order
  pub even-back : (a b c d : ℕ) → AreFour a b c d → Are a b c d → Are 0 1 2 3
  even-back a b c d q =
      any4 (λ a b c d. Are a b c d → Are 0 1 2 3)
      (λ a b c d back e. back (swap12 n (f b) (f a) (f c) (f d) e))
      (λ a b c d back e. back (swap23 n (f a) (f c) (f b) (f d) e))
      (λ a b c d back e. back (swap34 n (f a) (f b) (f d) (f c) e))
      a b c d q (λ e. e)
