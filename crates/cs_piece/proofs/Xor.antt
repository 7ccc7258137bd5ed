-- The XOR of blocks of one length.
use Rattle.std.proofs.Common.{◌≡◌, ℕ, zero, suc, ◌<◌, List, [], ◌∷◌, ◌++◌, length, take, drop, get_or, set, refl, sym, ap, ◌∙◌, arith}
use Rattle.cs_piece.specs.Blocks.{parity, xor}
use lib.Bits.{bit_xor, xor_assoc, xor_comm, xor_self, xor_zero_l}

-- what is XORed twice goes out
xor_twice : (s z : ℕ) → bit_xor s (bit_xor s z) ≡ z
xor_twice s z = sym (xor_assoc s s z) ∙ ap (λ n. bit_xor n z) (xor_self s) ∙ xor_zero_l z

-- the last two of three may change places
xor_swap : (a b c : ℕ) → bit_xor (bit_xor a b) c ≡ bit_xor (bit_xor a c) b
xor_swap a b c = xor_assoc a b c ∙ ap (bit_xor a) (xor_comm b c) ∙ sym (xor_assoc a c b)

-- the XOR is as long as the blocks
pub length-xor : (x y : List ℕ) → length y ≡ length x → length (xor x y) ≡ length x
length-xor [] y e = refl
length-xor (a ∷ x) [] e = absurd (omega arith)
length-xor (a ∷ x) (b ∷ y) e = omega (arith, length-xor x y (omega arith))

-- the XOR is that of the blocks in the other order
pub xor-comm : (x y : List ℕ) → xor x y ≡ xor y x
xor-comm [] [] = refl
xor-comm [] (b ∷ y) = refl
xor-comm (a ∷ x) [] = refl
xor-comm (a ∷ x) (b ∷ y) = cc (xor_comm a b, xor-comm x y)

-- a block that is XORed twice goes out
pub xor-xor : (s z : List ℕ) → length z ≡ length s → xor s (xor s z) ≡ z
xor-xor [] [] e = refl
xor-xor [] (b ∷ z) e = absurd (omega arith)
xor-xor (a ∷ s) [] e = absurd (omega arith)
xor-xor (a ∷ s) (b ∷ z) e = cc (xor_twice a b, xor-xor s z (omega arith))

-- the last two of three blocks may change places
pub parity-swap : (x y z : List ℕ) → parity x y z ≡ parity x z y
parity-swap [] y z = refl
parity-swap (a ∷ x) [] [] = refl
parity-swap (a ∷ x) [] (c ∷ z) = refl
parity-swap (a ∷ x) (b ∷ y) [] = refl
parity-swap (a ∷ x) (b ∷ y) (c ∷ z) = cc (xor_swap a b c, parity-swap x y z)

-- the first block, whose first i bytes are XORed with those of the second
abbrev pub xored_front : ℕ → List ℕ → List ℕ → List ℕ
xored_front i x y = xor (take i x) (take i y) ++ drop i x

-- one more byte
pub xored_front-more : (x y : List ℕ) (i : ℕ) → i < length x → length y ≡ length x
    → set (xored_front i x y) i (bit_xor (get_or (xored_front i x y) i 0) (get_or y i 0)) ≡ xored_front (suc i) x y
xored_front-more [] y i lt e = absurd (omega arith)
xored_front-more (a ∷ x) [] i lt e = absurd (omega arith)
xored_front-more (a ∷ x) (b ∷ y) zero lt e = refl
xored_front-more (a ∷ x) (b ∷ y) (suc i) lt e = cc (xored_front-more x y i (omega arith) (omega arith))
