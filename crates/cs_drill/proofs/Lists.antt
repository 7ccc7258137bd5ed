-- What one more item is to a mapped list, and one more number.
use Rattle.std.proofs.Common.{◌≡◌, ℕ, zero, suc, ◌+◌, ◌-◌, ◌<◌, List, [], ◌∷◌, ◌++◌, length, get_or, map, set, take}
use Rattle.std.proofs.Common.{ap, append-nil, append_assoc, arith, map-id, sym, ◌∙◌}
use Rattle.std.proofs.Math.Seq.{take-suc-set}
use Rattle.std.specs.List.{flat_map, range_with_len}
use Rattle.std.proofs.lemmas.Grind.{flat_map-append}
use Rattle.std.proofs.lemmas.List.{map_more}
use Rattle.std.proofs.lemmas.List.FromFn.{map-range_with_len_more}

-- the next of the items comes behind what the ones before it stand for
pub one-more : {A B : Type 0} (f : A → B) (xs : List A) (i : ℕ) (x : A) (start so_far : List B) (y : B)
    → i < length xs → x ≡ get_or xs i x → so_far ≡ start ++ map f (take i xs) → y ≡ f x
    → so_far ++ y ∷ [] ≡ start ++ map f (take (i + 1) xs)
one-more f xs i x start so_far y below at before is =
    rw (before, is, map_more f xs i x below, ← at) (append_assoc start (map f (take i xs)) (f x ∷ []))

-- the next number comes behind what the ones before it stand for
pub next-number : {B : Type 0} (f : ℕ → B) (first count n : ℕ) (start so_far : List B) (y : B)
    → first + count ≡ n → so_far ≡ start ++ map f (range_with_len first count) → y ≡ f n
    → so_far ++ y ∷ [] ≡ start ++ map f (range_with_len first (count + 1))
next-number f first count n start so_far y at before is =
    rw (before, is, map-range_with_len_more f first count n at) (append_assoc start (map f (range_with_len first count)) (f n ∷ []))

-- the first items behind a write in the next place
pub one-more-set : {A : Type 0} (xs : List A) (i : ℕ) (x : A) → i < length xs → take (i + 1) (set xs i x) ≡ take i xs ++ x ∷ []
one-more-set xs i x below =
    let more : i + 1 ≡ suc i = omega arith in
    ap (λ k. take k (set xs i x)) more ∙ take-suc-set xs i x below

-- what the next number stands for comes behind what the ones before it stand for
pub next-part : {B : Type 0} (f : ℕ → List B) (n : ℕ) (start so_far part : List B)
    → so_far ≡ start ++ flat_map f (range_with_len 0 n) → part ≡ f n
    → so_far ++ part ≡ start ++ flat_map f (range_with_len 0 (n + 1))
next-part f n start so_far part before is =
    let numbers = sym (map-id (range_with_len 0 (n + 1))) ∙ map-range_with_len_more (λ k. k) 0 n n (omega arith)
    ∙ ap (λ ks. ks ++ n ∷ []) (map-id (range_with_len 0 n)) in
    rw (before, is, numbers, flat_map-append f (range_with_len 0 n) (n ∷ []), append-nil (f n))
    (append_assoc start (flat_map f (range_with_len 0 n)) (f n))

-- numbers from one on are the first and those behind it
pub from-the-first : (n : ℕ) → 0 < n → range_with_len 1 n ≡ 1 ∷ range_with_len 2 (n - 1)
from-the-first zero some = absurd (omega arith)
from-the-first (suc n) some =
    let others : n ≡ suc n - 1 = omega arith in
    ap (λ k. 1 ∷ range_with_len 2 k) others
