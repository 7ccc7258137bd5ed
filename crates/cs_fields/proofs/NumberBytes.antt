-- The bytes of a number that was read are the bytes that it is written with, from the definitions of `byteorder`.
use Rattle.std.proofs.Common.{◌≡◌, ℕ, zero, suc, ◌+◌, ◌*◌, ◌/◌, ◌%◌, ◌^◌, ◌<◌, ◌≤◌, List, ◌∷◌, length, get_or, take, drop, refl, sym, ap, ◌∙◌, arith, add-one}
use Rattle.std.proofs.Math.Nat.{add-mul, div-one, mod-eq_of_lt, mul-add-mod_self_right, mul_assoc, mul_comm, pow-suc}
use Rattle.std.proofs.lemmas.List.{drop_more}
use Rattle.std.proofs.lemmas.Nat.{div-mul-add}
use Rattle.std.specs.Int.{byte_at, bytes_high_first}
use Rattle.byteorder.specs.Endian.{big_from, big_number, big_bytes}
use Rattle.byteorder.specs.Numbers.{big_from-lt}
use Rattle.cs_fields.proofs.Codec.{IsBytes}

-- a byte of a number, by its place
pub byte_at-pow : (k x : ℕ) → byte_at k x ≡ x / 256 ^ k % 256
byte_at-pow zero x = ap (λ (y : ℕ). y % 256) (sym (div-one x))
byte_at-pow (suc k) x = refl

-- a number above n bytes, and the n bytes, taken apart
regrouped : (q b p r : ℕ) → q * (p * 256) + (b * p + r) ≡ (q * 256 + b) * p + r
regrouped q b p r = omega (arith, add-mul (q * 256) b p, mul_assoc q 256 p, mul_comm p 256)

-- the byte above n bytes
top_byte : (q b n r : ℕ) → b < 256 → r < 256 ^ n → byte_at n ((q * 256 + b) * 256 ^ n + r) ≡ b
top_byte q b n r small below =
    byte_at-pow n _ ∙ ap (λ (x : ℕ). x % 256) (div-mul-add (q * 256 + b) (256 ^ n) r below) ∙ mul-add-mod_self_right q 256 b ∙ mod-eq_of_lt small

-- the bytes of a number that was read at place i, whatever stands above them
bytes_from : (n q i : ℕ) (xs : List ℕ) → IsBytes xs → i + n ≤ length xs → bytes_high_first n (q * 256 ^ n + big_from i n xs) ≡ take n (drop i xs)
bytes_from zero q i xs are_bytes long = refl
bytes_from (suc n) q i xs are_bytes long =
    let b = get_or xs i 0 in
    let r = big_from (suc i) n xs in
    let below : r < 256 ^ n = big_from-lt (suc i) n xs are_bytes in
    let apart : q * 256 ^ suc n + (b * 256 ^ n + r) ≡ (q * 256 + b) * 256 ^ n + r =
    ap (λ (p : ℕ). q * p + (b * 256 ^ n + r)) (pow-suc 256 n) ∙ regrouped q b (256 ^ n) r in
    let rest = bytes_from n (q * 256 + b) (suc i) xs are_bytes (omega arith) in
    let front : drop i xs ≡ b ∷ drop (suc i) xs = drop_more xs i 0 (omega arith) ∙ ap (λ (k : ℕ). b ∷ drop k xs) (add-one i) in
    rw (apart, top_byte q b n r (are_bytes i) below, rest, front) refl

-- the bytes of the number in the first n bytes
pub big_bytes-number : (n : ℕ) (xs : List ℕ) → IsBytes xs → n ≤ length xs → big_bytes n (big_number n xs) ≡ take n xs
big_bytes-number n xs are_bytes long =
    let none : 0 * 256 ^ n + big_from 0 n xs ≡ big_from 0 n xs = omega arith in
    ap (bytes_high_first n) (sym none) ∙ bytes_from n 0 0 xs are_bytes (omega arith)
