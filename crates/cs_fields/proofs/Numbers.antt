-- The laws of numbers: they are read as they are written, and written as they are read.
use Rattle.std.proofs.Common.{◌≡◌, ℕ, zero, suc, ◌^◌, ◌<◌, ◌≤◌, nat_le, ◌&&◌, true, List, [], ◌∷◌, length, take, Result, Ok}
use Rattle.std.proofs.Common.{refl, sym, ap, ◌∙◌, arith}
use Rattle.std.specs.List.{AllByRecursion}
use Rattle.std.specs.Int.{bytes_high_first}
use Rattle.std.proofs.Math.Seq.{take-length}
use Rattle.std.proofs.lemmas.Bool.Decides.{nat_tests}
use Rattle.std.proofs.lemmas.List.{append-nil}
use Rattle.byteorder.specs.Endian.{big_number}
use Rattle.byteorder.specs.Numbers.{big_from-lt, big_number-reads_back, length-bytes_high_first}
use Rattle.cs_base.specs.Ranges.{IsFromTo}
use Rattle.cs_fields.specs.declared.fault.PacketFault.{PacketFault}
use Rattle.cs_fields.specs.Reading.{◌>>=◌, IsTaken}
use Rattle.cs_fields.specs.Whole.{one_field}
use Rattle.cs_fields.specs.Numbers.{AreBytes, raw_at, number_at, number_bytes, number_in}
use Rattle.cs_fields.proofs.Codec.{IsBytes, IsCodec, IsCodec-bind, IsCodec-checked, IsCodec-done, IsCodec-same, IsCodec-text, Gives-same, taken}
use Rattle.cs_fields.proofs.NumberBytes.{big_bytes-number, byte_at-pow}
use Rattle.cs_fields.proofs.Raw.{bytes_codec}

-- the bytes of a number are so many
pub length-number_bytes : (n x : ℕ) → length (number_bytes n x) ≡ n
unfolding number_bytes
length-number_bytes n x = length-bytes_high_first n x

-- and they are bytes
bytes_small : (n x : ℕ) → AllByRecursion (λ b. b < 256) (bytes_high_first n x)
bytes_small zero x = tt
bytes_small (suc n) x = (rw (byte_at-pow n x) (omega arith), bytes_small n x)

are_bytes_of : (n x : ℕ) → AreBytes n (number_bytes n x)
unfolding number_bytes
are_bytes_of n x = (length-bytes_high_first n x, bytes_small n x)

-- bytes one by one are bytes by place
bytes_at : (text : List ℕ) → AllByRecursion (λ b. b < 256) text → IsBytes text
bytes_at [] all i = omega arith
bytes_at (b ∷ text) all zero = all.0
bytes_at (b ∷ text) all (suc i) = bytes_at text all.1 i

-- the bytes of the number in n bytes are these
number_bytes-number : (n : ℕ) (text : List ℕ) → AreBytes n text → number_bytes n (big_number n text) ≡ text
unfolding number_bytes
number_bytes-number n text are =
    big_bytes-number n text (bytes_at text are.1) (omega (arith, are.0)) ∙ ap (λ (k : ℕ). take k text) (sym are.0) ∙ take-length text

-- and the number in a number's bytes is that number
big_number-number_bytes : (n x : ℕ) → x < 256 ^ n → big_number n (number_bytes n x) ≡ x
unfolding number_bytes
big_number-number_bytes n x small = ap (big_number n) (sym (append-nil (bytes_high_first n x))) ∙ big_number-reads_back n x [] small

-- the number in n bytes, at least one, is one field
pub number_codec : (n : ℕ) → 0 < n → IsCodec (number_at n) (number_bytes n) (one_field n) (λ x. x < 256 ^ n)
unfolding number_at
number_codec n some =
    IsCodec-text
    (IsCodec-bind (λ text. λ bytes at. Ok (big_number n text.0, at)) (number_bytes n) (bytes_codec n some)
    (λ text are. IsCodec-done (big_number n text.0) (number_bytes-number n text.0 are, big_from-lt 0 n text.0 (bytes_at text.0 are.1))
    (λ v is. sym (big_number-number_bytes n v is.1) ∙ ap (big_number n) is.0))
    (λ v _. are_bytes_of n v))
    (λ v _. (append-nil (number_bytes n v), refl))

-- the number in n bytes within bounds
pub number_in_codec : (n least most : ℕ) → 0 < n → most < 256 ^ n → IsCodec (number_in n least most) (number_bytes n) (one_field n) (IsFromTo least most)
number_in_codec n least most some fits =
    IsCodec-same (IsCodec-checked (λ x. nat_le least x && nat_le x most) (number_codec n some))
    (λ v passed. both least most v passed.1) (λ v within. (omega (arith, within.0, within.1), test least most v within.0 within.1)) (λ v _. (refl, refl))
  where
    both : (least most v : ℕ) → (nat_le least v && nat_le v most) ≡ true → IsFromTo least most v
    both least most v e = (grind (arith, nat_tests), grind (arith, nat_tests))

    test : (least most v : ℕ) → least ≤ v → v ≤ most → (nat_le least v && nat_le v most) ≡ true
    test least most v low high = grind (arith, nat_tests)

-- what a call that makes a number of the bytes that were read says of them
pub number_taken : (n : ℕ) (bytes : List ℕ) (at : ℕ) (r : Result (List ℕ × ℕ) PacketFault) → 0 < n → IsBytes bytes → at ≤ length bytes → r ≡ raw_at n bytes at
    → IsTaken (number_bytes n) (λ x. x < 256 ^ n) n bytes at (r >>= λ text. Ok (big_number n text.0, text.1))
unfolding number_at
number_taken n bytes at r some are_bytes within e =
    let read : (r >>= λ text. Ok (big_number n text.0, text.1)) ≡ number_at n bytes at = rw e refl in
    taken n bytes at _ (number_codec n some) (λ v _. omega arith) are_bytes within (Gives-same _ _ read)

-- and what one within bounds says
pub number_in_taken : (n least most : ℕ) (bytes : List ℕ) (at : ℕ) (r : Result (ℕ × ℕ) PacketFault) → 0 < n → most < 256 ^ n → IsBytes bytes
    → at ≤ length bytes → r ≡ number_in n least most bytes at → IsTaken (number_bytes n) (IsFromTo least most) n bytes at r
number_in_taken n least most bytes at r some fits are_bytes within e =
    taken n bytes at r (number_in_codec n least most some fits) (λ v _. omega arith) are_bytes within (Gives-same r _ e)
