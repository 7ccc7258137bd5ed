-- Digits in lower case, two for each byte.
use Rattle.std.proofs.Common.{◌≡◌, ℕ, suc, ◌+◌, ◌*◌, ◌/◌, ◌%◌, ◌<◌, Bool, true, false, not, ◌||◌, eqb, List, [], ◌∷◌}
use Rattle.std.proofs.Common.{slice_index, Option, Some, None, unwrap_or, Result, Ok, Err, refl, sym, ap, ◌∙◌, arith}
use Rattle.std.specs.List.{list_all}
use Rattle.std.proofs.lemmas.Bool.{agree_below_at, and_from, and_parts, eqb-true}
use Rattle.std.proofs.lemmas.Bool.Decides.{nat_tests}
use Rattle.hex.specs.Hex.{◌>>=◌, IsBytes, decode_of, decode_pairs, digit_or_error, encode_lower, encode_with, hex_digit_value, lower_digits}
use Rattle.hex.specs.Hex.{pair_value, value_at}
use Rattle.hex.specs.declared.error.FromHexError.{FromHexError}
use Rattle.hex.proofs.HexLemmas.{decode_of-even, decode_of-ok}
use Rattle.cs_script.specs.Kinds.{is_lower_digit}

-- the digits that are written are in lower case
lower-written : (d : ℕ) → d < 16 → is_lower_digit (slice_index lower_digits d) ≡ true
lower-written d small = agree_below_at (λ e. is_lower_digit (slice_index lower_digits e)) (λ e. true) 16 d refl small

-- so is what is written of some bytes
pub lower-encode : (bytes : List ℕ) → IsBytes bytes → list_all is_lower_digit (encode_lower bytes) ≡ true
unfolding encode_with
lower-encode [] are = refl
lower-encode (b ∷ bytes) are =
    let small : b < 256 = are 0 in
    and_from (is_lower_digit (slice_index lower_digits (b / 16))) _ (lower-written (b / 16) (omega arith))
    (and_from (is_lower_digit (slice_index lower_digits (b % 16))) _ (lower-written (b % 16) (omega arith))
    (lower-encode bytes (λ i. are (suc i))))

-- a digit in lower case is below 128
lower-small : (c : ℕ) → is_lower_digit c ≡ true → c < 128
lower-small c low = grind (arith, nat_tests)

-- whether a digit in lower case is the one that is written for its value
abbrev is_back : ℕ → Bool
is_back c = not (is_lower_digit c) || eqb (slice_index lower_digits (unwrap_or (hex_digit_value c) 0)) c

-- what a test says where the other one passes
or_else : (b t : Bool) → b ≡ true → (not b || t) ≡ true → t ≡ true
or_else true t e h = h
or_else false t e h = cc

-- it is
digit_back : (c v : ℕ) → is_lower_digit c ≡ true → hex_digit_value c ≡ Some v → slice_index lower_digits v ≡ c
digit_back c v low is =
    let table : is_back c ≡ true = agree_below_at is_back (λ e. true) 128 c refl (lower-small c low) in
    let back : eqb (slice_index lower_digits (unwrap_or (hex_digit_value c) 0)) c ≡ true = or_else (is_lower_digit c) _ low table in
    ap (λ o. slice_index lower_digits (unwrap_or o 0)) (sym is) ∙ eqb-true (slice_index lower_digits (unwrap_or (hex_digit_value c) 0)) c back

-- the value of a step that went through
bind_ok : {A B : Type 0} (r : Result A FromHexError) (f : A → Result B FromHexError) (y : B) → (r >>= f) ≡ Ok y
    → (x : A) × (r ≡ Ok x) × (f x ≡ Ok y)
bind_ok (Ok x) f y e = (x, refl, e)
bind_ok (Err d) f y e = cc

-- the value of a digit that was read
digit_read : (c i : ℕ) (o : Option ℕ) (v : ℕ) → digit_or_error c i o ≡ Ok v → o ≡ Some v
digit_read c i (Some w) v e = cc
digit_read c i None v e = cc

-- a digit's value
digit_small : (c v : ℕ) → hex_digit_value c ≡ Some v → v < 16
digit_small c v is = grind (arith)

-- the first two digits are those of the first byte
two_back : (a b h l : ℕ) → is_lower_digit a ≡ true → is_lower_digit b ≡ true → hex_digit_value a ≡ Some h → hex_digit_value b ≡ Some l
    → (slice_index lower_digits ((h * 16 + l) / 16) ≡ a) × (slice_index lower_digits ((h * 16 + l) % 16) ≡ b)
two_back a b h l a_low b_low a_is b_is =
    let h_small = digit_small a h a_is in
    let l_small = digit_small b l b_is in
    let high : (h * 16 + l) / 16 ≡ h = omega arith in
    let low : (h * 16 + l) % 16 ≡ l = omega arith in
    (ap (slice_index lower_digits) high ∙ digit_back a h a_low a_is, ap (slice_index lower_digits) low ∙ digit_back b l b_low b_is)

-- pairs of digits in lower case are what is written of their bytes
encode-pairs : (i : ℕ) (text bytes : List ℕ) → decode_pairs i text ≡ Ok bytes → list_all is_lower_digit text ≡ true → encode_lower bytes ≡ text
unfolding decode_pairs encode_with
encode-pairs i [] bytes e low = let same : [] ≡ bytes = cc in ap encode_lower (sym same)
encode-pairs i (a ∷ []) bytes e low = cc
encode-pairs i (a ∷ b ∷ rest) bytes e low =
    let pair = bind_ok (pair_value a b i) _ bytes e in
    let first = bind_ok (value_at a i) _ pair.0 pair.1 in
    let second = bind_ok (value_at b (i + 1)) _ pair.0 first.2 in
    let others = bind_ok (decode_pairs (i + 2) rest) _ bytes pair.2 in
    let one = and_parts (is_lower_digit a) _ low in
    let two = and_parts (is_lower_digit b) _ one.1 in
    let behind = encode-pairs (i + 2) rest others.0 others.1 two.1 in
    let front = two_back a b first.0 second.0 one.0 two.0 (digit_read a i _ first.0 first.1) (digit_read b (i + 1) _ second.0 second.1) in
    let byte : first.0 * 16 + second.0 ≡ pair.0 = cc second.2 in
    let whole : pair.0 ∷ others.0 ≡ bytes = cc others.2 in
    ap encode_lower (sym whole) ∙ ap (λ n. slice_index lower_digits (n / 16) ∷ slice_index lower_digits (n % 16) ∷ encode_lower others.0) (sym byte)
    ∙ ap (λ c. c ∷ slice_index lower_digits ((first.0 * 16 + second.0) % 16) ∷ encode_lower others.0) front.0
    ∙ ap (λ c. a ∷ c ∷ encode_lower others.0) front.1 ∙ ap (λ cs. a ∷ b ∷ cs) behind

-- a text of digits in lower case is what is written of its bytes
pub encode-decoded : (text bytes : List ℕ) → decode_of text ≡ Ok bytes → list_all is_lower_digit text ≡ true → encode_lower bytes ≡ text
encode-decoded text bytes e low =
    let ok = decode_of-ok text bytes e in
    encode-pairs 0 text bytes (sym (decode_of-even text ok.0) ∙ e) low
