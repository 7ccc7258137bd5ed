-- What number with a sign a text is the one text of.
use Rattle.std.proofs.Common.{◌≡◌, ℕ, zero, suc, ◌-◌, ◌^◌, ◌<◌, ◌≤◌, ◌≢◌, List, ◌∷◌, get_or, drop, Bool, ◌&&◌}
use Rattle.std.proofs.Common.{leb, Option, Some, None, Decides, decimal, ℤ, pos, negsuc, neg_ℤ, refl, sym, ap, ◌∙◌, arith}
use Rattle.std.specs.Prelude.{int_le, option_and_then}
use Rattle.std.specs.Fmt.{signed_decimal}
use Rattle.std.specs.Int.{w32, IsInRange}
use Rattle.std.specs.Option.{option_map}
use lib.Signed.{mag}
use Rattle.std.specs.Int.RustNames.{FitsSigned}
use Rattle.std.specs.Str.{bytes_eq}
use Rattle.std.specs.Str.Parse.{digits_value, signed_digits_value}
use Rattle.std.proofs.lemmas.Bool.Decides.{Decides-and, Decides-like, nat_tests}
use Rattle.std.proofs.lemmas.Slice.Eq.{bytes_eq-Decides}
use Rattle.std.proofs.lemmas.Fmt.{digits_decimal, digits_value-decimal, decimal_nonempty}
use Rattle.std.proofs.lemmas.Str.Parse.{not_in_digits}
use Rattle.cs_base.specs.Canonical.{below_zero, number_of, signed_number_of}
use Rattle.cs_base.proofs.Numbers.{numerals, kept, dropped, let_through, number_of-found, number_of-is}

-- the text is the digits of z, with its sign, and z has 32 bits
pub record IsSignedNumber (text : List ℕ) (z : ℤ) : Type 0 where
  pub fits : FitsSigned w32 z
  pub spelt : text ≡ signed_decimal z

-- the test of `signed_number_of`
abbrev passes : ℤ → List ℕ → Bool
passes z text = int_le (negsuc (2 ^ 31 - 1)) z && (int_le z (pos (2 ^ 31 - 1)) && bytes_eq (signed_decimal z) text)

-- a size below 2 ^ 31 and the right text pass the test
size_and_text : (n : ℕ) (z : ℤ) (text : List ℕ) → mag z ≡ n
    → Decides (leb n (2 ^ 31 - 1) && bytes_eq (signed_decimal z) text) (FitsSigned w32 z × (signed_decimal z ≡ text))
size_and_text n z text size =
    Decides-like {P = (n ≤ 2 ^ 31 - 1) × (signed_decimal z ≡ text)} {Q = FitsSigned w32 z × (signed_decimal z ≡ text)} _
    (λ h. (record { sfits = omega (arith, h.0) }, h.1)) (λ h. (omega (arith, h.0.sfits), h.1))
    (Decides-and (leb n (2 ^ 31 - 1)) (bytes_eq (signed_decimal z) text) (grind (arith, nat_tests)) (bytes_eq-Decides (signed_decimal z) text))

-- the test of `signed_number_of` passes a number of 32 bits with its text
passes-Decides : (z : ℤ) (text : List ℕ) → Decides (passes z text) (FitsSigned w32 z × (signed_decimal z ≡ text))
passes-Decides (pos n) text = size_and_text n (pos n) text refl
passes-Decides (negsuc n) text = size_and_text n (negsuc n) text refl

-- digits begin with no other byte
first_of_decimal : (n c : ℕ) → n < 2 ^ 64 → ¬ (IsInRange 48 57 c) → get_or (decimal n) 0 0 ≢ c
first_of_decimal n c small no_digit =
    not_in_digits numerals (decimal n) c (digits_decimal numerals n small) no_digit 0 (decimal_nonempty n small)

-- the value of a text without a sign
value-plain : (text : List ℕ) → get_or text 0 0 ≢ 45 → get_or text 0 0 ≢ 43 → signed_digits_value 10 text ≡ pos (digits_value 10 text)
value-plain text no_minus no_plus = grind (arith, nat_tests)

-- a number's text has its value
value-signed : (z : ℤ) → FitsSigned w32 z → signed_digits_value 10 (signed_decimal z) ≡ z
value-signed (pos n) fits =
    let small : n < 2 ^ 64 = omega (arith, fits.sfits) in
    value-plain (decimal n) (first_of_decimal n 45 small (λ h. omega arith)) (first_of_decimal n 43 small (λ h. omega arith))
    ∙ ap pos (digits_value-decimal numerals n small)
value-signed (negsuc n) fits = ap (λ m. neg_ℤ (pos m)) (digits_value-decimal numerals (suc n) (omega (arith, fits.sfits)))

-- the number that was found is the text's
pub signed_number_of-found : (text : List ℕ) (z : ℤ) → signed_number_of text ≡ Some z → IsSignedNumber text z
signed_number_of-found text z e =
    let value = signed_digits_value 10 text in
    let through = let_through (passes value text) value z e in
    let both = (passes-Decides value text).0 through.0 in
    record { fits = rw (← through.1) both.0; spelt = rw (← through.1) (sym both.1) }

-- the text's number is found
pub signed_number_of-is : (text : List ℕ) (z : ℤ) → IsSignedNumber text z → signed_number_of text ≡ Some z
signed_number_of-is text z is =
    let value : signed_digits_value 10 text ≡ z = rw is.spelt (value-signed z is.fits) in
    rw value (kept (passes z text) z ((passes-Decides z text).1 (is.fits, sym is.spelt)))

-- a text of no number has none
pub signed_number_of-none : (text : List ℕ) → ((z : ℤ) → ¬ (IsSignedNumber text z)) → signed_number_of text ≡ None
signed_number_of-none text not_one =
    let value = signed_digits_value 10 text in
    dropped (passes value text) value
    (λ e. (let both = (passes-Decides value text).0 e in not_one value (record { fits = both.0; spelt = sym both.1 })))

-- a number with a minus is below 0, and behind the minus stands its size
size-minus : (digits : List ℕ) (z : ℤ) → IsSignedNumber (45 ∷ digits) z → (n : ℕ) × (number_of (2 ^ 31) digits ≡ Some (suc n))
size-minus digits (pos n) is =
    absurd (first_of_decimal n 45 (omega (arith, is.fits.sfits)) (λ h. omega arith) (ap (λ ds. get_or ds 0 0) (sym is.spelt)))
size-minus digits (negsuc n) is = (
  n,
  number_of-is (2 ^ 31) digits (suc n) (omega arith) (record {
    within = omega (arith, is.fits.sfits);
    spelt = ap (drop 1) is.spelt;
  }),
)

-- a number without a minus isn't below 0, and is its size
size-plain : (text : List ℕ) (z : ℤ) → ((rest : List ℕ) → text ≢ 45 ∷ rest) → IsSignedNumber text z → (n : ℕ) × (number_of (2 ^ 31 - 1) text ≡ Some n)
size-plain text (pos n) plain is =
    (n, number_of-is (2 ^ 31 - 1) text n (omega arith) (record { within = omega (arith, is.fits.sfits); spelt = is.spelt }))
size-plain text (negsuc n) plain is = absurd (plain (decimal (suc n)) is.spelt)

-- behind a minus stand the digits of the size, which isn't 0
pub signed-minus : (digits : List ℕ) (r : Option ℕ) → r ≡ number_of (2 ^ 31) digits
    → option_and_then below_zero r ≡ signed_number_of (45 ∷ digits)
signed-minus digits (Some (suc n)) e =
    let is = number_of-found (2 ^ 31) digits (suc n) (sym e) in
    sym (signed_number_of-is (45 ∷ digits) (negsuc n) (record {
      fits = record { sfits = omega (arith, is.within) };
      spelt = ap (λ ds. 45 ∷ ds) is.spelt;
    }))
signed-minus digits (Some zero) e =
    sym (signed_number_of-none (45 ∷ digits) (λ z is. (let size = (size-minus digits z is).1 in cc)))
signed-minus digits None e =
    sym (signed_number_of-none (45 ∷ digits) (λ z is. (let size = (size-minus digits z is).1 in cc)))

-- without a minus the text is the digits of the number
pub signed-plain : (text : List ℕ) (r : Option ℕ) → ((rest : List ℕ) → text ≢ 45 ∷ rest) → r ≡ number_of (2 ^ 31 - 1) text
    → option_map pos r ≡ signed_number_of text
signed-plain text (Some n) plain e =
    let is = number_of-found (2 ^ 31 - 1) text n (sym e) in
    sym (signed_number_of-is text (pos n) (record { fits = record { sfits = omega (arith, is.within) }; spelt = is.spelt }))
signed-plain text None plain e =
    sym (signed_number_of-none text (λ z is. (let size = (size-plain text z plain is).1 in cc)))
