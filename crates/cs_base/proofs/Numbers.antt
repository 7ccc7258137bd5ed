-- What number a text is the one text of.
use Rattle.std.proofs.Common.{◌≡◌, ℕ, zero, suc, ◌^◌, ◌<◌, ◌≤◌, List, length, get_or, Bool, true}
use Rattle.std.proofs.Common.{false, ◌&&◌, leb, if◌then◌else◌, Some, None, Decides, decimal, refl, sym, arith}
use mathlib.Core.Bool.{false≢true}
use Rattle.std.specs.Str.{bytes_eq}
use Rattle.std.specs.Str.Parse.{AllDigits, digits_value}
use Rattle.std.proofs.lemmas.Bool.Decides.{Decides-and, nat_tests}
use Rattle.std.proofs.lemmas.Slice.Eq.{bytes_eq-Decides}
use Rattle.std.proofs.lemmas.Fmt.{digits_decimal, digits_value-decimal, decimal-digits_value, decimal_digit, decimal_nonempty, first_decimal}
use Rattle.std.proofs.lemmas.Str.Parse.{IsNumeralModel, numerals_by_value, tells_digits}
use Rattle.cs_base.specs.Canonical.{number_of}

-- the text is the digits of n, which is at most top
pub record IsNumber (top : ℕ) (text : List ℕ) (n : ℕ) : Type 0 where
  pub within : n ≤ top
  pub spelt : text ≡ decimal n

-- std's digits and their value
pub numerals : IsNumeralModel (AllDigits 10) (digits_value 10)
numerals = numerals_by_value (AllDigits 10) tells_digits

-- the value where the test passes
pub kept : {T : Type 0} (b : Bool) (x : T) → b ≡ true → (if b then Some x else None) ≡ Some x
kept true x e = refl
kept false x e = absurd (false≢true e)

-- nothing where it doesn't
pub dropped : {T : Type 0} (b : Bool) (x : T) → ¬ (b ≡ true) → (if b then Some x else None) ≡ None
dropped true x fails = absurd (fails refl)
dropped false x fails = refl

-- what is known of a value that the test let through
pub let_through : {T : Type 0} (b : Bool) (x y : T) → (if b then Some x else None) ≡ Some y → (b ≡ true) × (x ≡ y)
let_through true x y e = (refl, cc)
let_through false x y e = cc

-- the test of `number_of`
number_test : (top n : ℕ) (text : List ℕ) → Decides (leb n top && bytes_eq (decimal n) text) ((n ≤ top) × (decimal n ≡ text))
number_test top n text = Decides-and (leb n top) (bytes_eq (decimal n) text) (grind (arith, nat_tests)) (bytes_eq-Decides (decimal n) text)

-- the number that was found is the text's
pub number_of-found : (top : ℕ) (text : List ℕ) (n : ℕ) → number_of top text ≡ Some n → IsNumber top text n
number_of-found top text n e =
    let value = digits_value 10 text in
    let through = let_through (leb value top && bytes_eq (decimal value) text) value n e in
    let test = (number_test top value text).0 through.0 in
    record { within = omega (arith, test.0, through.1); spelt = rw (← through.1) (sym test.1) }

-- the text's number is found
pub number_of-is : (top : ℕ) (text : List ℕ) (n : ℕ) → top < 2 ^ 64 → IsNumber top text n → number_of top text ≡ Some n
number_of-is top text n small is =
    let value : digits_value 10 text ≡ n = rw is.spelt (digits_value-decimal numerals n (omega (arith, is.within))) in
    rw value (kept (leb n top && bytes_eq (decimal n) text) n ((number_test top n text).1 (is.within, sym is.spelt)))

-- a text of no number has none
pub number_of-none : (top : ℕ) (text : List ℕ) → ((n : ℕ) → ¬ (IsNumber top text n)) → number_of top text ≡ None
number_of-none top text not_one =
    let value = digits_value 10 text in
    dropped (leb value top && bytes_eq (decimal value) text) value
    (λ e. (let test = (number_test top value text).0 e in not_one value (record { within = test.0; spelt = sym test.1 })))

-- a text without digits is no number
pub number-nonempty : (top : ℕ) (text : List ℕ) (n : ℕ) → top < 2 ^ 64 → IsNumber top text n → 0 < length text
number-nonempty top text n small is = rw is.spelt (decimal_nonempty n (omega (arith, is.within)))

-- only 0 begins with a zero
pub number-zero : (top : ℕ) (text : List ℕ) (n : ℕ) → top < 2 ^ 64 → IsNumber top text n → get_or text 0 0 ≡ 48 → length text ≡ 1
number-zero top text zero small is first = rw (is.spelt, decimal_digit 0 (omega arith)) refl
number-zero top text (suc n) small is first =
    let above : 48 < get_or text 0 0 = rw is.spelt (first_decimal (suc n) (omega arith) (omega (arith, is.within))) in
    absurd (omega arith)

-- the value of the digits of a text that doesn't begin with a needless zero
pub number-spelt : (top : ℕ) (text : List ℕ) → top < 2 ^ 64 → AllDigits 10 text → 0 < length text → (get_or text 0 0 ≡ 48 → length text ≡ 1)
    → digits_value 10 text ≤ top → IsNumber top text (digits_value 10 text)
number-spelt top text small digits some first le = record {
  within = le;
  spelt = sym (decimal-digits_value numerals text digits some first (omega arith));
}

-- a number's text is digits, and they stand for the number
pub number-digits : (top : ℕ) (text : List ℕ) (n : ℕ) → top < 2 ^ 64 → IsNumber top text n → AllDigits 10 text × (digits_value 10 text ≡ n)
number-digits top text n small is =
    let fits : n < 2 ^ 64 = omega (arith, is.within) in
    rw is.spelt (digits_decimal numerals n fits, digits_value-decimal numerals n fits)
