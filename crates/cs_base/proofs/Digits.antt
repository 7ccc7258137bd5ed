-- Texts of decimal digits, byte by byte.
use Rattle.std.proofs.Common.{◌≡◌, ℕ, zero, suc, ◌+◌, ◌*◌, ◌<◌, ◌≤◌, List, [], ◌∷◌, length, get_or, take, arith}
use Rattle.std.specs.Char.{digit_value}
use Rattle.std.specs.Str.Parse.{AllDigits, digits_value}
use Rattle.std.proofs.lemmas.Int.Digits.{digits_value_more, digits_more}
use Rattle.std.proofs.lemmas.Str.Parse.{digits_value-take-le}

-- where all are digits, each is
digit_there : (text : List ℕ) (i : ℕ) → AllDigits 10 text → i < length text → digit_value (get_or text i 0) < 10
digit_there [] i all lt = absurd (omega arith)
digit_there (c ∷ cs) zero all lt = all.0
digit_there (c ∷ cs) (suc i) all lt = digit_there cs i all.1 (omega arith)

-- one byte that is no digit spoils the text
pub spoilt : (text : List ℕ) (i c : ℕ) → i < length text → c ≡ get_or text i 0 → ¬ (digit_value c < 10) → ¬ (AllDigits 10 text)
spoilt text i c lt is no_digit all = no_digit (rw is (digit_there text i all lt))

-- the number after one more digit
pub value_more : (text : List ℕ) (i c n : ℕ) → i < length text → c ≡ get_or text i 0 → n ≡ digits_value 10 (take i text)
    → n * 10 + digit_value c ≡ digits_value 10 (take (i + 1) text)
value_more text i c n lt is value = rw (is, value, digits_value_more 10 text i lt)

-- a number that is too large after some digits is too large
pub too_large : (text : List ℕ) (i c n top : ℕ) → i < length text → c ≡ get_or text i 0 → n ≡ digits_value 10 (take i text)
    → top ≤ n * 10 + digit_value c → top ≤ digits_value 10 text
too_large text i c n top lt is value le =
    omega (arith, value_more text i c n lt is value, digits_value-take-le 10 text (i + 1) (omega arith))

-- one more digit
pub digits_more_of : (text : List ℕ) (i c : ℕ) → i < length text → c ≡ get_or text i 0 → AllDigits 10 (take i text) → digit_value c < 10
    → AllDigits 10 (take (i + 1) text)
digits_more_of text i c lt is digits small = digits_more 10 text i lt digits (rw (← is) small)
