-- The one text of a number and of an address, and what a text stands for.
use Rattle.std.specs.Prelude.{ℕ, zero, suc, ◌^◌, ◌-◌, ◌&&◌, nat_le, ◌==◌, ℤ, pos, negsuc, int_le, decimal}
use Rattle.std.specs.Prelude.{List, [], ◌∷◌, ◌++◌, map, Option, Some, None, if◌then◌else◌}
use Rattle.std.specs.Fmt.{signed_decimal}
use Rattle.std.specs.List.{join_with_byte, before_first, after_first, list_any}
use Rattle.std.specs.Str.{bytes_eq}
use Rattle.std.specs.Str.Parse.{digits_value, signed_digits_value}
use Rattle.cs_base.specs.Address.{Address}

infixl 10 ◌>>=◌
abbrev pub ◌>>=◌ : {A B : Type 0} → Option A → (A → Option B) → Option B
None >>= f = None
(Some x) >>= f = f x

-- the number from 0 to top whose decimal digits, without a leading zero, the text is
abbrev pub number_of : ℕ → List ℕ → Option ℕ
number_of top text =
    let n = digits_value 10 text in
    if nat_le n top && bytes_eq (decimal n) text then Some n else None

-- the number of 32 bits with a sign whose decimal digits, with a minus where it is below 0, the text is
abbrev pub signed_number_of : List ℕ → Option ℤ
signed_number_of text =
    let z = signed_digits_value 10 text in
    if int_le (negsuc (2 ^ 31 - 1)) z && (int_le z (pos (2 ^ 31 - 1)) && bytes_eq (signed_decimal z) text)
    then Some z else None

-- the number below 0 of a size, which isn't 0
abbrev pub below_zero : ℕ → Option ℤ
below_zero zero = None
below_zero (suc n) = Some (negsuc n)

-- `a.b.c.d:p`
abbrev pub address_text : Address → List ℕ
address_text a = join_with_byte 46 (map decimal a.ip) ++ 58 ∷ decimal a.port

-- what stands before and behind the first such byte
abbrev pub parted : ℕ → List ℕ → Option (List ℕ × List ℕ)
parted byte text =
    if list_any (λ b. b == byte) text
    then Some (before_first (λ b. b == byte) text, after_first (λ b. b == byte) text)
    else None

-- the address whose text this is
abbrev pub address_of : List ℕ → Option Address
address_of text = do
  first ← parted 46 text
  second ← parted 46 first.1
  third ← parted 46 second.1
  fourth ← parted 58 third.1
  a ← number_of 255 first.0
  b ← number_of 255 second.0
  c ← number_of 255 third.0
  d ← number_of 255 fourth.0
  port ← number_of 65535 fourth.1
  if port == 0 then None else Some (record { ip = a ∷ b ∷ c ∷ d ∷ []; port = port })
