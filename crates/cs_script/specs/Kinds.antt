-- What a word behind the first may be, and what it then says.
use Rattle.std.specs.Prelude.{ℕ, ℤ, pos, neg_ℤ, int_le, nat_le, ◌*◌, ◌&&◌, ◌||◌, Bool, List, [], length, if◌then◌else◌}
use Rattle.std.specs.Prelude.{Result, Ok, Err, codes, ok_or}
use Rattle.std.specs.List.{list_all}
use Rattle.std.specs.Result.{result_ok}
use Rattle.std.specs.Str.{bytes_eq}
use Rattle.cs_base.specs.Address.{Address}
use Rattle.cs_base.specs.Canonical.{number_of, signed_number_of, address_of}
use Rattle.cs_base.specs.Limits.{farthest, last_id}
use Rattle.cs_base.specs.declared.change.Mode.{Mode}
use Rattle.cs_base.specs.declared.change.Mode.TheVariants.{Partial, Full}
use Rattle.cs_script.specs.Limits.{most_shown}
use Rattle.cs_script.specs.declared.fault.LineFault.{LineFault}
use Rattle.cs_script.specs.declared.fault.LineFault.TheVariants as faults
use Rattle.hex.specs.Hex.{decode_of}

-- a step, and the next one where it went through
infixl 10 ◌>>=◌
abbrev pub ◌>>=◌ : {A B : Type 0} → Result A LineFault → (A → Result B LineFault) → Result B LineFault
(Ok x) >>= f = f x
(Err fault) >>= f = Err fault

-- a number from the least to the most, an address with its port, the number of an axis, a mode, or bytes
pub data Kind : Type 0 where
  ANumber : (least most : ℕ) → Kind
  AnAddress : Kind
  AnAxis : Kind
  AMode : Kind
  SomeBytes : Kind

-- what a word of a kind says
abbrev pub Value : Kind → Type 0
Value (ANumber least most) = ℕ
Value AnAddress = Address
Value AnAxis = ℤ
Value AMode = Mode
Value SomeBytes = List ℕ

-- a number of 32 bits, from the least to the most
abbrev pub number_word : ℕ → ℕ → List ℕ → Result ℕ LineFault
number_word least most word = do
  n ← ok_or (number_of last_id word) faults.Number
  if nat_le least n && nat_le n most then Ok n else Err faults.Number

-- a number of 32 bits with a sign, not beyond either end of an axis
abbrev pub axis_word : List ℕ → Result ℤ LineFault
axis_word word = do
  n ← ok_or (signed_number_of word) faults.Number
  if int_le (neg_ℤ (pos farthest)) n && int_le n (pos farthest) then Ok n else Err faults.Point

-- how much of the group a node wants to know
abbrev pub mode_word : List ℕ → Result Mode LineFault
mode_word word =
    if bytes_eq word (codes "partial") then Ok Partial
    else (if bytes_eq word (codes "full") then Ok Full else Err faults.Word)

-- 0 to 9, or a to f
abbrev pub is_lower_digit : ℕ → Bool
is_lower_digit b = (nat_le 48 b && nat_le b 57) || (nat_le 97 b && nat_le b 102)

-- two digits for each byte, from one byte to the most that a line shows
abbrev pub digits_word : List ℕ → Result (List ℕ) LineFault
digits_word word =
    if nat_le 1 (length word) && (nat_le (length word) (2 * most_shown) && list_all is_lower_digit word)
    then ok_or (result_ok (decode_of word)) faults.Bytes else Err faults.Bytes

-- `-` for no bytes, or their digits
abbrev pub bytes_word : List ℕ → Result (List ℕ) LineFault
bytes_word word = if bytes_eq word (codes "-") then Ok [] else digits_word word

-- what a word of a kind says, or its fault
abbrev pub value_of : (kind : Kind) → List ℕ → Result (Value kind) LineFault
value_of (ANumber least most) word = number_word least most word
value_of AnAddress word = ok_or (address_of word) faults.Address
value_of AnAxis word = axis_word word
value_of AMode word = mode_word word
value_of SomeBytes word = bytes_word word
