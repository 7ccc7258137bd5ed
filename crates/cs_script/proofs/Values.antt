-- What a word says is spelt by the word and in the range of its kind, and what is spelt so is said.
use Rattle.std.proofs.Common.{◌≡◌, ℕ, zero, suc, ◌*◌, ◌<◌, ◌≤◌, ℤ, pos, negsuc, true, false, ◌&&◌, leb, List, [], ◌∷◌, length, slice_index}
use Rattle.std.proofs.Common.{inl, inr, Ok, Err, decimal, codes, bytes_eq, refl, sym, ap, ◌∙◌, subst, arith}
use Rattle.std.specs.Prelude.{neg_ℤ, int_le}
use Rattle.std.specs.Fmt.{signed_decimal}
use Rattle.std.specs.List.{AllByRecursion, list_all}
use Rattle.std.specs.Option.{ok_or}
use Rattle.std.specs.Result.{result_ok}
use Rattle.std.proofs.lemmas.Bool.{and_from, and_parts, leb-true, le-leb, cond-true, cond-false, false_from_ne_true}
use Rattle.std.proofs.lemmas.Bool.Decides.{nat_tests}
use Rattle.std.proofs.lemmas.Int.{ints}
use Rattle.std.proofs.lemmas.Slice.Eq.{bytes_eq-Decides}
use Rattle.hex.specs.Hex.{IsBytes, decode_of, encode_lower, lower_digits}
use Rattle.hex.proofs.HexLemmas.{decode_of-ok, decode_of-encode_lower, length-encode_with}
use Rattle.cs_base.specs.Address.{Address, IsAddress}
use Rattle.cs_base.specs.Axes.{IsNear}
use Rattle.cs_base.specs.Canonical.{number_of, signed_number_of, address_of, address_text}
use Rattle.cs_base.specs.Limits.{farthest, last_id}
use Rattle.cs_base.specs.Ranges.{IsFromTo}
use Rattle.cs_base.specs.declared.change.Mode.{Mode}
use Rattle.cs_base.specs.declared.change.Mode.TheVariants.{Partial, Full}
use Rattle.cs_base.proofs.Addresses.{address_of-found, address_of-is}
use Rattle.cs_base.proofs.Bytes.{all_bytes}
use Rattle.cs_base.proofs.Numbers.{number_of-found, number_of-is}
use Rattle.cs_base.proofs.Signed.{signed_number_of-found, signed_number_of-is}
use Rattle.cs_script.specs.Event.{IsShown}
use Rattle.cs_script.specs.Kinds.{Kind, Value, ANumber, AnAddress, AnAxis, AMode, SomeBytes, is_lower_digit}
use Rattle.cs_script.specs.Kinds.{number_word, axis_word, mode_word, digits_word, bytes_word, value_of}
use Rattle.cs_script.specs.Limits.{most_shown}
use Rattle.cs_script.specs.Spelling.{bytes_text, mode_text}
use Rattle.cs_script.specs.declared.fault.LineFault.TheVariants as faults
use Rattle.cs_script.proofs.Addresses.{IsAddress-read}
use Rattle.cs_script.proofs.Lower.{encode-decoded, lower-encode}
use Rattle.cs_script.proofs.Args.{near_fits}
use Rattle.cs_script.proofs.Steps.{bind_ok, ok_or_some, result_ok_some, which_ok, let_through, same_value, at_some}

-- the text of a value
abbrev pub text_of : (kind : Kind) → Value kind → List ℕ
text_of (ANumber least most) n = decimal n
text_of AnAddress addr = address_text addr
text_of AnAxis n = signed_decimal n
text_of AMode mode = mode_text mode
text_of SomeBytes bytes = bytes_text bytes

-- a value in the range of its kind
abbrev pub IsValue : (kind : Kind) → Value kind → Type 0
IsValue (ANumber least most) n = IsFromTo least most n × (n ≤ last_id)
IsValue AnAddress addr = IsAddress addr
IsValue AnAxis n = IsNear farthest n
IsValue AMode mode = Unit {0}
IsValue SomeBytes bytes = IsShown bytes

-- a word that is the text of a value in range
pub record IsSaid (kind : Kind) (word : List ℕ) (value : Value kind) : Type 0 where
  pub spelt : word ≡ text_of kind value
  pub range : IsValue kind value

-- what a number's word says
number_said : (least most : ℕ) (word : List ℕ) (n : ℕ) → number_word least most word ≡ Ok n → IsSaid (ANumber least most) word n
number_said least most word n e =
    let read = bind_ok (ok_or (number_of last_id word) faults.Number) _ n e in
    let is = number_of-found last_id word read.0 (ok_or_some (number_of last_id word) faults.Number read.0 read.1) in
    let kept = let_through (leb least read.0 && leb read.0 most) (Ok read.0) faults.Number n read.2 in
    let same = same_value read.0 n kept.1 in
    let both = and_parts (leb least read.0) (leb read.0 most) kept.0 in
    let low = leb-true least read.0 both.0 in
    let high = leb-true read.0 most both.1 in
    record { spelt = is.spelt ∙ ap decimal same; range = ((omega (arith, same), omega (arith, same)), omega (arith, is.within, same)) }

-- a number's text
number_is : (least most n : ℕ) → IsValue (ANumber least most) n → number_word least most (decimal n) ≡ Ok n
number_is least most n is =
    let found = number_of-is last_id (decimal n) n (omega arith) (record { within = is.1; spelt = refl }) in
    rw found (cond-true (leb least n && leb n most) (Ok n) (Err faults.Number)
    (and_from (leb least n) (leb n most) (le-leb least n is.0.0) (le-leb n most is.0.1)))

-- a number within the ends of an axis
near-tested : (n : ℤ) → int_le (neg_ℤ (pos farthest)) n ≡ true → int_le n (pos farthest) ≡ true → IsNear farthest n
near-tested n low high = (grind (arith, ints), grind (arith, ints))

-- what an axis's word says
axis_said : (word : List ℕ) (n : ℤ) → axis_word word ≡ Ok n → IsSaid AnAxis word n
axis_said word n e =
    let read = bind_ok (ok_or (signed_number_of word) faults.Number) _ n e in
    let is = signed_number_of-found word read.0 (ok_or_some (signed_number_of word) faults.Number read.0 read.1) in
    let kept = let_through (int_le (neg_ℤ (pos farthest)) read.0 && int_le read.0 (pos farthest)) (Ok read.0) faults.Point n read.2 in
    let same = same_value read.0 n kept.1 in
    let both = and_parts (int_le (neg_ℤ (pos farthest)) read.0) (int_le read.0 (pos farthest)) kept.0 in
    let near = near-tested read.0 both.0 both.1 in
    record { spelt = is.spelt ∙ ap signed_decimal same; range = rw (← same) near }

-- the test of an axis passes within its ends
near-test : (n : ℤ) → IsNear farthest n → (int_le (neg_ℤ (pos farthest)) n && int_le n (pos farthest)) ≡ true
near-test (pos k) near = grind (arith, ints, nat_tests)
near-test (negsuc k) near = grind (arith, ints, nat_tests)

-- an axis's text
axis_is : (n : ℤ) → IsNear farthest n → axis_word (signed_decimal n) ≡ Ok n
axis_is n near =
    let found = signed_number_of-is (signed_decimal n) n (record { fits = near_fits n near; spelt = refl }) in
    rw found (cond-true (int_le (neg_ℤ (pos farthest)) n && int_le n (pos farthest)) (Ok n) (Err faults.Point) (near-test n near))

-- what an address's word says
address_said : (word : List ℕ) (addr : Address) → ok_or (address_of word) faults.Address ≡ Ok addr → IsSaid AnAddress word addr
address_said word addr e =
    let found = ok_or_some (address_of word) faults.Address addr e in
    record { spelt = address_of-found word addr found; range = at_some (address_of word) IsAddress addr found (IsAddress-read word) }

-- an address's text
address_is : (addr : Address) → IsAddress addr → ok_or (address_of (address_text addr)) faults.Address ≡ Ok addr
address_is addr is = ap (λ o. ok_or o faults.Address) (address_of-is (address_text addr) addr is refl)

-- what a mode's word says
mode_said : (word : List ℕ) (mode : Mode) → mode_word word ≡ Ok mode → IsSaid AMode word mode
mode_said word mode e =
    elim (which_ok (bytes_eq word (codes "partial")) (Ok Partial) _ mode e) [
      | inl first ↦ record {
        spelt = (bytes_eq-Decides word (codes "partial")).0 first.0 ∙ ap mode_text (same_value Partial mode first.1);
        range = tt;
      }
      | inr other ↦
          let full = let_through (bytes_eq word (codes "full")) (Ok Full) faults.Word mode other.1 in
          record {
            spelt = (bytes_eq-Decides word (codes "full")).0 full.0 ∙ ap mode_text (same_value Full mode full.1);
            range = tt;
          }
    ]

-- a mode's text
mode_is : (mode : Mode) → mode_word (mode_text mode) ≡ Ok mode
mode_is Partial = refl
mode_is Full = refl

-- the digits of some bytes
digits_text : (bytes : List ℕ) → 1 ≤ length bytes → bytes_text bytes ≡ encode_lower bytes
digits_text [] some = absurd (omega arith)
digits_text (b ∷ bytes) some = refl

-- what the digits of bytes say
digits_said : (word bytes : List ℕ) → digits_word word ≡ Ok bytes → IsSaid SomeBytes word bytes
digits_said word bytes e =
    let kept = let_through _ (ok_or (result_ok (decode_of word)) faults.Bytes) faults.Bytes bytes e in
    let outer = and_parts (leb 1 (length word)) _ kept.0 in
    let inner = and_parts (leb (length word) (2 * most_shown)) (list_all is_lower_digit word) outer.1 in
    let some = leb-true 1 (length word) outer.0 in
    let few = leb-true (length word) (2 * most_shown) inner.0 in
    let found = result_ok_some (decode_of word) bytes (ok_or_some (result_ok (decode_of word)) faults.Bytes bytes kept.1) in
    let ok = decode_of-ok word bytes found in
    record {
      spelt = sym (digits_text bytes (omega (arith, ok.2)) ∙ encode-decoded word bytes found inner.1);
      range = (omega (arith, ok.2), all_bytes bytes ok.3);
    }

-- what the word of bytes says
bytes_said : (word bytes : List ℕ) → bytes_word word ≡ Ok bytes → IsSaid SomeBytes word bytes
bytes_said word bytes e =
    elim (which_ok (bytes_eq word (codes "-")) (Ok []) (digits_word word) bytes e) [
      | inl none ↦
          let same = same_value [] bytes none.1 in
          record {
            spelt = (bytes_eq-Decides word (codes "-")).0 none.0 ∙ ap bytes_text same;
            range = subst IsShown same (omega arith, tt);
          }
      | inr some ↦ digits_said word bytes some.1
    ]

-- bytes by place
pub bytes-at : (bytes : List ℕ) → AllByRecursion (λ b. b < 256) bytes → IsBytes bytes
bytes-at [] are = λ i. omega arith
bytes-at (b ∷ bytes) are = λ i. elim i as (λ j. slice_index (b ∷ bytes) j < 256) [ zero ↦ are.0 | suc k ↦ bytes-at bytes are.1 k ]

-- the text of bytes isn't `-`
not_none : (text : List ℕ) (n : ℕ) → length text ≡ 2 * n → bytes_eq text (codes "-") ≡ false
not_none text n even = false_from_ne_true (bytes_eq text (codes "-")) (λ same.
    let one : length text ≡ 1 = ap length ((bytes_eq-Decides text (codes "-")).0 same) in absurd (omega arith))

-- the digits of bytes
digits_are : (bytes : List ℕ) → 1 ≤ length bytes → IsShown bytes → digits_word (encode_lower bytes) ≡ Ok bytes
digits_are bytes some shown =
    let text = encode_lower bytes in
    let long : length text ≡ 2 * length bytes = length-encode_with lower_digits bytes in
    let at = bytes-at bytes shown.1 in
    cond-true (leb 1 (length text) && (leb (length text) (2 * most_shown) && list_all is_lower_digit text)) _ (Err faults.Bytes)
    (and_from (leb 1 (length text)) _ (le-leb 1 (length text) (omega arith))
    (and_from (leb (length text) (2 * most_shown)) _ (le-leb (length text) (2 * most_shown) (omega (arith, shown.0))) (lower-encode bytes at)))
    ∙ ap (λ r. ok_or (result_ok r) faults.Bytes) (decode_of-encode_lower bytes at)

-- the text of bytes
bytes_are : (bytes : List ℕ) → IsShown bytes → bytes_word (bytes_text bytes) ≡ Ok bytes
bytes_are [] shown = refl
bytes_are (b ∷ bytes) shown =
    let text = encode_lower (b ∷ bytes) in
    cond-false (bytes_eq text (codes "-")) (Ok []) (digits_word text) (not_none text _ (length-encode_with lower_digits (b ∷ bytes)))
    ∙ digits_are (b ∷ bytes) (omega arith) shown

-- what a word says is spelt by it, and in range
pub value_said : (kind : Kind) (word : List ℕ) (value : Value kind) → value_of kind word ≡ Ok value → IsSaid kind word value
value_said (ANumber least most) word n e = number_said least most word n e
value_said AnAddress word addr e = address_said word addr e
value_said AnAxis word n e = axis_said word n e
value_said AMode word mode e = mode_said word mode e
value_said SomeBytes word bytes e = bytes_said word bytes e

-- the text of a value in range says it
pub value_is : (kind : Kind) (value : Value kind) → IsValue kind value → value_of kind (text_of kind value) ≡ Ok value
value_is (ANumber least most) n is = number_is least most n is
value_is AnAddress addr is = address_is addr is
value_is AnAxis n is = axis_is n is
value_is AMode mode is = mode_is mode
value_is SomeBytes bytes is = bytes_are bytes is
