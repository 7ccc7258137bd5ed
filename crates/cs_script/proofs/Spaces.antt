-- Words without a space, joined by spaces, are split into these words.
use Rattle.std.proofs.Common.{◌≡◌, ℕ, suc, ◌^◌, ◌<◌, ◌==◌, ℤ, pos, negsuc, true, false, not, List, [], ◌∷◌, ◌++◌}
use Rattle.std.proofs.Common.{decimal, codes, append_assoc, refl, ap, ◌∙◌, arith}
use Rattle.std.specs.Fmt.{signed_decimal}
use Rattle.std.specs.List.{All, AllByRecursion, join_with_byte, list_all, slice_split}
use Rattle.std.proofs.lemmas.Bool.{and_parts, ne_eqb, not-true}
use Rattle.std.proofs.lemmas.Bool.Decides.{nat_tests}
use Rattle.std.proofs.lemmas.Fmt.{digits_decimal}
use Rattle.std.proofs.lemmas.Int.{ints}
use Rattle.std.proofs.lemmas.List.Elements.{All-nil, All-cons, All-append, All-from_get_or}
use Rattle.std.proofs.lemmas.List.Splits.{slice_split_none, slice_split_at}
use Rattle.std.proofs.lemmas.Str.Parse.{not_in_digits}
use Rattle.cs_base.specs.Address.{IsAddress}
use Rattle.cs_base.specs.Axes.{IsNear}
use Rattle.cs_base.specs.Canonical.{address_text}
use Rattle.cs_base.specs.Limits.{farthest}
use Rattle.cs_base.specs.declared.change.Mode.{Mode}
use Rattle.cs_base.specs.declared.change.Mode.TheVariants.{Partial, Full}
use Rattle.cs_base.proofs.Numbers.{numerals}
use Rattle.hex.specs.Hex.{encode_lower}
use Rattle.cs_script.specs.Event.{IsShown}
use Rattle.cs_script.specs.Kinds.{Kind, Value, ANumber, AnAddress, AnAxis, AMode, SomeBytes, is_lower_digit}
use Rattle.cs_script.specs.Spelling.{bytes_text, mode_text}
use Rattle.cs_script.proofs.Lower.{lower-encode}
use Rattle.cs_script.proofs.Values.{IsValue, text_of, bytes-at}

-- no byte of the word is a space
abbrev pub IsClean : List ℕ → Type 0
IsClean word = All (λ b. (b == 32) ≡ false) word

-- clean by a test
pub clean-tested : (word : List ℕ) → list_all (λ b. not (b == 32)) word ≡ true → IsClean word
clean-tested [] e = All-nil (λ b. (b == 32) ≡ false)
clean-tested (b ∷ word) e =
    let both = and_parts (not (b == 32)) (list_all (λ c. not (c == 32)) word) e in
    All-cons (λ c. (c == 32) ≡ false) b word (not-true (b == 32) both.0) (clean-tested word both.1)

-- digits in lower case aren't spaces
clean-lower : (word : List ℕ) → list_all is_lower_digit word ≡ true → IsClean word
clean-lower [] e = All-nil (λ b. (b == 32) ≡ false)
clean-lower (b ∷ word) e =
    let both = and_parts (is_lower_digit b) (list_all is_lower_digit word) e in
    let low = both.0 in
    let other : (b == 32) ≡ false = grind (arith, nat_tests) in
    All-cons (λ c. (c == 32) ≡ false) b word other (clean-lower word both.1)

-- nor are those of a number
clean-digits : (n : ℕ) → n < 2 ^ 64 → IsClean (decimal n)
clean-digits n small = All-from_get_or (λ b. (b == 32) ≡ false) (decimal n) 0 (λ i lt.
    ne_eqb _ 32 (not_in_digits numerals (decimal n) 32 (digits_decimal numerals n small) (λ h. omega arith) i lt))

-- nor with a sign
clean-signed : (n : ℤ) → IsNear farthest n → IsClean (signed_decimal n)
clean-signed (pos k) near = clean-digits k (omega (arith, ints))
clean-signed (negsuc k) near = All-cons (λ b. (b == 32) ≡ false) 45 (decimal (suc k)) refl (clean-digits (suc k) (omega (arith, ints)))

-- one part of an address more
clean-part : (n byte : ℕ) (rest : List ℕ) → n < 2 ^ 64 → (byte == 32) ≡ false → IsClean rest → IsClean (decimal n ++ byte ∷ rest)
clean-part n byte rest small other clean =
    All-append (λ b. (b == 32) ≡ false) (decimal n) (byte ∷ rest) (clean-digits n small) (All-cons (λ b. (b == 32) ≡ false) byte rest other clean)

-- the text of an address, part by part
clean-four : (a b c d port : ℕ) → a < 256 → b < 256 → c < 256 → d < 256 → port < 2 ^ 16
    → IsClean (address_text (record { ip = a ∷ b ∷ c ∷ d ∷ []; port = port }))
clean-four a b c d port la lb lc ld lp =
    let last = clean-digits port (omega arith) in
    let parts = clean-part a 46 _ (omega arith) refl (clean-part b 46 _ (omega arith) refl (clean-part c 46 _ (omega arith) refl
    (clean-part d 58 (decimal port) (omega arith) refl last))) in
    simp append_assoc parts

-- an address
clean-address : (ip : List ℕ) (port : ℕ) → IsAddress (record { ip = ip; port = port }) → IsClean (address_text (record { ip = ip; port = port }))
clean-address (a ∷ b ∷ c ∷ d ∷ []) port is = clean-four a b c d port is.bytes.0 is.bytes.1.0 is.bytes.1.1.0 is.bytes.1.1.1.0 is.port
clean-address [] port is = absurd (omega (arith, is.four))
clean-address (a ∷ []) port is = absurd (omega (arith, is.four))
clean-address (a ∷ b ∷ []) port is = absurd (omega (arith, is.four))
clean-address (a ∷ b ∷ c ∷ []) port is = absurd (omega (arith, is.four))
clean-address (a ∷ b ∷ c ∷ d ∷ e ∷ rest) port is = absurd (omega (arith, is.four))

-- a mode
clean-mode : (mode : Mode) → IsClean (mode_text mode)
clean-mode Partial = clean-tested (codes "partial") refl
clean-mode Full = clean-tested (codes "full") refl

-- bytes
clean-bytes : (bytes : List ℕ) → IsShown bytes → IsClean (bytes_text bytes)
clean-bytes [] shown = clean-tested (codes "-") refl
clean-bytes (b ∷ bytes) shown = clean-lower (encode_lower (b ∷ bytes)) (lower-encode (b ∷ bytes) (bytes-at (b ∷ bytes) shown.1))

-- the text of a value in range has no space
pub clean-text : (kind : Kind) (value : Value kind) → IsValue kind value → IsClean (text_of kind value)
clean-text (ANumber least most) n is = clean-digits n (omega (arith, is.1))
clean-text AnAddress addr is = clean-address addr.ip addr.port is
clean-text AnAxis n is = clean-signed n is
clean-text AMode mode is = clean-mode mode
clean-text SomeBytes bytes is = clean-bytes bytes is

-- words without a space, joined, are split into these words
pub split-joined : (word : List ℕ) (words : List (List ℕ)) → IsClean word → AllByRecursion IsClean words
    → slice_split (λ b. b == 32) (join_with_byte 32 (word ∷ words)) ≡ word ∷ words
split-joined word [] clean are = slice_split_none (λ b. b == 32) word clean
split-joined word (next ∷ words) clean are =
    slice_split_at (λ b. b == 32) word 32 (join_with_byte 32 (next ∷ words)) clean refl
    ∙ ap (λ others. word ∷ others) (split-joined next words are.0 are.1)
