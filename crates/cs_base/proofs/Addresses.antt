-- What address a text is the one text of.
use Rattle.std.proofs.Common.{◌≡◌, ℕ, ◌^◌, ◌<◌, ◌≤◌, ◌≢◌, ◌==◌, List, [], ◌∷◌, ◌++◌, length, get_or, Bool}
use Rattle.std.proofs.Common.{true, false, if◌then◌else◌, Option, Some, None, IfSome, decimal, refl, sym, ap, ◌∙◌, append_assoc, arith}
use Rattle.std.specs.Int.{IsInRange}
use Rattle.std.proofs.lemmas.Bool.Decides.{nat_tests}
use Rattle.std.proofs.lemmas.Fmt.{digits_decimal}
use Rattle.std.proofs.lemmas.Str.Parse.{not_in_digits}
use Rattle.cs_base.specs.Address.{Address, IsAddress}
use Rattle.cs_base.specs.Canonical.{◌>>=◌, number_of, parted, address_text, address_of}
use Rattle.cs_base.proofs.Numbers.{IsNumber, numerals, number_of-found, number_of-is}
use Rattle.cs_base.proofs.Parts.{parted-found, parted-is}

-- the address of four numbers and a port
abbrev address : ℕ → ℕ → ℕ → ℕ → ℕ → Address
address a b c d port = record { ip = a ∷ b ∷ c ∷ d ∷ []; port = port }

-- the text, part by part
text-parts : (a b c d port : ℕ) → address_text (address a b c d port)
    ≡ decimal a ++ 46 ∷ (decimal b ++ 46 ∷ (decimal c ++ 46 ∷ (decimal d ++ 58 ∷ decimal port)))
text-parts a b c d port = simp append_assoc

-- what a step that went through had
bind_some : {A B : Type 0} (o : Option A) (f : A → Option B) (y : B) → (o >>= f) ≡ Some y → (x : A) × (o ≡ Some x) × (f x ≡ Some y)
bind_some None f y e = cc
bind_some (Some x) f y e = (x, refl, e)

-- what is left where the test fails
kept_else : {T : Type 0} (b : Bool) (x y : T) → (if b then None else Some x) ≡ Some y → (b ≡ false) × (x ≡ y)
kept_else true x y e = cc
kept_else false x y e = (refl, cc)

-- the parts, put together
put_together : (text da db dc dd dp after_a after_b after_c : List ℕ) (a b c d port : ℕ)
    → text ≡ da ++ 46 ∷ after_a → after_a ≡ db ++ 46 ∷ after_b → after_b ≡ dc ++ 46 ∷ after_c → after_c ≡ dd ++ 58 ∷ dp
    → IsNumber 255 da a → IsNumber 255 db b → IsNumber 255 dc c → IsNumber 255 dd d → IsNumber 65535 dp port
    → text ≡ address_text (address a b c d port)
put_together text da db dc dd dp after_a after_b after_c a b c d port e1 e2 e3 e4 n1 n2 n3 n4 n5 =
    let parts = text-parts a b c d port in cc

-- the address that was found is the text's
pub address_of-found : (text : List ℕ) (a : Address) → address_of text ≡ Some a → text ≡ address_text a
address_of-found text a e =
    let first = bind_some (parted 46 text) _ a e in
    let second = bind_some (parted 46 first.0.1) _ a first.2 in
    let third = bind_some (parted 46 second.0.1) _ a second.2 in
    let fourth = bind_some (parted 58 third.0.1) _ a third.2 in
    let n1 = bind_some (number_of 255 first.0.0) _ a fourth.2 in
    let n2 = bind_some (number_of 255 second.0.0) _ a n1.2 in
    let n3 = bind_some (number_of 255 third.0.0) _ a n2.2 in
    let n4 = bind_some (number_of 255 fourth.0.0) _ a n3.2 in
    let port = bind_some (number_of 65535 fourth.0.1) _ a n4.2 in
    let same : address n1.0 n2.0 n3.0 n4.0 port.0 ≡ a = (kept_else (port.0 == 0) _ a port.2).1 in
    put_together text first.0.0 second.0.0 third.0.0 fourth.0.0 fourth.0.1 first.0.1 second.0.1 third.0.1
    n1.0 n2.0 n3.0 n4.0 port.0
    (parted-found 46 text _ _ first.1) (parted-found 46 _ _ _ second.1) (parted-found 46 _ _ _ third.1) (parted-found 58 _ _ _ fourth.1)
    (number_of-found 255 _ _ n1.1) (number_of-found 255 _ _ n2.1) (number_of-found 255 _ _ n3.1) (number_of-found 255 _ _ n4.1)
    (number_of-found 65535 _ _ port.1)
    ∙ ap address_text same

-- digits have no such byte
no_byte : (n byte : ℕ) → n < 2 ^ 64 → ¬ (IsInRange 48 57 byte) → (k : ℕ) → k < length (decimal n) → get_or (decimal n) k 0 ≢ byte
no_byte n byte small no_digit = not_in_digits numerals (decimal n) byte (digits_decimal numerals n small) no_digit

-- a number's own text
number_is : (top n : ℕ) → top < 2 ^ 64 → n ≤ top → number_of top (decimal n) ≡ Some n
number_is top n small le = number_of-is top (decimal n) n small (record { within = le; spelt = refl })

-- the address of parts that are numbers
by_parts : (text da db dc dd dp after_a after_b after_c : List ℕ) (a b c d port : ℕ)
    → parted 46 text ≡ Some (da, after_a) → parted 46 after_a ≡ Some (db, after_b) → parted 46 after_b ≡ Some (dc, after_c)
    → parted 58 after_c ≡ Some (dd, dp) → number_of 255 da ≡ Some a → number_of 255 db ≡ Some b → number_of 255 dc ≡ Some c
    → number_of 255 dd ≡ Some d → number_of 65535 dp ≡ Some port → 0 < port → address_of text ≡ Some (address a b c d port)
by_parts text da db dc dd dp after_a after_b after_c a b c d port e1 e2 e3 e4 n1 n2 n3 n4 n5 some =
    rw (e1, e2, e3, e4, n1, n2, n3, n4, n5) (grind (arith, nat_tests))

-- the address whose text it is is found
address_is : (a b c d port : ℕ) → a ≤ 255 → b ≤ 255 → c ≤ 255 → d ≤ 255 → 0 < port → port ≤ 65535
    → address_of (address_text (address a b c d port)) ≡ Some (address a b c d port)
address_is a b c d port la lb lc ld some lp =
    let after_c = decimal d ++ 58 ∷ decimal port in
    let after_b = decimal c ++ 46 ∷ after_c in
    let after_a = decimal b ++ 46 ∷ after_b in
    ap address_of (text-parts a b c d port) ∙ by_parts (decimal a ++ 46 ∷ after_a)
    (decimal a) (decimal b) (decimal c) (decimal d) (decimal port) after_a after_b after_c a b c d port
    (parted-is 46 (decimal a) after_a (no_byte a 46 (omega arith) (λ h. omega arith)))
    (parted-is 46 (decimal b) after_b (no_byte b 46 (omega arith) (λ h. omega arith)))
    (parted-is 46 (decimal c) after_c (no_byte c 46 (omega arith) (λ h. omega arith)))
    (parted-is 58 (decimal d) (decimal port) (no_byte d 58 (omega arith) (λ h. omega arith)))
    (number_is 255 a (omega arith) la) (number_is 255 b (omega arith) lb) (number_is 255 c (omega arith) lc)
    (number_is 255 d (omega arith) ld) (number_is 65535 port (omega arith) lp) some

-- the address whose text it is is found, by its fields
fields_found : (ip : List ℕ) (port : ℕ) → IsAddress (record { ip = ip; port = port })
    → address_of (address_text (record { ip = ip; port = port })) ≡ Some (record { ip = ip; port = port })
fields_found (a ∷ b ∷ c ∷ d ∷ []) port is =
    address_is a b c d port (omega (arith, is.bytes.0)) (omega (arith, is.bytes.1.0)) (omega (arith, is.bytes.1.1.0))
    (omega (arith, is.bytes.1.1.1.0)) is.some_port (omega (arith, is.port))
fields_found [] port is = absurd (omega (arith, is.four))
fields_found (a ∷ []) port is = absurd (omega (arith, is.four))
fields_found (a ∷ b ∷ []) port is = absurd (omega (arith, is.four))
fields_found (a ∷ b ∷ c ∷ []) port is = absurd (omega (arith, is.four))
fields_found (a ∷ b ∷ c ∷ d ∷ e ∷ rest) port is = absurd (omega (arith, is.four))

-- the address is found in its text
pub address_of-is : (text : List ℕ) (a : Address) → IsAddress a → text ≡ address_text a → address_of text ≡ Some a
address_of-is text a is spelt = ap address_of spelt ∙ fields_found a.ip a.port is

-- what the one answer of `address_of` says of a text
pub only_answer : (text : List ℕ) (r : Option Address) → r ≡ address_of text → (a : Address) → IsAddress a → text ≡ address_text a → r ≡ Some a
only_answer text r e a is spelt = e ∙ address_of-is text a is spelt

-- and that the text is the answer's own
pub own_text : (text : List ℕ) (r : Option Address) → r ≡ address_of text → IfSome r (λ a. text ≡ address_text a)
own_text text None e = tt
own_text text (Some a) e = address_of-found text a (sym e)
