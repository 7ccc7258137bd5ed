-- The laws of bytes that are read as they are.
use Rattle.std.proofs.Common.{◌≡◌, ℕ, suc, ◌+◌, ◌-◌, ◌<◌, ◌≤◌, Bool, true, false, cond, if◌then◌else◌, nat_lt, List, [], ◌∷◌, ◌++◌, length, take, drop}
use Rattle.std.proofs.Common.{Result, Ok, Err, refl, sym, ap, subst, ◌∙◌, arith}
use Rattle.std.specs.List.{AllByRecursion}
use Rattle.std.proofs.lemmas.Bool.{ltb-false, le-ltb, lt-ltb}
use Rattle.std.proofs.lemmas.List.{drop-drop, get_or-drop, length-append, length-drop, length-take-le, take-append-drop, take_at, take_rest}
use Rattle.cs_fields.specs.declared.fault.PacketFault.{PacketFault}
use Rattle.cs_fields.specs.declared.fault.PacketFault.TheVariants.{Short}
use Rattle.cs_fields.specs.Reading.{IsSpelt, IsTaken}
use Rattle.cs_fields.specs.Whole.{field_start, one_field}
use Rattle.cs_fields.specs.Numbers.{AreBytes, raw_at}
use Rattle.cs_fields.proofs.Codec.{IsBytes, IsCodec, Gives-same, taken}

-- a value that was read where it isn't cut short
pub at_least : {A : Type 0} (size end : ℕ) (fault : PacketFault) (x y : A) → (if nat_lt size end then Err fault else Ok x) ≡ Ok y → (end ≤ size) × (x ≡ y)
at_least size end fault x y e =
    let parted = if_err (nat_lt size end) fault x y e in
    (ltb-false _ _ parted.0, parted.1)
  where
    if_err : {A : Type 0} (b : Bool) (fault : PacketFault) (x y : A) → cond b (Err fault) (Ok x) ≡ Ok y → (b ≡ false) × (x ≡ y)
    if_err true fault x y e = cc
    if_err false fault x y e = (refl, cc)

pub IsBytes-drop : (n : ℕ) (bytes : List ℕ) → IsBytes bytes → IsBytes (drop n bytes)
IsBytes-drop n bytes are_bytes i = rw get_or-drop (are_bytes (n + i))

-- bytes that end within a field end in that field
pub one_field_short : (at size n : ℕ) → n < size → at ≡ at + field_start (size ∷ []) n
one_field_short at size n lt = rw (lt-ltb n size lt) (omega arith)

-- the front of bytes are bytes
all_bytes : (text rest : List ℕ) → IsBytes (text ++ rest) → AllByRecursion (λ b. b < 256) text
all_bytes [] rest are_bytes = tt
all_bytes (b ∷ text) rest are_bytes = (are_bytes 0, all_bytes text rest (λ i. are_bytes (suc i)))

-- what is spelt in bytes are bytes
pub spelt_bytes : (bytes : List ℕ) (at : ℕ) (text : List ℕ) (behind : ℕ) → IsBytes bytes → IsSpelt bytes at text behind → AllByRecursion (λ b. b < 256) text
spelt_bytes bytes at text behind are_bytes is = all_bytes text (drop behind bytes) (subst IsBytes is.parts (IsBytes-drop at bytes are_bytes))

-- bytes that were read were there
raw_had : (n : ℕ) (bytes : List ℕ) (at : ℕ) (x : List ℕ × ℕ) → raw_at n bytes at ≡ Ok x → (at + n ≤ length bytes) × ((take n (drop at bytes), at + n) ≡ x)
unfolding raw_at
raw_had n bytes at x e = at_least (length bytes) (at + n) (Short at) (take n (drop at bytes), at + n) x e

-- where they are there they are read
pub raw_long : (n : ℕ) (bytes : List ℕ) (at : ℕ) → at + n ≤ length bytes → raw_at n bytes at ≡ Ok (take n (drop at bytes), at + n)
unfolding raw_at
raw_long n bytes at long = rw (le-ltb (length bytes) (at + n) long) refl

-- and where they aren't they are cut short
pub raw_short : (n : ℕ) (bytes : List ℕ) (at : ℕ) → length bytes < at + n → raw_at n bytes at ≡ Err (Short at)
unfolding raw_at
raw_short n bytes at short = rw (lt-ltb (length bytes) (at + n) short) refl

-- so many bytes, at least one, are one field
pub raw_codec : (n : ℕ) → 0 < n → IsCodec (raw_at n) (λ text. text) (one_field n) (λ text. length text ≡ n)
raw_codec n some = record {
  found = λ bytes at x are_bytes within e.
      let had = raw_had n bytes at x e in
      let rest = drop at bytes in
      let long : n ≤ length rest = omega (arith, length-drop at bytes, had.0) in
      let size : length (take n rest) ≡ n = length-take-le n rest long in
      let made : (length (take n rest) ≡ n) × IsSpelt bytes at (take n rest) (at + n) = (
        size,
        record {
          parts = rw (← drop-drop n at bytes) (sym (take-append-drop n rest));
          ends = omega (arith, size);
          within = had.0;
        },
      ) in
      subst (λ (y : List ℕ × ℕ). (length y.0 ≡ n) × IsSpelt bytes at y.0 y.1) had.1 made;
  only = λ bytes at v rest allowed e.
      let all : length bytes - at ≡ length v + length rest = sym (length-drop at bytes) ∙ ap length e ∙ length-append v rest in
      let long : at + n ≤ length bytes = omega (arith, all, allowed) in
      let value : take n (drop at bytes) ≡ v = ap (take n) e ∙ take_at v rest n allowed in
      raw_long n bytes at long ∙ rw (value, allowed) refl;
  sized = λ v allowed. omega (arith, allowed);
  short = λ bytes at v k allowed within lt e.
      let cut : length bytes - at ≡ k = sym (length-drop at bytes) ∙ ap length e ∙ length-take-le k v (omega arith) in
      raw_short n bytes at (omega (arith, cut, allowed, lt, within)) ∙ ap (λ (p : ℕ). Err (Short p)) (one_field_short at n k (omega (arith, allowed, lt)));
}

-- the same, with what bytes are
pub bytes_codec : (n : ℕ) → 0 < n → IsCodec (raw_at n) (λ text. text) (one_field n) (AreBytes n)
bytes_codec n some =
    let law = raw_codec n some in
    record {
      found = λ bytes at x are_bytes within e.
          let one = law.found bytes at x are_bytes within e in
          ((one.0, spelt_bytes bytes at x.0 x.1 are_bytes one.1), one.1);
      only = λ bytes at v rest allowed. law.only bytes at v rest allowed.0;
      sized = λ v allowed. law.sized v allowed.0;
      short = λ bytes at v k allowed. law.short bytes at v k allowed.0;
    }

-- what stands from a place on, as the code has it
abbrev pub rest_at : List ℕ → ℕ → List ℕ
rest_at bytes at = take (length bytes - at) (drop at bytes)

-- where too little stands there, the bytes are cut short
pub raw_ended : (n : ℕ) (bytes : List ℕ) (at : ℕ) → at ≤ length bytes → length (rest_at bytes at) < n → Err (Short at) ≡ raw_at n bytes at
raw_ended n bytes at within short = sym (raw_short n bytes at (omega (arith, ap length (take_rest bytes at), length-drop at bytes)))

-- else they are the first ones there
pub raw_read : (n : ℕ) (bytes : List ℕ) (at : ℕ) (text : List ℕ) → at ≤ length bytes → n ≤ length (rest_at bytes at) → text ≡ take n (rest_at bytes at)
    → Ok (text, at + n) ≡ raw_at n bytes at
raw_read n bytes at text within long is =
    let same = take_rest bytes at in
    rw (is, same) (sym (raw_long n bytes at (omega (arith, ap length same, length-drop at bytes))))

-- what a call that reads bytes says of them
pub raw_taken : (n : ℕ) (bytes : List ℕ) (at : ℕ) (r : Result (List ℕ × ℕ) PacketFault) → 0 < n → IsBytes bytes → at ≤ length bytes → r ≡ raw_at n bytes at
    → IsTaken (λ text. text) (AreBytes n) n bytes at r
raw_taken n bytes at r some are_bytes within e = taken n bytes at r (bytes_codec n some) (λ v _. omega arith) are_bytes within (Gives-same r _ e)
