-- The laws of a field, how those of several fields are put together, and what they say of bytes as a whole.
use Rattle.std.proofs.Common.{◌≡◌, ℕ, ◌+◌, ◌-◌, ◌<◌, ◌≤◌, ◌==◌, Bool, true, false, cond, if◌then◌else◌, List, [], ◌∷◌, ◌++◌, length, get_or, take, drop}
use Rattle.std.proofs.Common.{Result, Ok, Err, IfOk, refl, sym, ap, subst, ◌∙◌, append_assoc, arith, inl, inr, eq-eqb}
use Rattle.std.specs.Prelude.{sum}
use Rattle.std.proofs.Math.Seq.{take-append-add}
use Rattle.std.proofs.lemmas.Bool.{cases_lt, eqb-true, le-ltb, lt-ltb}
use Rattle.std.proofs.lemmas.Bool.Decides.{nat_tests}
use Rattle.std.proofs.lemmas.List.{append-nil, drop-drop, drop_all, drop_at, length-append, length-drop, take-append-le}
use Rattle.std.proofs.lemmas.List.Sums.{sum_by-append, sum_by-cons}
use Rattle.cs_fields.specs.declared.fault.PacketFault.{PacketFault}
use Rattle.cs_fields.specs.declared.fault.PacketFault.TheVariants.{Extra, Short}
use Rattle.cs_fields.specs.Reading.{Reader, ◌>>=◌, checked, Gives, IsSpelt, IsTaken}
use Rattle.cs_fields.specs.Whole.{field_start, IsWhole, whole_of}

abbrev pub IsBytes : List ℕ → Type 0
IsBytes bytes = (i : ℕ) → get_or bytes i 0 < 256

-- what is read is allowed and spelt so; what is allowed and spelt so is read, whatever follows; and where the bytes end within a spelling, the fault is at the
-- field that has the next byte
pub record IsCodec {T : Type 0} (read : Reader T) (spell sizes : T → List ℕ) (Allowed : T → Type 0) : Type 0 where
  pub found : (bytes : List ℕ) (at : ℕ) (x : T × ℕ) → IsBytes bytes → at ≤ length bytes → read bytes at ≡ Ok x
      → Allowed x.0 × IsSpelt bytes at (spell x.0) x.1
  pub only : (bytes : List ℕ) (at : ℕ) (v : T) (rest : List ℕ) → Allowed v → drop at bytes ≡ spell v ++ rest
      → read bytes at ≡ Ok (v, at + length (spell v))
  pub sized : (v : T) → Allowed v → sum (sizes v) ≡ length (spell v)
  pub short : (bytes : List ℕ) (at : ℕ) (v : T) (n : ℕ) → Allowed v → at ≤ length bytes → n < length (spell v) → drop at bytes ≡ take n (spell v)
      → read bytes at ≡ Err (Short (at + field_start (sizes v) n))

-- the value of a step without a fault
pub bind_ok : {A B : Type 0} (r : Result A PacketFault) (f : A → Result B PacketFault) (y : B) → (r >>= f) ≡ Ok y
    → (x : A) × (r ≡ Ok x) × (f x ≡ Ok y)
bind_ok (Ok x) f y e = (x, refl, e)
bind_ok (Err fault) f y e = cc

-- one text behind the other
pub IsSpelt-then : (bytes : List ℕ) (at : ℕ) (s : List ℕ) (mid : ℕ) (t : List ℕ) (behind : ℕ) → IsSpelt bytes at s mid → IsSpelt bytes mid t behind
    → IsSpelt bytes at (s ++ t) behind
IsSpelt-then bytes at s mid t behind p q = record {
  parts = p.parts ∙ ap (λ (r : List ℕ). s ++ r) q.parts ∙ sym (append_assoc s t (drop behind bytes));
  ends = omega (arith, p.ends, q.ends, length-append s t);
  within = q.within;
}

-- what stands behind the first text
pub drop_behind : (bytes : List ℕ) (at : ℕ) (s rest : List ℕ) → drop at bytes ≡ s ++ rest → drop (at + length s) bytes ≡ rest
drop_behind bytes at s rest e = sym (drop-drop (length s) at bytes) ∙ ap (drop (length s)) e ∙ drop_at s rest (length s) refl

pub sum-append : (xs ys : List ℕ) → sum (xs ++ ys) ≡ sum xs + sum ys
sum-append xs ys = sum_by-append (λ (n : ℕ). n) xs ys

pub sum-cons : (x : ℕ) (xs : List ℕ) → sum (x ∷ xs) ≡ x + sum xs
sum-cons x xs = sum_by-cons (λ (n : ℕ). n) x xs

-- the field of a byte in the front of a list of fields
field_start-front : (xs ys : List ℕ) (n : ℕ) → n < sum xs → field_start (xs ++ ys) n ≡ field_start xs n
field_start-front [] ys n lt = absurd (omega (arith, lt))
field_start-front (x ∷ xs) ys n lt =
    elim (cases_lt n x) [
      | inl here ↦ rw (lt-ltb n x here) refl
      | inr later ↦
          let rest = field_start-front xs ys (n - x) (omega (arith, lt, sum-cons x xs)) in
          rw (le-ltb n x later, rest) refl
    ]

-- and of one behind it
field_start-behind : (xs ys : List ℕ) (n : ℕ) → sum xs ≤ n → field_start (xs ++ ys) n ≡ sum xs + field_start ys (n - sum xs)
field_start-behind [] ys n le = let none : n - 0 ≡ n = omega arith in rw none (omega arith)
field_start-behind (x ∷ xs) ys n le =
    let all : sum (x ∷ xs) ≡ x + sum xs = sum-cons x xs in
    let rest = field_start-behind xs ys (n - x) (omega (arith, all)) in
    let left : n - x - sum xs ≡ n - (x + sum xs) = omega arith in
    rw (all, le-ltb n x (omega (arith, all)), rest, left) (omega arith)

-- a value that is made without reading
pub IsCodec-done : {T : Type 0} (made : T) {Allowed : T → Type 0} → Allowed made → ((v : T) → Allowed v → v ≡ made)
    → IsCodec (λ bytes at. Ok (made, at)) (λ v. []) (λ v. []) Allowed
IsCodec-done {T} made {Allowed} fits same = record {
  found = λ bytes at x are_bytes within e.
      let at_made : Allowed made × IsSpelt bytes at [] at = (fits, record { parts = refl; ends = omega arith; within = within }) in
      let is : (made, at) ≡ x = cc in
      subst (λ (y : T × ℕ). Allowed y.0 × IsSpelt bytes at [] y.1) is at_made;
  only = λ bytes at v rest allowed e.
      let is : v ≡ made = same v allowed in
      let place : at + 0 ≡ at = omega arith in
      rw (is, place) refl;
  sized = λ v allowed. refl;
  short = λ bytes at v n allowed within lt e. absurd (omega (arith, lt));
}

-- bytes that end within a first field, or behind it
pub short_then : {A B : Type 0} {read : Reader A} {spell sizes : A → List ℕ} {Fits : A → Type 0} → IsCodec read spell sizes Fits
    → (next : A × ℕ → Result B PacketFault) (a : A) (text lengths bytes : List ℕ) (at n : ℕ)
    → Fits a → at ≤ length bytes → n < length (spell a ++ text) → drop at bytes ≡ take n (spell a ++ text)
    → ((k : ℕ) → at + length (spell a) ≤ length bytes → k < length text → drop (at + length (spell a)) bytes ≡ take k text
    → next (a, at + length (spell a)) ≡ Err (Short (at + length (spell a) + field_start lengths k)))
    → (read bytes at >>= next) ≡ Err (Short (at + field_start (sizes a ++ lengths) n))
short_then {A} {B} {read} {spell} {sizes} {Fits} law next a text lengths bytes at n is within lt e later =
    let s = spell a in
    let size = law.sized a is in
    elim (cases_lt n (length s)) [
      | inl lower ↦
          let one = law.short bytes at a n is within lower (e ∙ take-append-le n s text (omega arith)) in
          rw one (ap (λ (k : ℕ). Err (Short (at + k))) (sym (field_start-front (sizes a) lengths n (omega (arith, size, lower)))))
      | inr above ↦
          let left = n - length s in
          let parted : n ≡ length s + left = omega (arith, above) in
          let behind : drop at bytes ≡ s ++ take left text = e ∙ ap (λ (k : ℕ). take k (s ++ text)) parted ∙ take-append-add s text left in
          let ends : at + length s ≤ length bytes = omega (arith, length-drop at bytes, ap length behind, length-append s (take left text)) in
          let small : left < length text = omega (arith, length-append s text, lt) in
          let start : field_start (sizes a ++ lengths) n ≡ length s + field_start lengths left =
          rw size at (field_start-behind (sizes a) lengths n (omega (arith, size, above))) in
          let place : at + length s + field_start lengths left ≡ at + field_start (sizes a ++ lengths) n = omega (arith, start) in
          rw (law.only bytes at a (take left text) is behind)
          (later left ends small (drop_behind bytes at s (take left text) behind) ∙ ap (λ (k : ℕ). Err (Short k)) place)
    ]

module _ {A B : Type 0} {read : Reader A} {spell sizes : A → List ℕ} {Fits : A → Type 0} (next : A × ℕ → Reader B) (first : B → A) {rest lengths : B → List ℕ}
    {Allowed : B → Type 0} (law : IsCodec read spell sizes Fits)
    (laws : (x : A × ℕ) → Fits x.0 → IsCodec (next x) rest lengths (λ v. (first v ≡ x.0) × Allowed v)) (fits : (v : B) → Allowed v → Fits (first v)) where
  -- a field and what follows it, which may go by the field's value and by where it ended
  pub IsCodec-bind : IsCodec (λ bytes at. read bytes at >>= λ x. next x bytes x.1) (λ v. spell (first v) ++ rest v) (λ v. sizes (first v) ++ lengths v) Allowed
  IsCodec-bind = record {
    found = λ bytes at y are_bytes within e.
        let step = bind_ok (read bytes at) (λ x. next x bytes x.1) y e in
        let x = step.0 in
        let one = law.found bytes at x are_bytes within step.1 in
        let two = (laws x one.0).found bytes x.1 y are_bytes one.1.within step.2 in
        (two.0.1, IsSpelt-then bytes at _ x.1 _ y.1 (subst (λ (a : A). IsSpelt bytes at (spell a) x.1) (sym two.0.0) one.1) two.1);
    only = λ bytes at v after allowed e.
        let a = first v in
        let grouped : drop at bytes ≡ spell a ++ (rest v ++ after) = e ∙ append_assoc (spell a) (rest v) after in
        let one = law.only bytes at a (rest v ++ after) (fits v allowed) grouped in
        let mid = at + length (spell a) in
        let two = (laws (a, mid) (fits v allowed)).only bytes mid v after (refl, allowed) (drop_behind bytes at (spell a) (rest v ++ after) grouped) in
        let place : mid + length (rest v) ≡ at + length (spell a ++ rest v) = omega (arith, length-append (spell a) (rest v)) in
        rw one (two ∙ ap (λ (n : ℕ). Ok (v, n)) place);
    sized = λ v allowed.
        let a = first v in
        let one = law.sized a (fits v allowed) in
        let two = (laws (a, 0) (fits v allowed)).sized v (refl, allowed) in
        omega (arith, one, two, sum-append (sizes a) (lengths v), length-append (spell a) (rest v));
    short = λ bytes at v n allowed within lt e.
        let a = first v in
        let is = fits v allowed in
        short_then law (λ x. next x bytes x.1) a (rest v) (lengths v) bytes at n is within lt e
        (λ k. (laws (a, at + length (spell a)) is).short bytes (at + length (spell a)) v k (refl, allowed));
  }

-- the same field by another spelling or other words for what is allowed
pub IsCodec-same : {T : Type 0} {read : Reader T} {spell text sizes lengths : T → List ℕ} {Fits Allowed : T → Type 0} → IsCodec read spell sizes Fits
    → ((v : T) → Fits v → Allowed v) → ((v : T) → Allowed v → Fits v) → ((v : T) → Allowed v → (spell v ≡ text v) × (sizes v ≡ lengths v))
    → IsCodec read text lengths Allowed
IsCodec-same {T} {read} {spell} {text} {sizes} {lengths} {Fits} {Allowed} law to from same = record {
  found = λ bytes at x are_bytes within e.
      let one = law.found bytes at x are_bytes within e in
      let fits = to x.0 one.0 in
      (fits, subst (λ (s : List ℕ). IsSpelt bytes at s x.1) (same x.0 fits).0 one.1);
  only = λ bytes at v rest allowed e.
      let text_is = (same v allowed).0 in
      law.only bytes at v rest (from v allowed) (e ∙ ap (λ (s : List ℕ). s ++ rest) (sym text_is)) ∙ ap (λ (s : List ℕ). Ok (v, at + length s)) text_is;
  sized = λ v allowed. ap sum (sym (same v allowed).1) ∙ law.sized v (from v allowed) ∙ ap length (same v allowed).0;
  short = λ bytes at v n allowed within lt e.
      let text_is = (same v allowed).0 in
      let lower : n < length (spell v) = omega (arith, lt, ap length text_is) in
      law.short bytes at v n (from v allowed) within lower (e ∙ ap (take n) (sym text_is))
      ∙ ap (λ (s : List ℕ). Err (Short (at + field_start s n))) (same v allowed).1;
}

-- the same field by another spelling
pub IsCodec-text : {T : Type 0} {read : Reader T} {spell text sizes lengths : T → List ℕ} {Allowed : T → Type 0} → IsCodec read spell sizes Allowed
    → ((v : T) → Allowed v → (spell v ≡ text v) × (sizes v ≡ lengths v)) → IsCodec read text lengths Allowed
IsCodec-text law same = IsCodec-same law (λ v is. is) (λ v is. is) same

guard_ok : {A : Type 0} (b : Bool) (fault : PacketFault) (x y : A) → cond b (Ok x) (Err fault) ≡ Ok y → (b ≡ true) × (x ≡ y)
guard_ok true fault x y e = (refl, cc)
guard_ok false fault x y e = cc

-- a field whose value passes a test
pub IsCodec-checked : {T : Type 0} (test : T → Bool) {read : Reader T} {spell sizes : T → List ℕ} {Fits : T → Type 0} → IsCodec read spell sizes Fits
    → IsCodec (checked test read) spell sizes (λ v. Fits v × (test v ≡ true))
IsCodec-checked {T} test {read} {spell} {sizes} {Fits} law = record {
  found = λ bytes at y are_bytes within e.
      let step = bind_ok (read bytes at) _ y e in
      let passed = guard_ok (test step.0.0) _ step.0 y step.2 in
      let one = law.found bytes at step.0 are_bytes within step.1 in
      subst (λ (x : T × ℕ). (Fits x.0 × (test x.0 ≡ true)) × IsSpelt bytes at (spell x.0) x.1) passed.1 ((one.0, passed.0), one.1);
  only = λ bytes at v rest allowed e.
      rw (law.only bytes at v rest allowed.0 e, allowed.1) refl;
  sized = λ v allowed. law.sized v allowed.0;
  short = λ bytes at v n allowed within lt e. rw (law.short bytes at v n allowed.0 within lt e) refl;
}

-- ---- what a call gives
pub Gives-same : {T : Type 0} (r read : Result T PacketFault) → r ≡ read → Gives r read
Gives-same (Ok x) read e = sym e
Gives-same (Err fault) read e = λ _. sym e

-- two calls' worth of reading that give the same
pub Gives-to : {T : Type 0} (r read want : Result T PacketFault) → read ≡ want → Gives r read → Gives r want
Gives-to r read want e given = subst (λ (w : Result _ PacketFault). Gives r w) e given

-- what a call that gives what a field's reader reads says of the spelling
pub taken : {T : Type 0} {read : Reader T} {spell sizes : T → List ℕ} {Allowed : T → Type 0} (most : ℕ) (bytes : List ℕ) (at : ℕ)
    (r : Result (T × ℕ) PacketFault)
    → IsCodec read spell sizes Allowed → ((v : T) → Allowed v → sum (sizes v) ≤ most) → IsBytes bytes → at ≤ length bytes → Gives r (read bytes at)
    → IsTaken spell Allowed most bytes at r
taken most bytes at (Ok x) law size are_bytes within given =
    let one = law.found bytes at x are_bytes within given in
    record {
      found = one;
      only = λ v rest allowed e. sym (law.only bytes at v rest allowed e) ∙ given;
      near = omega (arith, one.1.ends, law.sized x.0 one.0, size x.0 one.0);
    }
taken most bytes at (Err fault) law size are_bytes within given = record {
  found = tt;
  only = λ v rest allowed e. λ other. sym (law.only bytes at v rest allowed e) ∙ given other;
  near = tt;
}

-- ---- bytes as a whole
module _ {T : Type 0} {read : Reader T} {spell sizes : T → List ℕ} {Allowed : T → Type 0} (law : IsCodec read spell sizes Allowed) where
  -- what is read as a whole is spelt so
  whole_found : (bytes : List ℕ) (v : T) → IsBytes bytes → whole_of read bytes ≡ Ok v → Allowed v × (bytes ≡ spell v)
  unfolding whole_of
  whole_found bytes v are_bytes e =
      let step = bind_ok (read bytes 0) (λ x. if x.1 == length bytes then Ok x.0 else Err (Extra x.1)) v e in
      let x = step.0 in
      let whole = guard_ok (x.1 == length bytes) (Extra x.1) x.0 v step.2 in
      let one = law.found bytes 0 x are_bytes (omega arith) step.1 in
      let none : drop x.1 bytes ≡ [] = drop_all x.1 bytes (omega (arith, eqb-true _ _ whole.0)) in
      let all : bytes ≡ spell x.0 = one.1.parts ∙ ap (λ (r : List ℕ). spell x.0 ++ r) none ∙ append-nil (spell x.0) in
      subst (λ (w : T). Allowed w × (bytes ≡ spell w)) whole.1 (one.0, all)

  -- and what is spelt so is read
  pub whole_only : (v : T) → Allowed v → whole_of read (spell v) ≡ Ok v
  unfolding whole_of
  whole_only v is =
      let one = law.only (spell v) 0 v [] is (sym (append-nil (spell v))) in
      rw (one, eq-eqb (0 + length (spell v)) (length (spell v)) (omega arith)) refl

  -- of a front of a spelling the field that has the next byte is at fault
  pub whole_short : (v : T) (n : ℕ) → Allowed v → n < length (spell v) → whole_of read (take n (spell v)) ≡ Err (Short (field_start (sizes v) n))
  unfolding whole_of
  whole_short v n is lt = rw (law.short (take n (spell v)) 0 v n is (omega arith) lt refl) (ap (λ (k : ℕ). Err (Short k)) (omega arith))

  -- of a spelling with more behind it the end of the spelling is
  pub whole_extra : (v : T) (more : List ℕ) → Allowed v → 0 < length more → whole_of read (spell v ++ more) ≡ Err (Extra (length (spell v)))
  unfolding whole_of
  whole_extra v more is some =
      let one = law.only (spell v ++ more) 0 v more is refl in
      let longer : length (spell v ++ more) ≡ length (spell v) + length more = length-append (spell v) more in
      let other : (0 + length (spell v) == length (spell v ++ more)) ≡ false = grind (arith, nat_tests) in
      rw (one, other) (ap (λ (k : ℕ). Err (Extra k)) (omega arith))

  -- two values that are spelt the same are the same
  pub spelt_once : (v w : T) → Allowed v → Allowed w → spell w ≡ spell v → w ≡ v
  spelt_once v w is_v is_w same =
      let both : Ok w ≡ Ok v = sym (whole_only w is_w) ∙ ap (whole_of read) same ∙ whole_only v is_v in
      cc

  -- what a call that reads bytes as a whole says of the spelling
  pub whole : (bytes : List ℕ) (r : Result T PacketFault) → IsBytes bytes → Gives r (whole_of read bytes) → IsWhole spell sizes Allowed bytes r
  whole bytes r are_bytes given = record {
    found = found r given;
    only = λ v is e. Gives-to r _ _ (ap (whole_of read) e ∙ whole_only v is) given;
    short = λ v n is lt e. Gives-to r _ _ (ap (whole_of read) e ∙ whole_short v n is lt) given;
    extra = λ v more is some e. Gives-to r _ _ (ap (whole_of read) e ∙ whole_extra v more is some) given;
  }
    where
      found : (r : Result T PacketFault) → Gives r (whole_of read bytes) → IfOk r (λ v. Allowed v × (bytes ≡ spell v))
      found (Ok v) given = whole_found bytes v are_bytes given
      found (Err fault) given = tt
