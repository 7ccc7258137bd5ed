-- The laws of a value that is made of one field alone.
use Rattle.std.proofs.Common.{◌≡◌, ℕ, ◌+◌, ◌<◌, List, ◌++◌, length, take, Ok, Err, sym, ap, subst, ◌∙◌, arith}
use Rattle.std.specs.Prelude.{sum}
use Rattle.cs_fields.specs.declared.fault.PacketFault.TheVariants.{Short}
use Rattle.cs_fields.specs.Reading.{Reader, ◌>>=◌, IsSpelt}
use Rattle.cs_fields.specs.Whole.{field_start}
use Rattle.cs_fields.proofs.Codec.{bind_ok, IsCodec}

module _ {A B : Type 0} {read : Reader A} {spell sizes : A → List ℕ} {Fits : A → Type 0} {text lengths : B → List ℕ} {Allowed : B → Type 0} (make : A → B)
    (law : IsCodec read spell sizes Fits) (to : (a : A) → Fits a → Allowed (make a)) (from : (b : B) → Allowed b → (a : A) × Fits a × (b ≡ make a))
    (same : (a : A) → (text (make a) ≡ spell a) × (lengths (make a) ≡ sizes a)) where
  -- a value that has one field
  pub of_one_field : IsCodec (λ bytes at. read bytes at >>= λ x. Ok (make x.0, x.1)) text lengths Allowed
  of_one_field = record {
    found = λ bytes at y are_bytes within e.
        let step = bind_ok (read bytes at) (λ x. Ok (make x.0, x.1)) y e in
        let x = step.0 in
        let one = law.found bytes at x are_bytes within step.1 in
        let is : (make x.0, x.1) ≡ y = cc in
        subst (λ (z : B × ℕ). Allowed z.0 × IsSpelt bytes at (text z.0) z.1) is
        (to x.0 one.0, subst (λ (s : List ℕ). IsSpelt bytes at s x.1) (sym (same x.0).0) one.1);
    only = λ bytes at b rest allowed e.
        let parts = from b allowed in
        let spelling = ap text parts.2 ∙ (same parts.0).0 in
        let read_a = law.only bytes at parts.0 rest parts.1 (e ∙ ap (λ (s : List ℕ). s ++ rest) spelling) in
        rw (read_a, spelling) (ap (λ (v : B). Ok (v, at + length (spell parts.0))) (sym parts.2));
    sized = λ b allowed.
        let parts = from b allowed in
        let spelling = ap text parts.2 ∙ (same parts.0).0 in
        let sizes_same = ap lengths parts.2 ∙ (same parts.0).1 in
        ap sum sizes_same ∙ law.sized parts.0 parts.1 ∙ ap length (sym spelling);
    short = λ bytes at b n allowed within lt e.
        let parts = from b allowed in
        let spelling = ap text parts.2 ∙ (same parts.0).0 in
        let sizes_same = ap lengths parts.2 ∙ (same parts.0).1 in
        let lower : n < length (spell parts.0) = omega (arith, lt, ap length spelling) in
        let read_a = law.short bytes at parts.0 n parts.1 within lower (e ∙ ap (take n) spelling) in
        rw read_a (ap (λ (s : List ℕ). Err (Short (at + field_start s n))) (sym sizes_same));
  }
