-- The laws of a number that has to pass a test, and of a kind.
use Rattle.std.proofs.Common.{◌≡◌, ℕ, ◌^◌, ◌<◌, nat_le, ◌&&◌, Bool, true, false, cond, if◌then◌else◌, Ok, Err, refl, subst, arith}
use Rattle.std.proofs.lemmas.Bool.Decides.{nat_tests}
use Rattle.cs_base.specs.Ranges.{IsFromTo}
use Rattle.cs_fields.specs.declared.fault.PacketFault.{PacketFault}
use Rattle.cs_fields.specs.declared.fault.PacketFault.TheVariants.{Kind}
use Rattle.cs_fields.specs.Numbers.{number_at, number_bytes}
use Rattle.cs_fields.specs.Reading.{◌>>=◌, IsSpelt}
use Rattle.cs_fields.specs.Whole.{one_field}
use Rattle.cs_fields.proofs.Codec.{bind_ok, IsCodec, IsCodec-same}
use Rattle.cs_fields.proofs.Numbers.{number_codec}
use Rattle.cs_packet.specs.KindField.{kind_at}

-- a number that passes a test, with a fault of its own where it doesn't
test_ok : {A : Type 0} (b : Bool) (fault : PacketFault) (x y : A) → cond b (Ok x) (Err fault) ≡ Ok y → (b ≡ true) × (x ≡ y)
test_ok true fault x y e = (refl, cc)
test_ok false fault x y e = cc

-- and the laws of it
pub tested_codec : (test : ℕ → Bool) (fault : ℕ → PacketFault)
    → IsCodec (λ bytes at. number_at 1 bytes at >>= λ x. if test x.0 then Ok x else Err (fault x.0)) (number_bytes 1) (one_field 1)
    (λ n. (n < 256 ^ 1) × (test n ≡ true))
tested_codec test fault =
    let law = number_codec 1 (omega arith) in
    record {
      found = λ bytes at y are_bytes within e.
          let step = bind_ok (number_at 1 bytes at) (λ x. if test x.0 then Ok x else Err (fault x.0)) y e in
          let passed = test_ok (test step.0.0) (fault step.0.0) step.0 y step.2 in
          let one = law.found bytes at step.0 are_bytes within step.1 in
          subst (λ (x : ℕ × ℕ). ((x.0 < 256 ^ 1) × (test x.0 ≡ true)) × IsSpelt bytes at (number_bytes 1 x.0) x.1) passed.1 ((one.0, passed.0), one.1);
      only = λ bytes at v rest allowed e. rw (law.only bytes at v rest allowed.0 e, allowed.1) refl;
      sized = λ v allowed. law.sized v allowed.0;
      short = λ bytes at v n allowed within lt e. rw (law.short bytes at v n allowed.0 within lt e) refl;
    }

-- a kind from 1 to the last one
pub kind_codec : (last : ℕ) → last < 256 → IsCodec (kind_at last) (number_bytes 1) (one_field 1) (IsFromTo 1 last)
unfolding kind_at
kind_codec last small =
    IsCodec-same (tested_codec (λ n. nat_le 1 n && nat_le n last) Kind)
    (λ n is. between n is.1) (λ n is. (omega (arith, is.1, small), passes n is)) (λ n _. (refl, refl))
  where
    between : (n : ℕ) → (nat_le 1 n && nat_le n last) ≡ true → IsFromTo 1 last n
    between n e = (grind (arith, nat_tests), grind (arith, nat_tests))

    passes : (n : ℕ) → IsFromTo 1 last n → (nat_le 1 n && nat_le n last) ≡ true
    passes n is = grind (arith, nat_tests)
