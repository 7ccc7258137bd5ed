-- Texts appended one behind the other.
use Rattle.std.proofs.Common.{◌≡◌, ℕ, List, ◌++◌, length, take, Result, Ok, Err, refl, ap, ◌∙◌, append_assoc}
use Rattle.std.proofs.lemmas.List.{take_at}
use Rattle.cs_fields.specs.Writing.{Appends, Extends}

-- what was there, behind which a text stands
pub begins : (old new s : List ℕ) → new ≡ old ++ s → take (length old) new ≡ old
begins old new s e = ap (take (length old)) e ∙ take_at old s (length old) refl

-- a last text behind those before
pub appended : {T E : Type 0} (r : Result T E) (old mid new s t : List ℕ) → mid ≡ old ++ s → Appends r mid new t → Extends r old new (s ++ t)
appended (Ok x) old mid new s t e last = last ∙ ap (λ (xs : List ℕ). xs ++ t) e ∙ append_assoc old s t
appended (Err fault) old mid new s t e last = begins old new s (last ∙ e)
