-- What is found in a list by a test.
use Rattle.std.proofs.Common.{◌≡◌, ℕ, zero, suc, ◌<◌, Bool, true, false, List, [], ◌∷◌, length, get_or, Some, refl, sym, subst, ◌∙◌, arith}
use Rattle.std.specs.List.{AllByRecursion, find}

-- the first element that passes
pub find-first : {T : Type 0} (p : T → Bool) (ts : List T) (k : ℕ) (d : T) → k < length ts → p (get_or ts k d) ≡ true
    → ((j : ℕ) → j < k → p (get_or ts j d) ≡ false) → find p ts ≡ Some (get_or ts k d)
find-first p [] k d lt passes before = absurd (omega arith)
find-first p (t ∷ ts) zero d lt passes before = rw passes refl
find-first p (t ∷ ts) (suc k) d lt passes before =
    let fails : p t ≡ false = before 0 (omega arith) in
    rw fails (find-first p ts k d (omega arith) passes (λ j lt. before (suc j) (omega arith)))

-- what is found passes, and has what all have
pub find-holds : {T : Type 0} (P : T → Type 0) (p : T → Bool) (ts : List T) (t : T) → AllByRecursion P ts → find p ts ≡ Some t → P t × (p t ≡ true)
find-holds P p [] t all found = absurd (cc)
find-holds {T} P p (u ∷ us) t all found = go (p u) refl (find-holds P p us t all.1)
  where
    go : (b : Bool) → p u ≡ b → (find p us ≡ Some t → P t × (p t ≡ true)) → P t × (p t ≡ true)
    go true e later =
        let here : find p (u ∷ us) ≡ Some u = rw e refl in
        let same : u ≡ t = cc in
        subst (λ (v : T). P v × (p v ≡ true)) same (all.0, e)
    go false e later = later (let rest : find p (u ∷ us) ≡ find p us = rw e refl in sym rest ∙ found)
