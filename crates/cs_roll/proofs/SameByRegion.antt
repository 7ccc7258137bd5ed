-- The tests for what stands beside regions decide whether it is the same.
use Rattle.std.proofs.Common.{◌≡◌, ℕ, Bool, ap, refl}
use Rattle.std.specs.Bool.{Decides}
use Rattle.std.proofs.lemmas.Bool.Decides.{Decides-eqb, Decides-and, Decides-like}
use Rattle.std.proofs.lemmas.Slice.Eq.{slice_eq-Decides}
use Rattle.cs_roll.specs.SameByRegion.{are_same_rolls, are_same_summaries, is_alike_pair}
use Rattle.cs_roll.specs.Same.{are_same_members, is_same_summary}
use Rattle.cs_roll.specs.Sight.{Rolls, Summaries}
use Rattle.cs_roll.proofs.Same.{Decides-members, Decides-summary}

-- pairs of a region and what stands beside it are the same where both parts are
Decides-pair : {T : Type 0} (is_alike : T → T → Bool) → ((x y : T) → Decides (is_alike x y) (x ≡ y)) → (s t : ℕ × T)
    → Decides (is_alike_pair is_alike s t) (s ≡ t)
Decides-pair {T} is_alike decides s t =
    Decides-like _ (λ e. λ i. (e.0 i, e.1 i))
    (λ (e : s ≡ t). (ap (λ (p : ℕ × T). p.0) e, ap (λ (p : ℕ × T). p.1) e))
    (Decides-and _ _ (Decides-eqb s.0 t.0) (decides s.1 t.1))

-- and lists of them where they are one by one
pub Decides-summaries : (ss ts : Summaries) → Decides (are_same_summaries ss ts) (ss ≡ ts)
Decides-summaries ss ts = slice_eq-Decides (Decides-pair is_same_summary Decides-summary) ss ts (are_same_summaries ss ts) refl

pub Decides-rolls : (rs qs : Rolls) → Decides (are_same_rolls rs qs) (rs ≡ qs)
Decides-rolls rs qs = slice_eq-Decides (Decides-pair are_same_members Decides-members) rs qs (are_same_rolls rs qs) refl
