-- How what is due and why it is refused go on from one rule to the next.
use Rattle.std.proofs.Common.{◌≡◌, ◌∙◌, Result, Ok, Err, IfOk, IfErr, OnOk, Option, Some, None, ap, sym, subst, refl}
use Rattle.cs_core.specs.Plans.{unless_unfit, ◌>>=◌}
use Rattle.cs_core.specs.Refused.{IsRefusalOf}
use Rattle.cs_core.specs.declared.plan.Unfit.{Unfit as AReason}
use Rattle.cs_core.specs.declared.refusal.Refusal.{Refusal}
use Rattle.cs_core.specs.declared.refusal.Refusal.TheVariants.{Unfit, Memory}

module _ {A B : Type 0} (first : Result A AReason) (next : A → Result B AReason) where
  -- what fits goes on
  pub goes-then : (x : A) (y : B) → first ≡ Ok x → next x ≡ Ok y → (first >>= next) ≡ Ok y
  goes-then x y is then = ap (λ r. r >>= next) is ∙ then

  -- what doesn't fit is refused for that
  pub refused-first : (refusal : Refusal) → IsRefusalOf first refusal → IsRefusalOf (first >>= next) refusal
  refused-first (Unfit reason) is = ap (λ r. r >>= next) is
  refused-first Memory is = tt

  -- and what fits at first is refused for what follows
  pub refused-next : (x : A) (refusal : Refusal) → first ≡ Ok x → IsRefusalOf (next x) refusal → IsRefusalOf (first >>= next) refusal
  refused-next x refusal is later = subst (λ r. IsRefusalOf r refusal) (sym (ap (λ r. r >>= next) is)) later
