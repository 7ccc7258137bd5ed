-- What a call that can be refused gives.
use Rattle.std.specs.Prelude.{◌≡◌, Result, Err}
use Rattle.cs_core.specs.Sound.{IsReason}
use Rattle.cs_core.specs.declared.plan.Unfit.{Unfit as AReason}
use Rattle.cs_core.specs.declared.refusal.Refusal.{Refusal}
use Rattle.cs_core.specs.declared.refusal.Refusal.TheVariants.{Unfit, Memory}

-- the reason is the one that is due; memory may run out at any time
abbrev pub IsRefusalOf : {T : Type 0} → Result T AReason → Refusal → Type 0
IsRefusalOf due (Unfit reason) = due ≡ Err reason
IsRefusalOf due Memory = Unit {0}

-- each reason that may be due can be told
abbrev pub HasReason : {T : Type 0} → Result T AReason → Type 0
HasReason due = (reason : AReason) → due ≡ Err reason → IsReason reason
