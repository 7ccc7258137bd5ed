-- What holds of a result, by whether a call ended well.
use Rattle.std.proofs.Common.{◌≡◌, List, Result, Ok, Err, IfOk, IfErr, OnOk, refl, sym, ap, subst}
use Rattle.std.proofs.lemmas.Result.{IfErr-weaker}
use Rattle.cs_machine.specs.Names.{World}
use Rattle.cs_world.specs.Seats.{Seated}
use Rattle.cs_world.specs.Stands.{IsCounted, IsLimitOf}
use Rattle.cs_world.specs.declared.fault.WorldFault.{WorldFault}
use Rattle.cs_world.specs.declared.fault.WorldFault.TheVariants as faults
use Rattle.cs_world.proofs.Answering.{counted-more, memory-counts}

-- what a call that ended well ensures in two parts, together with what it ensures of its result
pub with-both : {T E : Type 0} (result : Result T E) (A B : Type 0) (P Q : T → Type 0) → OnOk result A → OnOk result B → IfOk result P
    → (A → B → (x : T) → P x → Q x) → IfOk result Q
with-both (Ok x) A B P Q a b p so = so a b x p
with-both (Err e) A B P Q a b p so = tt

-- a fault that isn't a limit tells of none
unlimited-fault : (world : World) (fault : WorldFault) → ¬ (fault ≡ faults.Limit) → IsLimitOf world fault
unlimited-fault world faults.Limit other = absurd (other refl)
unlimited-fault world faults.Link other = tt
unlimited-fault world faults.Log other = tt
unlimited-fault world faults.Memory other = tt

-- nor does a call whose result is no such fault
pub unlimited : {T : Type 0} (world : World) (result : Result T WorldFault) → ¬ (result ≡ Err faults.Limit) → IfErr result (IsLimitOf world)
unlimited world (Ok x) other = tt
unlimited world (Err fault) other = unlimited-fault world fault (λ is. other (ap (λ f. Err f) is))

-- what is counted of a call is counted where its result and its seats are had
pub counted-in : {T : Type 0} (ungranted more : Type 0) → (ungranted → more) → (seats now : List Seated) (result call : Result T WorldFault)
    → seats ≡ now → result ≡ call → IfErr call (IsCounted ungranted now) → IfErr result (IsCounted more seats)
counted-in ungranted more so seats now result call same is counted =
    subst (λ s. IfErr result (IsCounted more s)) (sym same)
    (subst (λ r. IfErr r (IsCounted more now)) (sym is)
    (IfErr-weaker call (IsCounted ungranted now) (IsCounted more now) (counted-more ungranted more so now) counted))

-- and so is want of memory, whatever the seats are
pub memory-counted : {T : Type 0} (ungranted : Type 0) (seats : List Seated) (result call : Result T WorldFault) → result ≡ call
    → IfErr call (λ fault. fault ≡ faults.Memory) → IfErr result (IsCounted ungranted seats)
memory-counted ungranted seats result call is memory =
    memory-counts ungranted seats result (subst (λ r. IfErr r (λ fault. fault ≡ faults.Memory)) (sym is) memory)
