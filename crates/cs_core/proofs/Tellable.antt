-- Why a picture can't be taken as a view can be told.
use Rattle.std.proofs.Common.{◌≡◌, ℕ, ◌&&◌, Bool, true, false, not, List, Option, Some, None, Result, Ok, Err, refl, subst}
use Rattle.std.specs.List.{find}
use Rattle.std.specs.Option.{is_some, option_map, option_or}
use Rattle.cs_base.specs.declared.change.Mode.{Mode}
use Rattle.cs_base.specs.declared.member.Member.{Member}
use Rattle.cs_item.specs.declared.picture.Picture.{Picture}
use Rattle.cs_packet.specs.declared.own.Own.{Own}
use Rattle.cs_view.specs.Taking.{few_members, few_regions, is_listed, or_fault, taken, unless, view_from}
use Rattle.cs_view.specs.View.{holder}
use Rattle.cs_view.specs.declared.fault.ViewFault.{ViewFault}
use Rattle.cs_view.specs.declared.fault.ViewFault.TheVariants as faults
use Rattle.cs_core.specs.Plans.{unfit_by, ◌>>=◌}
use Rattle.cs_core.specs.Refused.{HasReason}
use Rattle.cs_core.specs.Sound.{IsReason, IsTellable}
use Rattle.cs_core.specs.declared.plan.Plan.{Plan}
use Rattle.cs_core.specs.declared.plan.Unfit.TheVariants as unfit

-- the first fault of a picture is its size, a roll, or that the node is absent
tellable-taken : (me : ℕ) (mode : Mode) (p : Picture) (fault : ViewFault) → taken me mode p ≡ Err fault → IsTellable fault
tellable-taken me mode p fault is =
    by_tests (few_regions p.summaries && few_members p.rolls) (find (λ (pair : ℕ × List Member). not (is_listed p.summaries pair)) p.rolls)
    (is_some (holder me p.rolls)) is
  where
    by_tests : (few : Bool) (found : Option (ℕ × List Member)) (there : Bool)
        → or_fault (option_or (unless few faults.Size)
        (option_or (option_map (λ (pair : ℕ × List Member). faults.Roll pair.0) found) (unless there faults.Absent))) (view_from me mode p) ≡ Err fault
        → IsTellable fault
    by_tests false found there e = let same : faults.Size ≡ fault = cc in subst IsTellable same tt
    by_tests true (Some pair) there e = let same : faults.Roll pair.0 ≡ fault = cc in subst IsTellable same tt
    by_tests true None false e = let same : faults.Absent ≡ fault = cc in subst IsTellable same tt
    by_tests true None true e = absurd (cc)

-- so each reason against a picture can be told
pub reasons-taken : (own : Own) (p : Picture) (next : Picture → Plan)
    → HasReason (unfit_by unfit.View (taken own.id own.mode p) >>= λ view. Ok (next view))
reasons-taken own p next = by_view (taken own.id own.mode p) (tellable-taken own.id own.mode p)
  where
    by_view : (r : Result Picture ViewFault) → ((fault : ViewFault) → r ≡ Err fault → IsTellable fault)
        → HasReason (unfit_by unfit.View r >>= λ view. Ok (next view))
    by_view (Ok view) tells reason e = absurd (cc)
    by_view (Err fault) tells reason e =
        let same : unfit.View fault ≡ reason = cc in
        subst IsReason same (tells fault refl)
