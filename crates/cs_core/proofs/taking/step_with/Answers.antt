use Rattle.std.proofs.Common.{◌≡◌, ◌≢◌, List, None, Option, Err, sym, ap, subst, ◌∙◌, inl, inr, rules}
use Rattle.cs_item.specs.declared.part.Part.{Part}
use Rattle.cs_item.specs.declared.picture.Picture.{Picture}
use Rattle.cs_item.specs.declared.slice.Slice.{Slice}
use Rattle.cs_packet.specs.declared.own.Own.{Own}
use Rattle.cs_view.specs.Faults.{step}
use Rattle.cs_view.specs.declared.fault.ViewFault.TheVariants as faults
use Rattle.cs_core.specs.Plans.{unfit_by, unless_unfit}
use Rattle.cs_core.specs.Taking.{heads_fault, parts_of}
use Rattle.cs_core.specs.declared.plan.Unfit.{Unfit}
use Rattle.cs_core.specs.declared.plan.Unfit.TheVariants as unfit
use Rattle.cs_core.specs.declared.refusal.Refusal.TheVariants as refusals
use Rattle.cs_core.proofs.Refusals.{refused-next}
use Rattle.cs_core.proofs.StepParts.{steps_with}
use Rattle.cs_core.proofs.taking.step_with.Goals as goal

-- the heads are the same, and the view makes its step
pub returns-in-Ok-clause-ok : goal.returns-in-Ok-clause-ok
returns-in-Ok-clause-ok c =
    let own : Own = c.args.own.now in
    let view : Picture = c.args.view.now in
    let w : Slice = c.args.least.now in
    let used : List Slice = c.args.used.now in
    let none : heads_fault w used ≡ None =
    subst (λ (ss : List Slice). heads_fault w ss ≡ None) c.as_slice.ensures.value c.in_ok-check_heads.ensures.ok in
    let parts : c.in_ok-parts.parts ≡ parts_of used = c.in_ok-parts.ensures ∙ ap parts_of c.as_slice-2.ensures.value in
    steps_with own view w used c.in-Ok.next none
    (ap (λ (ps : List Part). step own.id own.mode view w.head ps) (sym parts) ∙ c.in-Ok.ensures.ok)

-- or the view has a fault
pub returns : goal.returns
returns c =
    let own : Own = c.args.own.now in
    let view : Picture = c.args.view.now in
    let w : Slice = c.args.least.now in
    let used : List Slice = c.args.used.now in
    let none : heads_fault w used ≡ None =
    subst (λ (ss : List Slice). heads_fault w ss ≡ None) c.as_slice.ensures.value c.in_ok-check_heads.ensures.ok in
    let parts : c.in_ok-parts.parts ≡ parts_of used = c.in_ok-parts.ensures ∙ ap parts_of c.as_slice-2.ensures.value in
    let other : c.in-Err.fault ≢ faults.Memory = search rules in
    let fault : step own.id own.mode view w.head (parts_of used) ≡ Err c.in-Err.fault =
    elim c.in-Err.ensures.fault [
      | inl same ↦ absurd (other same)
      | inr is ↦ ap (λ (ps : List Part). step own.id own.mode view w.head ps) (sym parts) ∙ is
    ] in
    record {
      ok = tt;
      fault =
          refused-next (unless_unfit (heads_fault w used) used)
          (λ (all : List Slice). unfit_by unfit.View (step own.id own.mode view w.head (parts_of all))) used (refusals.Unfit (unfit.View c.in-Err.fault))
          (ap (λ (o : Option Unfit). unless_unfit o used) none) (ap (unfit_by unfit.View) fault);
    }
