-- What a taken view and each outcome of a step tell.
use Rattle.std.proofs.Common.{◌≡◌, ◌+◌, ◌==◌, ◌∙◌, ℕ, Bool, true, false, if◌then◌else◌, List, Option, Some, None, Result, Ok, refl, sym, ap, subst}
use Rattle.std.specs.Result.{result_ok}
use Rattle.std.proofs.lemmas.Bool.{eqb-true}
use Rattle.std.proofs.lemmas.Option.{none-some, same_Some}
use Rattle.cs_base.specs.declared.change.Mode.{Mode}
use Rattle.cs_item.specs.declared.head.Head.{Head}
use Rattle.cs_item.specs.declared.part.Part.{Part}
use Rattle.cs_item.specs.declared.picture.Picture.{Picture}
use Rattle.cs_view.specs.Faults.{gone_or_next, step, step_fault}
use Rattle.cs_view.specs.Step.{is_among, next_view}
use Rattle.cs_view.specs.Taking.{few_members, or_fault, picture_fault, taken, unless, view_from}
use Rattle.cs_view.specs.View.{IsView}
use Rattle.cs_view.specs.declared.fault.ViewFault.{ViewFault}
use Rattle.cs_view.specs.declared.fault.ViewFault.TheVariants as faults
use Rattle.cs_view.specs.declared.next.Next.{Next}
use Rattle.cs_view.specs.declared.next.Next.TheVariants as next
use Rattle.cs_view.proofs.Faultless.{HasNoFault-step, IsView-stepped, IsView-taken, passes-unless}

-- a value comes where there is no fault
pub without_fault : {T : Type 0} (fault : Option ViewFault) (value result : T) → or_fault fault value ≡ Ok result → (fault ≡ None) × (value ≡ result)
without_fault None value result is = (refl, same_Some value result (ap result_ok is))
without_fault (Some fault) value result is = absurd (none-some result (ap result_ok is))

module _ (me : ℕ) (mode : Mode) (view : Picture) (head : Head) (parts : List Part) where
  -- the next view
  abbrev after : Picture
  after = next_view me mode view head parts

  -- a step with an outcome has no fault
  pub faultless : (outcome : Next) → step me mode view head parts ≡ Ok outcome → step_fault view head parts ≡ None
  faultless outcome is = by_fault (step_fault view head parts) is
    where
      by_fault : (first : Option ViewFault) → gone_or_next me mode view head parts first ≡ Ok outcome → first ≡ None
      by_fault None e = refl
      by_fault (Some fault) e = absurd (none-some outcome (ap result_ok e))

  -- one that goes on does so with the next view, whose rolls are few
  pub goes_on : (next_one : Picture) → step me mode view head parts ≡ Ok (next.Member next_one)
      → (few_members after.rolls ≡ true) × (after ≡ next_one)
  goes_on next_one is = by_fault (step_fault view head parts) is
    where
      by_test : (left few : Bool)
          → (let given : Result Next ViewFault = (if left then Ok next.Departed else or_fault (unless few faults.Size) (next.Member after)) in given)
          ≡ Ok (next.Member next_one) → (few ≡ true) × (after ≡ next_one)
      by_test true few e = absurd (cc)
      by_test false true e = (refl, (let same : after ≡ next_one = cc in same))
      by_test false false e = absurd (cc)

      by_fault : (first : Option ViewFault) → gone_or_next me mode view head parts first ≡ Ok (next.Member next_one)
          → (few_members after.rolls ≡ true) × (after ≡ next_one)
      by_fault None e = by_test (is_among head.left me) (few_members after.rolls) e
      by_fault (Some fault) e = absurd (cc)

  -- so the head is that of the next epoch
  pub head_epoch : (outcome : Next) → step me mode view head parts ≡ Ok outcome → head.epoch ≡ view.epoch + 1
  head_epoch outcome is =
      let no = HasNoFault-step view head parts (faultless outcome is) in
      eqb-true head.epoch (view.epoch + 1) (passes-unless (head.epoch == view.epoch + 1) (faults.Epoch view.epoch head.epoch) no.epoch)

  -- and so is the next view
  pub next_epoch : (next_one : Picture) → step me mode view head parts ≡ Ok (next.Member next_one) → next_one.epoch ≡ view.epoch + 1
  next_epoch next_one is = ap (λ (p : Picture). p.epoch) (sym (goes_on next_one is).1) ∙ head_epoch (next.Member next_one) is

  -- which is a view
  pub IsView-next : (next_one : Picture) → step me mode view head parts ≡ Ok (next.Member next_one) → IsView next_one
  IsView-next next_one is =
      let goes = goes_on next_one is in
      subst IsView goes.1 (IsView-stepped me mode view head parts (faultless (next.Member next_one) is) goes.0)

-- what is taken is a view
pub IsView-of_taken : (me : ℕ) (mode : Mode) (p view : Picture) → taken me mode p ≡ Ok view → IsView view
IsView-of_taken me mode p view is =
    let whole = without_fault (picture_fault me p) (view_from me mode p) view is in
    subst IsView whole.1 (IsView-taken me mode p whole.0)
