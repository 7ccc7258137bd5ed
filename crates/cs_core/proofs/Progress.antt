-- What the held pieces make possible, case by case.
use Rattle.std.proofs.Common.{◌≡◌, ◌∙◌, List, Option, Some, None, Result, Ok, ap, sym, subst}
use Rattle.cs_hold.specs.Held.{Held}
use Rattle.cs_item.specs.declared.picture.Picture.{Picture}
use Rattle.cs_item.specs.declared.slice.Slice.{Slice}
use Rattle.cs_packet.specs.declared.own.Own.{Own}
use Rattle.cs_view.specs.declared.next.Next.{Next}
use Rattle.cs_core.specs.Holding.{least_slice}
use Rattle.cs_core.specs.Node.{Following}
use Rattle.cs_core.specs.Plans.{◌>>=◌}
use Rattle.cs_core.specs.Refused.{IsRefusalOf}
use Rattle.cs_core.specs.Taking.{Gain, gain_plan, plan_by, progress, progress_from, progress_with, step_with, used_with}
use Rattle.cs_core.specs.declared.plan.Unfit.{Unfit as AReason}
use Rattle.cs_core.specs.declared.refusal.Refusal.{Refusal}
use Rattle.cs_core.proofs.Refusals.{goes-then, refused-first}

module _ (own : Own) (view : Picture) (held : List Held) where
  -- no region is whole
  pub progress-none : least_slice held ≡ None → progress own view held ≡ Ok None
  progress-none least = ap (progress_from own view held) least

  -- by the least whole slice
  progress-least : (w : Slice) (used : Option (List Slice)) → least_slice held ≡ Some w → used_with view held w ≡ used
      → progress own view held ≡ progress_with own view w used
  progress-least w used least there = ap (progress_from own view held) least ∙ ap (progress_with own view w) there

  -- not all that is needed is there
  pub progress-waits : (w : Slice) → least_slice held ≡ Some w → used_with view held w ≡ None → progress own view held ≡ Ok None
  progress-waits w least there = progress-least w None least there

  -- all is there, and the view makes its step
  pub progress-steps : (w : Slice) (used : List Slice) (after : Next) → least_slice held ≡ Some w → used_with view held w ≡ Some used
      → step_with own view w used ≡ Ok after → progress own view held ≡ Ok (Some (used, after))
  progress-steps w used after least there steps =
      progress-least w (Some used) least there
      ∙ ap (λ (r : Result Next AReason). r >>= λ next. Ok (Some (used, next))) steps

  -- or has a fault
  pub progress-refused : (w : Slice) (used : List Slice) (refusal : Refusal) → least_slice held ≡ Some w → used_with view held w ≡ Some used
      → IsRefusalOf (step_with own view w used) refusal → IsRefusalOf (progress own view held) refusal
  progress-refused w used refusal least there is =
      subst (λ (r : Result (Option (List Slice × Next)) AReason). IsRefusalOf r refusal) (sym (progress-least w (Some used) least there))
      (refused-first (step_with own view w used) (λ next. Ok (Some (used, next))) refusal is)

module _ (own : Own) (m : Following) (gain : Gain) where
  -- the plan by what was made possible
  pub planned : (made : Option (List Slice × Next)) → progress own m.view gain.held ≡ Ok made → gain_plan own m gain ≡ Ok (plan_by own m gain made)
  planned made is = ap (λ (r : Result (Option (List Slice × Next)) AReason). r >>= λ by. Ok (plan_by own m gain by)) is

  -- or the refusal
  pub unplanned : (refusal : Refusal) → IsRefusalOf (progress own m.view gain.held) refusal → IsRefusalOf (gain_plan own m gain) refusal
  unplanned refusal is = refused-first (progress own m.view gain.held) (λ by. Ok (plan_by own m gain by)) refusal is
