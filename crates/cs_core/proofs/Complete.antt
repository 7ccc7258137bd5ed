-- A member that has the slices it needs goes on.
use Rattle.std.proofs.Common.{◌≡◌, ◌∙◌, List, Option, Some, Result, Ok, inl, inr, refl, ap}
use Rattle.cs_item.specs.declared.picture.Picture.{Picture}
use Rattle.cs_item.specs.declared.slice.Slice.{Slice}
use Rattle.cs_packet.specs.declared.own.Own.{Own}
use Rattle.cs_view.specs.Faults.{step}
use Rattle.cs_view.specs.declared.next.Next.{Next}
use Rattle.cs_view.specs.declared.next.Next.TheVariants as next
use Rattle.cs_view.proofs.Outcomes.{next_epoch}
use Rattle.cs_core.specs.Laws.{GoesOn, IsComplete}
use Rattle.cs_core.specs.Node.{Following}
use Rattle.cs_core.specs.Plans.{◌>>=◌}
use Rattle.cs_core.specs.Taking.{Gain, gain_plan, parts_of, plan_by, progress, progress_from, progress_with, stepped}
use Rattle.cs_core.specs.declared.plan.FollowNote.TheVariants as notes
use Rattle.cs_core.specs.declared.plan.Unfit.{Unfit}
use Rattle.cs_core.proofs.StepParts.{steps_with}

module _ (own : Own) (m : Following) (gain : Gain) (w : Slice) (used : List Slice) (after : Next) (is : IsComplete own m gain w used after) where
  -- the held pieces make a step possible
  pub progress-complete : progress own m.view gain.held ≡ Ok (Some (used, after))
  progress-complete =
      ap (progress_from own m.view gain.held) is.least
      ∙ (ap (progress_with own m.view w) is.all_there
      ∙ ap (λ (r : Result Next Unfit). r >>= λ made. Ok (Some (used, made))) (steps_with own m.view w used after is.one_head is.steps))

  -- which gives the plan
  pub gain-complete : gain_plan own m gain ≡ Ok (stepped own m gain used after)
  gain-complete =
      ap (λ (r : Result (Option (List Slice × Next)) Unfit). r >>= λ made. Ok (plan_by own m gain made)) progress-complete

-- after a step a member is at the next epoch, or left
pub stepped-goes_on : (own : Own) (m : Following) (gain : Gain) (w : Slice) (used : List Slice) (after : Next)
    → step own.id own.mode m.view w.head (parts_of used) ≡ Ok after → GoesOn m.view.epoch (stepped own m gain used after).note
stepped-goes_on own m gain w used (next.Member view) is = inl (ap notes.Advanced (next_epoch own.id own.mode m.view w.head (parts_of used) view is))
stepped-goes_on own m gain w used next.Departed is = inr refl
