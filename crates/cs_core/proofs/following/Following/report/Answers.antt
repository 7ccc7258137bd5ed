use Rattle.std.proofs.Common.{sym, subst, ◌∙◌, refl}
use Rattle.std.specs.List.{AllByRecursion}
use Rattle.cs_base.specs.Ranges.{IsChange}
use Rattle.cs_pending.specs.Reportable.{CanBeReported}
use Rattle.cs_pending.proofs.Reportable.{reportable-all_offered}
use Rattle.cs_core.proofs.following.Following.report.Goals as goal

-- all changes of the report can be reported
pub with_pending-requires : goal.with_pending-requires
with_pending-requires c =
    subst CanBeReported (sym c.in_ok-counts.ensures.after)
    (reportable-all_offered _ _ (subst CanBeReported (sym (c.in_ok-pending.ensures ∙ c.pending.ensures.value)) c.pending.ensures.keeps)
    (subst (AllByRecursion IsChange) (sym c.as_slice.ensures) c.requires.allowed))

pub returns-clause-plan : goal.returns-clause-plan
returns-clause-plan c =
    rw (
      c.in_ok-goes_on.ensures,
      c.in_ok-with_pending.ensures,
      c.in_ok-counts.ensures.answer,
      c.in_ok-counts.ensures.after,
      c.as_slice.ensures,
      c.in_ok-pending.ensures,
      c.pending.ensures.value,
      c.seq.ensures,
      c.new.ensures,
    ) refl
