use Rattle.std.proofs.Common.{sym, subst, ◌∙◌}
use Rattle.std.specs.List.{AllByRecursion}
use Rattle.cs_base.specs.Ranges.{IsChange}
use Rattle.cs_pending.specs.Reportable.{CanBeReported}
use Rattle.cs_pending.proofs.Reportable.{reportable-all_offered}
use Rattle.cs_lead.proofs.leader.Leader.report.Goals as goal

-- all changes of the report can be reported
pub with_pending-requires : goal.with_pending-requires
with_pending-requires c =
    subst CanBeReported (sym c.in_ok-counts.ensures.after)
    (reportable-all_offered _ _ (subst CanBeReported (sym (c.in_ok-pending.ensures ∙ c.pending.ensures.value)) c.pending.ensures.keeps.pending)
    (subst (AllByRecursion IsChange) (sym c.as_slice.ensures) c.requires.allowed))
