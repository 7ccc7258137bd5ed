-- The turn of a close, by the first pending changes: its item can be logged.
use Rattle.std.proofs.Common.{◌≡◌, Some, sym, subst, take, arith, length-take}
use Rattle.std.specs.List.{AllByRecursion}
use Rattle.cs_base.proofs.Elements.{All-take}
use Rattle.cs_base.specs.Limits.{most_changes}
use Rattle.cs_base.specs.Ranges.{IsChange}
use Rattle.cs_fields.specs.Changes.{IsChanges}
use Rattle.cs_group.specs.Next.{next_turn}
use Rattle.cs_group.specs.Place.{region_sums}
use Rattle.cs_group.specs.declared.next.Turn.{Turn}
use Rattle.cs_pending.proofs.Offers.{IsPending-take}
use Rattle.cs_slicer.specs.Turn.{IsTurnOf}
use Rattle.cs_slicer.proofs.Turns.{All-accepted, IsTurnOf-next, turn-item}
use Rattle.cs_lead.specs.Kept.{IsLeading}
use Rattle.cs_lead.specs.Leading.{Leading}

module _ (leader : Leading) (turn : Turn) (is : IsLeading leader)
    (next : next_turn leader.group (take most_changes leader.pending) ≡ Some turn) where
  -- it is a turn of the leader's group
  pub IsTurnOf-close : IsTurnOf leader.group turn
  IsTurnOf-close =
      let front = IsPending-take most_changes leader.pending is.pending.pending in
      IsTurnOf-next leader.group (take most_changes leader.pending) turn front.distinct (omega (arith, length-take most_changes leader.pending)) next

  -- and its accepted changes are some of the pending ones
  pub IsChanges-close : IsChanges 0 turn.item
  IsChanges-close =
      let batch = take most_changes leader.pending in
      let allowed = All-take IsChange most_changes leader.pending is.pending.changes in
      record {
        enough = omega arith;
        few = IsTurnOf-close.few;
        allowed = subst (AllByRecursion IsChange) (sym (turn-item leader.group batch turn next))
            (All-accepted (region_sums leader.group.rows) IsChange batch leader.group allowed);
        distinct = IsTurnOf-close.distinct;
      }
