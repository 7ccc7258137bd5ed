-- What every leader keeps: at the start, with other pending changes, and after a turn of its group.
use Rattle.std.proofs.Common.{ℕ, List, [], refl, inl, inr, arith}
use Rattle.std.specs.List.{AllByRecursion}
use Rattle.cs_base.specs.Limits.{last_number}
use Rattle.cs_base.specs.Ranges.{IsFromTo}
use Rattle.cs_base.specs.declared.change.Change.{Change}
use Rattle.cs_base.specs.declared.member.Member.{Member}
use Rattle.cs_group.specs.Group.{GroupState, IsGroup, first_group}
use Rattle.cs_group.specs.Led.{IsLedBy}
use Rattle.cs_group.specs.declared.next.Turn.{Turn}
use Rattle.cs_item.specs.SliceField.{IsSlice}
use Rattle.cs_pending.specs.Reportable.{CanBeReported}
use Rattle.cs_slicer.specs.Turn.{IsTurnOf}
use Rattle.cs_lead.specs.Kept.{HasHistory, IsLeading}
use Rattle.cs_lead.specs.Leading.{Leading, all_slices, begun, led_to}

-- no changes can be reported
pub reportable-none : CanBeReported []
reportable-none = record { pending = record { few = omega arith; distinct = tt }; changes = tt }

-- alone in its group
pub IsLeading-begun : (me : Member) → IsGroup (first_group me) → IsLedBy me (first_group me) → IsLeading (begun me)
IsLeading-begun me is led = record {
  group = is;
  led = led;
  epoch = omega arith;
  view = refl;
  allowed = tt;
  history = inl (record { group = refl; epoch = refl; slices = refl });
  pending = reportable-none;
}

-- how it came to its epoch has nothing to do with pending changes
history-pending : (leader : Leading) (pending : List Change) → HasHistory leader → HasHistory (record leader { pending = pending })
history-pending leader pending (inl first) = inl (record { group = first.group; epoch = first.epoch; slices = first.slices })
history-pending leader pending (inr came) =
    inr (
      came.0,
      came.1,
      record {
        group = came.2.group;
        is_turn = came.2.is_turn;
        next = came.2.next;
        later = came.2.later;
        slices = came.2.slices;
      },
    )

-- with other pending changes
pub IsLeading-pending : (leader : Leading) (pending : List Change) → IsLeading leader → CanBeReported pending
    → IsLeading (record leader { pending = pending })
IsLeading-pending leader pending is can = record {
  group = is.group;
  led = is.led;
  epoch = is.epoch;
  view = is.view;
  allowed = is.allowed;
  history = history-pending leader pending is.history;
  pending = can;
}

-- after a turn of a group that it led
pub IsLeading-led_to : (me : Member) (before : GroupState) (turn : Turn) (epoch : ℕ) (pending : List Change) → IsGroup before → IsTurnOf before turn
    → IsGroup turn.group → IsLedBy me turn.group → IsFromTo 1 last_number epoch → AllByRecursion IsSlice (all_slices before turn epoch)
    → CanBeReported pending → IsLeading (led_to me before turn epoch pending)
IsLeading-led_to me before turn epoch pending was of next led few allowed can = record {
  group = next;
  led = led;
  epoch = few.1;
  view = refl;
  allowed = allowed;
  history = inr (before, turn, record { group = was; is_turn = of; next = refl; later = few.0; slices = refl });
  pending = can;
}
