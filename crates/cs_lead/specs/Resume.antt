-- What the leader becomes by an entry of its log; an entry that doesn't continue the ones before it breaks the log.
use Rattle.std.specs.Prelude.{ℕ, ◌+◌, ◌==◌, ◌||◌, Bool, not, List, [], Option, None, Some, if◌then◌else◌}
use Rattle.std.specs.List.{list_all}
use Rattle.cs_base.specs.declared.change.Change.{Change}
use Rattle.cs_base.specs.declared.member.Member.{Member}
use Rattle.cs_group.specs.Faults.{rows_fault}
use Rattle.cs_group.specs.Group.{GroupState, state_of}
use Rattle.cs_group.specs.Judging.{is_accepted}
use Rattle.cs_group.specs.Next.{next_turn}
use Rattle.cs_group.specs.declared.checks.RowsFault.{RowsFault}
use Rattle.cs_group.specs.declared.next.Turn.{Turn}
use Rattle.cs_group.specs.declared.row.Row.{Row}
use Rattle.cs_group.specs.declared.verdict.Verdict.{Verdict}
use Rattle.cs_packet.specs.declared.entry.Entry.{Entry}
use Rattle.cs_packet.specs.declared.entry.Entry.TheVariants.{Boot, Seq, View, Step, Gone, Item, Base}
use Rattle.cs_roll.specs.Same.{is_same_member}
use Rattle.cs_lead.specs.Leading.{Leading, led_to}
use Rattle.cs_lead.specs.declared.plan.LeadResumed.{LeadResumed}
use Rattle.cs_lead.specs.declared.plan.LeadResumed.TheVariants as resumed

-- whether each change was accepted
abbrev pub are_accepted : List (Change × Verdict) → Bool
are_accepted verdicts = list_all (λ (v : Change × Verdict). is_accepted v.1) verdicts

-- the changes that an epoch is made of are all accepted, and leave regions a number
abbrev pub by_turn : Member → GroupState → ℕ → Option Turn → LeadResumed
by_turn me before epoch None = resumed.Breaks
by_turn me before epoch (Some turn) =
    if are_accepted turn.verdicts then resumed.Next (led_to me before turn epoch []) else resumed.Breaks

-- an item is of the next epoch. No entry brings back pending changes
abbrev pub after_item : Leading → ℕ → List Change → LeadResumed
after_item leader epoch changes =
    if epoch == leader.view.epoch + 1 then by_turn leader.me leader.group epoch (next_turn leader.group changes)
    else resumed.Breaks

-- whether a row, where it has the leader's id, has the leader as it is
abbrev pub has_as_it_is : Member → Row → Bool
has_as_it_is me r = not (r.member.id == me.id) || is_same_member r.member me

-- where rows have no fault
abbrev pub where_sound : Option RowsFault → LeadResumed → LeadResumed
where_sound None sound = sound
where_sound (Some fault) sound = resumed.Breaks

-- a base has a group that the leader leads, as it is, and the changes that lead on, whatever came before
abbrev pub after_base : Member → ℕ → GroupState → List Change → LeadResumed
after_base me epoch before changes =
    if list_all (has_as_it_is me) before.rows
    then where_sound (rows_fault before) (by_turn me before epoch (next_turn before changes)) else resumed.Breaks

-- what the leader is after an entry: it has items and bases alone behind the first one
abbrev pub resumed_by : Leading → Entry → LeadResumed
resumed_by leader (Boot leads own) = resumed.Breaks
resumed_by leader (Seq seq at) = resumed.Breaks
resumed_by leader (View picture) = resumed.Breaks
resumed_by leader (Step slices) = resumed.Breaks
resumed_by leader (Gone epoch) = resumed.Breaks
resumed_by leader (Item epoch changes) = after_item leader epoch changes
resumed_by leader (Base epoch next_region retired rows changes) =
    after_base leader.me epoch (state_of leader.me.id rows next_region retired) changes
