-- What a member asks of another node, and what it answers to one that asks.
use Rattle.std.specs.Prelude.{ℕ, ◌+◌, ◌==◌, nat_le, not, Bool, [], ◌∷◌, length, Option, None, Some}
use Rattle.std.specs.Prelude.{if◌then◌else◌}
use Rattle.std.specs.List.{list_all}
use Rattle.std.specs.Option.{option_map, option_or}
use Rattle.cs_base.specs.Address.{Address}
use Rattle.cs_base.specs.Ascending.{at_key}
use Rattle.cs_base.specs.Limits.{last_number}
use Rattle.cs_base.specs.declared.change.Mode.{Mode}
use Rattle.cs_base.specs.declared.change.Mode.TheVariants.{Partial, Full}
use Rattle.cs_item.specs.declared.picture.Picture.{Picture}
use Rattle.cs_item.specs.declared.slice.Slice.{Slice}
use Rattle.cs_packet.specs.declared.own.Own.{Own}
use Rattle.cs_packet.specs.declared.packet.Body.{Body}
use Rattle.cs_packet.specs.declared.packet.Body.TheVariants as bodies
use Rattle.cs_roll.specs.Summary.{RegionSummary}
use Rattle.cs_view.specs.Snapshot.{shown_to}
use Rattle.cs_view.specs.Step.{is_known}
use Rattle.cs_core.specs.Addresses.{address_of, packet_from}
use Rattle.cs_core.specs.Node.{Following}
use Rattle.cs_core.specs.Plans.{only, sent}
use Rattle.cs_core.specs.declared.plan.FollowNote.TheVariants as notes
use Rattle.cs_core.specs.declared.plan.Plan.{Plan}

-- whether a node lacks a roll: a Partial one knows none, a Full one doesn't know that of each region
abbrev pub lacks_roll : Mode → Picture → Bool
lacks_roll Partial view = length view.rolls == 0
lacks_roll Full view =
    not (list_all (λ (pair : ℕ × RegionSummary). is_known view.rolls pair.0) view.summaries)

-- the least epoch of a snapshot that tells the node something new
abbrev pub least_wanted : Own → Picture → ℕ
least_wanted own view = if lacks_roll own.mode view then view.epoch else view.epoch + 1

-- the address of another node that a member may ask
abbrev pub asked_address : Own → Picture → ℕ → Option Address
asked_address own view to = if to == own.id then None else address_of own view to

-- what the node asks goes to another node that it knows
abbrev pub asked : Own → ℕ → Body → Option Address → Plan
asked own to body None = only (notes.Unknown to)
asked own to body (Some addr) = sent ((addr, packet_from own to body) ∷ []) (notes.Told None)

-- the node asks for a snapshot
abbrev pub ask_plan : Own → Following → ℕ → Plan
ask_plan own m to =
    asked own to (bodies.Ask own.addr own.mode (least_wanted own m.view)) (asked_address own m.view to)

-- the node asks for a slice of the next epoch, unless it is at the last one
abbrev pub need_of : Own → Following → ℕ → ℕ → Option Address → Plan
need_of own m to region None = only (notes.Unknown to)
need_of own m to region (Some addr) =
    if m.view.epoch == last_number then only notes.Spent
    else asked own to (bodies.Need own.addr own.mode (m.view.epoch + 1) region) (Some addr)

abbrev pub need_plan : Own → Following → ℕ → ℕ → Plan
need_plan own m to region = need_of own m to region (asked_address own m.view to)

-- a snapshot for an asker whom a known roll has
abbrev pub snapshot_for : Picture → ℕ → Mode → Option Body
snapshot_for view asker mode = option_map bodies.Snap (shown_to asker mode view)

-- a snapshot for one that asks for an epoch that is at least so late
abbrev pub late_snapshot : Picture → ℕ → Mode → ℕ → Option Body
late_snapshot view asker mode least = if nat_le least view.epoch then snapshot_for view asker mode else None

-- a slice that the node used to come to this epoch
abbrev pub used_slice : Following → ℕ → ℕ → Option Body
used_slice m epoch region =
    if epoch == m.view.epoch
    then option_map bodies.Slice (at_key (λ (s : Slice). s.part.region) region m.used) else None

-- the answer goes to the address in the request
abbrev pub answer : Own → Address → ℕ → Option Body → Plan
answer own addr asker None = only notes.Silent
answer own addr asker (Some body) = sent ((addr, packet_from own asker body) ∷ []) notes.Answered

-- what a member answers to one that asks for a snapshot
abbrev pub ask_answer : Own → Following → ℕ → Address → Mode → ℕ → Plan
ask_answer own m asker addr mode least = answer own addr asker (late_snapshot m.view asker mode least)

-- and to one that lacks a slice: the slice, or else a snapshot
abbrev pub need_answer : Own → Following → ℕ → Address → Mode → ℕ → ℕ → Plan
need_answer own m asker addr mode epoch region =
    answer own addr asker (option_or (used_slice m epoch region) (late_snapshot m.view asker mode epoch))
