-- What the leader answers to one that asks: a bye where it left, nothing where it was never a member, else what a
-- member answers.
use Rattle.std.specs.Prelude.{ℕ, ◌==◌, nat_le, [], ◌∷◌, Option, None, Some, if◌then◌else◌}
use Rattle.std.specs.Option.{option_map, option_or}
use Rattle.cs_base.specs.Address.{Address}
use Rattle.cs_base.specs.Ascending.{at_key}
use Rattle.cs_base.specs.declared.change.Mode.{Mode}
use Rattle.cs_group.specs.Group.{is_among}
use Rattle.cs_group.specs.Rows.{has_member}
use Rattle.cs_item.specs.declared.slice.Slice.{Slice}
use Rattle.cs_packet.specs.declared.packet.Body.{Body}
use Rattle.cs_packet.specs.declared.packet.Body.TheVariants as bodies
use Rattle.cs_view.specs.Snapshot.{shown_to}
use Rattle.cs_lead.specs.Leading.{Leading}
use Rattle.cs_lead.specs.Plans.{only, sent}
use Rattle.cs_lead.specs.declared.plan.LeadNote.TheVariants as notes
use Rattle.cs_lead.specs.declared.plan.LeadPlan.{LeadPlan}

-- a snapshot for one that asks for an epoch that is at least so late
abbrev pub late_snapshot : Leading → ℕ → Mode → ℕ → Option Body
late_snapshot leader asker mode least =
    if nat_le least leader.view.epoch then option_map bodies.Snap (shown_to asker mode leader.view) else None

-- a slice by which members come to the leader's epoch
abbrev pub used_slice : Leading → ℕ → ℕ → Option Body
used_slice leader epoch region =
    if epoch == leader.view.epoch
    then option_map bodies.Slice (at_key (λ (s : Slice). s.part.region) region leader.slices) else None

-- one that left is told so, and one that isn't a member is told nothing
abbrev pub to_member : Leading → ℕ → Option Body → Option Body
to_member leader asker body =
    if is_among leader.group.retired asker then Some (bodies.Bye leader.view.epoch) else
    (if has_member asker leader.group.rows then body else None)

-- the answer goes to the address in the request
abbrev pub answer : Leading → Address → ℕ → Option Body → LeadPlan
answer leader addr asker None = only notes.Silent
answer leader addr asker (Some body) =
    sent ((addr, record { from = leader.me.id; to = asker; body = body }) ∷ []) notes.Answered

-- to one that asks for a snapshot
abbrev pub ask_answer : Leading → ℕ → Address → Mode → ℕ → LeadPlan
ask_answer leader asker addr mode least =
    answer leader addr asker (to_member leader asker (late_snapshot leader asker mode least))

-- to one that lacks a slice: the slice, or else a snapshot
abbrev pub need_answer : Leading → ℕ → Address → Mode → ℕ → ℕ → LeadPlan
need_answer leader asker addr mode epoch region =
    answer leader addr asker (to_member leader asker
    (option_or (used_slice leader epoch region) (late_snapshot leader asker mode epoch)))
