-- Plans that several rules have in common.
use Rattle.std.specs.Prelude.{ℕ, nat_le, List, [], None, if◌then◌else◌}
use Rattle.cs_base.specs.Address.{Address}
use Rattle.cs_packet.specs.declared.packet.Packet.{Packet}
use Rattle.cs_lead.specs.Leading.{Leading}
use Rattle.cs_lead.specs.declared.plan.LeadNote.{LeadNote}
use Rattle.cs_lead.specs.declared.plan.LeadNote.TheVariants as notes
use Rattle.cs_lead.specs.declared.plan.LeadOutcome.TheVariants as outcomes
use Rattle.cs_lead.specs.declared.plan.LeadPlan.{LeadPlan}

-- nothing is logged or sent, and the leader stays as it is
abbrev pub only : LeadNote → LeadPlan
only note = record { entry = None; sends = []; note = note; after = outcomes.Same }

-- packets are sent, and the leader stays as it is
abbrev pub sent : List (Address × Packet) → LeadNote → LeadPlan
sent sends note = record { entry = None; sends = sends; note = note; after = outcomes.Same }

-- what tells members of an epoch tells the leader nothing: it has its own, and no later one has begun
abbrev pub untold : Leading → ℕ → LeadPlan
untold leader given =
    only (if nat_le given leader.view.epoch then notes.Stale leader.view.epoch given
    else notes.Early leader.view.epoch given)
