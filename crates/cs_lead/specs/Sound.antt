-- What every plan of the leader keeps to, whatever the bytes.
use Rattle.std.specs.Prelude.{◌≡◌, ◌≢◌, ⊤, MatchOption}
use Rattle.cs_fields.specs.declared.fault.PacketFault.TheVariants as packet_faults
use Rattle.cs_packet.specs.EntryField.{IsEntry}
use Rattle.cs_packet.specs.PacketField.{AreSends}
use Rattle.cs_lead.specs.Plans.{only}
use Rattle.cs_lead.specs.declared.plan.LeadNote.{LeadNote}
use Rattle.cs_lead.specs.declared.plan.LeadNote.TheVariants as notes
use Rattle.cs_lead.specs.declared.plan.LeadPlan.{LeadPlan}

-- a note never tells want of memory
abbrev pub IsNote : LeadNote → Type 0
IsNote (notes.Bad fault) = fault ≢ packet_faults.Memory
IsNote note = ⊤

-- the notes at which nothing is logged or sent and nothing changes
abbrev pub IsIdle : LeadNote → Type 0
IsIdle (notes.Noted counts) = ⊥
IsIdle notes.Answered = ⊥
IsIdle (notes.Closed epoch verdicts) = ⊥
IsIdle note = ⊤

-- what is logged and sent is well formed, and at an idle note there is none of it and the leader stays as it is
pub record IsSound (plan : LeadPlan) : Type 0 where
  pub entry : MatchOption plan.entry ⊤ IsEntry
  pub sends : AreSends plan.sends
  pub note : IsNote plan.note
  pub idle : IsIdle plan.note → plan ≡ only plan.note
