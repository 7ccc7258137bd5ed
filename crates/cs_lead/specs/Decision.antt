-- What the leader decides: the plan on a call, for any bytes.
use Rattle.std.specs.Prelude.{ℕ, ◌==◌, List, [], None, Result, Ok, Err, if◌then◌else◌}
use Rattle.cs_base.specs.declared.change.Change.{Change}
use Rattle.cs_fields.specs.declared.fault.PacketFault.{PacketFault}
use Rattle.cs_packet.specs.PacketField.{packet_of}
use Rattle.cs_packet.specs.declared.packet.Body.{Body}
use Rattle.cs_packet.specs.declared.packet.Body.TheVariants.{Report, Piece, Need, Slice, Ask, Snap, Bye}
use Rattle.cs_packet.specs.declared.packet.Packet.{Packet}
use Rattle.cs_pending.specs.Counting.{all_offered}
use Rattle.cs_lead.specs.Answers.{ask_answer, need_answer}
use Rattle.cs_lead.specs.Closing.{close_plan}
use Rattle.cs_lead.specs.Leading.{Leading}
use Rattle.cs_lead.specs.Plans.{only, untold}
use Rattle.cs_lead.specs.declared.plan.LeadCall.{LeadCall}
use Rattle.cs_lead.specs.declared.plan.LeadCall.TheVariants as calls
use Rattle.cs_lead.specs.declared.plan.LeadNote.TheVariants as notes
use Rattle.cs_lead.specs.declared.plan.LeadOutcome.TheVariants as outcomes
use Rattle.cs_lead.specs.declared.plan.LeadPlan.{LeadPlan}

-- changes of a report are offered in order
abbrev pub report_plan : Leading → List Change → LeadPlan
report_plan leader changes =
    let after = all_offered leader.pending changes in
    record {
      entry = None;
      sends = [];
      note = notes.Noted after.1;
      after = outcomes.Next (record leader { pending = after.0 });
    }

-- the plan on what another node says
abbrev pub body_plan : Leading → ℕ → Body → LeadPlan
body_plan leader from (Report changes) = report_plan leader changes
body_plan leader from (Piece epoch region colour bytes) = untold leader epoch
body_plan leader from (Need addr mode epoch region) = need_answer leader from addr mode epoch region
body_plan leader from (Slice slice) = untold leader slice.head.epoch
body_plan leader from (Ask addr mode least) = ask_answer leader from addr mode least
body_plan leader from (Snap picture) = untold leader picture.epoch
body_plan leader from (Bye epoch) = only notes.Idle

-- the plan on a packet, which has to be for the leader
abbrev pub packet_plan : Leading → Packet → LeadPlan
packet_plan leader packet =
    if packet.to == leader.me.id then body_plan leader packet.from packet.body else only (notes.NotMine packet.to)

-- the plan on bytes: on the packet that they spell, or the answer with their first fault
abbrev pub bytes_plan : Leading → Result Packet PacketFault → LeadPlan
bytes_plan leader (Ok packet) = packet_plan leader packet
bytes_plan leader (Err fault) = only (notes.Bad fault)

-- the plan on a call
abbrev pub plan_of : Leading → LeadCall → LeadPlan
plan_of leader calls.Close = close_plan leader
plan_of leader (calls.Deliver bytes) = bytes_plan leader (packet_of bytes.now)
