-- A plan that logs nothing leaves what a restart brings back as it was, and a plan that logs something changes the leader.
use Rattle.std.proofs.Common.{◌≢◌, ◌==◌, ℕ, List, take, drop, Option, Some, None, Result, Ok, Err, refl}
use Rattle.std.specs.Option.{option_or}
use Rattle.std.specs.Prelude.{MatchOption, ⊤}
use Rattle.std.proofs.lemmas.Bool.{cond_both}
use Rattle.cs_base.specs.Address.{Address}
use Rattle.cs_base.specs.Limits.{last_number, most_changes}
use Rattle.cs_base.specs.declared.change.Change.{Change}
use Rattle.cs_fields.specs.declared.fault.PacketFault.{PacketFault}
use Rattle.cs_group.specs.Next.{next_turn}
use Rattle.cs_group.specs.declared.next.Turn.{Turn}
use Rattle.cs_packet.specs.PacketField.{packet_of}
use Rattle.cs_packet.specs.declared.packet.Body.{Body}
use Rattle.cs_packet.specs.declared.packet.Body.TheVariants as bodies
use Rattle.cs_packet.specs.declared.packet.Packet.{Packet}
use Rattle.cs_lead.specs.Answers.{answer, late_snapshot, to_member, used_slice}
use Rattle.cs_lead.specs.Closing.{close_plan, turn_plan}
use Rattle.cs_lead.specs.Decision.{body_plan, bytes_plan, plan_of}
use Rattle.cs_lead.specs.Laws.{IsAsItWas}
use Rattle.cs_lead.specs.Leading.{Leading}
use Rattle.cs_lead.specs.Plans.{only}
use Rattle.cs_lead.specs.declared.plan.LeadCall.{LeadCall}
use Rattle.cs_lead.specs.declared.plan.LeadCall.TheVariants as calls
use Rattle.cs_lead.specs.declared.plan.LeadNote.TheVariants as notes
use Rattle.cs_lead.specs.declared.plan.LeadOutcome.{LeadOutcome}
use Rattle.cs_lead.specs.declared.plan.LeadOutcome.TheVariants as outcomes
use Rattle.cs_lead.specs.declared.plan.LeadPlan.{LeadPlan}

-- the leader is another one
abbrev pub LeadsOn : LeadOutcome → Type 0
LeadsOn outcomes.Same = ⊥
LeadsOn (outcomes.Next leader) = ⊤

-- then it isn't the same
pub LeadsOn-other : (outcome : LeadOutcome) → LeadsOn outcome → outcome ≢ outcomes.Same
LeadsOn-other outcomes.Same on = absurd on
LeadsOn-other (outcomes.Next leader) on = λ same. cc

-- without an entry a restart brings back what it did before, and an entry leads on
abbrev pub LosesNothing : Leading → LeadPlan → Type 0
LosesNothing leader plan = MatchOption plan.entry (IsAsItWas leader plan.after) (λ entry. LeadsOn plan.after)

-- ---- the close
turn-keeps : (leader : Leading) (pending : List Change) (o : Option Turn) → LosesNothing leader (turn_plan leader pending o)
turn-keeps leader pending None = tt
turn-keeps leader pending (Some turn) = tt

close-keeps : (leader : Leading) → LosesNothing leader (close_plan leader)
close-keeps leader =
    let rest : List Change = drop most_changes leader.pending in
    let turn : Option Turn = next_turn leader.group (take most_changes leader.pending) in
    cond_both (leader.view.epoch == last_number) (only notes.Spent) (turn_plan leader rest turn) (LosesNothing leader)
    (λ last. tt) (λ other. turn-keeps leader rest turn)

-- ---- packets, at which nothing is logged
answer-keeps : (leader : Leading) (addr : Address) (asker : ℕ) (body : Option Body) → LosesNothing leader (answer leader addr asker body)
answer-keeps leader addr asker None = tt
answer-keeps leader addr asker (Some body) = tt

body-keeps : (leader : Leading) (from : ℕ) (body : Body) → LosesNothing leader (body_plan leader from body)
body-keeps leader from (bodies.Report changes) = refl
body-keeps leader from (bodies.Piece epoch region colour bytes) = tt
body-keeps leader from (bodies.Need addr mode epoch region) =
    answer-keeps leader addr from (to_member leader from (option_or (used_slice leader epoch region) (late_snapshot leader from mode epoch)))
body-keeps leader from (bodies.Slice slice) = tt
body-keeps leader from (bodies.Ask addr mode least) = answer-keeps leader addr from (to_member leader from (late_snapshot leader from mode least))
body-keeps leader from (bodies.Snap picture) = tt
body-keeps leader from (bodies.Bye epoch) = tt

bytes-keeps : (leader : Leading) (r : Result Packet PacketFault) → LosesNothing leader (bytes_plan leader r)
bytes-keeps leader (Ok packet) =
    cond_both (packet.to == leader.me.id) (body_plan leader packet.from packet.body) (only (notes.NotMine packet.to)) (LosesNothing leader)
    (λ mine. body-keeps leader packet.from packet.body) (λ other. tt)
bytes-keeps leader (Err fault) = tt

-- of any call
pub call-keeps : (leader : Leading) (call : LeadCall) → LosesNothing leader (plan_of leader call)
call-keeps leader calls.Close = close-keeps leader
call-keeps leader (calls.Deliver bytes) = bytes-keeps leader (packet_of bytes.now)
