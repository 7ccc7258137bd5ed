-- What a plan logs gives the leader again that the plan leads to: an item is accepted again, and leads to the same turn.
use Rattle.std.proofs.Common.{◌≡◌, ◌∙◌, ◌+◌, ◌==◌, ℕ, Bool, true, false, List, [], ◌∷◌, take, drop, Option, Some, None}
use Rattle.std.proofs.Common.{Result, Ok, Err, IfSome, refl, ap, if◌then◌else◌}
use Rattle.std.specs.Option.{option_or}
use Rattle.std.proofs.lemmas.Bool.{cond_both, eq-eqb}
use Rattle.cs_base.specs.Address.{Address}
use Rattle.cs_base.specs.Limits.{last_number, most_changes}
use Rattle.cs_base.specs.declared.change.Change.{Change}
use Rattle.cs_fields.specs.declared.fault.PacketFault.{PacketFault}
use Rattle.cs_group.specs.Faults.{rows_fault}
use Rattle.cs_group.specs.Group.{GroupState}
use Rattle.cs_group.specs.Judging.{all_accepted}
use Rattle.cs_group.specs.Next.{next_turn}
use Rattle.cs_group.specs.declared.checks.RowsFault.{RowsFault}
use Rattle.cs_group.specs.declared.next.Turn.{Turn}
use Rattle.cs_group.proofs.Faultless.{no_fault}
use Rattle.cs_packet.specs.PacketField.{packet_of}
use Rattle.cs_packet.specs.declared.packet.Body.{Body}
use Rattle.cs_packet.specs.declared.packet.Body.TheVariants as bodies
use Rattle.cs_packet.specs.declared.packet.Packet.{Packet}
use Rattle.cs_slicer.specs.Turn.{IsTurnOf}
use Rattle.cs_lead.specs.Answers.{answer, late_snapshot, to_member, used_slice}
use Rattle.cs_lead.specs.Closing.{begins_anew, close_plan, turn_plan}
use Rattle.cs_lead.specs.Decision.{body_plan, bytes_plan, plan_of}
use Rattle.cs_lead.specs.Kept.{IsLeading}
use Rattle.cs_lead.specs.Laws.{as_logged}
use Rattle.cs_lead.specs.Leading.{Leading, after_turn, led_to}
use Rattle.cs_lead.specs.Plans.{only}
use Rattle.cs_lead.specs.Resume.{after_base, are_accepted, by_turn, resumed_by, where_sound}
use Rattle.cs_lead.specs.declared.plan.LeadCall.{LeadCall}
use Rattle.cs_lead.specs.declared.plan.LeadCall.TheVariants as calls
use Rattle.cs_lead.specs.declared.plan.LeadNote.TheVariants as notes
use Rattle.cs_lead.specs.declared.plan.LeadPlan.{LeadPlan}
use Rattle.cs_lead.specs.declared.plan.LeadResumed.{LeadResumed}
use Rattle.cs_lead.specs.declared.plan.LeadResumed.TheVariants as resumed
use Rattle.cs_packet.specs.declared.entry.Entry.TheVariants as entries
use Rattle.cs_lead.proofs.Bases.{group-again, test-from_all}
use Rattle.cs_lead.proofs.Items.{IsTurnOf-close}

-- what is logged, if anything, gives again what the plan leads to
abbrev pub GivesAgain : Leading → LeadPlan → Type 0
GivesAgain leader plan = IfSome plan.entry (λ entry. resumed_by leader entry ≡ as_logged plan.after)

-- ---- the close
-- changes that are all accepted pass
accepted-all : (changes : List Change) → are_accepted (all_accepted changes) ≡ true
accepted-all [] = refl
accepted-all (change ∷ changes) = accepted-all changes

-- a turn with all of its item accepted leads where the turn leads
turn-again : (leader : Leading) (turn : Turn) → IsTurnOf leader.group turn
    → by_turn leader.me leader.group (leader.view.epoch + 1) (next_turn leader.group turn.item) ≡ resumed.Next (after_turn leader turn [])
turn-again leader turn of =
    let epoch : ℕ = leader.view.epoch + 1 in
    ap (by_turn leader.me leader.group epoch) of.next
    ∙ ap (λ (b : Bool). if b then resumed.Next (led_to leader.me leader.group turn epoch []) else resumed.Breaks) (accepted-all turn.item)

-- and so does its item
item-again : (leader : Leading) (turn : Turn) → IsTurnOf leader.group turn
    → resumed_by leader (entries.Item (leader.view.epoch + 1) turn.item) ≡ resumed.Next (after_turn leader turn [])
item-again leader turn of =
    let epoch : ℕ = leader.view.epoch + 1 in
    ap (λ (b : Bool). if b then by_turn leader.me leader.group epoch (next_turn leader.group turn.item) else resumed.Breaks) (eq-eqb epoch epoch refl)
    ∙ turn-again leader turn of

-- and so does its base
base-again : (leader : Leading) (turn : Turn) → IsLeading leader → IsTurnOf leader.group turn
    → (let g : GroupState = leader.group in
    resumed_by leader (entries.Base (leader.view.epoch + 1) g.next_region g.retired g.rows turn.item) ≡ resumed.Next (after_turn leader turn []))
base-again leader turn is of =
    let g : GroupState = leader.group in
    let epoch : ℕ = leader.view.epoch + 1 in
    let led_on : LeadResumed = by_turn leader.me g epoch (next_turn g turn.item) in
    ap (λ (before : GroupState). after_base leader.me epoch before turn.item) (group-again leader.me g is.led)
    ∙ ap (λ (b : Bool). if b then where_sound (rows_fault g) led_on else resumed.Breaks) (test-from_all leader.me g.rows is.led.row)
    ∙ ap (λ (fault : Option RowsFault). where_sound fault led_on) (no_fault g is.group)
    ∙ turn-again leader turn of

-- so does what a close logs
entry-again : (leader : Leading) (pending : List Change) (turn : Turn) → IsLeading leader → IsTurnOf leader.group turn
    → GivesAgain leader (turn_plan leader pending (Some turn))
entry-again leader pending turn is of = by (begins_anew leader.view.epoch)
  where
    by : (b : Bool) → (let g : GroupState = leader.group in
        resumed_by leader (if b then entries.Base (leader.view.epoch + 1) g.next_region g.retired g.rows turn.item
        else entries.Item (leader.view.epoch + 1) turn.item) ≡ resumed.Next (after_turn leader turn []))
    by true = base-again leader turn is of
    by false = item-again leader turn of

close-again : (leader : Leading) → IsLeading leader → GivesAgain leader (close_plan leader)
close-again leader is =
    let batch : List Change = take most_changes leader.pending in
    let rest : List Change = drop most_changes leader.pending in
    cond_both (leader.view.epoch == last_number) (only notes.Spent) (turn_plan leader rest (next_turn leader.group batch)) (GivesAgain leader)
    (λ last. tt) (λ other. by_next (next_turn leader.group batch) refl)
  where
    by_next : (o : Option Turn) → next_turn leader.group (take most_changes leader.pending) ≡ o
        → GivesAgain leader (turn_plan leader (drop most_changes leader.pending) o)
    by_next None next = tt
    by_next (Some turn) next = entry-again leader (drop most_changes leader.pending) turn is (IsTurnOf-close leader turn is next)

-- ---- packets, at which nothing is logged
answer-again : (leader : Leading) (addr : Address) (asker : ℕ) (body : Option Body) → GivesAgain leader (answer leader addr asker body)
answer-again leader addr asker None = tt
answer-again leader addr asker (Some body) = tt

body-again : (leader : Leading) (from : ℕ) (body : Body) → GivesAgain leader (body_plan leader from body)
body-again leader from (bodies.Report changes) = tt
body-again leader from (bodies.Piece epoch region colour bytes) = tt
body-again leader from (bodies.Need addr mode epoch region) =
    answer-again leader addr from (to_member leader from (option_or (used_slice leader epoch region) (late_snapshot leader from mode epoch)))
body-again leader from (bodies.Slice slice) = tt
body-again leader from (bodies.Ask addr mode least) = answer-again leader addr from (to_member leader from (late_snapshot leader from mode least))
body-again leader from (bodies.Snap picture) = tt
body-again leader from (bodies.Bye epoch) = tt

bytes-again : (leader : Leading) (r : Result Packet PacketFault) → GivesAgain leader (bytes_plan leader r)
bytes-again leader (Ok packet) =
    cond_both (packet.to == leader.me.id) (body_plan leader packet.from packet.body) (only (notes.NotMine packet.to)) (GivesAgain leader)
    (λ mine. body-again leader packet.from packet.body) (λ other. tt)
bytes-again leader (Err fault) = tt

-- of any call
pub call-again : (leader : Leading) (call : LeadCall) → IsLeading leader → GivesAgain leader (plan_of leader call)
call-again leader calls.Close is = close-again leader is
call-again leader (calls.Deliver bytes) is = bytes-again leader (packet_of bytes.now)
