use Rattle.std.proofs.Common.{◌≡◌, ◌∙◌, ◌+◌, ℕ, List, Some, refl}
use Rattle.cs_base.specs.Address.{Address}
use Rattle.cs_group.specs.declared.verdict.Verdict.{Verdict}
use Rattle.cs_base.specs.declared.change.Change.{Change}
use Rattle.cs_packet.specs.declared.entry.Entry.{Entry}
use Rattle.cs_packet.specs.declared.packet.Packet.{Packet}
use Rattle.cs_lead.specs.Closing.{close_sends, turn_entry}
use Rattle.cs_lead.specs.Leading.{Leading, after_turn}
use Rattle.cs_lead.specs.declared.plan.LeadNote.TheVariants as notes
use Rattle.cs_lead.specs.declared.plan.LeadOutcome.TheVariants as outcomes
use Rattle.cs_lead.specs.declared.plan.LeadPlan.{LeadPlan}
use Rattle.cs_lead.proofs.leader.Leader.close_by.Goals as goal

-- a plan by its parts
plan-parts : (entry entry2 : Entry) (sends sends2 : List (Address × Packet)) (epoch epoch2 : ℕ) (verdicts verdicts2 : List (Change × Verdict))
    (after after2 : Leading) → entry ≡ entry2 → sends ≡ sends2 → epoch ≡ epoch2 → verdicts ≡ verdicts2 → after ≡ after2
    → ◌≡◌ {A = LeadPlan} (record { entry = Some entry; sends = sends; note = notes.Closed epoch verdicts; after = outcomes.Next after })
    (record { entry = Some entry2; sends = sends2; note = notes.Closed epoch2 verdicts2; after = outcomes.Next after2 })
plan-parts entry entry2 sends sends2 epoch epoch2 verdicts verdicts2 after after2 a b c d e = rw (a, b, c, d, e) refl

-- part by part
pub returns-clause-plan : goal.returns-clause-plan
returns-clause-plan c =
    let leader = c.args.self.now in
    let turn = c.args.turn in
    let epoch : c.args.epoch ≡ leader.view.epoch + 1 = c.requires.epoch in
    let after : c.in_ok-after.after ≡ after_turn leader turn c.args.pending =
    c.in_ok-after.ensures ∙ rw (c.group-2.ensures.value, c.in_ok-view.ensures.value, epoch) refl in
    let closed = c.in_ok-entry.ensures in
    plan-parts _ (turn_entry leader turn) _ (close_sends leader turn) _ _ _ turn.verdicts _ _ closed.entry closed.sends epoch closed.verdicts after
