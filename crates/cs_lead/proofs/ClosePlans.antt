-- The plan of a close, where it isn't the last epoch that is closed.
use Rattle.std.proofs.Common.{◌≡◌, ◌∙◌, ◌==◌, ◌<◌, Bool, false, List, take, drop, Option, sym, ap, arith, if◌then◌else◌}
use Rattle.std.proofs.lemmas.Bool.{ne_eqb}
use Rattle.cs_base.specs.Limits.{last_number, most_changes}
use Rattle.cs_base.specs.declared.change.Change.{Change}
use Rattle.cs_group.specs.Next.{next_turn}
use Rattle.cs_group.specs.declared.next.Turn.{Turn}
use Rattle.cs_lead.specs.Closing.{close_plan, turn_plan}
use Rattle.cs_lead.specs.Leading.{Leading}
use Rattle.cs_lead.specs.Plans.{only}
use Rattle.cs_lead.specs.declared.plan.LeadNote.TheVariants as notes

-- it goes by the next turn
pub close_plan-by_turn : (leader : Leading) (rest : List Change) (turn : Option Turn) → leader.view.epoch < last_number
    → rest ≡ drop most_changes leader.pending → next_turn leader.group (take most_changes leader.pending) ≡ turn
    → close_plan leader ≡ turn_plan leader rest turn
close_plan-by_turn leader rest turn left rest-is next =
    let behind : List Change = drop most_changes leader.pending in
    let other : (leader.view.epoch == last_number) ≡ false = ne_eqb leader.view.epoch last_number (λ same. absurd (omega (arith, same, left))) in
    ap (λ (b : Bool). if b then only notes.Spent else turn_plan leader behind (next_turn leader.group (take most_changes leader.pending))) other
    ∙ (ap (turn_plan leader behind) next ∙ ap (λ (p : List Change). turn_plan leader p turn) (sym rest-is))
