use Rattle.std.proofs.Common.{◌≡◌, ◌∙◌, None, Some, sym, ap, subst}
use Rattle.std.specs.List.{AllByRecursion}
use Rattle.cs_base.specs.Ranges.{IsChange}
use Rattle.cs_group.specs.Next.{next_turn, IsTurnFault}
use Rattle.cs_group.specs.Place.{region_sums}
use Rattle.cs_slicer.proofs.Turns.{All-accepted, IsTurnOf-next, turn-item}
use Rattle.cs_lead.specs.Resume.{by_turn}
use Rattle.cs_lead.proofs.leader.Leader.after_changes.Goals as goal

-- the changes lead to a turn of the group
pub by_turn-requires-clause-turn : goal.by_turn-requires-clause-turn
by_turn-requires-clause-turn c =
    let before = c.args.before.now in
    let changes = c.args.changes.now in
    let next : next_turn before changes ≡ Some c.in-Ok.turn = ap (next_turn before) (sym c.as_slice.ensures) ∙ c.in-Ok.ensures.turn in
    IsTurnOf-next before changes c.in-Ok.turn c.requires.changes.distinct c.requires.changes.few next

-- whose item has some of them
pub by_turn-requires-clause-changes : goal.by_turn-requires-clause-changes
by_turn-requires-clause-changes c =
    let before = c.args.before.now in
    let changes = c.args.changes.now in
    let next : next_turn before changes ≡ Some c.in-Ok.turn = ap (next_turn before) (sym c.as_slice.ensures) ∙ c.in-Ok.ensures.turn in
    subst (AllByRecursion IsChange) (sym (turn-item before changes c.in-Ok.turn next))
    (All-accepted (region_sums before.rows) IsChange changes before c.requires.changes.allowed)

-- without a turn the log breaks
pub returns-in-Err-Spent : goal.returns-in-Err-Spent
returns-in-Err-Spent c =
    let before = c.args.before.now in
    let told : next_turn before c.as_slice.result.now ≡ None =
    subst (IsTurnFault (next_turn before c.as_slice.result.now)) c.in-Err-Spent.field-0-is c.in-Err-Spent.ensures.fault in
    ap (by_turn c.args.self.now.me before c.args.epoch) (sym (ap (next_turn before) (sym c.as_slice.ensures) ∙ told))
