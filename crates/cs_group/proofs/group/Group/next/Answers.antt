use Rattle.std.proofs.Common.{◌≡◌, false, ap, sym, subst, ◌∙◌, rules}
use Rattle.std.specs.List.{AllByRecursion}
use Rattle.std.proofs.lemmas.Result.{err_from_is_err_and}
use Rattle.cs_group.specs.Cut.{cut_due}
use Rattle.cs_group.specs.Group.{GroupState, IsGroup}
use Rattle.cs_group.specs.Judging.{item_of, verdicts_on}
use Rattle.cs_group.specs.Merge.{merge_due}
use Rattle.cs_group.specs.Next.{before_cut, cut_group, is_spent, with_accepted}
use Rattle.cs_group.specs.Taking.{FitsRow}
use Rattle.cs_group.proofs.Sound.{IsGroup-before, IsGroup-next}
use Rattle.cs_group.proofs.Turns.{turn-made, fault_told, number_spent}
use Rattle.cs_group.proofs.group.Group.next.Goals as goal

-- before the cut it is a group
pub cut-requires : goal.cut-requires
cut-requires c =
    let before : c.in_ok-state.field-0.state ≡ before_cut c.args.self.now c.args.changes.now = search rules in
    let allowed : AllByRecursion FitsRow c.args.changes.now = search rules in
    subst IsGroup (sym before) (IsGroup-before c.args.self.now c.args.changes.now allowed c.before_cut.ensures.group)

-- the group of the turn is a group
pub from_state-requires : goal.from_state-requires
from_state-requires c =
    let before : c.in_ok-state.field-0.state ≡ before_cut c.args.self.now c.args.changes.now = search rules in
    let after = c.in_ok-cut.ensures.after ∙ ap (λ (g : GroupState). cut_group (cut_due g.next_region g.rows) g) before in
    let left : is_spent (before_cut c.args.self.now c.args.changes.now) ≡ false = sym (ap is_spent before) ∙ c.in_ok-cut.ensures.number in
    let allowed : AllByRecursion FitsRow c.args.changes.now = search rules in
    subst IsGroup (sym after) (IsGroup-next c.args.self.now c.args.changes.now allowed c.before_cut.ensures.group left)

-- where the numbers are spent there is no turn
pub returns-in_err-cut-clause-fault : goal.returns-in_err-cut-clause-fault
returns-in_err-cut-clause-fault c =
    let before : c.in_ok-state.field-0.state ≡ before_cut c.args.self.now c.args.changes.now = search rules in
    let p = err_from_is_err_and c.from_residual-in_err-cut.result c.from_residual-in_err-cut.ensures.1 in
    rw (p.1, p.2) (fault_told c.args.self.now c.args.changes.now _ (λ e. sym (ap is_spent before) ∙ c.in_err-cut.ensures.fault e))

-- and the group's own number is the last
pub returns-in_err-cut-clause-spent : goal.returns-in_err-cut-clause-spent
returns-in_err-cut-clause-spent c =
    let before : c.in_ok-state.field-0.state ≡ before_cut c.args.self.now c.args.changes.now = search rules in
    let p = err_from_is_err_and c.from_residual-in_err-cut.result c.from_residual-in_err-cut.ensures.1 in
    rw (p.1, p.2) (λ e. number_spent c.args.self.now c.args.changes.now (sym (ap is_spent before) ∙ c.in_err-cut.ensures.fault e))

-- and otherwise it is this one
pub returns-clause-turn : goal.returns-clause-turn
returns-clause-turn c =
    let before : c.in_ok-state.field-0.state ≡ before_cut c.args.self.now c.args.changes.now = search rules in
    let verdicts : c.in_ok-state.field-0.verdicts ≡ verdicts_on c.args.self.now c.args.changes.now = search rules in
    let item : c.in_ok-state.field-0.item ≡ item_of c.args.self.now c.args.changes.now = search rules in
    let merge : c.in_ok-state.field-0.merged ≡ merge_due (with_accepted c.args.self.now c.args.changes.now).rows = search rules in
    let group : c.in_ok-group.group ≡ c.cut.new.self = search rules in
    let left : is_spent (before_cut c.args.self.now c.args.changes.now) ≡ false = sym (ap is_spent before) ∙ c.in_ok-cut.ensures.number in
    turn-made c.args.self.now c.args.changes.now _ left
    (group ∙ (c.in_ok-cut.ensures.after ∙ ap (λ (g : GroupState). cut_group (cut_due g.next_region g.rows) g) before)) verdicts item merge
    (c.in_ok-cut.ensures.cut ∙ ap (λ (g : GroupState). cut_due g.next_region g.rows) before)
