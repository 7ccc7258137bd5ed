use Rattle.std.proofs.Common.{◌≡◌, ap, ◌∙◌, sym, subst, rules}
use Rattle.cs_group.specs.Group.{GroupState, IsGroup}
use Rattle.cs_group.specs.Merge.{merge_due}
use Rattle.cs_group.specs.Next.{merged_group, with_accepted}
use Rattle.cs_group.proofs.Sound.{IsGroup-accepted}
use Rattle.cs_group.proofs.group.Group.before_cut.Goals as goal

-- with the accepted changes it is a group
pub merge-requires : goal.merge-requires
merge-requires c =
    let same : c.take_all.new.self ≡ with_accepted c.args.self.now c.args.changes.now = search rules in
    subst IsGroup (sym same) (IsGroup-accepted c.args.self.now c.args.changes.now c.in_ok-verdicts.ensures.allowed c.state.ensures.group)

-- the merge that is due is made
pub returns-clause-state : goal.returns-clause-state
returns-clause-state c =
    let same : c.take_all.new.self ≡ with_accepted c.args.self.now c.args.changes.now = search rules in
    c.in_ok-merged.ensures.after ∙ ap merged_group same

pub returns-clause-merged : goal.returns-clause-merged
returns-clause-merged c =
    let same : c.take_all.new.self ≡ with_accepted c.args.self.now c.args.changes.now = search rules in
    c.in_ok-merged.ensures.merge ∙ ap (λ (g : GroupState). merge_due g.rows) same
