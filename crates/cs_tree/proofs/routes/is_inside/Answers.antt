use Rattle.std.proofs.Common.{List, Ok, Err, rules, sym, subst}
use Rattle.std.proofs.lemmas.List.Sorted.{answers_always}
use Rattle.cs_base.specs.Ascending.{IsAscendingBy, IsAt, IsGap}
use Rattle.cs_base.specs.declared.member.Member.{Member}
use Rattle.cs_base.proofs.Ascending.{searched}
use Rattle.cs_roll.specs.Roll.{member_id}
use Rattle.cs_tree.proofs.Unoffered.{inside-at, inside-gap}
use Rattle.cs_tree.proofs.routes.is_inside.Goals as goal

-- the member at the place that was found has the id
pub returns-in-Ok-clause-value : goal.returns-in-Ok-clause-value
returns-in-Ok-clause-value c =
    let members = c.as_slice-members.result.now in
    let up = subst (IsAscendingBy member_id) (sym c.as_slice-members.ensures.value) c.as_slice-members.ensures.roll.ascending in
    let by_id = c.in-Ok.ensures.position member_id (answers_always _ _ _ (λ f a r h called. search rules)) in
    let at = (searched member_id c.args.id members (Ok c.in-Ok.place) up c.in-Ok.ensures.bound by_id).found in
    inside-at c.args.id c.args.colour c.in-Ok.place c.args.roll.now c.as_slice-members.ensures.roll
    (subst (λ (ms : List Member). IsAt member_id c.args.id ms c.in-Ok.place) c.as_slice-members.ensures.value at)

-- no member has it
pub returns-in-Err-clause-value : goal.returns-in-Err-clause-value
returns-in-Err-clause-value c =
    let members = c.as_slice-members.result.now in
    let up = subst (IsAscendingBy member_id) (sym c.as_slice-members.ensures.value) c.as_slice-members.ensures.roll.ascending in
    let by_id = c.in-Err.ensures.position member_id (answers_always _ _ _ (λ f a r h called. search rules)) in
    let gap = (searched member_id c.args.id members (Err c.in-Err.field-0) up c.in-Err.ensures.bound by_id).absent in
    inside-gap c.args.id c.args.colour c.in-Err.field-0 c.args.roll.now
    (subst (λ (ms : List Member). IsGap member_id c.args.id ms c.in-Err.field-0) c.as_slice-members.ensures.value gap)
