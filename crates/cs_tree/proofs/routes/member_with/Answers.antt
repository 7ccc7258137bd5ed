use Rattle.std.proofs.Common.{Some, Ok, Err, rules, ap, sym, subst, ◌∙◌}
use Rattle.std.proofs.lemmas.List.Sorted.{answers_always}
use Rattle.cs_base.specs.Ascending.{IsAscendingBy}
use Rattle.cs_base.proofs.Ascending.{find-at, find-gap, searched}
use Rattle.cs_roll.specs.Roll.{member_id, member_of}
use Rattle.cs_tree.proofs.routes.member_with.Goals as goal

-- the member at the place that was found has the id
pub returns-in-Ok : goal.returns-in-Ok
returns-in-Ok c =
    let members = c.as_slice-members.result.now in
    let up = subst (IsAscendingBy member_id) (sym c.as_slice-members.ensures.value) c.as_slice-members.ensures.roll.ascending in
    let by_id = c.in-Ok.ensures.position member_id (answers_always _ _ _ (λ f a r h called. search rules)) in
    let at = (searched member_id c.args.id members (Ok c.in-Ok.place) up c.in-Ok.ensures.bound by_id).found in
    ap Some c.index-members-place.is
    ∙ (sym (find-at member_id c.args.id members c.in-Ok.place _ up at) ∙ ap (member_of c.args.id) c.as_slice-members.ensures.value)

-- no member has it
pub returns-in-Err : goal.returns-in-Err
returns-in-Err c =
    let members = c.as_slice-members.result.now in
    let up = subst (IsAscendingBy member_id) (sym c.as_slice-members.ensures.value) c.as_slice-members.ensures.roll.ascending in
    let by_id = c.in-Err.ensures.position member_id (answers_always _ _ _ (λ f a r h called. search rules)) in
    let gap = (searched member_id c.args.id members (Err c.in-Err.field-0) up c.in-Err.ensures.bound by_id).absent in
    sym (find-gap member_id c.args.id members c.in-Err.field-0 gap) ∙ ap (member_of c.args.id) c.as_slice-members.ensures.value
