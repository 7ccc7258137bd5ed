use Rattle.std.proofs.Common.{rules, ◌∙◌}
use Rattle.std.proofs.lemmas.List.Sorted.{answers_always}
use Rattle.cs_base.proofs.Ascending.{searched}
use Rattle.cs_roll.specs.Roll.{member_id}
use Rattle.cs_view.proofs.Finding.{is_ok-searched}
use Rattle.cs_view.proofs.faults.has_member.Goals as goal

-- the search ends at the id exactly where a member has it
pub returns : goal.returns
returns c =
    let facts = c.binary_search_by_key.ensures in
    let by_key = facts.position member_id (answers_always _ _ _ (λ f a r g called. search rules)) in
    let ends = searched member_id c.args.n c.args.members.now c.binary_search_by_key.result c.requires facts.bound by_key in
    c.is_ok.ensures.value ∙ is_ok-searched member_id c.args.n c.args.members.now c.binary_search_by_key.result c.requires ends.found ends.absent
