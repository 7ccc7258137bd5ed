use Rattle.std.proofs.Common.{rules, sym, subst}
use Rattle.std.proofs.lemmas.List.Sorted.{answers_always}
use Rattle.cs_base.specs.Ascending.{IsAscendingBy}
use Rattle.cs_base.proofs.Ascending.{searched}
use Rattle.cs_tree.specs.Route.{target_id}
use Rattle.cs_tree.proofs.targets.Targets.search.Goals as goal

-- the closure gives a target's id, and the slice is the list
pub returns-clause-found : goal.returns-clause-found
returns-clause-found c =
    let facts = c.binary_search_by_key.ensures in
    let by_id = facts.position target_id (answers_always _ _ _ (λ f a r h called. search rules)) in
    let up = subst (IsAscendingBy target_id) (sym c.deref.ensures.value) c.self.invariant.ascending in
    rw (← c.self.view_is, ← c.deref.ensures.value) (searched target_id c.args.id c.deref.result.now c.binary_search_by_key.result up facts.bound by_id).found

pub returns-clause-absent : goal.returns-clause-absent
returns-clause-absent c =
    let facts = c.binary_search_by_key.ensures in
    let by_id = facts.position target_id (answers_always _ _ _ (λ f a r h called. search rules)) in
    let up = subst (IsAscendingBy target_id) (sym c.deref.ensures.value) c.self.invariant.ascending in
    rw (← c.self.view_is, ← c.deref.ensures.value) (searched target_id c.args.id c.deref.result.now c.binary_search_by_key.result up facts.bound by_id).absent
