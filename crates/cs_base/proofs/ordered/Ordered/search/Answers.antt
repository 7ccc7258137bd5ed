use Rattle.std.proofs.Common.{rules, sym, subst}
use Rattle.std.proofs.lemmas.List.Sorted.{answers_always}
use Rattle.cs_base.specs.Ascending.{IsAscendingBy}
use Rattle.cs_base.proofs.Ascending.{searched}
use Rattle.cs_base.proofs.ordered.Ordered.search.Goals as goal

-- the closure gives an element's key, and the slice is the list
pub returns-clause-found : goal.returns-clause-found
returns-clause-found g c =
    let key = g.T.Keyed.key_of in
    let facts = c.binary_search_by_key.ensures in
    let by_key = facts.position key (answers_always _ _ _ (λ f a r h called. search rules)) in
    let up = subst (IsAscendingBy key) (sym c.deref.ensures.value) c.self.invariant.ascending in
    rw (← c.self.view_is, ← c.deref.ensures.value) (searched key c.args.key c.deref.result.now c.binary_search_by_key.result up facts.bound by_key).found

pub returns-clause-absent : goal.returns-clause-absent
returns-clause-absent g c =
    let key = g.T.Keyed.key_of in
    let facts = c.binary_search_by_key.ensures in
    let by_key = facts.position key (answers_always _ _ _ (λ f a r h called. search rules)) in
    let up = subst (IsAscendingBy key) (sym c.deref.ensures.value) c.self.invariant.ascending in
    rw (← c.self.view_is, ← c.deref.ensures.value) (searched key c.args.key c.deref.result.now c.binary_search_by_key.result up facts.bound by_key).absent
