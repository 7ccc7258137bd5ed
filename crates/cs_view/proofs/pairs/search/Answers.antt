use Rattle.std.proofs.Common.{rules}
use Rattle.std.proofs.lemmas.List.Sorted.{answers_always}
use Rattle.cs_base.proofs.Ascending.{searched}
use Rattle.cs_view.proofs.pairs.search.Goals as goal

-- the closure gives the number of a pair's region
pub returns-clause-found : goal.returns-clause-found
returns-clause-found g c =
    let facts = c.binary_search_by_key.ensures in
    let by_key = facts.position (λ pair. pair.0) (answers_always _ _ _ (λ f a r g called. search rules)) in
    (searched (λ pair. pair.0) c.args.n c.args.pairs.now c.binary_search_by_key.result c.requires facts.bound by_key).found

pub returns-clause-absent : goal.returns-clause-absent
returns-clause-absent g c =
    let facts = c.binary_search_by_key.ensures in
    let by_key = facts.position (λ pair. pair.0) (answers_always _ _ _ (λ f a r g called. search rules)) in
    (searched (λ pair. pair.0) c.args.n c.args.pairs.now c.binary_search_by_key.result c.requires facts.bound by_key).absent
