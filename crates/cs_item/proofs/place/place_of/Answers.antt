use Rattle.std.proofs.Common.{rules}
use Rattle.std.proofs.lemmas.List.Sorted.{answers_always}
use Rattle.cs_item.proofs.RegionSearch.{at_region-searched}
use Rattle.cs_item.proofs.place.place_of.Goals as goal

-- the closure gives a pair's region
pub returns-clause-found : goal.returns-clause-found
returns-clause-found g c =
    let facts = c.binary_search_by_key.ensures in
    let by_key = facts.position (λ pair. pair.0) (answers_always _ _ _ (λ f a r g called. search rules)) in
    rw c.ok.ensures.value (at_region-searched c.args.region c.args.pairs.now _ c.requires facts.bound by_key)
