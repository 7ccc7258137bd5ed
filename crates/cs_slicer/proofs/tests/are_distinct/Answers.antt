use Rattle.std.proofs.Common.{◌≢◌, suc, List, [], ◌∷◌, AllPairs, arith}
use Rattle.std.proofs.lemmas.List.Elements.{recursion_from_All}
use Rattle.cs_base.specs.Ascending.{IsDistinctBy}
use Rattle.cs_base.specs.Changes.{id_of}
use Rattle.cs_base.specs.declared.change.Change.{Change}
use Rattle.cs_slicer.proofs.tests.are_distinct.Goals as goal

-- changes whose ids differ at each two places
distinct-places : (cs : List Change) → AllPairs (λ c d. id_of c ≢ id_of d) cs → IsDistinctBy id_of cs
distinct-places [] differ = tt
distinct-places (c ∷ cs) differ = (
  recursion_from_All (λ d. id_of c ≢ id_of d) cs (λ k e lt. differ 0 (suc k) e (omega arith) (omega arith)),
  distinct-places cs (λ i j e lt in_range. differ (suc i) (suc j) e (omega arith) (omega arith)),
)

-- each two ids differ
pub returns : goal.returns
returns c = λ _. distinct-places c.args.changes.now (λ i j d lt in_range. c.loop-i.invariant i j d lt (omega arith))
