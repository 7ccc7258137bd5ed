use Rattle.std.proofs.Common.{◌≡◌, ◌+◌, ◌++◌, ℕ, [], ◌∷◌, take, sym, subst, arith}
use Rattle.std.specs.List.{AllByRecursion}
use Rattle.std.proofs.lemmas.List.{take_more}
use Rattle.cs_base.proofs.Elements.{All-append}
use Rattle.cs_base.specs.Ranges.{IsRegion}
use Rattle.cs_item.proofs.by_region.ByRegion.from_vec.Goals as goal

-- one more pair
pub loop-pair-preserved : goal.loop-pair-preserved
loop-pair-preserved g c =
    let IsKept : ℕ × _ → Type 0 = λ pair. IsRegion pair.0 × g.T.Beside.IsAllowed pair.1 in
    let items = c.deref-pair-items.result.now in
    let i = c.loop-pair.pair-index in
    let pair = c.pair-item.result in
    let number = c.get-region.ensures in
    let is_region : IsRegion pair.0 = (omega arith, omega (arith, number.value, number.not_last)) in
    let longer : take (i + 1) items ≡ take i items ++ pair ∷ [] =
    rw c.pair-item.is (take_more items i pair c.loop-pair-test.true) in
    subst (AllByRecursion IsKept) (sym longer)
    (All-append IsKept (take i items) (pair ∷ []) c.loop-pair.invariant ((is_region, c.size-size.ensures), tt))
