use Rattle.std.proofs.Common.{sym, subst, ◌∙◌}
use Rattle.cs_base.specs.Ascending.{IsAscendingBy}
use Rattle.cs_base.proofs.Ascending.{IsAscendingBy-placed, IsAt, IsGap, placed-at, placed-gap}
use Rattle.cs_view.proofs.pairs.place.Goals as goal

-- a pair written over is a pair placed
pub returns-in-Ok-clause-placed : goal.returns-in-Ok-clause-placed
returns-in-Ok-clause-placed g c =
    let at : IsAt (λ pair. pair.0) c.args.pair.0 c.args.pairs.now.items c.in-Ok.place =
    rw (← c.deref.ensures.value, ← c.get.ensures.value) c.in-Ok.ensures.found in
    sym (placed-at (λ pair. pair.0) c.args.pair c.args.pairs.now.items c.in-Ok.place c.requires at)

pub returns-in-Ok-clause-ascending : goal.returns-in-Ok-clause-ascending
returns-in-Ok-clause-ascending g c =
    let at : IsAt (λ pair. pair.0) c.args.pair.0 c.args.pairs.now.items c.in-Ok.place =
    rw (← c.deref.ensures.value, ← c.get.ensures.value) c.in-Ok.ensures.found in
    subst (IsAscendingBy (λ pair. pair.0)) (placed-at (λ pair. pair.0) c.args.pair c.args.pairs.now.items c.in-Ok.place c.requires at)
    (IsAscendingBy-placed (λ pair. pair.0) c.args.pair c.args.pairs.now.items c.requires)

-- a pair put into its gap is a pair placed
pub returns-in_ok-insert-in-Err-clause-placed : goal.returns-in_ok-insert-in-Err-clause-placed
returns-in_ok-insert-in-Err-clause-placed g c =
    let gap : IsGap (λ pair. pair.0) c.args.pair.0 c.args.pairs.now.items c.in-Err.place =
    rw (← c.deref.ensures.value, ← c.get.ensures.value) c.in-Err.ensures.absent in
    c.in_ok-insert-in-Err.ensures.items ∙ sym (placed-gap (λ pair. pair.0) c.args.pair c.args.pairs.now.items c.in-Err.place gap)

pub returns-in_ok-insert-in-Err-clause-ascending : goal.returns-in_ok-insert-in-Err-clause-ascending
returns-in_ok-insert-in-Err-clause-ascending g c =
    let gap : IsGap (λ pair. pair.0) c.args.pair.0 c.args.pairs.now.items c.in-Err.place =
    rw (← c.deref.ensures.value, ← c.get.ensures.value) c.in-Err.ensures.absent in
    subst (IsAscendingBy (λ pair. pair.0))
    (placed-gap (λ pair. pair.0) c.args.pair c.args.pairs.now.items c.in-Err.place gap ∙ sym c.in_ok-insert-in-Err.ensures.items)
    (IsAscendingBy-placed (λ pair. pair.0) c.args.pair c.args.pairs.now.items c.requires)
