use Rattle.std.proofs.Common.{◌≡◌, ◌∙◌, ◌<◌, ◌≤◌, ℕ, List, false, length, get_or, refl, sym, ap, arith, below_more}
use Rattle.std.proofs.lemmas.Bool.{false≢true}
use Rattle.std.proofs.lemmas.List.{get_or_read, take_all, take_more_same}
use Rattle.cs_roll.specs.SameByRegion.{is_alike_pair}
use Rattle.cs_roll.proofs.Pointwise.{pointwise-all, pointwise-at}
use Rattle.cs_roll.proofs.alike.are_alike.Goals as goal

-- two pairs differ at this place
pub returns-then-not-is_alike_pair-clause-same : goal.returns-then-not-is_alike_pair-clause-same
returns-then-not-is_alike_pair-clause-same g c =
    let xs = c.args.pairs.now in
    let ys = c.args.others.now in
    let i = c.loop-i.i in
    let x = c.index-pairs-i.result in
    let y = c.index-others-i.result in
    let under : i < length ys = omega arith in (
      λ yes. absurd (false≢true yes),
      λ (e : xs ≡ ys). c.if-not-is_alike_pair.ensures.same.1
          (c.index-pairs-i.is ∙ ap (λ (zs : List (ℕ × g.row.T.Denot)). get_or zs i x) e ∙ sym (get_or_read ys i y under c.index-others-i.is x)),
    )

pub returns-then-not-is_alike_pair-clause-test : goal.returns-then-not-is_alike_pair-clause-test
returns-then-not-is_alike_pair-clause-test g c =
    let same = is_alike_pair g.T.Alike.is_alike in
    let pair = c.index-pairs-i.result in
    let other = c.index-others-i.result in
    let differs : same (get_or c.args.pairs.now c.loop-i.i pair) (get_or c.args.others.now c.loop-i.i other) ≡ false =
    rw (← c.index-pairs-i.is, ← c.index-others-i.is) (sym c.if-not-is_alike_pair.ensures.test) in
    sym (pointwise-at same c.args.pairs.now c.args.others.now c.loop-i.i pair other (omega arith) (omega arith) differs)

-- and the pairs at it are the same too
pub loop-i-preserved : goal.loop-i-preserved
loop-i-preserved g c =
    let xs = c.args.pairs.now in
    let ys = c.args.others.now in
    let i = c.loop-i.i in
    let x = c.index-pairs-i.result in
    let lt : i < length xs = omega arith in
    let under : i < length ys = omega arith in
    let at : get_or xs i x ≡ get_or ys i x =
    sym c.index-pairs-i.is ∙ c.if-not-is_alike_pair.ensures.same.0 refl ∙ get_or_read ys i c.index-others-i.result under c.index-others-i.is x in (
      take_more_same xs ys i x lt under c.loop-i.invariant.0 at,
      below_more _ _ c.loop-i.invariant.1
          (λ d e. rw (← get_or_read xs i _ lt c.index-pairs-i.is d, ← get_or_read ys i _ under c.index-others-i.is e) (sym c.if-not-is_alike_pair.ensures.test)),
    )

-- all were seen
pub returns-clause-same : goal.returns-clause-same
returns-clause-same g c =
    let xs = c.args.pairs.now in
    let ys = c.args.others.now in
    let i = c.loop-i.i in
    let all : length xs ≤ i = omega arith in
    let others : length ys ≤ i = omega arith in
    (λ yes. sym (take_all i xs all) ∙ c.loop-i.invariant.0 ∙ take_all i ys others, λ e. refl)

-- and the test of each was passed
pub returns-clause-test : goal.returns-clause-test
returns-clause-test g c =
    let same = is_alike_pair g.T.Alike.is_alike in
    sym (pointwise-all same c.args.pairs.now c.args.others.now (omega arith) (λ k d e lt. c.loop-i.invariant.1 k (omega arith) d e))
