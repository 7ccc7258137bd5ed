use Rattle.std.proofs.Common.{◌≡◌, ◌<◌, length, get_or, Some, ap, sym, subst, ◌∙◌, arith}
use Rattle.std.proofs.lemmas.Bool.Decides.{nat_tests}
use Rattle.cs_base.specs.Total.{Total}
use Rattle.cs_near.specs.Distance.{squared_distance}
use Rattle.cs_near.proofs.Nearness.{IsBest-first, IsBest-keeps, IsBest-takes, IsCounted-first, IsCounted-more, nearest-best, same-place}
use Rattle.cs_near.proofs.choice.nearest.Goals as goal
use Rattle.cs_near.proofs.choice.nearest.Goals.{in-Some, in_default}

-- of the first alone it is the best
pub loop-i-init : goal.loop-i-init
loop-i-init g c =
    let key = g.T.Keyed.key_of in
    let sum = g.T.HasSum.sum_of in
    let from = c.args.from.now in
    let ts = c.args.others.now in
    let x = c.index-others-0.result in
    let lt : 0 < length ts = grind (arith, nat_tests, c.if-is_empty.false, c.is_empty.ensures) in
    let some : 0 < (sum x).count = subst (λ (s : Total). 0 < s.count) c.sum.ensures c.squared_distance-gap.ensures.some in
    record {
      counted = IsCounted-first key sum from ts x lt c.index-others-0.is some;
      best = IsBest-first key sum from ts;
      gap = λ y was. c.squared_distance-gap.ensures.value
          ∙ ap (squared_distance from) (c.sum.ensures ∙ ap sum (same-place key sum from ts 0 x y lt c.index-others-0.is was));
      bound = c.squared_distance-gap.ensures.bound;
    }

pub offset_bounds-others-best : goal.offset_bounds-others-best
offset_bounds-others-best g c = grind (arith, nat_tests, c.loop-i.invariant.best.in_range)

pub bounds-others-best : goal.bounds-others-best
bounds-others-best g c = grind (arith, nat_tests, c.loop-i.invariant.best.in_range)

pub nearer_gap-requires-clause-value : goal.nearer_gap-requires-clause-value
nearer_gap-requires-clause-value g c = c.loop-i.invariant.gap c.index-others-best.result c.index-others-best.is

pub nearer_gap-requires-clause-bound : goal.nearer_gap-requires-clause-bound
nearer_gap-requires-clause-bound g c = c.loop-i.invariant.bound

-- the next one is nearer than the best so far or not
pub loop-i-preserved : goal.loop-i-preserved
loop-i-preserved g c =
    let key = g.T.Keyed.key_of in
    let sum = g.T.HasSum.sum_of in
    let from = c.args.from.now in
    let ts = c.args.others.now in
    let i = c.loop-i.i in
    let b = c.loop-i.best in
    let x = c.index-others-i.result in
    let y = c.index-others-best.result in
    let lt = c.loop-i-test.true in
    let best = c.loop-i.invariant.best in
    let counted = IsCounted-more key sum from ts i x lt c.index-others-i.is c.nearer_gap.ensures.count c.loop-i.invariant.counted in
    elim c.match-nearer_gap.branch [
      | in-Some w ↦ record {
        counted = counted;
        best = rw w.best-is (IsBest-takes key sum from ts i b x y lt c.index-others-i.is c.index-others-best.is counted best (sym w.in-Some.ensures.some));
        gap = λ z was. w.gap-is ∙ w.in-Some.ensures.value ∙ ap (λ t. squared_distance from (sum t))
            (same-place key sum from ts i x z lt c.index-others-i.is (was ∙ ap (λ k. get_or ts k z) w.best-is));
        bound = rw w.gap-is w.in-Some.ensures.bound;
      }
      | in_default w ↦ record {
        counted = counted;
        best = rw w.best-is (IsBest-keeps key sum from ts i b x y lt c.index-others-i.is c.index-others-best.is best (sym w.in_default.ensures.some));
        gap = λ z was. w.gap-is ∙ c.loop-i.invariant.gap z (was ∙ ap (λ k. get_or ts k z) w.best-is);
        bound = rw w.gap-is c.loop-i.invariant.bound;
      }
    ]

pub offset_bounds-others-best-2 : goal.offset_bounds-others-best-2
offset_bounds-others-best-2 g c = grind (arith, nat_tests, c.loop-i.invariant.best.in_range)

pub bounds-others-best-2 : goal.bounds-others-best-2
bounds-others-best-2 g c = grind (arith, nat_tests, c.loop-i.invariant.best.in_range)

-- the best of all
pub returns-clause-value : goal.returns-clause-value
returns-clause-value g c =
    let ts = c.args.others.now in
    let d = c.index-others-best-2.result in
    let lt : 0 < length ts = grind (arith, nat_tests, c.if-is_empty.false, c.is_empty.ensures) in
    let all : c.loop-i.i ≡ length ts = omega (arith, c.loop-i.auto.i-end lt) in
    let some : c.loop-i.best < length ts = omega (arith, lt, all, c.loop-i.invariant.best.in_range) in
    ap Some c.index-others-best-2.is
    ∙ sym (nearest-best g.T.Keyed.key_of g.T.HasSum.sum_of c.args.from.now ts c.loop-i.best d some (rw all at c.loop-i.invariant.best))
