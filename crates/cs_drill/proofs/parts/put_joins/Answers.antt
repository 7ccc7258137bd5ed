use Rattle.std.proofs.Common.{◌≡◌, ◌∙◌, ◌*◌, ◌+◌, ◌-◌, ◌∷◌, ◌++◌, [], ap, arith, drop, length, min, refl, sym, take}
use Rattle.std.proofs.lemmas.List.{drop-drop, length-append, length-drop}
use Rattle.std.proofs.lemmas.List.FromFn.{length-range_with_len}
use Rattle.cs_drill.specs.Schedule.{batch, joined, others}
use Rattle.cs_drill.proofs.Batches.{are-all, is-behind, is-front}
use Rattle.cs_drill.proofs.Lists.{next-part}
use Rattle.cs_drill.proofs.parts.put_joins.Goals as goal

pub loop-batch-preserved : goal.loop-batch-preserved
loop-batch-preserved c =
    let all = others c.args.nodes in
    let before = length c.loop-batch.yielded in
    let so_far = c.loop-batch.invariant in
    let rest = c.loop-batch.batch-iterator.rest.now in
    let left = c.next.new.self.rest.now in
    let came = c.in-Some.ensures.steps.1 in
    let long : length c.in-Some.batch.now ≡ min 64 (length rest) = came.1 ∙ ap (λ n. min n (length rest)) so_far.0 in
    let one : length (c.loop-batch.yielded ++ c.in-Some.batch ∷ []) ≡ before + 1 = length-append c.loop-batch.yielded (c.in-Some.batch ∷ []) in
    let many : length rest ≡ length all - 64 * before = ap length so_far.1 ∙ length-drop (64 * before) all in
    let later : 64 * before + 64 ≡ 64 * (before + 1) = omega arith in
    rw one (
      c.in-Some.ensures.steps.0 ∙ so_far.0,
      is-behind 64 rest c.in-Some.batch.now left came.0 long ∙ ap (drop 64) so_far.1 ∙ drop-drop 64 (64 * before) all ∙ ap (λ k. drop k all) later,
      omega (arith, many, came.2),
      c.in_ok-put_batch.ensures
          ∙ next-part (λ place. joined (batch c.args.nodes place)) before c.args.events.now.items c.loop-batch.events.items
          (joined c.in-Some.batch.now) so_far.3 (ap joined (is-front 64 rest c.in-Some.batch.now left came.0 long ∙ ap (take 64) so_far.1)),
    )

pub returns : goal.returns
returns c =
    let so_far = c.loop-batch.invariant in
    let batches = length c.loop-batch.yielded in
    let nobody : length (others c.args.nodes) - 64 * batches ≡ 0 =
    sym (length-drop (64 * batches) (others c.args.nodes)) ∙ ap length (sym so_far.1) ∙ c.in-None.ensures.steps.1.0 in
    let many : length (others c.args.nodes) ≡ c.args.nodes - 1 = length-range_with_len 2 (c.args.nodes - 1) in
    let all = are-all (c.args.nodes - 1) batches (omega (arith, so_far.2, many)) (omega (arith, nobody, many)) in
    rw (so_far.3, all) refl
