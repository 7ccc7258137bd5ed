use Rattle.std.proofs.Common.{◌≡◌, ◌∙◌, ◌*◌, ◌+◌, ◌++◌, ap, append-nil, arith, refl, sym}
use Rattle.std.specs.List.{flat_map, range_with_len}
use Rattle.cs_drill.specs.Draws.{state_after}
use Rattle.cs_drill.specs.Schedule.{all_rounds, draws_before, round_behind}
use Rattle.cs_drill.proofs.Lists.{next-part}
use Rattle.cs_drill.proofs.generating.put_rounds.Goals as goal

pub loop-init : goal.loop-init
loop-init c seed at =
    let none : 3 * c.args.nodes ≡ draws_before c.args.nodes 0 = omega arith in
    (sym (append-nil c.args.events.now.items), at ∙ ap (state_after seed) none)

pub loop-preserved : goal.loop-preserved
loop-preserved c seed at =
    let nodes = c.args.nodes in
    let round = c.loop.counter in
    let so_far = c.loop.invariant seed at in
    let later : draws_before nodes round + 32 + 2 ≡ draws_before nodes (round + 1) = omega arith in (
      c.in_ok-put_round.ensures.value seed (draws_before nodes round) so_far.1
          ∙ next-part (λ k. round_behind nodes seed (draws_before nodes k)) round c.args.events.now.items c.loop.events.items _ so_far.0 refl,
      c.in_ok-put_round.ensures.state seed (draws_before nodes round) so_far.1 ∙ ap (state_after seed) later,
    )

pub returns : goal.returns
unfolding all_rounds
returns c seed at =
    let all : c.loop.counter ≡ 8 = omega (arith, c.loop-test.false, c.loop.auto) in
    (c.loop.invariant seed at).0
    ∙ ap (λ n. c.args.events.now.items
    ++ flat_map (λ round. round_behind c.args.nodes seed (draws_before c.args.nodes round)) (range_with_len 0 n)) all
