use Rattle.std.proofs.Common.{◌≡◌, ◌∙◌, ◌*◌, ◌+◌, ◌++◌, [], ap, arith, length-set, map, rules, take}
use Rattle.std.specs.List.{range_with_len}
use Rattle.cs_drill.specs.Draws.{state_after}
use Rattle.cs_drill.specs.Schedule.{moved, mover}
use Rattle.cs_drill.proofs.Lists.{next-number, one-more-set}
use Rattle.cs_drill.proofs.parts.put_moves.Goals as goal

pub loop-place-preserved : goal.loop-place-preserved
loop-place-preserved c =
    let place = c.loop-place.place in
    let movers = c.loop-place.movers in (
      length-set movers place c.id-mover.result ∙ c.loop-place.invariant.0,
      λ seed before at.
          let so_far = c.loop-place.invariant.1 seed before at in
          let drawn = before + 4 * place in
          let who = c.id-mover.ensures.value seed drawn so_far.2 in
          let next = c.id-mover.ensures.state seed drawn so_far.2 in
          let behind : drawn + 1 + 3 ≡ before + 4 * (place + 1) = omega arith in (
            one-more-set movers place c.id-mover.result (omega (arith, c.loop-place.invariant.0, c.loop-place-test.true))
                ∙ next-number (mover c.args.nodes seed before) 0 place place [] (take place movers) c.id-mover.result (omega arith) so_far.0 who,
            c.in_ok-push.ensures.items
                ∙ next-number (moved c.args.nodes seed before) 0 place place c.args.events.now.items c.loop-place.events.items _ (omega arith) so_far.1
                (rw (c.point.ensures.value seed (drawn + 1) next, who) (search rules)),
            c.point.ensures.state seed (drawn + 1) next ∙ ap (state_after seed) behind,
          ),
    )

pub returns-clause-value : goal.returns-clause-value
returns-clause-value c seed before at =
    let all : c.loop-place.place ≡ 8 = omega (arith, c.loop-place-test.false, c.loop-place.auto) in
    (c.loop-place.invariant.1 seed before at).1
    ∙ ap (λ k. c.args.events.now.items ++ map (moved c.args.nodes seed before) (range_with_len 0 k)) all
