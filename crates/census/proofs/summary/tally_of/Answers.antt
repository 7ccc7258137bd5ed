use Rattle.std.proofs.Common.{rules, ◌≡◌, ◌+◌, ◌==◌, true, false, cond, ap, sym, ◌∙◌, length, arith}
use Rattle.std.specs.Str.{bytes_eq}
use Rattle.census.specs.Drilled.{agreeing, of_epoch, views_of}
use Rattle.census.proofs.Views.{cond-few, next-agrees, next-none, next-one, next-other}
use Rattle.census.proofs.summary.tally_of.Goals as goal
use Rattle.census.proofs.summary.tally_of.Goals.{then-eq, else-eq}

pub loop-before-preserved-in_default : goal.loop-before-preserved-in_default
loop-before-preserved-in_default g c =
    let lead = c.args.lead.now in
    let count = c.loop-before.before in
    record {
      few_views = omega (arith, c.loop-before.invariant.few_views);
      few_agree = omega (arith, c.loop-before.invariant.few_agree);
      views = λ machine stands. c.loop-before.invariant.views machine stands
          ∙ ap length (sym (next-none machine lead.epoch count _ c.node_id.ensures (sym c.in_default.is ∙ c.in_ok-told.ensures machine stands)));
      agree = λ machine view stands is. c.loop-before.invariant.agree machine view stands is
          ∙ ap (λ views. length (agreeing view views))
          (sym (next-none machine lead.epoch count _ c.node_id.ensures (sym c.in_default.is ∙ c.in_ok-told.ensures machine stands)));
    }

pub loop-before-preserved : goal.loop-before-preserved
loop-before-preserved g c =
    let lead = c.args.lead.now in
    let told = c.in-Some.told in
    let count = c.loop-before.before in
    elim c.if-eq.branch [
      | then-eq w ↦ (
          let hit : (told.0 == lead.epoch) ≡ true = search rules in
          let views : c.if-eq.tally.views ≡ c.loop-before.tally.views + 1 = search rules in
          let agree : c.if-eq.tally.agree ≡ c.loop-before.tally.agree + cond (bytes_eq told.1 lead.digest) 1 0 = search rules in
          record {
            few_views = omega (arith, views, c.loop-before.invariant.few_views);
            few_agree = omega (arith, agree, cond-few (bytes_eq told.1 lead.digest), c.loop-before.invariant.few_agree);
            views = λ machine stands. views ∙ ap (λ n. n + 1) (c.loop-before.invariant.views machine stands)
                ∙ sym (next-one machine lead.epoch count _ c.node_id.ensures told (sym c.in-Some.is ∙ c.in_ok-told.ensures machine stands) hit);
            agree = λ machine view stands is. agree
                ∙ ap (λ n. n + cond (bytes_eq told.1 lead.digest) 1 0) (c.loop-before.invariant.agree machine view stands is)
                ∙ ap (λ digest. length (agreeing view (of_epoch lead.epoch (views_of count machine))) + cond (bytes_eq told.1 digest) 1 0) is
                ∙ sym (next-agrees machine lead.epoch count _ c.node_id.ensures told (sym c.in-Some.is ∙ c.in_ok-told.ensures machine stands) view hit);
          })
      | else-eq w ↦ (
          let other : (told.0 == lead.epoch) ≡ false = search rules in
          let views : c.if-eq.tally.views ≡ c.loop-before.tally.views = search rules in
          let agree : c.if-eq.tally.agree ≡ c.loop-before.tally.agree = search rules in
          record {
            few_views = omega (arith, views, c.loop-before.invariant.few_views);
            few_agree = omega (arith, agree, c.loop-before.invariant.few_agree);
            views = λ machine stands. views ∙ c.loop-before.invariant.views machine stands
                ∙ ap length (sym (next-other machine lead.epoch count _ c.node_id.ensures told
                (sym c.in-Some.is ∙ c.in_ok-told.ensures machine stands) other));
            agree = λ machine view stands is. agree ∙ c.loop-before.invariant.agree machine view stands is
                ∙ ap (λ views. length (agreeing view views)) (sym (next-other machine lead.epoch count _ c.node_id.ensures told
                (sym c.in-Some.is ∙ c.in_ok-told.ensures machine stands) other));
          })
    ]
