use Rattle.std.proofs.Common.{◌≡◌, ◌≤◌, ℕ, true, false, length, take, Ok, Err, ap, sym, subst, ◌∙◌, arith}
use Rattle.std.specs.Prelude.{IfSome}
use Rattle.std.proofs.lemmas.Option.{IfSome_then}
use Rattle.std.proofs.lemmas.Result.{err_from_is_err_and}
use Rattle.census.specs.Lines.{FillIs, Waits, first_lf, most_piece}
use Rattle.census.proofs.Readers.{IsShort, advanced, filled-more, front-within, given, short-filled, short-taken, takes-few, unended, waits-few}
use Rattle.census.proofs.Transcripts.{if-step}
use Rattle.census.proofs.lines.Lines.advance.Goals as goal

pub returns-in_err-fill-clause-advance : goal.returns-in_err-fill-clause-advance
returns-in_err-fill-clause-advance g c =
    let kept = c.loop-clean-test.ensures.value in
    let p = err_from_is_err_and c.from_residual.result c.from_residual.ensures.1 in
    rw (p.1, p.2)
    (IfSome_then _ c.loop-clean.invariant.waits (λ left so_far.
    advanced c.args.self.now c.loop-clean.self c.take_ended.new.self c.fill.new.self left _ _ so_far kept.1 c.loop-clean-test.ensures.taken
    (ap first_lf kept.1 ∙ kept.0) (Err c.in_err-fill.field-0.0) (λ is. absurd (cc)) c.in_err-fill.ensures.fill))

pub returns-in_err-fill-clause-taken : goal.returns-in_err-fill-clause-taken
returns-in_err-fill-clause-taken g c =
    takes-few c.args.self.now c.loop-clean.self c.take_ended.new.self (g.S.Source.left c.args.source.now) (g.S.Source.left c.loop-clean.source) _
    (omega (arith, c.loop-clean-test.ensures.few, c.loop-clean-test.ensures.taken)) c.loop-clean-test.ensures.taken c.loop-clean.invariant.waits
    c.fill.ensures.taken

pub returns-then-not-branch-clause-advance : goal.returns-then-not-branch-clause-advance
returns-then-not-branch-clause-advance g c =
    let kept = c.loop-clean-test.ensures.value in
    IfSome_then _ c.loop-clean.invariant.waits (λ left so_far.
    advanced c.args.self.now c.loop-clean.self c.take_ended.new.self c.fill.new.self left (g.S.Source.left c.loop-clean.source)
    (g.S.Source.left c.fill.new.source) so_far kept.1 c.loop-clean-test.ensures.taken
    (ap first_lf kept.1 ∙ kept.0) (Ok false) (λ is. absurd (cc))
    (subst (λ more. IfSome (g.S.Source.left c.loop-clean.source) (λ now. FillIs c.take_ended.new.self c.fill.new.self now
    (g.S.Source.left c.fill.new.source) (Ok more))) c.if-not-branch.true c.in_ok-fill.ensures.fill))

pub returns-then-not-branch-clause-taken : goal.returns-then-not-branch-clause-taken
returns-then-not-branch-clause-taken g c =
    takes-few c.args.self.now c.loop-clean.self c.take_ended.new.self (g.S.Source.left c.args.source.now) (g.S.Source.left c.loop-clean.source) _
    (omega (arith, c.loop-clean-test.ensures.few, c.loop-clean-test.ensures.taken)) c.loop-clean-test.ensures.taken c.loop-clean.invariant.waits
    c.fill.ensures.taken

pub loop-clean-smaller : goal.loop-clean-smaller
loop-clean-smaller g c =
    omega (arith, c.in_ok-fill.ensures.grows c.if-not-branch.false, c.in_ok-fill.ensures.few, c.loop-clean-test.ensures.taken)

pub loop-clean-preserved : goal.loop-clean-preserved
loop-clean-preserved g c =
    let kept = c.loop-clean-test.ensures.value in
    let looked : length c.rest-clean.result.now ≡ length c.take_ended.new.self.rest = ap (length {A = ℕ}) c.rest-clean.ensures in
    record {
      waits = IfSome_then _ c.loop-clean.invariant.waits (λ left so_far.
          filled-more c.args.self.now c.loop-clean.self c.take_ended.new.self c.fill.new.self left (g.S.Source.left c.loop-clean.source)
          (g.S.Source.left c.fill.new.source) so_far kept.1 c.loop-clean-test.ensures.taken
          (subst (λ more. IfSome (g.S.Source.left c.loop-clean.source) (λ now. FillIs c.take_ended.new.self c.fill.new.self now
          (g.S.Source.left c.fill.new.source) (Ok more))) c.if-not-branch.false c.in_ok-fill.ensures.fill));
      short = λ short.
          if-step (g.S.Source.left c.args.source.now) (λ left. Waits c.args.self.now c.loop-clean.self left (g.S.Source.left c.loop-clean.source))
          (λ left. IsShort c.fill.new.self.rest) (λ left so_far.
          subst (λ m. IfSome m (λ l. IsShort c.fill.new.self.rest)) so_far.source
          (short-filled c.take_ended.new.self c.fill.new.self (g.S.Source.left c.loop-clean.source) (g.S.Source.left c.fill.new.source)
          (subst (λ more. IfSome (g.S.Source.left c.loop-clean.source) (λ now. FillIs c.take_ended.new.self c.fill.new.self now
          (g.S.Source.left c.fill.new.source) (Ok more))) c.if-not-branch.false c.in_ok-fill.ensures.fill)
          (ap first_lf kept.1 ∙ kept.0) c.in_ok-fill.ensures.piece)) c.loop-clean.invariant.waits;
      within = omega (arith, looked, front-within c.take_ended.new.self.rest c.fill.new.self.rest c.in_ok-fill.ensures.front);
      clean = ap (λ n. first_lf (take n c.fill.new.self.rest)) looked ∙ ap first_lf c.in_ok-fill.ensures.front ∙ ap first_lf kept.1 ∙ kept.0;
      counts = omega (arith, c.loop-clean.invariant.counts, c.fill.ensures.counts);
    }

pub returns-clause-advance : goal.returns-clause-advance
returns-clause-advance g c =
    IfSome_then _ c.loop-clean.invariant.waits (λ left so_far.
    given c.args.self.now c.loop-clean.self c.take_ended.new.self left _ so_far c.loop-clean-test.ensures.value c.loop-clean-test.ensures.taken)

pub returns-clause-taken : goal.returns-clause-taken
returns-clause-taken g c =
    waits-few c.args.self.now c.loop-clean.self c.take_ended.new.self (g.S.Source.left c.args.source.now) (g.S.Source.left c.loop-clean.source)
    (g.S.Source.left c.loop-clean.source) (omega (arith, c.loop-clean-test.ensures.few, c.loop-clean-test.ensures.taken))
    c.loop-clean-test.ensures.taken c.loop-clean.invariant.waits

pub returns-clause-unended : goal.returns-clause-unended
returns-clause-unended g c =
    let up = c.loop-clean-test.ensures.value in
    unended c.take_ended.new.self.line c.take_ended.new.self.rest (ap first_lf (sym up.1) ∙ up.0)

pub returns-then-not-branch-clause-unended : goal.returns-then-not-branch-clause-unended
returns-then-not-branch-clause-unended g c =
    let kept = c.loop-clean-test.ensures.value in
    ap first_lf (c.in_ok-fill.ensures.same c.if-not-branch.true ∙ kept.1) ∙ kept.0

pub returns-clause-near : goal.returns-clause-near
returns-clause-near g c = λ short.
    if-step (g.S.Source.left c.args.source.now) (λ left. IsShort c.loop-clean.self.rest)
    (λ left. true ≡ true → length c.take_ended.new.self.rest ≤ most_piece)
    (λ left near is. short-taken c.loop-clean.self c.take_ended.new.self c.loop-clean-test.ensures.value near) (c.loop-clean.invariant.short short)
