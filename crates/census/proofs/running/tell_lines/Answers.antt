use Rattle.std.proofs.Common.{rules, ◌≡◌, ℕ, ◌<◌, List, [], ◌∷◌, ◌++◌, length, None, Ok, Err, ap, refl, sym, subst, ◌∙◌, arith}
use Rattle.std.specs.Prelude.{IfSome}
use Rattle.std.proofs.lemmas.List.{length-append}
use Rattle.std.proofs.lemmas.Result.{err_from_is_err_and}
use Rattle.cs_world.specs.Desk.{DeskTold, OnlyGrants}
use Rattle.cs_base.proofs.Elements.{All-append}
use Rattle.census.specs.Lines.{AdvanceIs, IsUnended, first_lf}
use Rattle.census.specs.Restarts.{RestartsAreTold}
use Rattle.census.specs.Run.{LinesAreRead}
use Rattle.census.specs.Standing.{StandsFor}
use Rattle.census.proofs.DeskGrants.{OnlyGrants-more, OnlyGrants-same}
use Rattle.census.proofs.StreamEnds.{IsAtEnd, advance-told-if, at-end, at-next, at-start, at-taken-more, end-last-if, end-read-if, end-told-if}
use Rattle.census.proofs.StreamEnds.{on-any, spent-if}
use Rattle.census.proofs.StreamEnds.{done-wrote, last-wrote, line-stop, line-stop-if, lines-stop, stopped-wrote, wrote-if}
use Rattle.census.proofs.StreamEnds.{line-last-if, line-read-if, line-told-if, unended-last-if, unended-read-if, unended-told-if}
use Rattle.census.proofs.NearLines.{advance-near-if, line-near-if, short-next, short-start, unended-near-if}
use Rattle.census.proofs.StreamTold.{AreDone-next, AreRead-next}
use Rattle.census.proofs.Streaming.{IsAt}
use Rattle.census.proofs.ToldLines.{AreToldTo-start}
use Rattle.census.proofs.running.tell_lines.Given.{Over}
use Rattle.census.proofs.running.tell_lines.Goals as goal
use Rattle.census.proofs.running.tell_lines.Invariants.{of_link, of_log}

-- what is told under the logs that a desk has now is told under those that it had
under : (before now : DeskTold) (lines : List (List ℕ)) (Told : Type 0) → OnlyGrants before now → (RestartsAreTold now.logs lines → Told)
    → RestartsAreTold before.logs lines → Told
under before now lines Told grants told =
    subst (λ logs. RestartsAreTold logs lines → Told) (ap (λ (desk : DeskTold). desk.logs) grants.others) told

pub loop-lines-init : goal.loop-lines-init
loop-lines-init g c = record {
  progress = record {
    done = [];
    numbered = c.requires.number;
    clean = tt;
    at = at-start (g.S.Source.left c.args.source.now) c.new-lines.result c.new-lines.ensures.rest c.new-lines.ensures.taken;
    told = λ machine stands later restarts.
        AreToldTo-start (g.D.Ground.logs c.args.desk.now) (StandsFor (of_link g) (of_log g) c.args.teller.now.system) machine later _
        c.args.teller.now.counts stands c.requires.number c.requires.written restarts;
    read = λ later result behind. subst (λ n. LinesAreRead n later result) c.requires.number behind;
  };
  short = short-start (g.S.Source.left c.args.source.now) c.new-lines.result.rest c.new-lines.ensures.rest;
  source_counts = omega arith;
  counts = omega arith;
  out = c.requires.out;
  desk = OnlyGrants-same _;
}

pub loop-lines-preserved : goal.loop-lines-preserved
loop-lines-preserved g c =
    let p = c.loop-lines.invariant.progress in
    let line = c.line.result.now in
    let reader = c.advance.new.self in
    let told = g.S.Source.left c.args.source.now in
    let now = g.S.Source.left c.loop-lines.source in
    let later = g.S.Source.left c.advance.new.source in
    let advance = subst (λ more. IfSome now (λ left. AdvanceIs c.loop-lines.lines reader left later (Ok more))) c.if-branch.true
    c.in_ok-advance.ensures.advance in
    let none = subst (IsUnended reader) c.if-branch.true c.in_ok-advance.ensures.unended in
    record {
      progress = record {
        done = p.done ++ line ∷ [];
        numbered = omega (arith, p.numbered, c.in_ok-tell.ensures.read.1, length-append p.done (line ∷ []));
        clean = All-append (λ l. first_lf l ≡ None) p.done (line ∷ []) p.clean (ap first_lf c.line.ensures ∙ none, tt);
        at = subst (λ l. IfSome told (λ text. IsAt text (p.done ++ l ∷ []) reader later)) (sym c.line.ensures)
            (at-next told now later p.done c.loop-lines.lines reader c.advance.ensures.few p.at advance);
        told = λ machine stands.
            AreDone-next (g.D.Ground.logs c.args.desk.now) machine (g.K.Sink.written c.args.sink.now)
            (StandsFor (of_link g) (of_log g) c.loop-lines.teller.system) (StandsFor (of_link g) (of_log g) c.tell.new.self.system)
            c.loop-lines.teller.counts c.tell.new.self.counts _ _ p.done line (p.told machine stands) _ c.tell.new.self.counts.counted
            (λ m s. under _ _ _ _ c.loop-lines.invariant.desk (c.in_ok-tell.ensures.told m s));
        read = AreRead-next c.loop-lines.teller.counts.number c.tell.new.self.counts.number p.done line p.read _ c.in_ok-tell.ensures.read;
      };
      short =
          short-next (g.S.Source.left c.args.source.now) (g.S.Source.left c.loop-lines.source) p.done c.loop-lines.lines c.advance.new.self p.at
          c.loop-lines.invariant.short _ c.if-branch.true c.in_ok-advance.ensures.near;
      source_counts = omega (arith, c.loop-lines.invariant.source_counts, c.advance.ensures.counts);
      counts = omega (arith, c.loop-lines.invariant.counts, c.in_ok-tell.ensures.counts);
      out = c.in_ok-tell.ensures.out;
      desk = OnlyGrants-more _ _ _ c.loop-lines.invariant.desk c.in_ok-tell.ensures.desk;
    }

pub returns-in_err-advance-clause-told : goal.returns-in_err-advance-clause-told
returns-in_err-advance-clause-told g c =
    let p = c.loop-lines.invariant.progress in
    let e = err_from_is_err_and c.from_residual.result c.from_residual.ensures.1 in
    rw (e.1, e.2) (λ machine stands.
    advance-told-if (g.D.Ground.logs c.args.desk.now) machine (g.K.Sink.written c.args.sink.now) (g.S.Source.left c.args.source.now)
    (g.S.Source.left c.loop-lines.source) (g.S.Source.left c.advance.new.source) (StandsFor (of_link g) (of_log g) c.loop-lines.teller.system)
    c.loop-lines.teller.counts (g.K.Sink.written c.loop-lines.sink) p.done (p.told machine stands) c.advance.new.self c.loop-lines.lines
    c.in_err-advance.field-0.0 _ _ c.advance.ensures.few c.in_err-advance.ensures.stop p.at c.in_err-advance.ensures.advance)

pub returns-in_err-advance-clause-taken : goal.returns-in_err-advance-clause-taken
returns-in_err-advance-clause-taken g c =
    let p = c.loop-lines.invariant.progress in
    at-taken-more (g.S.Source.left c.args.source.now) (g.S.Source.left c.loop-lines.source) _ p.done c.loop-lines.lines p.at c.advance.ensures.taken

-- the line that was given stands next in the text
given-at : (g : Over) (c : goal.After-drop-lines-inside-in_err-tell g) → IfSome (g.S.Source.left c.args.source.now)
    (λ text. IsAt text (c.loop-lines.invariant.progress.done ++ c.line.result.now ∷ []) c.advance.new.self (g.S.Source.left c.advance.new.source))
given-at g c =
    let p = c.loop-lines.invariant.progress in
    let told = g.S.Source.left c.args.source.now in
    let now = g.S.Source.left c.loop-lines.source in
    let later = g.S.Source.left c.advance.new.source in
    let advance = subst (λ more. IfSome now (λ left. AdvanceIs c.loop-lines.lines c.advance.new.self left later (Ok more))) c.if-branch.true
    c.in_ok-advance.ensures.advance in
    subst (λ l. IfSome told (λ text. IsAt text (p.done ++ l ∷ []) c.advance.new.self later)) (sym c.line.ensures)
    (at-next told now later p.done c.loop-lines.lines c.advance.new.self c.advance.ensures.few p.at advance)

pub returns-in_err-tell-clause-told : goal.returns-in_err-tell-clause-told
returns-in_err-tell-clause-told g c =
    let p = c.loop-lines.invariant.progress in
    let e = err_from_is_err_and c.from_residual-in_err-tell.result c.from_residual-in_err-tell.ensures.1 in
    rw (e.1, e.2) (λ machine stands.
    line-told-if (g.D.Ground.logs c.args.desk.now) machine (g.K.Sink.written c.args.sink.now) (g.S.Source.left c.args.source.now)
    (g.S.Source.left c.loop-lines.source) (g.S.Source.left c.advance.new.source) (StandsFor (of_link g) (of_log g) c.loop-lines.teller.system)
    c.loop-lines.teller.counts (g.K.Sink.written c.loop-lines.sink) p.done (p.told machine stands) c.advance.new.self
    (StandsFor (of_link g) (of_log g) c.tell.new.self.system) c.tell.new.self.counts (g.K.Sink.written c.tell.new.sink) c.line.result.now
    c.in_err-tell.field-0.0 (λ m s. under _ _ _ _ c.loop-lines.invariant.desk (c.in_err-tell.ensures.told m s)) (given-at g c) _ _ _
    c.in_err-tell.ensures.stop)

pub returns-in_err-tell-clause-read : goal.returns-in_err-tell-clause-read
returns-in_err-tell-clause-read g c =
    let p = c.loop-lines.invariant.progress in
    let e = err_from_is_err_and c.from_residual-in_err-tell.result c.from_residual-in_err-tell.ensures.1 in
    rw (e.1, e.2)
    (line-read-if c.loop-lines.teller.counts.number c.tell.new.self.counts.number p.done p.read (g.S.Source.left c.args.source.now)
    (g.S.Source.left c.advance.new.source) c.advance.new.self c.line.result.now (given-at g c) c.in_err-tell.field-0.0 _ _ _
    c.in_err-tell.ensures.stop c.in_err-tell.ensures.read)

pub returns-in_err-tell-clause-last : goal.returns-in_err-tell-clause-last
returns-in_err-tell-clause-last g c =
    let p = c.loop-lines.invariant.progress in
    let e = err_from_is_err_and c.from_residual-in_err-tell.result c.from_residual-in_err-tell.ensures.1 in
    rw (e.1, e.2) (λ machine stands.
    line-last-if (g.D.Ground.logs c.args.desk.now) machine (g.K.Sink.written c.args.sink.now) (g.S.Source.left c.args.source.now)
    (g.S.Source.left c.loop-lines.source) (g.S.Source.left c.advance.new.source) (StandsFor (of_link g) (of_log g) c.loop-lines.teller.system)
    c.loop-lines.teller.counts (g.K.Sink.written c.loop-lines.sink) p.done (p.told machine stands) c.advance.new.self
    (StandsFor (of_link g) (of_log g) c.tell.new.self.system) c.tell.new.self.counts (g.K.Sink.written c.tell.new.sink) c.line.result.now
    c.in_err-tell.field-0.0 (λ m s. under _ _ _ _ c.loop-lines.invariant.desk (c.in_err-tell.ensures.told m s)) (given-at g c))

pub returns-in_err-tell-clause-taken : goal.returns-in_err-tell-clause-taken
returns-in_err-tell-clause-taken g c =
    let p = c.loop-lines.invariant.progress in
    at-taken-more (g.S.Source.left c.args.source.now) (g.S.Source.left c.loop-lines.source) _ p.done c.loop-lines.lines p.at c.advance.ensures.taken

-- the reader is at the end of the text, which an LF ends
ended-there : (g : Over) (c : goal.After-drop-lines-inside-then-is_empty g) → IfSome (g.S.Source.left c.args.source.now)
    (λ text. IsAtEnd text c.loop-lines.invariant.progress.done c.advance.new.self (g.S.Source.left c.advance.new.source))
ended-there g c =
    let now = g.S.Source.left c.loop-lines.source in
    let later = g.S.Source.left c.advance.new.source in
    let p = c.loop-lines.invariant.progress in
    at-end (g.S.Source.left c.args.source.now) now later p.done c.loop-lines.lines c.advance.new.self c.advance.ensures.few p.at
    (subst (λ more. IfSome now (λ left. AdvanceIs c.loop-lines.lines c.advance.new.self left later (Ok more))) c.if-branch.false
    c.in_ok-advance.ensures.advance)

-- a list without elements
no-element : (xs : List ℕ) → length xs ≡ 0 → xs ≡ []
no-element [] none = refl
no-element (x ∷ xs) none = absurd (omega (arith, none))

nothing-left : (g : Over) (c : goal.After-drop-lines-inside-then-is_empty g) → c.advance.new.self.rest ≡ []
nothing-left g c =
    let none : length c.rest.result.now ≡ 0 = search rules in
    sym c.rest.ensures ∙ no-element c.rest.result.now none

pub returns-then-is_empty-clause-told : goal.returns-then-is_empty-clause-told
returns-then-is_empty-clause-told g c = λ machine stands.
    let p = c.loop-lines.invariant.progress in
    end-told-if (g.D.Ground.logs c.args.desk.now) machine (g.K.Sink.written c.args.sink.now) (g.S.Source.left c.args.source.now)
    (g.S.Source.left c.loop-lines.source) (g.S.Source.left c.advance.new.source) (StandsFor (of_link g) (of_log g) c.loop-lines.teller.system)
    c.loop-lines.teller.counts (g.K.Sink.written c.loop-lines.sink) p.done (p.told machine stands) c.advance.new.self (nothing-left g c) tt
    (ended-there g c)

pub returns-then-is_empty-clause-read : goal.returns-then-is_empty-clause-read
returns-then-is_empty-clause-read g c =
    let p = c.loop-lines.invariant.progress in
    end-read-if c.loop-lines.teller.counts.number c.loop-lines.teller.counts.number p.done p.read (g.S.Source.left c.args.source.now)
    (g.S.Source.left c.advance.new.source) c.advance.new.self (ended-there g c) (nothing-left g c)

pub returns-then-is_empty-clause-last : goal.returns-then-is_empty-clause-last
returns-then-is_empty-clause-last g c = λ machine stands.
    let p = c.loop-lines.invariant.progress in
    end-last-if (g.D.Ground.logs c.args.desk.now) machine (g.K.Sink.written c.args.sink.now) (g.S.Source.left c.args.source.now)
    (g.S.Source.left c.loop-lines.source) (g.S.Source.left c.advance.new.source) (StandsFor (of_link g) (of_log g) c.loop-lines.teller.system)
    c.loop-lines.teller.counts (g.K.Sink.written c.loop-lines.sink) p.done (p.told machine stands) c.advance.new.self (nothing-left g c) tt
    (ended-there g c)

pub returns-then-is_empty-clause-taken : goal.returns-then-is_empty-clause-taken
returns-then-is_empty-clause-taken g c =
    let p = c.loop-lines.invariant.progress in
    at-taken-more (g.S.Source.left c.args.source.now) (g.S.Source.left c.loop-lines.source) _ p.done c.loop-lines.lines p.at c.advance.ensures.taken

-- the reader is at the end of the text, whose last line has no LF
unended-there : (g : Over) (c : goal.After-drop-lines-inside-2 g) → IfSome (g.S.Source.left c.args.source.now)
    (λ text. IsAtEnd text c.loop-lines.invariant.progress.done c.advance.new.self (g.S.Source.left c.advance.new.source))
unended-there g c =
    let now = g.S.Source.left c.loop-lines.source in
    let later = g.S.Source.left c.advance.new.source in
    let p = c.loop-lines.invariant.progress in
    at-end (g.S.Source.left c.args.source.now) now later p.done c.loop-lines.lines c.advance.new.self c.advance.ensures.few p.at
    (subst (λ more. IfSome now (λ left. AdvanceIs c.loop-lines.lines c.advance.new.self left later (Ok more))) c.if-branch.false
    c.in_ok-advance.ensures.advance)

something-left : (g : Over) (c : goal.After-drop-lines-inside-2 g) → 0 < length c.rest-2.result.now
something-left g c = search rules

pub returns-clause-told : goal.returns-clause-told
returns-clause-told g c = λ machine stands.
    let p = c.loop-lines.invariant.progress in
    unended-told-if (g.D.Ground.logs c.args.desk.now) machine (g.K.Sink.written c.args.sink.now) (g.S.Source.left c.args.source.now)
    (g.S.Source.left c.loop-lines.source) (g.S.Source.left c.advance.new.source) (StandsFor (of_link g) (of_log g) c.loop-lines.teller.system)
    c.loop-lines.teller.counts (g.K.Sink.written c.loop-lines.sink) p.done (p.told machine stands) c.advance.new.self
    (StandsFor (of_link g) (of_log g) c.tell-2.new.self.system) c.tell-2.new.self.counts (g.K.Sink.written c.tell-2.new.sink) c.rest-2.result.now
    c.tell-2.new.self.counts.counted c.tell-2.result (λ m s. under _ _ _ _ c.loop-lines.invariant.desk (c.tell-2.ensures.told m s))
    (unended-there g c) c.rest-2.ensures (something-left g c) _ _ _ c.tell-2.ensures.stop

pub returns-clause-read : goal.returns-clause-read
returns-clause-read g c =
    let p = c.loop-lines.invariant.progress in
    unended-read-if c.loop-lines.teller.counts.number c.tell-2.new.self.counts.number p.done p.read (g.S.Source.left c.args.source.now)
    (g.S.Source.left c.advance.new.source) c.advance.new.self (unended-there g c) c.rest-2.result.now c.rest-2.ensures (something-left g c)
    c.tell-2.result _ _ _ c.tell-2.ensures.stop c.tell-2.ensures.read

pub returns-clause-last : goal.returns-clause-last
returns-clause-last g c = λ machine stands.
    let p = c.loop-lines.invariant.progress in
    unended-last-if (g.D.Ground.logs c.args.desk.now) machine (g.K.Sink.written c.args.sink.now) (g.S.Source.left c.args.source.now)
    (g.S.Source.left c.loop-lines.source) (g.S.Source.left c.advance.new.source) (StandsFor (of_link g) (of_log g) c.loop-lines.teller.system)
    c.loop-lines.teller.counts (g.K.Sink.written c.loop-lines.sink) p.done (p.told machine stands) c.advance.new.self
    (StandsFor (of_link g) (of_log g) c.tell-2.new.self.system) c.tell-2.new.self.counts (g.K.Sink.written c.tell-2.new.sink) c.rest-2.result.now
    c.tell-2.new.self.counts.counted c.tell-2.result (λ m s. under _ _ _ _ c.loop-lines.invariant.desk (c.tell-2.ensures.told m s))
    (unended-there g c) c.rest-2.ensures (something-left g c)

pub returns-clause-taken : goal.returns-clause-taken
returns-clause-taken g c =
    let p = c.loop-lines.invariant.progress in
    at-taken-more (g.S.Source.left c.args.source.now) (g.S.Source.left c.loop-lines.source) _ p.done c.loop-lines.lines p.at c.advance.ensures.taken

pub returns-in_err-advance-clause-wrote : goal.returns-in_err-advance-clause-wrote
returns-in_err-advance-clause-wrote g c = λ machine stands restarts.
    let p = c.loop-lines.invariant.progress in
    let status = c.in_err-advance.field-0.0 in
    wrote-if (g.D.Ground.logs c.args.desk.now) machine (g.S.Source.left c.args.source.now) (g.S.Source.left c.advance.new.source)
    (g.K.Sink.written c.args.sink.now) (g.K.Sink.written c.loop-lines.sink) _ ⊥ ⊥ ⊥ (Err status) restarts
    (lines-stop _ _ ⊥ ⊥ ⊥ status c.in_err-advance.ensures.stop) (λ told.
    done-wrote (g.D.Ground.logs c.args.desk.now) machine (g.K.Sink.written c.args.sink.now) told
    (StandsFor (of_link g) (of_log g) c.loop-lines.teller.system) c.loop-lines.teller.counts (g.K.Sink.written c.loop-lines.sink) p.done p.clean
    (p.told machine stands))
    (advance-told-if (g.D.Ground.logs c.args.desk.now) machine (g.K.Sink.written c.args.sink.now) (g.S.Source.left c.args.source.now)
    (g.S.Source.left c.loop-lines.source) (g.S.Source.left c.advance.new.source) (StandsFor (of_link g) (of_log g) c.loop-lines.teller.system)
    c.loop-lines.teller.counts (g.K.Sink.written c.loop-lines.sink) p.done (p.told machine stands) c.advance.new.self c.loop-lines.lines
    status _ _ c.advance.ensures.few c.in_err-advance.ensures.stop p.at c.in_err-advance.ensures.advance)

pub returns-in_err-tell-clause-wrote : goal.returns-in_err-tell-clause-wrote
returns-in_err-tell-clause-wrote g c = λ machine stands restarts.
    let p = c.loop-lines.invariant.progress in
    let status = c.in_err-tell.field-0.0 in
    let reader = c.advance.new.self in
    let none = ap first_lf c.line.ensures ∙ subst (IsUnended reader) c.if-branch.true c.in_ok-advance.ensures.unended in
    let logs = g.D.Ground.logs c.args.desk.now in
    let before = g.K.Sink.written c.args.sink.now in
    let Now = StandsFor (of_link g) (of_log g) c.loop-lines.teller.system in
    let Next = StandsFor (of_link g) (of_log g) c.tell.new.self.system in
    wrote-if logs machine (g.S.Source.left c.args.source.now) (g.S.Source.left c.advance.new.source) before (g.K.Sink.written c.tell.new.sink)
    ⊥ _ _ _ (Err status) restarts (line-stop ⊥ _ _ _ status c.in_err-tell.ensures.stop) (λ told.
    stopped-wrote logs machine before told Now Next c.loop-lines.teller.counts c.tell.new.self.counts (g.K.Sink.written c.loop-lines.sink)
    (g.K.Sink.written c.tell.new.sink) p.done c.line.result.now p.clean none (p.told machine stands) _ _ _ status c.in_err-tell.ensures.stop
    (λ m s. under _ _ _ _ c.loop-lines.invariant.desk (c.in_err-tell.ensures.told m s)))
    (line-told-if logs machine before (g.S.Source.left c.args.source.now) (g.S.Source.left c.loop-lines.source)
    (g.S.Source.left c.advance.new.source) Now c.loop-lines.teller.counts (g.K.Sink.written c.loop-lines.sink) p.done (p.told machine stands) reader
    Next c.tell.new.self.counts (g.K.Sink.written c.tell.new.sink) c.line.result.now status
    (λ m s. under _ _ _ _ c.loop-lines.invariant.desk (c.in_err-tell.ensures.told m s)) (given-at g c) _ _ _ c.in_err-tell.ensures.stop)

pub returns-then-is_empty-clause-wrote : goal.returns-then-is_empty-clause-wrote
returns-then-is_empty-clause-wrote g c = λ machine stands restarts.
    let p = c.loop-lines.invariant.progress in
    wrote-if (g.D.Ground.logs c.args.desk.now) machine (g.S.Source.left c.args.source.now) (g.S.Source.left c.advance.new.source)
    (g.K.Sink.written c.args.sink.now) (g.K.Sink.written c.loop-lines.sink) ⊥ ⊥ ⊥ ⊥ (Ok tt) restarts tt (λ told.
    done-wrote (g.D.Ground.logs c.args.desk.now) machine (g.K.Sink.written c.args.sink.now) told
    (StandsFor (of_link g) (of_log g) c.loop-lines.teller.system) c.loop-lines.teller.counts (g.K.Sink.written c.loop-lines.sink) p.done p.clean
    (p.told machine stands))
    (end-told-if (g.D.Ground.logs c.args.desk.now) machine (g.K.Sink.written c.args.sink.now) (g.S.Source.left c.args.source.now)
    (g.S.Source.left c.loop-lines.source) (g.S.Source.left c.advance.new.source) (StandsFor (of_link g) (of_log g) c.loop-lines.teller.system)
    c.loop-lines.teller.counts (g.K.Sink.written c.loop-lines.sink) p.done (p.told machine stands) c.advance.new.self (nothing-left g c) tt
    (ended-there g c))

pub returns-clause-wrote : goal.returns-clause-wrote
returns-clause-wrote g c = λ machine stands restarts.
    let p = c.loop-lines.invariant.progress in
    let reader = c.advance.new.self in
    let none = ap first_lf c.rest-2.ensures ∙ subst (IsUnended reader) c.if-branch.false c.in_ok-advance.ensures.unended in
    let logs = g.D.Ground.logs c.args.desk.now in
    let before = g.K.Sink.written c.args.sink.now in
    let Now = StandsFor (of_link g) (of_log g) c.loop-lines.teller.system in
    let Next = StandsFor (of_link g) (of_log g) c.tell-2.new.self.system in
    wrote-if logs machine (g.S.Source.left c.args.source.now) (g.S.Source.left c.advance.new.source) before (g.K.Sink.written c.tell-2.new.sink)
    ⊥ _ _ _ c.tell-2.result restarts (line-stop-if ⊥ _ _ _ c.tell-2.result c.tell-2.ensures.stop) (λ told.
    last-wrote logs machine before told Now Next c.loop-lines.teller.counts c.tell-2.new.self.counts (g.K.Sink.written c.loop-lines.sink)
    (g.K.Sink.written c.tell-2.new.sink) p.done c.rest-2.result.now p.clean none (p.told machine stands) _ _ _ c.tell-2.result c.tell-2.ensures.stop
    c.tell-2.new.self.counts.counted (λ m s. under _ _ _ _ c.loop-lines.invariant.desk (c.tell-2.ensures.told m s)))
    (unended-told-if logs machine before (g.S.Source.left c.args.source.now) (g.S.Source.left c.loop-lines.source)
    (g.S.Source.left c.advance.new.source) Now c.loop-lines.teller.counts (g.K.Sink.written c.loop-lines.sink) p.done (p.told machine stands) reader
    Next c.tell-2.new.self.counts (g.K.Sink.written c.tell-2.new.sink) c.rest-2.result.now
    c.tell-2.new.self.counts.counted c.tell-2.result (λ m s. under _ _ _ _ c.loop-lines.invariant.desk (c.tell-2.ensures.told m s))
    (unended-there g c) c.rest-2.ensures (something-left g c) _ _ _ c.tell-2.ensures.stop)

pub returns-then-is_empty-clause-spent : goal.returns-then-is_empty-clause-spent
returns-then-is_empty-clause-spent g c = spent-if (g.S.Source.left c.args.source.now) _ _ c.advance.new.self (ended-there g c)

pub returns-clause-spent : goal.returns-clause-spent
returns-clause-spent g c =
    on-any c.tell-2.result (spent-if (g.S.Source.left c.args.source.now) _ _ c.advance.new.self (unended-there g c))

pub returns-in_err-advance-clause-near : goal.returns-in_err-advance-clause-near
returns-in_err-advance-clause-near g c =
    let p = c.loop-lines.invariant.progress in
    let e = err_from_is_err_and c.from_residual.result c.from_residual.ensures.1 in
    rw (e.1, e.2) (λ machine stands.
    advance-near-if (g.D.Ground.logs c.args.desk.now) machine (g.K.Sink.written c.args.sink.now) (g.S.Source.left c.args.source.now)
    (g.S.Source.left c.advance.new.source) (StandsFor (of_link g) (of_log g) c.loop-lines.teller.system)
    c.loop-lines.teller.counts (g.K.Sink.written c.loop-lines.sink) p.done (p.told machine stands) c.advance.new.self
    (g.S.Source.left c.loop-lines.source) c.loop-lines.lines c.in_err-advance.field-0.0 _ _ c.in_err-advance.ensures.stop p.at
    c.in_err-advance.ensures.advance)

pub returns-in_err-tell-clause-near : goal.returns-in_err-tell-clause-near
returns-in_err-tell-clause-near g c =
    let p = c.loop-lines.invariant.progress in
    let e = err_from_is_err_and c.from_residual-in_err-tell.result c.from_residual-in_err-tell.ensures.1 in
    rw (e.1, e.2) (λ machine stands.
    line-near-if (g.D.Ground.logs c.args.desk.now) machine (g.K.Sink.written c.args.sink.now) (g.S.Source.left c.args.source.now)
    (g.S.Source.left c.advance.new.source) (StandsFor (of_link g) (of_log g) c.loop-lines.teller.system)
    c.loop-lines.teller.counts (g.K.Sink.written c.loop-lines.sink) p.done (p.told machine stands) c.advance.new.self
    (StandsFor (of_link g) (of_log g) c.tell.new.self.system) c.tell.new.self.counts (g.K.Sink.written c.tell.new.sink) c.line.result.now
    p.numbered c.in_err-tell.field-0.0 (λ m s. under _ _ _ _ c.loop-lines.invariant.desk (c.in_err-tell.ensures.told m s)) (given-at g c)
    (short-next (g.S.Source.left c.args.source.now) (g.S.Source.left c.loop-lines.source) p.done c.loop-lines.lines c.advance.new.self p.at
    c.loop-lines.invariant.short _ c.if-branch.true c.in_ok-advance.ensures.near))

pub returns-clause-near : goal.returns-clause-near
returns-clause-near g c = λ machine stands.
    let p = c.loop-lines.invariant.progress in
    unended-near-if (g.D.Ground.logs c.args.desk.now) machine (g.K.Sink.written c.args.sink.now) (g.S.Source.left c.args.source.now)
    (g.S.Source.left c.advance.new.source) (StandsFor (of_link g) (of_log g) c.loop-lines.teller.system)
    c.loop-lines.teller.counts (g.K.Sink.written c.loop-lines.sink) p.done (p.told machine stands) c.advance.new.self
    (StandsFor (of_link g) (of_log g) c.tell-2.new.self.system) c.tell-2.new.self.counts (g.K.Sink.written c.tell-2.new.sink) c.rest-2.result.now
    p.numbered c.tell-2.result (λ m s. under _ _ _ _ c.loop-lines.invariant.desk (c.tell-2.ensures.told m s)) (unended-there g c)
    c.rest-2.ensures (something-left g c)
