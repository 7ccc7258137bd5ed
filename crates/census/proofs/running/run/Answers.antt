use Rattle.std.proofs.Common.{◌≡◌, ℕ, Some, IfSome, Ok, Err, ap, ◌∙◌, subst}
use Rattle.census.specs.Commands.{IsAsked}
use Rattle.cs_world.specs.Desk.{desk_told}
use Rattle.census.specs.Drilled.{drilled}
use Rattle.census.specs.Lived.{FieldRose, WritesLife}
use Rattle.census.specs.Run.{EndsNear, IsDrillEnd, IsTextStop, LinesEndIn, SourceIsTold, TellsLogs, TellsTraffic, WritesOfLines}
use Rattle.census.specs.Run.{WritesSummary, WritesTranscript}
use Rattle.census.specs.Systems.{Many, System, begun}
use Rattle.census.specs.Restarts.{RestartsAreTold, TellsRestarts}
use Rattle.census.specs.Text.{counted_lines, lines_of}
use Rattle.census.specs.Transcript.{last_system}
use Rattle.census.specs.declared.command.Command.TheVariants.{Drill, Live, Tell}
use Rattle.census.specs.declared.status.Status.TheVariants.{Done}
use Rattle.census.specs.declared.form.Form.{Form}
use Rattle.census.specs.declared.form.Form.TheVariants.{Replay}
use Rattle.census.proofs.Asking.{asks-drill, asks-form, asks-live, asks-no-form, asks-nothing, lives-no-form}
use Rattle.census.proofs.LifeBlocks.{life-written}
use Rattle.census.proofs.RunBlocks.{WritesGoodBlocks, lines_written}
use Rattle.census.proofs.Transcripts.{WritesTranscript-source, ends_in-told, if-step, with-restarts}
use Rattle.census.proofs.running.run.Given.{Over}
use Rattle.census.proofs.running.run.Goals as goal

pub returns-in-None-clause-transcript : goal.returns-in-None-clause-transcript
returns-in-None-clause-transcript g c = λ form. asks-nothing c.args.words.now c.command.result c.command.ensures.only c.in-None.is (Tell form)

pub returns-in-None-clause-ended : goal.returns-in-None-clause-ended
returns-in-None-clause-ended g c = λ form. asks-nothing c.args.words.now c.command.result c.command.ensures.only c.in-None.is (Tell form)

pub returns-in-None-clause-lines : goal.returns-in-None-clause-lines
returns-in-None-clause-lines g c = λ form. asks-nothing c.args.words.now c.command.result c.command.ensures.only c.in-None.is (Tell form)

pub returns-in-None-clause-done : goal.returns-in-None-clause-done
returns-in-None-clause-done g c = λ form. asks-nothing c.args.words.now c.command.result c.command.ensures.only c.in-None.is (Tell form)

pub returns-in-None-clause-logs : goal.returns-in-None-clause-logs
returns-in-None-clause-logs g c = λ form. asks-nothing c.args.words.now c.command.result c.command.ensures.only c.in-None.is (Tell form)

pub returns-in-None-clause-traffic : goal.returns-in-None-clause-traffic
returns-in-None-clause-traffic g c = λ form. asks-nothing c.args.words.now c.command.result c.command.ensures.only c.in-None.is (Tell form)

pub returns-in-None-clause-agree : goal.returns-in-None-clause-agree
returns-in-None-clause-agree g c = asks-nothing c.args.words.now c.command.result c.command.ensures.only c.in-None.is (Tell Replay)

pub returns-in-None-clause-epochs : goal.returns-in-None-clause-epochs
returns-in-None-clause-epochs g c = asks-nothing c.args.words.now c.command.result c.command.ensures.only c.in-None.is (Tell Replay)

pub returns-in-None-clause-trees : goal.returns-in-None-clause-trees
returns-in-None-clause-trees g c = asks-nothing c.args.words.now c.command.result c.command.ensures.only c.in-None.is (Tell Replay)

pub returns-in-None-clause-summary : goal.returns-in-None-clause-summary
returns-in-None-clause-summary g c = λ nodes seed. asks-nothing c.args.words.now c.command.result c.command.ensures.only c.in-None.is (Drill nodes seed)

pub returns-in-None-clause-drill_end : goal.returns-in-None-clause-drill_end
returns-in-None-clause-drill_end g c = λ nodes seed. asks-nothing c.args.words.now c.command.result c.command.ensures.only c.in-None.is (Drill nodes seed)

pub returns-in-None-clause-drill_logs : goal.returns-in-None-clause-drill_logs
returns-in-None-clause-drill_logs g c = λ nodes seed. asks-nothing c.args.words.now c.command.result c.command.ensures.only c.in-None.is (Drill nodes seed)

pub returns-in-None-clause-drill_traffic : goal.returns-in-None-clause-drill_traffic
returns-in-None-clause-drill_traffic g c = λ nodes seed. asks-nothing c.args.words.now c.command.result c.command.ensures.only c.in-None.is (Drill nodes seed)

pub returns-in-None-clause-unread : goal.returns-in-None-clause-unread
returns-in-None-clause-unread g c = λ nodes seed. asks-nothing c.args.words.now c.command.result c.command.ensures.only c.in-None.is (Drill nodes seed)

pub returns-in-None-clause-life : goal.returns-in-None-clause-life
returns-in-None-clause-life g c = λ nodes port. asks-nothing c.args.words.now c.command.result c.command.ensures.only c.in-None.is (Live nodes port)

-- what holds of the drill that was found holds of the one that the words ask for
of-drill : (g : Over) (c : goal.After-drill g) (P : ℕ → ℕ → Type 0) → P c.in-Some-Drill.nodes c.in-Some-Drill.seed
    → (nodes seed : ℕ) → IsAsked c.args.words.now (Drill nodes seed) → P nodes seed
of-drill g c P holds nodes seed asked =
    let same = asks-drill c.args.words.now c.command.result c.command.ensures.only c.in-Some-Drill.nodes c.in-Some-Drill.seed
    (c.in-Some-Drill.is ∙ ap Some c.in-Some-Drill.field-0-is) nodes seed asked in
    subst (λ n. P n seed) same.0 (subst (P c.in-Some-Drill.nodes) same.1 holds)

pub returns-in-Some-Drill-clause-usage : goal.returns-in-Some-Drill-clause-usage
returns-in-Some-Drill-clause-usage g c = (
  λ is. absurd (subst (λ status. IsDrillEnd status (c.drill.new.sink ≡ c.args.sink.now)) is c.drill.ensures.end),
  λ none. absurd (none (Drill c.in-Some-Drill.nodes c.in-Some-Drill.seed)
      (subst (IsAsked c.args.words.now) c.in-Some-Drill.field-0-is c.in-Some-Drill.ensures.found)),
)

pub returns-in-Some-Drill-clause-lines : goal.returns-in-Some-Drill-clause-lines
returns-in-Some-Drill-clause-lines g c =
    asks-no-form c.args.words.now c.command.result c.command.ensures.only c.in-Some-Drill.nodes c.in-Some-Drill.seed
    (c.in-Some-Drill.is ∙ ap Some c.in-Some-Drill.field-0-is)

pub returns-in-Some-Drill-clause-summary : goal.returns-in-Some-Drill-clause-summary
returns-in-Some-Drill-clause-summary g c = λ nodes seed asked told.
    of-drill g c (λ n s. WritesSummary c.drill.result n s (g.K.Sink.written c.args.sink.now) (g.K.Sink.written c.drill.new.sink))
    (c.drill.ensures.summary told) nodes seed asked

pub returns-in-Some-Drill-clause-drill_end : goal.returns-in-Some-Drill-clause-drill_end
returns-in-Some-Drill-clause-drill_end g c = λ nodes seed asked. c.drill.ensures.end

pub returns-in-Some-Drill-clause-drill_logs : goal.returns-in-Some-Drill-clause-drill_logs
returns-in-Some-Drill-clause-drill_logs g c = λ nodes seed asked done.
    of-drill g c (λ n s. TellsLogs (g.D.Ground.logs c.args.desk.now) (g.D.Ground.logs c.drill.new.desk) (Many (drilled n s)))
    (c.drill.ensures.logs done) nodes seed asked

pub returns-in-Some-Drill-clause-drill_traffic : goal.returns-in-Some-Drill-clause-drill_traffic
returns-in-Some-Drill-clause-drill_traffic g c = λ nodes seed asked done told.
    of-drill g c (λ n s. TellsTraffic (g.D.Ground.traffic c.args.desk.now) (g.D.Ground.traffic c.drill.new.desk) (Many (drilled n s)))
    (c.drill.ensures.traffic done told) nodes seed asked

-- what holds of the live run that was found holds of the one that the words ask for
of-live : (g : Over) (c : goal.After-live g) (P : ℕ → ℕ → Type 0) → P c.in-Some-Live.nodes c.in-Some-Live.port
    → (nodes port : ℕ) → IsAsked c.args.words.now (Live nodes port) → P nodes port
of-live g c P holds nodes port asked =
    let same = asks-live c.args.words.now c.command.result c.command.ensures.only c.in-Some-Live.nodes c.in-Some-Live.port
    (c.in-Some-Live.is ∙ ap Some c.in-Some-Live.field-0-is) nodes port asked in
    subst (λ n. P n port) same.0 (subst (P c.in-Some-Live.nodes) same.1 holds)

-- the blocks that it wrote are good
blocks-in-Live : (g : Over) (c : goal.After-live g) → WritesGoodBlocks (g.K.Sink.written c.args.sink.now) (g.K.Sink.written c.live.new.sink)
blocks-in-Live g c = life-written c.live.result c.in-Some-Live.nodes c.in-Some-Live.port _ _ _ c.live.ensures.life

pub returns-in-Some-Live-clause-lines : goal.returns-in-Some-Live-clause-lines
returns-in-Some-Live-clause-lines g c =
    lives-no-form c.args.words.now c.command.result c.command.ensures.only c.in-Some-Live.nodes c.in-Some-Live.port
    (c.in-Some-Live.is ∙ ap Some c.in-Some-Live.field-0-is)

pub returns-in-Some-Live-clause-life : goal.returns-in-Some-Live-clause-life
returns-in-Some-Live-clause-life g c =
    of-live g c (λ n p. WritesLife c.live.result n p (g.K.Sink.written c.args.sink.now) (g.K.Sink.written c.live.new.sink)
    (FieldRose (desk_told g.F.Ground c.args.field.now) (desk_told g.F.Ground c.live.new.field))) c.live.ensures.life

pub returns-in-Some-Live-clause-life_agree : goal.returns-in-Some-Live-clause-life_agree
returns-in-Some-Live-clause-life_agree g c = λ asked. (blocks-in-Live g c).agree

pub returns-in-Some-Live-clause-life_epochs : goal.returns-in-Some-Live-clause-life_epochs
returns-in-Some-Live-clause-life_epochs g c = λ asked. (blocks-in-Live g c).epochs

pub returns-in-Some-Live-clause-life_trees : goal.returns-in-Some-Live-clause-life_trees
returns-in-Some-Live-clause-life_trees g c = λ asked. (blocks-in-Live g c).trees

-- the form that was found is the one that the words ask for, where all was told
form-in-Ok : (g : Over) (c : goal.In-Ok g) (form : Form) → IsAsked c.args.words.now (Tell form) → c.in-Some-Tell.form ≡ form
form-in-Ok g c =
    asks-form c.args.words.now c.command.result c.command.ensures.only c.in-Some-Tell.form (c.in-Some-Tell.is ∙ ap Some c.in-Some-Tell.field-0-is)

-- what was told then
told-in-Ok : (g : Over) (c : goal.In-Ok g) (form : Form) → IsAsked c.args.words.now (Tell form)
    → IfSome (g.S.Source.left c.args.source.now) (λ text. RestartsAreTold (g.D.Ground.logs c.args.desk.now) (counted_lines text)
    → SourceIsTold (begun form) text (g.S.Source.left c.tell_source.new.source) (g.K.Sink.written c.args.sink.now)
    (g.K.Sink.written c.tell_source.new.sink) (Ok c.in-Ok.field-0))
told-in-Ok g c form asked =
    subst (λ f. IfSome (g.S.Source.left c.args.source.now) (λ text. RestartsAreTold (g.D.Ground.logs c.args.desk.now) (counted_lines text)
    → SourceIsTold (begun f) text (g.S.Source.left c.tell_source.new.source) (g.K.Sink.written c.args.sink.now)
    (g.K.Sink.written c.tell_source.new.sink) (Ok c.in-Ok.field-0))) (form-in-Ok g c form asked) c.in-Ok.ensures.told

-- so the transcript was written
written-in-Ok : (g : Over) (c : goal.In-Ok g) (form : Form) → IsAsked c.args.words.now (Tell form)
    → TellsRestarts (g.D.Ground.logs c.args.desk.now) (g.S.Source.left c.args.source.now) → IfSome (g.S.Source.left c.args.source.now)
    (λ text. WritesTranscript form Done text (g.K.Sink.written c.args.sink.now) (g.K.Sink.written c.tell_source.new.sink))
written-in-Ok g c form asked restarts =
    let now = g.S.Source.left c.tell_source.new.source in
    let before = g.K.Sink.written c.args.sink.now in
    let after = g.K.Sink.written c.tell_source.new.sink in
    with-restarts (g.D.Ground.logs c.args.desk.now) (g.S.Source.left c.args.source.now)
    (λ text. SourceIsTold (begun form) text now before after (Ok c.in-Ok.field-0)) (λ text. WritesTranscript form Done text before after) restarts
    (told-in-Ok g c form asked) (λ text told. WritesTranscript-source form text now before after ⊥ ⊥ ⊥ ⊥ (Ok c.in-Ok.field-0) tt told)

pub returns-in-Ok-clause-usage : goal.returns-in-Ok-clause-usage
returns-in-Ok-clause-usage g c = (
  λ is. absurd (cc),
  λ none. absurd (none (Tell c.in-Some-Tell.form) (subst (IsAsked c.args.words.now) c.in-Some-Tell.field-0-is c.in-Some-Tell.ensures.found)),
)

pub returns-in-Ok-clause-transcript : goal.returns-in-Ok-clause-transcript
returns-in-Ok-clause-transcript g c = written-in-Ok g c

-- the form that was found is the one that the words ask for, where the run ended before
form-in-Err : (g : Over) (c : goal.In-Err g) (form : Form) → IsAsked c.args.words.now (Tell form) → c.in-Some-Tell.form ≡ form
form-in-Err g c =
    asks-form c.args.words.now c.command.result c.command.ensures.only c.in-Some-Tell.form (c.in-Some-Tell.is ∙ ap Some c.in-Some-Tell.field-0-is)

-- what was told then
told-in-Err : (g : Over) (c : goal.In-Err g) (form : Form) → IsAsked c.args.words.now (Tell form)
    → IfSome (g.S.Source.left c.args.source.now) (λ text. RestartsAreTold (g.D.Ground.logs c.args.desk.now) (counted_lines text)
    → SourceIsTold (begun form) text (g.S.Source.left c.tell_source.new.source) (g.K.Sink.written c.args.sink.now)
    (g.K.Sink.written c.tell_source.new.sink) (Err c.in-Err.status))
told-in-Err g c form asked =
    subst (λ f. IfSome (g.S.Source.left c.args.source.now) (λ text. RestartsAreTold (g.D.Ground.logs c.args.desk.now) (counted_lines text)
    → SourceIsTold (begun f) text (g.S.Source.left c.tell_source.new.source) (g.K.Sink.written c.args.sink.now)
    (g.K.Sink.written c.tell_source.new.sink) (Err c.in-Err.status))) (form-in-Err g c form asked) c.in-Err.ensures.told

-- so the transcript was written
written-in-Err : (g : Over) (c : goal.In-Err g) (form : Form) → IsAsked c.args.words.now (Tell form)
    → TellsRestarts (g.D.Ground.logs c.args.desk.now) (g.S.Source.left c.args.source.now) → IfSome (g.S.Source.left c.args.source.now)
    (λ text. WritesTranscript form c.in-Err.status text (g.K.Sink.written c.args.sink.now) (g.K.Sink.written c.tell_source.new.sink))
written-in-Err g c form asked restarts =
    let now = g.S.Source.left c.tell_source.new.source in
    let before = g.K.Sink.written c.args.sink.now in
    let after = g.K.Sink.written c.tell_source.new.sink in
    with-restarts (g.D.Ground.logs c.args.desk.now) (g.S.Source.left c.args.source.now)
    (λ text. SourceIsTold (begun form) text now before after (Err c.in-Err.status)) (λ text. WritesTranscript form c.in-Err.status text before after) restarts
    (told-in-Err g c form asked) (λ text told. WritesTranscript-source form text now before after _ _ _ _ (Err c.in-Err.status) c.in-Err.ensures.stop told)

pub returns-in-Err-clause-usage : goal.returns-in-Err-clause-usage
returns-in-Err-clause-usage g c = (
  λ is. absurd (subst (IsTextStop _ _ _ _) is c.in-Err.ensures.stop),
  λ none. absurd (none (Tell c.in-Some-Tell.form) (subst (IsAsked c.args.words.now) c.in-Some-Tell.field-0-is c.in-Some-Tell.ensures.found)),
)

pub returns-in-Err-clause-transcript : goal.returns-in-Err-clause-transcript
returns-in-Err-clause-transcript g c = written-in-Err g c

pub returns-in-Ok-clause-ended : goal.returns-in-Ok-clause-ended
returns-in-Ok-clause-ended g c = λ form asked restarts is. absurd (cc)

pub returns-in-Ok-clause-done : goal.returns-in-Ok-clause-done
returns-in-Ok-clause-done g c = λ form asked done. c.in-Ok.ensures.spent

pub returns-in-Ok-clause-lines : goal.returns-in-Ok-clause-lines
returns-in-Ok-clause-lines g c = λ form asked. c.in-Ok.ensures.read

-- the blocks that a replay wrote are good
blocks-in-Ok : (g : Over) (c : goal.In-Ok g) → IsAsked c.args.words.now (Tell Replay)
    → TellsRestarts (g.D.Ground.logs c.args.desk.now) (g.S.Source.left c.args.source.now)
    → WritesGoodBlocks (g.K.Sink.written c.args.sink.now) (g.K.Sink.written c.tell_source.new.sink)
blocks-in-Ok g c asked restarts =
    lines_written _ _ (subst (λ f. WritesOfLines (begun f) (g.K.Sink.written c.args.sink.now) (g.K.Sink.written c.tell_source.new.sink))
    (form-in-Ok g c Replay asked) (c.in-Ok.ensures.wrote restarts))

pub returns-in-Ok-clause-agree : goal.returns-in-Ok-clause-agree
returns-in-Ok-clause-agree g c = λ asked restarts. (blocks-in-Ok g c asked restarts).agree

pub returns-in-Ok-clause-epochs : goal.returns-in-Ok-clause-epochs
returns-in-Ok-clause-epochs g c = λ asked restarts. (blocks-in-Ok g c asked restarts).epochs

pub returns-in-Ok-clause-trees : goal.returns-in-Ok-clause-trees
returns-in-Ok-clause-trees g c = λ asked restarts. (blocks-in-Ok g c asked restarts).trees

pub returns-in-Ok-clause-logs : goal.returns-in-Ok-clause-logs
returns-in-Ok-clause-logs g c = λ form asked ended.
    let IsKind : System → Type 0 = TellsLogs (g.D.Ground.logs c.args.desk.now) (g.D.Ground.logs c.tell_source.new.desk) in
    if-step (g.S.Source.left c.args.source.now) (λ text. LinesEndIn (begun form) IsKind (lines_of text) (Ok c.in-Ok.field-0))
    (λ text. IsKind (last_system form text))
    (λ text last. ends_in-told IsKind Done (last_system form text) last ended)
    (subst (λ f. IfSome (g.S.Source.left c.args.source.now) (λ text. LinesEndIn (begun f) IsKind (lines_of text) (Ok c.in-Ok.field-0)))
    (form-in-Ok g c form asked) c.in-Ok.ensures.logs)

pub returns-in-Ok-clause-traffic : goal.returns-in-Ok-clause-traffic
returns-in-Ok-clause-traffic g c = λ form asked restarts ended.
    let IsKind : System → Type 0 = TellsTraffic (g.D.Ground.traffic c.args.desk.now) (g.D.Ground.traffic c.tell_source.new.desk) in
    with-restarts (g.D.Ground.logs c.args.desk.now) (g.S.Source.left c.args.source.now)
    (λ text. LinesEndIn (begun form) IsKind (lines_of text) (Ok c.in-Ok.field-0))
    (λ text. IsKind (last_system form text)) restarts
    (subst (λ f. IfSome (g.S.Source.left c.args.source.now) (λ text. RestartsAreTold (g.D.Ground.logs c.args.desk.now) (counted_lines text)
    → LinesEndIn (begun f) IsKind (lines_of text) (Ok c.in-Ok.field-0))) (form-in-Ok g c form asked) c.in-Ok.ensures.traffic)
    (λ text last. ends_in-told IsKind Done (last_system form text) last ended)

pub returns-in-Err-clause-ended : goal.returns-in-Err-clause-ended
returns-in-Err-clause-ended g c = λ form asked restarts is.
    with-restarts (g.D.Ground.logs c.args.desk.now) (g.S.Source.left c.args.source.now) _ _ restarts (told-in-Err g c form asked) (λ text told.
    (subst (λ s. SourceIsTold (begun form) text (g.S.Source.left c.tell_source.new.source) (g.K.Sink.written c.args.sink.now)
    (g.K.Sink.written c.tell_source.new.sink) (Err s)) is told).0)

pub returns-in-Err-clause-near : goal.returns-in-Err-clause-near
returns-in-Err-clause-near g c = λ form asked restarts.
    let now = g.S.Source.left c.tell_source.new.source in
    with-restarts (g.D.Ground.logs c.args.desk.now) (g.S.Source.left c.args.source.now) _ _ restarts
    (subst (λ f. IfSome (g.S.Source.left c.args.source.now) (λ text. RestartsAreTold (g.D.Ground.logs c.args.desk.now) (counted_lines text)
    → EndsNear (begun f) text now c.in-Err.status)) (form-in-Err g c form asked) c.in-Err.ensures.near) (λ text near. near)

pub returns-in-Err-clause-done : goal.returns-in-Err-clause-done
returns-in-Err-clause-done g c = λ form asked done. absurd (subst (IsTextStop _ _ _ _) done c.in-Err.ensures.stop)

pub returns-in-Err-clause-lines : goal.returns-in-Err-clause-lines
returns-in-Err-clause-lines g c = λ form asked. c.in-Err.ensures.read

-- the blocks that a replay wrote are good
blocks-in-Err : (g : Over) (c : goal.In-Err g) → IsAsked c.args.words.now (Tell Replay)
    → TellsRestarts (g.D.Ground.logs c.args.desk.now) (g.S.Source.left c.args.source.now)
    → WritesGoodBlocks (g.K.Sink.written c.args.sink.now) (g.K.Sink.written c.tell_source.new.sink)
blocks-in-Err g c asked restarts =
    lines_written _ _ (subst (λ f. WritesOfLines (begun f) (g.K.Sink.written c.args.sink.now) (g.K.Sink.written c.tell_source.new.sink))
    (form-in-Err g c Replay asked) (c.in-Err.ensures.wrote restarts))

pub returns-in-Err-clause-agree : goal.returns-in-Err-clause-agree
returns-in-Err-clause-agree g c = λ asked restarts. (blocks-in-Err g c asked restarts).agree

pub returns-in-Err-clause-epochs : goal.returns-in-Err-clause-epochs
returns-in-Err-clause-epochs g c = λ asked restarts. (blocks-in-Err g c asked restarts).epochs

pub returns-in-Err-clause-trees : goal.returns-in-Err-clause-trees
returns-in-Err-clause-trees g c = λ asked restarts. (blocks-in-Err g c asked restarts).trees

pub returns-in-Err-clause-logs : goal.returns-in-Err-clause-logs
returns-in-Err-clause-logs g c = λ form asked ended.
    let IsKind : System → Type 0 = TellsLogs (g.D.Ground.logs c.args.desk.now) (g.D.Ground.logs c.tell_source.new.desk) in
    if-step (g.S.Source.left c.args.source.now) (λ text. LinesEndIn (begun form) IsKind (lines_of text) (Err c.in-Err.status))
    (λ text. IsKind (last_system form text))
    (λ text last. ends_in-told IsKind c.in-Err.status (last_system form text) last ended)
    (subst (λ f. IfSome (g.S.Source.left c.args.source.now) (λ text. LinesEndIn (begun f) IsKind (lines_of text) (Err c.in-Err.status)))
    (form-in-Err g c form asked) c.in-Err.ensures.logs)

pub returns-in-Err-clause-traffic : goal.returns-in-Err-clause-traffic
returns-in-Err-clause-traffic g c = λ form asked restarts ended.
    let IsKind : System → Type 0 = TellsTraffic (g.D.Ground.traffic c.args.desk.now) (g.D.Ground.traffic c.tell_source.new.desk) in
    with-restarts (g.D.Ground.logs c.args.desk.now) (g.S.Source.left c.args.source.now)
    (λ text. LinesEndIn (begun form) IsKind (lines_of text) (Err c.in-Err.status))
    (λ text. IsKind (last_system form text)) restarts
    (subst (λ f. IfSome (g.S.Source.left c.args.source.now) (λ text. RestartsAreTold (g.D.Ground.logs c.args.desk.now) (counted_lines text)
    → LinesEndIn (begun f) IsKind (lines_of text) (Err c.in-Err.status))) (form-in-Err g c form asked) c.in-Err.ensures.traffic)
    (λ text last. ends_in-told IsKind c.in-Err.status (last_system form text) last ended)
