use Rattle.std.proofs.Common.{ap, subst}
use Rattle.cs_log.specs.contracts.arming.ArmingLog.TheImpl as arming
use Rattle.cs_world.specs.Desk.{DeskTold}
use Rattle.cs_world.specs.contracts.tap.TapLink.TheImpl as tap
use Rattle.census.specs.Restarts.{RestartsAreTold}
use Rattle.census.specs.Run.{LinesEndIn, TellsLogs, TellsTraffic}
use Rattle.census.specs.Standing.{StandsFor}
use Rattle.census.specs.Systems.{System, begun}
use Rattle.census.specs.Text.{counted_lines, lines_of}
use Rattle.census.specs.declared.system.System.{System as Code}
use Rattle.census.proofs.Restarts.{LinesEndIn-logs}
use Rattle.census.proofs.Transcripts.{LinesEndIn-weaker, if-step}
use Rattle.census.proofs.running.tell_source.Given.{Over}
use Rattle.census.proofs.running.tell_source.Goals as goal

-- what the code's system stands for
abbrev StandsIn : (g : Over) → Code g.row.D.Denot g.row.D-Wire.Denot g.row.D-Store.Denot g.D.Wire.Link → System → Type 0
StandsIn g system =
    StandsFor (tap.ghosts g.row.D-Wire g.D.Wire.Link g.D.Wire.Link-dict) (arming.ghosts g.row.D-Store g.D.Store.Log g.D.Store.Log-dict) system

pub returns-clause-logs : goal.returns-clause-logs
returns-clause-logs g c =
    let same = ap (λ (desk : DeskTold). desk.logs) c.tell_lines-told.ensures.desk.others in
    let before = g.D.Ground.logs c.args.desk.now in
    let after = g.D.Ground.logs c.finish.new.desk in
    if-step (g.S.Source.left c.args.source.now)
    (λ text. RestartsAreTold before (counted_lines text)
    → LinesEndIn (begun c.args.form) (StandsIn g c.tell_lines-told.new.teller.system) (lines_of text) c.tell_lines-told.result)
    (λ text. LinesEndIn (begun c.args.form) (TellsLogs before after) (lines_of text) c.tell_lines-told.result)
    (λ text last.
    LinesEndIn-logs before after (begun c.args.form) (lines_of text) c.tell_lines-told.result (λ restarts.
    LinesEndIn-weaker (StandsIn g c.tell_lines-told.new.teller.system) (TellsLogs before after) (begun c.args.form) (lines_of text)
    c.tell_lines-told.result (λ machine stands. subst (λ b. TellsLogs b after machine) same (c.finish.ensures.logs machine stands)) (last restarts)))
    (c.tell_lines-told.ensures.last (begun c.args.form) c.new-teller.ensures.stands)

pub returns-clause-traffic : goal.returns-clause-traffic
returns-clause-traffic g c =
    let same = ap (λ (desk : DeskTold). desk.traffic) c.tell_lines-told.ensures.desk.others in
    let before = g.D.Ground.traffic c.args.desk.now in
    let after = g.D.Ground.traffic c.finish.new.desk in
    let logs = g.D.Ground.logs c.args.desk.now in
    if-step (g.S.Source.left c.args.source.now)
    (λ text. RestartsAreTold logs (counted_lines text)
    → LinesEndIn (begun c.args.form) (StandsIn g c.tell_lines-told.new.teller.system) (lines_of text) c.tell_lines-told.result)
    (λ text. RestartsAreTold logs (counted_lines text) → LinesEndIn (begun c.args.form) (TellsTraffic before after) (lines_of text) c.tell_lines-told.result)
    (λ text last restarts.
    LinesEndIn-weaker (StandsIn g c.tell_lines-told.new.teller.system) (TellsTraffic before after) (begun c.args.form) (lines_of text)
    c.tell_lines-told.result (λ machine stands. subst (λ b. TellsTraffic b after machine) same (c.finish.ensures.traffic machine stands)) (last restarts))
    (c.tell_lines-told.ensures.last (begun c.args.form) c.new-teller.ensures.stands)

pub returns-clause-wrote : goal.returns-clause-wrote
returns-clause-wrote g c = c.tell_lines-told.ensures.wrote (begun c.args.form) c.new-teller.ensures.stands
