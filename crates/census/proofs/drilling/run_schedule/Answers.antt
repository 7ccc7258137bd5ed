use Rattle.std.proofs.Common.{◌≡◌, false, true, OnOk, ap, subst}
use Rattle.std.specs.Prelude.{IfOk, IsSome, if◌then◌else◌}
use Rattle.std.specs.String.{string_bytes}
use Rattle.cs_link.specs.declared.link.Link.{Ghosts as LinkGhosts}
use Rattle.cs_log.specs.contracts.arming.ArmingLog.TheImpl as arming
use Rattle.cs_log.specs.declared.arming.Arming.{Arming}
use Rattle.cs_log.specs.declared.log.Log.{Ghosts as LogGhosts}
use Rattle.cs_machine.specs.Names.{empty_world}
use Rattle.cs_show.specs.Text.{text_of}
use Rattle.cs_world.specs.Desk.{DeskTold}
use Rattle.cs_world.specs.Stands.{Stands}
use Rattle.cs_world.specs.contracts.tap.TapLink.TheImpl as tap
use Rattle.cs_world.specs.declared.tap.Tap.{Tap}
use Rattle.census.specs.Drilled.{drill_ends, drill_text, drilled, passes, summary_lines, world_behind}
use Rattle.census.specs.Run.{TellsLogs, TellsTraffic}
use Rattle.census.specs.Systems.{Many}
use Rattle.census.specs.declared.status.Status.TheVariants.{Done, Limit}
use Rattle.census.proofs.Drills.{on-logs, on-ok}
use Rattle.census.proofs.drilling.run_schedule.Given.{Over}
use Rattle.census.proofs.drilling.run_schedule.Goals as goal

-- what the links tell
abbrev of_link : (g : Over) → LinkGhosts (Tap g.row.D-Wire.Denot g.D.Wire.Link)
of_link g = tap.ghosts g.row.D-Wire g.D.Wire.Link g.D.Wire.Link-dict

-- what the logs tell
abbrev of_log : (g : Over) → LogGhosts (Arming g.row.D-Store.Denot)
of_log g = arming.ghosts g.row.D-Store g.D.Store.Log g.D.Store.Log-dict

pub returns-clause-text : goal.returns-clause-text
unfolding drill_text drilled
returns-clause-text g c = λ told.
    subst (λ events. IfOk c.summary_behind-text.result
    (λ text. string_bytes text ≡ text_of (summary_lines c.args.nodes (world_behind empty_world events)))) c.in_ok-events.ensures.value
    (c.summary_behind-text.ensures.text empty_world c.replaying-world.ensures.stands told)

pub returns-clause-done : goal.returns-clause-done
unfolding drill_ends
returns-clause-done g c = λ told.
    on-ok c.summary_behind-text.result (ap (λ b. if b then Limit else Done))
    (subst (λ events. OnOk c.summary_behind-text.result (passes empty_world events ≡ false)) c.in_ok-events.ensures.value
    (c.summary_behind-text.ensures.within empty_world c.replaying-world.ensures.stands told))

pub returns-clause-limit : goal.returns-clause-limit
unfolding drill_ends
returns-clause-limit g c = λ told is.
    ap (λ b. if b then Limit else Done)
    (subst (λ events. passes empty_world events ≡ true) c.in_ok-events.ensures.value
    (c.summary_behind-text.ensures.limit empty_world c.replaying-world.ensures.stands told is))

-- the code stands for the world behind the drill
stands-behind : (g : Over) (c : goal.After-drop-events-inside g) → IsSome (g.D.Ground.logs c.args.desk.now)
    → OnOk c.summary_behind-text.result
    (Stands (of_link g) (of_log g) c.summary_behind-text.new.world.nodes (drilled c.args.nodes c.args.seed))
unfolding drilled
stands-behind g c told =
    subst (λ events. OnOk c.summary_behind-text.result
    (Stands (of_link g) (of_log g) c.summary_behind-text.new.world.nodes (world_behind empty_world events))) c.in_ok-events.ensures.value
    (c.summary_behind-text.ensures.behind empty_world c.replaying-world.ensures.stands told)

pub returns-clause-logs : goal.returns-clause-logs
returns-clause-logs g c =
    let world = drilled c.args.nodes c.args.seed in
    let same = ap (λ (desk : DeskTold). desk.logs) c.summary_behind-text.ensures.desk.others in
    let after = g.D.Ground.logs c.finish.new.desk in
    on-logs (g.D.Ground.logs c.args.desk.now) after (Many world) c.summary_behind-text.result (λ told.
    on-ok c.summary_behind-text.result (λ stands. subst (λ before. TellsLogs before after (Many world)) same (c.finish.ensures.logs world stands))
    (stands-behind g c told))

pub returns-clause-traffic : goal.returns-clause-traffic
returns-clause-traffic g c = λ told.
    let world = drilled c.args.nodes c.args.seed in
    let same = ap (λ (desk : DeskTold). desk.traffic) c.summary_behind-text.ensures.desk.others in
    let after = g.D.Ground.traffic c.finish.new.desk in
    on-ok c.summary_behind-text.result (λ stands. subst (λ before. TellsTraffic before after (Many world)) same (c.finish.ensures.traffic world stands))
    (stands-behind g c told)
