use Rattle.std.proofs.Common.{◌≡◌, ◌≤◌, length}
use Rattle.cs_item.specs.declared.picture.Picture.{Picture}
use Rattle.cs_link.specs.declared.link.Link.{Ghosts as LinkGhosts}
use Rattle.cs_log.specs.contracts.arming.ArmingLog.TheImpl as arming
use Rattle.cs_log.specs.declared.arming.Arming.{Arming}
use Rattle.cs_log.specs.declared.log.Log.{Ghosts as LogGhosts}
use Rattle.cs_machine.specs.Names.{World}
use Rattle.cs_show.specs.Block.{digest_of}
use Rattle.cs_world.specs.Stands.{Stands}
use Rattle.cs_world.specs.contracts.tap.TapLink.TheImpl as tap
use Rattle.cs_world.specs.declared.tap.Tap.{Tap}
use Rattle.census.specs.Drilled.{agreeing, of_epoch, views_of}
use Rattle.census.proofs.summary.tally_of.Given as goal

-- what the links tell
abbrev pub of_link : (g : goal.Over) → LinkGhosts (Tap g.row.D-Wire.Denot g.D.Wire.Link)
of_link g = tap.ghosts g.row.D-Wire g.D.Wire.Link g.D.Wire.Link-dict

-- what the logs tell
abbrev pub of_log : (g : goal.Over) → LogGhosts (Arming g.row.D-Store.Denot)
of_log g = arming.ghosts g.row.D-Store g.D.Store.Log g.D.Store.Log-dict

abbrev pub invariant-loop-before : goal.invariant-loop-before
invariant-loop-before g l = record {
  few_views : l.tally.views ≤ l.before;
  few_agree : l.tally.agree ≤ l.before;
  views : (machine : World) → Stands (of_link g) (of_log g) l.world.nodes machine
      → l.tally.views ≡ length (of_epoch l.lead.epoch (views_of l.before machine));
  agree : (machine : World) (view : Picture) → Stands (of_link g) (of_log g) l.world.nodes machine → l.lead.digest ≡ digest_of view
      → l.tally.agree ≡ length (agreeing view (of_epoch l.lead.epoch (views_of l.before machine)));
}
