use Rattle.std.proofs.Common.{◌≡◌, ◌+◌, ◌-◌, ◌≤◌, List, ℕ, None, IfSome, length}
use Rattle.std.specs.List.{AllByRecursion}
use Rattle.cs_link.specs.declared.link.Link.{Ghosts as LinkGhosts}
use Rattle.cs_log.specs.contracts.arming.ArmingLog.TheImpl as arming
use Rattle.cs_log.specs.declared.arming.Arming.{Arming}
use Rattle.cs_log.specs.declared.log.Log.{Ghosts as LogGhosts}
use Rattle.cs_world.specs.Desk.{OnlyGrants, desk_told}
use Rattle.cs_world.specs.Seats.{AreOut}
use Rattle.cs_world.specs.contracts.tap.TapLink.TheImpl as tap
use Rattle.cs_world.specs.declared.tap.Tap.{Tap}
use Rattle.census.specs.Lines.{first_lf, most_piece}
use Rattle.census.specs.Standing.{StandsFor, nodes_in}
use Rattle.census.specs.Systems.{System}
use Rattle.census.specs.Text.{most_lines}
use Rattle.census.proofs.StreamTold.{AreDone, AreRead}
use Rattle.census.proofs.Streaming.{IsAt}
use Rattle.census.proofs.running.tell_lines.Given as goal

-- what the links tell
abbrev pub of_link : (g : goal.Over) → LinkGhosts (Tap g.row.D-Wire.Denot g.D.Wire.Link)
of_link g = tap.ghosts g.row.D-Wire g.D.Wire.Link g.D.Wire.Link-dict

-- what the logs tell
abbrev pub of_log : (g : goal.Over) → LogGhosts (Arming g.row.D-Store.Denot)
of_log g = arming.ghosts g.row.D-Store g.D.Store.Log g.D.Store.Log-dict

-- some lines were given by the reader, read and told
pub record Progress (number : ℕ) (At Told Read : List (List ℕ) → Type 0) : Type 0 where
  pub done : List (List ℕ)
  pub numbered : number ≡ length done + 1
  pub clean : AllByRecursion (λ line. first_lf line ≡ None) done
  pub at : At done
  pub told : Told done
  pub read : Read done

abbrev pub invariant-loop-lines : goal.invariant-loop-lines
invariant-loop-lines g l = record {
  progress : Progress l.teller.counts.number (λ done. IfSome (g.S.Source.left l.fn.source) (λ text. IsAt text done l.lines (g.S.Source.left l.source)))
      (λ done. (machine : System) → StandsFor (of_link g) (of_log g) l.fn.teller.system machine
      → AreDone (g.D.Ground.logs l.fn.desk) machine (g.K.Sink.written l.fn.sink) (StandsFor (of_link g) (of_log g) l.teller.system)
      l.teller.counts (g.K.Sink.written l.sink) done)
      (AreRead l.teller.counts.number);
  short : IfSome (g.S.Source.left l.fn.source) (λ text. length l.lines.rest ≤ most_piece);
  source_counts : g.S.Source.faults l.fn.source ≤ g.S.Source.faults l.source;
  counts : g.K.Sink.faults l.fn.sink ≤ g.K.Sink.faults l.sink;
  out : AreOut (g.D.Ground.out l.desk) (nodes_in l.teller.system).seats;
  desk : OnlyGrants (desk_told g.D.Ground l.fn.desk) (desk_told g.D.Ground l.desk);
}

abbrev pub decreases-loop-lines : goal.decreases-loop-lines
decreases-loop-lines g l = most_lines + 1 - l.teller.counts.number
