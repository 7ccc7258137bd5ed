-- the frames that are left have the last base, or it begins at this place
use Rattle.std.proofs.Common.{◌≡◌, ◌≤◌, drop}
use Rattle.std.specs.Option.{unwrap_or}
use Rattle.cs_node.specs.Folding.{from_last_base}
use Rattle.cs_node.proofs.folding.from_last_base.Given as goal

abbrev pub invariant-loop-i : goal.invariant-loop-i
invariant-loop-i l = record {
  from : l.from ≤ l.i;
  seen : unwrap_or (from_last_base l.frames) l.frames ≡ unwrap_or (from_last_base (drop l.i l.frames)) (drop l.from l.frames);
}
