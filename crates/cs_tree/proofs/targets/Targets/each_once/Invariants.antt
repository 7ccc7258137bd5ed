use Rattle.std.proofs.Common.{◌≡◌, ◌-◌, drop, length}
use Rattle.cs_tree.specs.Route.{each_once}
use Rattle.cs_tree.proofs.targets.Targets.each_once.Given as goal

abbrev pub invariant-loop-x : goal.invariant-loop-x
invariant-loop-x l = l.targets ≡ each_once (drop (length l.offered - length l.yielded) l.offered)
