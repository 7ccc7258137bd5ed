use Rattle.std.proofs.Common.{◌≡◌, ◌++◌, drop, take}
use Rattle.std.specs.List.{AllByRecursion}
use Rattle.cs_group.specs.Judging.{accepted, judged}
use Rattle.cs_group.specs.Taking.{FitsRow, with_item}
use Rattle.cs_group.proofs.state.State.take_all.Given as goal

-- what was found, with what the rest gives, is what all give
abbrev pub invariant-loop-change : goal.invariant-loop-change
invariant-loop-change l = record {
  verdicts : l.verdicts ++ judged l.sums l.self (drop l.change-index l.changes) ≡ judged l.sums l.initial.self l.changes;
  after : with_item l.sums l.self (accepted (judged l.sums l.self (drop l.change-index l.changes)))
      ≡ with_item l.sums l.initial.self (accepted (judged l.sums l.initial.self l.changes));
  allowed : AllByRecursion FitsRow (take l.change-index l.changes);
}
