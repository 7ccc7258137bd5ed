use Rattle.std.proofs.Common.{◌≡◌, ◌-◌, ◌≤◌, None, IfSome, length, take}
use Rattle.cs_base.specs.Limits.{most_text}
use Rattle.census.specs.Lines.{Waits, first_lf, most_piece}
use Rattle.census.proofs.Readers.{IsShort}
use Rattle.census.proofs.lines.Lines.advance.Given as goal

abbrev pub invariant-loop-clean : goal.invariant-loop-clean
invariant-loop-clean g l = record {
  waits : IfSome (g.S.Source.left l.fn.source) (λ left. Waits l.fn.self l.self left (g.S.Source.left l.source));
  short : length l.fn.self.rest ≤ most_piece → IfSome (g.S.Source.left l.fn.source) (λ left. IsShort l.self.rest);
  within : l.clean ≤ length l.self.rest;
  clean : first_lf (take l.clean l.self.rest) ≡ None;
  counts : g.S.Source.faults l.fn.source ≤ g.S.Source.faults l.source;
}

abbrev pub decreases-loop-clean : goal.decreases-loop-clean
decreases-loop-clean g l = most_text - l.self.taken
