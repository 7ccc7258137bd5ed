use Rattle.std.proofs.Common.{take}
use Rattle.cs_link.specs.Failing.{IsNewLog, calls_of}
use Rattle.cs_link.proofs.failing.log_of.Given as goal

-- the log fails at the calls that were named so far
abbrev pub invariant-loop-named : goal.invariant-loop-named
invariant-loop-named l = IsNewLog (calls_of l.id (take l.named-index l.failing)) l.log
