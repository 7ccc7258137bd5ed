use Rattle.std.proofs.Common.{take}
use Rattle.cs_link.specs.Failing.{IsNewLink, calls_of}
use Rattle.cs_link.proofs.failing.link_of.Given as goal

-- the link fails at the calls that were named so far
abbrev pub invariant-loop-named : goal.invariant-loop-named
invariant-loop-named l = IsNewLink (calls_of l.id (take l.named-index l.failing)) l.link
