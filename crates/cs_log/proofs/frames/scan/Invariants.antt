use Rattle.std.proofs.Common.{length}
use Rattle.cs_log.proofs.Readings.{IsReadTo}
use Rattle.cs_log.proofs.frames.scan.Given as goal

-- the frames so far and the rest are the bytes
abbrev pub invariant-loop-payload : goal.invariant-loop-payload
invariant-loop-payload l = IsReadTo l.bytes l.frames.items l.place l.rest

abbrev pub decreases-loop-payload : goal.decreases-loop-payload
decreases-loop-payload l = length l.rest
