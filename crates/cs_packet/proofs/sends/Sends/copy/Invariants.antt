use Rattle.std.proofs.Common.{◌≡◌, take}
use Rattle.cs_packet.proofs.sends.Sends.copy.Given as goal

-- the copies are those of the packets so far
abbrev pub invariant-loop-send : goal.invariant-loop-send
invariant-loop-send l = l.copies ≡ take l.send-index l.self
