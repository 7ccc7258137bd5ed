use Rattle.std.proofs.Common.{arith}
use Rattle.std.proofs.lemmas.List.{length-take}
use Rattle.cs_link.proofs.udp_link.UdpLinkLink.recv.Goals as goal

-- what was received fits the front of the buffer
pub returns-in-Ok-clause-size : goal.returns-in-Ok-clause-size
returns-in-Ok-clause-size c =
    omega (arith, (rw c.in-Ok.is at c.recv.ensures).0, length-take 65535 c.args.buf.now)
