use Rattle.cs_machine.proofs.Contents.{packets-sent, short-sent}
use Rattle.cs_machine.proofs.laws.sent_packets_fit.Goals as goal

-- each is a packet
pub returns-clause-packets : goal.returns-clause-packets
returns-clause-packets c = packets-sent

-- and the greatest packet fits
pub returns-clause-short : goal.returns-clause-short
returns-clause-short c = short-sent
