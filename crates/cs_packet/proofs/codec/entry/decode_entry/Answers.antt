use Rattle.std.proofs.Common.{arith}
use Rattle.cs_fields.proofs.Codec.{whole}
use Rattle.cs_packet.proofs.EntryLaws.{entry_codec}
use Rattle.cs_packet.proofs.codec.entry.decode_entry.Goals as goal

pub returns-clause-whole : goal.returns-clause-whole
returns-clause-whole c = whole entry_codec c.args.bytes.now c.read_whole_entry.result (λ i. omega (arith, c.type_inv.bytes i)) c.read_whole_entry.ensures
