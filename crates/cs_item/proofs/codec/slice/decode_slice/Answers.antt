use Rattle.std.proofs.Common.{arith}
use Rattle.cs_fields.proofs.Codec.{whole}
use Rattle.cs_item.proofs.SliceLaws.{slice_codec}
use Rattle.cs_item.proofs.codec.slice.decode_slice.Goals as goal

pub returns-clause-whole : goal.returns-clause-whole
returns-clause-whole c = whole slice_codec c.args.bytes.now _ (λ i. omega (arith, c.type_inv.bytes i)) c.read_whole_slice.ensures
