use Rattle.std.proofs.Common.{arith}
use Rattle.cs_base.proofs.Bytes.{all_bytes}
use Rattle.cs_base.proofs.address.four.Goals as goal

-- each byte of a slice is one
pub returns-clause-below : goal.returns-clause-below
returns-clause-below c = all_bytes c.args.bytes.now (λ i. omega (arith, c.type_inv.bytes i))
