use Rattle.std.proofs.Common.{◌∙◌, arith}
use Rattle.cs_base.proofs.Numbers.{number_of-is}
use Rattle.cs_base.proofs.canonical.read_u32.Goals as goal

pub returns-clause-only : goal.returns-clause-only
returns-clause-only c n small spelt =
    c.read_up_to.ensures.exact ∙ number_of-is 4294967295 c.args.text.now n (omega arith) (record { within = omega arith; spelt = spelt })
