use Rattle.std.proofs.Common.{arith}
use Rattle.cs_show.proofs.AgreeingBlocks.{agree-printed, epoch-printed}
use Rattle.cs_show.proofs.laws.printed_blocks_agree.Goals as goal

-- the shared lines say nothing of rolls, and a region has one number
pub returns-clause-agree : goal.returns-clause-agree
returns-clause-agree c = agree-printed

-- the number is read back
pub returns-clause-epoch : goal.returns-clause-epoch
returns-clause-epoch c = λ view before small. epoch-printed view before (omega (arith, small))
