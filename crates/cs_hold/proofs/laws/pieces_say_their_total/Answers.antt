use Rattle.cs_hold.proofs.Takes.{length-piece, total_of-piece}
use Rattle.cs_hold.proofs.laws.pieces_say_their_total.Goals as goal

pub returns-clause-total : goal.returns-clause-total
returns-clause-total c bytes colour few = total_of-piece bytes colour few

pub returns-clause-long : goal.returns-clause-long
returns-clause-long c bytes colour lt = length-piece bytes colour lt
