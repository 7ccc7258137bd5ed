use Rattle.cs_hold.proofs.Takes.{piece_fits, pieces_again}
use Rattle.cs_hold.proofs.laws.pieces_of_bytes_fit.Goals as goal

pub returns-clause-fits : goal.returns-clause-fits
returns-clause-fits c region colour whole held hold lt few all = piece_fits region colour whole held hold lt few all

pub returns-clause-again : goal.returns-clause-again
returns-clause-again c region colour whole held next hold lt few all given = pieces_again region colour whole held hold lt few all next given
