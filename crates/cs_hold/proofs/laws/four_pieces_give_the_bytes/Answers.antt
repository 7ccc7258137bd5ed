use Rattle.std.proofs.Common.{◌∙◌, ap}
use Rattle.cs_hold.specs.Whole.{given_by}
use Rattle.cs_hold.proofs.Takes.{given_by-four}
use Rattle.cs_hold.proofs.laws.four_pieces_give_the_bytes.Goals as goal

pub returns : goal.returns
returns c region bytes held few four = ap given_by four ∙ given_by-four bytes few
