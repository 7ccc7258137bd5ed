use Rattle.cs_hold.proofs.Takes.{takes_slice}
use Rattle.cs_hold.proofs.laws.slices_are_taken.Goals as goal

pub returns : goal.returns
returns c region bytes held hold few = takes_slice region bytes held hold few
