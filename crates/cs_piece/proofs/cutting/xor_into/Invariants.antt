use Rattle.std.proofs.Common.{◌≡◌}
use Rattle.cs_piece.proofs.Xor.{xored_front}
use Rattle.cs_piece.proofs.cutting.xor_into.Given as goal

abbrev pub invariant-loop-i : goal.invariant-loop-i
invariant-loop-i l = l.block ≡ xored_front l.i l.initial.block l.other
