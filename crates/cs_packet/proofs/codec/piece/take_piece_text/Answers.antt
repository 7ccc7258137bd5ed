use Rattle.std.proofs.Common.{arith}
use Rattle.cs_fields.proofs.Codec.{taken}
use Rattle.cs_packet.specs.PieceField.{piece_text_len}
use Rattle.cs_packet.proofs.PieceLaws.{piece_text_codec, piece_text_size}
use Rattle.cs_packet.proofs.codec.piece.take_piece_text.Goals as goal

pub returns-clause-spelt : goal.returns-clause-spelt
returns-clause-spelt c =
    taken piece_text_len c.args.bytes.now c.args.at _ piece_text_codec piece_text_size (λ i. omega (arith, c.type_inv.bytes i)) c.requires.within
    c.read_piece_text.ensures
