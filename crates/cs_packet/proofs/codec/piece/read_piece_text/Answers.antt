use Rattle.cs_packet.proofs.PieceLaws.{piece_ended, piece_read}
use Rattle.cs_packet.proofs.codec.piece.read_piece_text.Goals as goal

pub returns-then-bytes-behind : goal.returns-then-bytes-behind
returns-then-bytes-behind c other =
    piece_ended c.args.bytes.now c.args.at c.in_ok-total.total c.in_ok-total.block_at c.block_len.result c.in_ok-total.ensures.exact c.block_len.ensures
    c.if-bytes-behind.true

pub returns : goal.returns
returns c =
    rw (c.in_ok-from_slice.ensures)
    (piece_read c.args.bytes.now c.args.at c.in_ok-total.total c.in_ok-total.block_at c.block_len.result c.in_ok-total.ensures.exact
    c.in_ok-total.ensures.spelt.found.1 c.block_len.ensures c.if-bytes-behind.false)
