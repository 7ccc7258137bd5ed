use Rattle.std.proofs.Common.{◌++◌, ℕ, List, sym, ap, ◌∙◌}
use Rattle.cs_base.specs.Address.{Address}
use Rattle.cs_packet.specs.declared.packet.Packet.{Packet}
use Rattle.cs_piece.specs.Blocks.{piece_of}
use Rattle.cs_lead.specs.Closing.{piece_of_slice, started}
use Rattle.cs_lead.proofs.Loops.{at-pieces_of, flat_range_more}
use Rattle.cs_lead.proofs.leader.Leader.put_slice.Goals as goal

-- at the place of a colour stands its piece
pub put_colour-requires-clause-bytes : goal.put_colour-requires-clause-bytes
put_colour-requires-clause-bytes c =
    let colour = c.loop-colour.colour in
    sym c.index-pieces-colour.is
    ∙ (at-pieces_of c.as_slice.result.now c.in_ok-pieces.pieces colour c.index-pieces-colour.result c.in_ok-pieces.ensures c.loop-colour-test.true
    c.index-pieces-colour.is
    ∙ ap (λ (bytes : List ℕ). piece_of bytes colour) (c.as_slice.ensures ∙ c.in_ok-bytes.ensures.spelt))

-- one more piece
pub loop-colour-preserved : goal.loop-colour-preserved
loop-colour-preserved c =
    let leader = c.args.self.now in
    let of_colour : ℕ → List (Address × Packet) = λ colour. started leader.me.id leader.view (piece_of_slice c.args.slice.now colour) in
    record {
      value = c.in_ok-put_colour.ensures.value
          ∙ (ap (λ (was : List (Address × Packet)). was ++ of_colour c.loop-colour.colour) c.loop-colour.invariant.value
          ∙ flat_range_more of_colour c.args.sends.now c.loop-colour.colour);
      allowed = λ before. c.in_ok-put_colour.ensures.allowed (c.loop-colour.invariant.allowed before);
    }
