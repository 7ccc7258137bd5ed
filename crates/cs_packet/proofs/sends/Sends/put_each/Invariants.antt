use Rattle.std.proofs.Common.{◌≡◌, ◌++◌, ◌<◌, map, take}
use Rattle.cs_base.specs.Limits.{colours}
use Rattle.cs_fields.specs.Fields.{IsLaterEpoch}
use Rattle.cs_packet.specs.NamedPiece.{piece_to}
use Rattle.cs_packet.specs.PacketField.{AreSends}
use Rattle.cs_packet.specs.PieceField.{IsPieceText}
use Rattle.cs_packet.proofs.sends.Sends.put_each.Given as goal

-- the piece is on its way to the targets so far, and what stands there is well formed where it was
abbrev pub invariant-loop-target : goal.invariant-loop-target
invariant-loop-target l = record {
  value : l.self ≡ l.initial.self ++ map (piece_to l.me l.piece) (take l.target-index l.targets);
  allowed : IsLaterEpoch l.piece.epoch → l.piece.colour < colours → IsPieceText l.piece.bytes → AreSends l.initial.self → AreSends l.self;
}
