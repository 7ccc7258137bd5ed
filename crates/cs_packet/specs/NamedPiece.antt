-- A piece of a slice with its name, and on its way to a node.
use Rattle.std.specs.Prelude.{ℕ, List}
use Rattle.cs_base.specs.Address.{Address}
use Rattle.cs_packet.specs.declared.packet.Body.TheVariants.{Piece}
use Rattle.cs_packet.specs.declared.packet.Packet.{Packet}

-- a piece of a slice, with its name
pub record NamedPiece : Type 0 where
  pub epoch : ℕ
  pub region : ℕ
  pub colour : ℕ
  pub bytes : List ℕ

-- a piece on its way to a target, which is a node and its address
abbrev pub piece_to : ℕ → NamedPiece → ℕ × Address → Address × Packet
piece_to me piece target =
    (target.1, record { from = me; to = target.0; body = Piece piece.epoch piece.region piece.colour piece.bytes })
