-- The names of a piece.
use Rattle.std.specs.Prelude.{◌≡◌, ℕ, List, []}
use Rattle.cs_machine.specs.Lines.{body_text, numbered_line}
use Rattle.cs_packet.specs.declared.packet.Body.TheVariants.{Piece}
use Rattle.cs_packet.specs.declared.packet.Packet.{Packet}
use Rattle.cs_world.specs.declared.piece_names.PieceNames.{PieceNames}

-- a packet is a piece of these names, whatever its bytes are
pub record IsNamed (names : PieceNames) (packet : Packet) : Type 0 where
  pub from : packet.from ≡ names.from
  pub to : packet.to ≡ names.to
  pub text : List ℕ
  pub piece : packet.body ≡ Piece names.epoch names.region names.colour text

-- the line of a piece of these names, which doesn't tell its bytes
abbrev pub named_line : ℕ → PieceNames → List ℕ
named_line number names =
    numbered_line number names.from names.to (body_text (Piece names.epoch names.region names.colour []))
