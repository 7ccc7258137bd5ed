-- What a piece is named, where its names were read.
use Rattle.std.proofs.Common.{◌≡◌, Bool, ℕ, ◌==◌, List, length, true, false, Result, Ok, Err, IfOk, refl, if◌then◌else◌}
use Rattle.cs_fields.specs.Fields.{id_at, later_epoch_at, region_at}
use Rattle.cs_fields.specs.Numbers.{number_at, number_in}
use Rattle.cs_fields.specs.Reading.{◌>>=◌}
use Rattle.cs_fields.specs.Whole.{whole_of}
use Rattle.cs_fields.specs.declared.fault.PacketFault.{PacketFault}
use Rattle.cs_fields.specs.declared.fault.PacketFault.TheVariants.{Extra}
use Rattle.cs_packet.specs.BodyField.{piece_at}
use Rattle.cs_packet.specs.KindField.{kind_at}
use Rattle.cs_packet.specs.PacketField.{packet_at, packet_of, version_at}
use Rattle.cs_packet.specs.PieceField.{piece_text_at}
use Rattle.cs_packet.specs.declared.packet.Body.{Body}
use Rattle.cs_packet.specs.declared.packet.Body.TheVariants.{Piece}
use Rattle.cs_packet.specs.declared.packet.Packet.{Packet}
use Rattle.cs_machine.specs.Lines.{packet_line}
use Rattle.cs_world.specs.Named.{IsNamed, named_line}
use Rattle.cs_world.specs.declared.piece_names.PieceNames.{PieceNames}

-- the body and the packet of a piece with these names, as they are read, and the packet where it is the whole
abbrev body-read : PieceNames → List ℕ × ℕ → Result (Body × ℕ) PacketFault
body-read names text = Ok (Piece names.epoch names.region names.colour text.0, text.1)

abbrev packet-read : PieceNames → Body × ℕ → Result (Packet × ℕ) PacketFault
packet-read names body = Ok (record { from = names.from; to = names.to; body = body.0 }, body.1)

abbrev whole-read : List ℕ → Packet × ℕ → Result Packet PacketFault
whole-read bytes packet = if packet.1 == length bytes then Ok packet.0 else Err (Extra packet.1)

-- a packet with the names has them where it is the whole
whole-named : (names : PieceNames) (text : List ℕ) (fault : PacketFault) (whole : Bool)
    → let packet : Packet = record { from = names.from; to = names.to; body = Piece names.epoch names.region names.colour text } in
    IfOk (if whole then Ok packet else Err fault) (IsNamed names)
whole-named names text fault true = record { from = refl; to = refl; text = text; piece = refl }
whole-named names text fault false = tt

-- so has what was read, whatever its bytes are read as
text-named : (names : PieceNames) (bytes : List ℕ) (text : Result (List ℕ × ℕ) PacketFault)
    → IfOk (((text >>= body-read names) >>= packet-read names) >>= whole-read bytes) (IsNamed names)
text-named names bytes (Ok text) = whole-named names text.0 (Extra text.1) (text.1 == length bytes)
text-named names bytes (Err fault) = tt

-- where the version, the kind and the names of a piece are read from some bytes, the packet that they spell has the names
pub piece-named : (bytes : List ℕ) (names : PieceNames) (version kind from to epoch region colour : ℕ)
    → number_at 1 bytes 0 ≡ Ok (1, version) → number_at 1 bytes version ≡ Ok (2, kind)
    → id_at bytes kind ≡ Ok (names.from, from) → id_at bytes from ≡ Ok (names.to, to)
    → later_epoch_at bytes to ≡ Ok (names.epoch, epoch) → region_at bytes epoch ≡ Ok (names.region, region)
    → number_in 1 0 3 bytes region ≡ Ok (names.colour, colour)
    → IfOk (packet_of bytes) (IsNamed names)
unfolding whole_of packet_at version_at kind_at piece_at
piece-named bytes names version kind from to epoch region colour is_version is_kind is_from is_to is_epoch is_region is_colour =
    rw (is_version, is_kind, is_from, is_to, is_epoch, is_region, is_colour) (text-named names bytes (piece_text_at bytes colour))

-- and the packet's line is that of its names
pub line-named : (number : ℕ) (names : PieceNames) (packet : Packet) → IsNamed names packet
    → packet_line number packet ≡ named_line number names
line-named number names packet named = rw (named.from, named.to, named.piece) refl
