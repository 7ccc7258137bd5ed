-- A packet, and its bytes.
use Rattle.std.specs.Prelude.{ℕ, ◌+◌, ◌==◌, List, ◌∷◌, ◌++◌, Result, Ok, Err, if◌then◌else◌}
use Rattle.std.specs.List.{AllByRecursion}
use Rattle.cs_base.specs.Address.{Address, IsAddress}
use Rattle.cs_base.specs.Ranges.{IsId}
use Rattle.cs_fields.specs.Fields.{id_at, id_bytes}
use Rattle.cs_fields.specs.Numbers.{number_at, number_bytes}
use Rattle.cs_fields.specs.Reading.{Reader, ◌>>=◌}
use Rattle.cs_fields.specs.Whole.{whole_of}
use Rattle.cs_fields.specs.declared.fault.PacketFault.{PacketFault}
use Rattle.cs_fields.specs.declared.fault.PacketFault.TheVariants.{Version}
use Rattle.cs_item.specs.SliceField.{slice_len}
use Rattle.cs_packet.specs.BodyField.{body_at, body_bytes, body_sizes, IsBody, kind_of}
use Rattle.cs_packet.specs.KindField.{kind_at}
use Rattle.cs_packet.specs.declared.packet.Packet.{Packet}

-- the version, which has to be 1
unfoldable pub version_at : Reader ℕ
version_at bytes at = do
  version ← number_at 1 bytes at
  if version.0 == 1 then Ok version else Err (Version version.0)

-- a packet whose fields have values that are allowed
pub record IsPacket (p : Packet) : Type 0 where
  pub from : IsId p.from
  pub to : IsId p.to
  pub body : IsBody p.body

-- the version, the kind, the sender, the receiver and the body
unfoldable pub packet_at : Reader Packet
packet_at bytes at = do
  version ← version_at bytes at
  kind ← kind_at 7 bytes version.1
  from ← id_at bytes kind.1
  to ← id_at bytes from.1
  body ← body_at kind.0 bytes to.1
  Ok (record { from = from.0; to = to.0; body = body.0 }, body.1)

-- and the bytes of them
unfoldable pub packet_bytes : Packet → List ℕ
packet_bytes p =
    number_bytes 1 1 ++ number_bytes 1 (kind_of p.body) ++ id_bytes p.from ++ id_bytes p.to ++ body_bytes p.body

-- the sizes of the fields
abbrev pub packet_sizes : Packet → List ℕ
packet_sizes p = 1 ∷ 1 ∷ 4 ∷ 4 ∷ body_sizes p.body

-- the most bytes of a packet, which has a slice then
abbrev pub packet_len : ℕ
packet_len = 1 + 1 + 4 + 4 + slice_len

-- the packet that is spelt by the bytes, all of them
abbrev pub packet_of : List ℕ → Result Packet PacketFault
packet_of bytes = whole_of packet_at bytes

-- a packet whose fields have values that are allowed, and an address that it can go to
abbrev pub IsSend : Address × Packet → Type 0
IsSend send = IsAddress send.0 × IsPacket send.1

-- each of these is one
abbrev pub AreSends : List (Address × Packet) → Type 0
AreSends sends = AllByRecursion IsSend sends
