-- What nodes send, as it is told and kept.
use Rattle.std.specs.Prelude.{◌≡◌, ℕ, ◌+◌, ◌<◌, ⊤, List, ◌++◌, length, map, Option, Some, codes, decimal}
use Rattle.std.specs.List.{AllByRecursion}
use Rattle.cs_base.specs.Address.{Address}
use Rattle.cs_base.specs.Canonical.{address_text}
use Rattle.cs_base.specs.Limits.{most_sent}
use Rattle.cs_link.specs.Sent.{Datagram}
use Rattle.cs_machine.specs.Lines.{numbered, packet_line}
use Rattle.cs_node.specs.Posting.{datagrams_of}
use Rattle.cs_packet.specs.PacketField.{IsPacket, packet_bytes}
use Rattle.cs_packet.specs.declared.packet.Packet.{Packet}
use Rattle.cs_show.specs.Text.{text_of}
use Rattle.hex.specs.Hex.{encode_lower}
use Rattle.cs_world.specs.Sending.{bytes_in, datagram_of}
use Rattle.cs_world.specs.declared.fault.WorldFault.{WorldFault}
use Rattle.cs_world.specs.declared.fault.WorldFault.TheVariants.{Limit, Link, Log, Memory}
use Rattle.cs_world.specs.declared.telling.Telling.{Telling}
use Rattle.cs_world.specs.declared.telling.Telling.TheVariants.{Bytes, Names}
use Rattle.cs_world.specs.declared.traffic.Traffic.{Traffic}

-- the line of bytes that were sent: their number, where they go, and two digits for each
abbrev pub datagram_line : ℕ → Address → List ℕ → List ℕ
datagram_line number addr bytes =
    codes "#" ++ decimal number ++ codes " " ++ address_text addr ++ codes " " ++ encode_lower bytes

-- the line of a packet that was sent, as packets are told
abbrev pub sent_line : Telling → ℕ → Address × Packet → List ℕ
sent_line Names number send = packet_line number send.1
sent_line Bytes number send = datagram_line number send.0 (packet_bytes send.1)

-- the lines of packets, numbered from a number on
abbrev pub sent_lines : Telling → ℕ → List (Address × Packet) → List (List ℕ)
sent_lines telling number sends = numbered (sent_line telling) number sends

-- packets are told behind a text, by lines numbered on, and kept behind those that were sent before
pub record Posts (telling : Telling) (sends : List (Address × Packet)) (before now : Traffic) (said told : List ℕ)
    : Type 0 where
  pub text : told ≡ said ++ text_of (sent_lines telling (length before.datagrams.items + 1) sends)
  pub datagrams : now.datagrams.items ≡ before.datagrams.items ++ map datagram_of sends
  pub bytes : now.bytes ≡ before.bytes + bytes_in sends
  pub front : now.front ≡ before.front

-- each is a packet
abbrev pub ArePackets : List (Address × Packet) → Type 0
ArePackets sends = AllByRecursion (λ (send : Address × Packet). IsPacket send.1) sends

-- what a link has sent, where it had sent so many datagrams before it sent these packets
abbrev pub IsSentBehind : ℕ → List (Address × Packet) → Option (List Datagram) → Type 0
IsSentBehind earlier sends sent =
    (before : List Datagram) × (length before ≡ earlier) × (sent ≡ Some (before ++ datagrams_of sends))

-- a fault that tells of the limit for this cause alone, and never of a link or a log
abbrev pub IsLimitOrMemory : Type 0 → WorldFault → Type 0
IsLimitOrMemory cause Limit = cause
IsLimitOrMemory cause Link = ⊥
IsLimitOrMemory cause Log = ⊥
IsLimitOrMemory cause Memory = ⊤

-- so it is where packets are kept: with them more would be sent than a run may
abbrev pub IsPostFault : Traffic → List (Address × Packet) → WorldFault → Type 0
IsPostFault traffic sends fault = IsLimitOrMemory (most_sent < traffic.bytes + bytes_in sends) fault
