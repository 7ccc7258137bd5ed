-- What was sent, as it is kept: datagrams, each with marks that say whether settling still delivers it, and whether it
-- was delivered.
use Rattle.std.specs.Prelude.{ℕ, zero, suc, ◌-◌, ◌==◌, ◌&&◌, Bool, true, false, List, [], ◌∷◌, length, map, sum}
use Rattle.std.specs.Prelude.{slice_get, Option, None, if◌then◌else◌}
use Rattle.std.specs.List.{find, range_with_len}
use Rattle.std.specs.Option.{option_map_or}
use Rattle.std.specs.Str.{bytes_eq}
use Rattle.cs_base.specs.Address.{Address}
use Rattle.cs_machine.specs.Happens.{same_address}
use Rattle.cs_packet.specs.declared.packet.Packet.{Packet}
use Rattle.cs_packet.specs.PacketField.{packet_bytes}
use Rattle.cs_world.specs.declared.datagram.Datagram.{Datagram}

-- a packet as it is kept: the address that it goes to, and its bytes, which settling delivers
abbrev pub datagram_of : Address × Packet → Datagram
datagram_of send = record {
  addr = send.0;
  bytes = packet_bytes send.1;
  is_open = true;
  is_delivered = false;
}

-- the bytes of packets together
abbrev pub bytes_in : List (Address × Packet) → ℕ
bytes_in sends = sum (map (λ (send : Address × Packet). length (packet_bytes send.1)) sends)

-- the datagram with this number
abbrev pub datagram_at : List Datagram → ℕ → Option Datagram
datagram_at datagrams number = if number == 0 then None else slice_get datagrams (number - 1)

-- a datagram goes to the address, and has these bytes
abbrev pub is_for : Address → List ℕ → Datagram → Bool
is_for addr bytes datagram = same_address datagram.addr addr && bytes_eq datagram.bytes bytes

-- the least number of a datagram that passes the test
abbrev pub least_with : (Datagram → Bool) → List Datagram → Option ℕ
least_with test datagrams =
    find (λ number. option_map_or test (datagram_at datagrams number) false) (range_with_len 1 (length datagrams))

-- the one with this number is changed so, and no other
abbrev pub changed_at : (Datagram → Datagram) → ℕ → List Datagram → List Datagram
changed_at change number [] = []
changed_at change zero (datagram ∷ more) = datagram ∷ more
changed_at change (suc zero) (datagram ∷ more) = change datagram ∷ more
changed_at change (suc (suc number)) (datagram ∷ more) = datagram ∷ changed_at change (suc number) more

-- a datagram that settling passes over
abbrev pub as_closed : Datagram → Datagram
as_closed datagram = record datagram { is_open = false }

-- and one that was delivered
abbrev pub as_delivered : Datagram → Datagram
as_delivered datagram = record datagram { is_delivered = true }

-- settling passes over the one with this number
abbrev pub marked : ℕ → List Datagram → List Datagram
marked number datagrams = changed_at as_closed number datagrams

-- the one with this number was delivered
abbrev pub noted : ℕ → List Datagram → List Datagram
noted number datagrams = changed_at as_delivered number datagrams
