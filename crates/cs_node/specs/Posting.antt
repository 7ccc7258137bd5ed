-- How packets go out through a link: all of them in order, or the first ones up to a fault.
use Rattle.std.specs.Prelude.{◌≡◌, ℕ, ◌<◌, List, ◌++◌, length, map, sum, take, Option}
use Rattle.std.specs.Option.{option_map}
use Rattle.cs_base.specs.Address.{Address}
use Rattle.cs_link.specs.Sent.{Datagram}
use Rattle.cs_log.specs.Faults.{HasRisen}
use Rattle.cs_packet.specs.PacketField.{packet_bytes}
use Rattle.cs_packet.specs.declared.packet.Packet.{Packet}
use Rattle.cs_node.specs.Told.{LinkTold}

-- each packet as a datagram
abbrev pub datagrams_of : List (Address × Packet) → List Datagram
datagrams_of sends = map (λ (send : Address × Packet). (send.0, packet_bytes send.1)) sends

-- how many bytes they have together
abbrev pub bytes_in : List Datagram → ℕ
bytes_in datagrams = sum (map (λ (datagram : Datagram). length datagram.1) datagrams)

-- these datagrams behind those that were sent, where they are told
abbrev pub all_posted : List Datagram → Option (List Datagram) → Option (List Datagram)
all_posted datagrams told = option_map (λ sent. sent ++ datagrams) told

-- all of them were sent, and nothing else changed
abbrev pub AreSent : List Datagram → (before now : LinkTold) → Type 0
AreSent datagrams before now = now ≡ record before { sent = all_posted datagrams before.sent }

-- the link failed: the first n of them were sent and no other
pub record SendsFront (n : ℕ) (datagrams : List Datagram) (before now : LinkTold) : Type 0 where
  pub fewer : n < length datagrams
  pub sent : now.sent ≡ all_posted (take n datagrams) before.sent
  pub waiting : now.waiting ≡ before.waiting
  pub risen : HasRisen before.faults now.faults
  pub taken : now.taken ≡ before.taken
  pub dry : now.dry ≡ before.dry
