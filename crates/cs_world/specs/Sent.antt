-- What was sent stands for the machine's packets.
use Rattle.std.specs.Prelude.{◌≡◌, ℕ, ◌+◌, ◌<◌, ◌≤◌, false, slice_get, Some}
use Rattle.std.specs.List.{AllZip}
use Rattle.cs_base.specs.Limits.{most_sent}
use Rattle.cs_machine.specs.Delivering.{was_delivered}
use Rattle.cs_machine.specs.Names.{Sent, World}
use Rattle.cs_machine.specs.Packets.{bytes_sent}
use Rattle.cs_machine.specs.Settling.{is_open}
use Rattle.cs_world.specs.Kept.{IsDatagramOf}
use Rattle.cs_world.specs.declared.datagram.Datagram.{Datagram}
use Rattle.cs_world.specs.declared.traffic.Traffic.{Traffic}

-- a datagram as it is kept for a packet of the machine
abbrev pub PacketStands : World → Datagram → Sent → Type 0
PacketStands world datagram sent = IsDatagramOf world (datagram.addr, datagram.bytes) sent

-- the packets, their marks, whether settling delivers them and whether they were delivered, and their bytes, which are
-- no more than a run may send
pub record TrafficStands (traffic : Traffic) (world : World) : Type 0 where
  pub packets : AllZip (PacketStands world) traffic.datagrams.items world.sent
  pub marks : (place : ℕ) (datagram : Datagram) → slice_get traffic.datagrams.items place ≡ Some datagram
      → datagram.is_open ≡ is_open world (place + 1)
  pub delivered : (place : ℕ) (datagram : Datagram) → slice_get traffic.datagrams.items place ≡ Some datagram
      → datagram.is_delivered ≡ was_delivered world (place + 1)
  pub front : (place : ℕ) → place < traffic.front → is_open world (place + 1) ≡ false
  pub bytes : traffic.bytes ≡ bytes_sent world
  pub few : bytes_sent world ≤ most_sent
