-- What stands for the world without nodes, and how much was sent.
use Rattle.std.proofs.Common.{◌≡◌, ℕ, List, [], length, None, refl, sym, ap, subst, arith}
use Rattle.std.specs.List.{AllZip}
use Rattle.std.specs.Option.{option_map}
use Rattle.std.proofs.lemmas.Slice.Zip.{AllZip-long}
use Rattle.cs_base.specs.Address.{Address}
use Rattle.cs_link.specs.declared.link.Link.{Ghosts as LinkGhosts}
use Rattle.cs_log.specs.declared.log.Log.{Ghosts as LogGhosts}
use Rattle.cs_machine.specs.Names.{World, empty_world}
use Rattle.cs_machine.proofs.Reached.{IsReached-empty}
use Rattle.cs_world.specs.Processes.{parts_in}
use Rattle.cs_world.specs.Seats.{parts_at, state_at}
use Rattle.cs_world.specs.Sent.{PacketStands, TrafficStands}
use Rattle.cs_world.specs.Stands.{Stands, StandsIf, address_of, id_at}
use Rattle.cs_world.specs.declared.datagram.Datagram.{Datagram}
use Rattle.cs_world.specs.declared.nodes.Nodes.{Nodes}
use Rattle.cs_world.specs.declared.traffic.Traffic.{Traffic}

-- nothing that was sent stands for no packets
traffic-empty : (traffic : Traffic) → traffic.datagrams.items ≡ [] → traffic.bytes ≡ 0 → traffic.front ≡ 0
    → TrafficStands traffic empty_world
traffic-empty traffic none bytes front = record {
  packets = subst (λ (ds : List Datagram). AllZip (PacketStands empty_world) ds []) (sym none) tt;
  marks = λ place datagram at. absurd (let items = none in grind arith);
  delivered = λ place datagram at. absurd (let items = none in grind arith);
  front = λ place below. absurd (omega arith);
  bytes = bytes;
  few = omega arith;
}

-- what has no node and sent nothing stands for the world without nodes
pub empty-stands : {L G : Type 0} (link : LinkGhosts L) (log : LogGhosts G) (code : Nodes L G)
    → ((id : ℕ) → state_at code.seats id ≡ None) → ((addr : Address) → id_at code addr ≡ None)
    → ((id : ℕ) → address_of code id ≡ None) → code.leader ≡ None → code.traffic.datagrams.items ≡ [] → code.traffic.bytes ≡ 0 → code.traffic.front ≡ 0
    → Stands link log code empty_world
empty-stands {L} {G} link log code none free unknown unled items bytes front =
    let absent : (id : ℕ) → parts_at link log code.seats id ≡ None = λ id. ap (option_map (parts_in link log)) (none id) in
    record {
      nodes = λ id. subst (StandsIf empty_world None) (sym (absent id)) tt;
      leader = unled;
      used = λ id addr. rw (absent id, free addr) refl;
      addresses = λ id node found. absurd (grind arith);
      known = unknown;
      reached = IsReached-empty;
      unsent = λ id none. refl;
      traffic = traffic-empty code.traffic items bytes front;
    }

-- as many packets were sent as datagrams are kept
pub sent-count : (traffic : Traffic) (world : World) → TrafficStands traffic world
    → length traffic.datagrams.items ≡ length world.sent
sent-count traffic world stands = sym (AllZip-long (PacketStands world) traffic.datagrams.items world.sent stands.packets)
