-- A packet that settling passes over, or that was delivered: its marks in the code, and what stays as it was.
use Rattle.std.proofs.Common.{◌≡◌, ◌≢◌, ◌⊎◌, inl, inr, ◌∙◌, ℕ, zero, suc, ◌+◌, ◌<◌, ◌||◌, true, false, not, List, [], ◌∷◌}
use Rattle.std.proofs.Common.{slice_get, Option, Some, None, IsSomeAnd, eqb, refl, sym, ap, subst}
use Rattle.std.specs.List.{AllZip}
use Rattle.std.proofs.lemmas.Bool.{eq-eqb, ne_eqb}
use Rattle.cs_group.specs.Group.{is_among}
use Rattle.cs_link.specs.Sent.{Datagram as LinkDatagram}
use Rattle.cs_link.specs.declared.link.Link.{Ghosts as LinkGhosts}
use Rattle.cs_log.specs.declared.log.Log.{Ghosts as LogGhosts}
use Rattle.cs_machine.specs.Delivering.{noted_delivery, passed_over, was_delivered}
use Rattle.cs_machine.specs.Names.{Node, Sent, World, node_of}
use Rattle.cs_machine.specs.Reached.{IsReached}
use Rattle.cs_machine.specs.Settling.{is_open}
use Rattle.cs_world.specs.Kept.{AreDatagramsOf, sent_from}
use Rattle.cs_world.specs.Processes.{Parts}
use Rattle.cs_world.specs.Seats.{parts_at}
use Rattle.cs_world.specs.Sending.{as_closed, as_delivered, changed_at, marked, noted}
use Rattle.cs_world.specs.Sent.{PacketStands, TrafficStands}
use Rattle.cs_world.specs.Stands.{Stands, StandsIf}
use Rattle.cs_world.specs.declared.datagram.Datagram.{Datagram}
use Rattle.cs_world.specs.declared.nodes.Nodes.{Nodes}
use Rattle.cs_world.specs.declared.traffic.Traffic.{Traffic}
use Rattle.cs_world.proofs.Changing.{changed-at}

-- the world where these are the numbers that settling passes over, and these of packets that were delivered
abbrev pub with_numbers : List ℕ → List ℕ → World → World
with_numbers settled delivered world = record world { settled = settled; delivered = delivered }

-- in it datagrams stand for the same
numbers-zip : (world : World) (settled delivered : List ℕ) (ds : List Datagram) (sent : List Sent) → AllZip (PacketStands world) ds sent
    → AllZip (PacketStands (with_numbers settled delivered world)) ds sent
numbers-zip world settled delivered [] [] zip = zip
numbers-zip world settled delivered [] (s ∷ sent) zip = absurd zip
numbers-zip world settled delivered (d ∷ ds) [] zip = absurd zip
numbers-zip world settled delivered (d ∷ ds) (s ∷ sent) zip =
    (record { address = zip.0.address; bytes = zip.0.bytes }, numbers-zip world settled delivered ds sent zip.1)

-- and so does one that is changed, if the change keeps what it stands for
changed-zip : (change : Datagram → Datagram) (world : World) → ((d : Datagram) (s : Sent) → PacketStands world d s → PacketStands world (change d) s)
    → (number : ℕ) (ds : List Datagram) (sent : List Sent) → AllZip (PacketStands world) ds sent
    → AllZip (PacketStands world) (changed_at change number ds) sent
changed-zip change world keeps number [] sent zip = zip
changed-zip change world keeps zero (d ∷ ds) sent zip = zip
changed-zip change world keeps (suc zero) (d ∷ ds) [] zip = absurd zip
changed-zip change world keeps (suc zero) (d ∷ ds) (s ∷ sent) zip = (keeps d s zip.0, zip.1)
changed-zip change world keeps (suc (suc number)) (d ∷ ds) [] zip = absurd zip
changed-zip change world keeps (suc (suc number)) (d ∷ ds) (s ∷ sent) zip = (zip.0, changed-zip change world keeps (suc number) ds sent zip.1)

-- the number itself is closed once it is passed over
pub closed-itself : (world : World) (number : ℕ) → is_open (passed_over number world) number ≡ false
closed-itself world number = ap (λ b. not (b || is_among world.settled number)) (eq-eqb number number refl)

-- another number is as it was
pub open-other : (world : World) (number other : ℕ) → number ≢ other → is_open (passed_over number world) other ≡ is_open world other
open-other world number other differs = ap (λ b. not (b || is_among world.settled other)) (ne_eqb number other differs)

-- what is closed stays closed
pub closed-still : (world : World) (number other : ℕ) → is_open world other ≡ false → is_open (passed_over number world) other ≡ false
closed-still world number other closed = elim (eqb number other) as (λ b. not (b || is_among world.settled other) ≡ false) [
  | true ↦ refl
  | false ↦ closed
]

-- what was delivered is noted so
noted-itself : (world : World) (number : ℕ) → was_delivered (noted_delivery number world) number ≡ true
noted-itself world number = ap (λ b. b || is_among world.delivered number) (eq-eqb number number refl)

-- and no other number
noted-other : (world : World) (number other : ℕ) → number ≢ other → was_delivered (noted_delivery number world) other ≡ was_delivered world other
noted-other world number other differs = ap (λ b. b || is_among world.delivered other) (ne_eqb number other differs)

-- traffic where the datagram is marked stands for a world that passes over the packet
pub passed-traffic : (traffic now : Traffic) (world : World) (number : ℕ) → TrafficStands traffic world
    → now.datagrams.items ≡ marked number traffic.datagrams.items → now.bytes ≡ traffic.bytes → now.front ≡ traffic.front
    → TrafficStands now (passed_over number world)
passed-traffic traffic now world number was datagrams bytes front = record {
  packets = numbers-zip world (number ∷ world.settled) world.delivered now.datagrams.items world.sent
      (subst (λ ds. AllZip (PacketStands world) ds world.sent) (sym datagrams)
      (changed-zip as_closed world (λ d s is. record { address = is.address; bytes = is.bytes }) number traffic.datagrams.items world.sent was.packets));
  marks = λ place d at. mark place d (subst (λ ds. slice_get ds place ≡ Some d) datagrams at);
  delivered = λ place d at. still place d (subst (λ ds. slice_get ds place ≡ Some d) datagrams at);
  front = λ place before. closed-still world number (place + 1) (was.front place (subst (λ n. place < n) front before));
  bytes = bytes ∙ was.bytes;
  few = was.few;
}
  where
    mark : (place : ℕ) (d : Datagram) → slice_get (marked number traffic.datagrams.items) place ≡ Some d
        → d.is_open ≡ is_open (passed_over number world) (place + 1)
    mark place d at = elim (changed-at as_closed number traffic.datagrams.items place d at) [
      | inl its ↦ ap (λ (e : Datagram). e.is_open) its.3
          ∙ sym (subst (λ n. is_open (passed_over number world) n ≡ false) its.0 (closed-itself world number))
      | inr other ↦ was.marks place d other.1 ∙ sym (open-other world number (place + 1) other.0)
    ]

    still : (place : ℕ) (d : Datagram) → slice_get (marked number traffic.datagrams.items) place ≡ Some d
        → d.is_delivered ≡ was_delivered world (place + 1)
    still place d at = elim (changed-at as_closed number traffic.datagrams.items place d at) [
      | inl its ↦ ap (λ (e : Datagram). e.is_delivered) its.3 ∙ was.delivered place its.1 its.2
      | inr other ↦ was.delivered place d other.1
    ]

-- and where it is noted, for one where the packet was delivered
pub noted-traffic : (traffic now : Traffic) (world : World) (number : ℕ) → TrafficStands traffic world
    → now.datagrams.items ≡ noted number traffic.datagrams.items → now.bytes ≡ traffic.bytes → now.front ≡ traffic.front
    → TrafficStands now (noted_delivery number world)
noted-traffic traffic now world number was datagrams bytes front = record {
  packets = numbers-zip world world.settled (number ∷ world.delivered) now.datagrams.items world.sent
      (subst (λ ds. AllZip (PacketStands world) ds world.sent) (sym datagrams)
      (changed-zip as_delivered world (λ d s is. record { address = is.address; bytes = is.bytes }) number traffic.datagrams.items world.sent was.packets));
  marks = λ place d at. still place d (subst (λ ds. slice_get ds place ≡ Some d) datagrams at);
  delivered = λ place d at. note place d (subst (λ ds. slice_get ds place ≡ Some d) datagrams at);
  front = λ place before. was.front place (subst (λ n. place < n) front before);
  bytes = bytes ∙ was.bytes;
  few = was.few;
}
  where
    still : (place : ℕ) (d : Datagram) → slice_get (noted number traffic.datagrams.items) place ≡ Some d → d.is_open ≡ is_open world (place + 1)
    still place d at = elim (changed-at as_delivered number traffic.datagrams.items place d at) [
      | inl its ↦ ap (λ (e : Datagram). e.is_open) its.3 ∙ was.marks place its.1 its.2
      | inr other ↦ was.marks place d other.1
    ]

    note : (place : ℕ) (d : Datagram) → slice_get (noted number traffic.datagrams.items) place ≡ Some d
        → d.is_delivered ≡ was_delivered (noted_delivery number world) (place + 1)
    note place d at = elim (changed-at as_delivered number traffic.datagrams.items place d at) [
      | inl its ↦ ap (λ (e : Datagram). e.is_delivered) its.3
          ∙ sym (subst (λ n. was_delivered (noted_delivery number world) n ≡ true) its.0 (noted-itself world number))
      | inr other ↦ was.delivered place d other.1 ∙ sym (noted-other world number (place + 1) other.0)
    ]

-- what a link has sent stands for the same
numbers-sent : (world : World) (settled delivered : List ℕ) (ds : List LinkDatagram) (sent : List Sent) → AreDatagramsOf world ds sent
    → AreDatagramsOf (with_numbers settled delivered world) ds sent
numbers-sent world settled delivered [] [] zip = zip
numbers-sent world settled delivered [] (s ∷ sent) zip = absurd zip
numbers-sent world settled delivered (d ∷ ds) [] zip = absurd zip
numbers-sent world settled delivered (d ∷ ds) (s ∷ sent) zip =
    (record { address = zip.0.address; bytes = zip.0.bytes }, numbers-sent world settled delivered ds sent zip.1)

-- where it tells
numbers-told : (world : World) (settled delivered : List ℕ) (id : ℕ) (told : Option (List LinkDatagram))
    → IsSomeAnd told (λ datagrams. AreDatagramsOf world datagrams (sent_from world id))
    → IsSomeAnd told (λ datagrams. AreDatagramsOf (with_numbers settled delivered world) datagrams (sent_from world id))
numbers-told world settled delivered id None is = is
numbers-told world settled delivered id (Some ds) is = numbers-sent world settled delivered ds (sent_from world id) is

-- and so a node stands for the same
numbers-node : (world : World) (settled delivered : List ℕ) (o : Option Node) (e : Option Parts) → StandsIf world o e
    → StandsIf (with_numbers settled delivered world) o e
numbers-node world settled delivered None None is = tt
numbers-node world settled delivered None (Some parts) is = is
numbers-node world settled delivered (Some node) None is = is
numbers-node world settled delivered (Some node) (Some parts) is = record {
  node = is.node;
  link = record {
    sent = numbers-told world settled delivered node.own.id parts.link.sent is.link.sent;
    faults = is.link.faults;
  };
  log = record { bytes = is.log.bytes; torn = is.log.torn; own_faults = is.log.own_faults; armed = is.log.armed };
  back = is.back;
}

-- so nodes whose traffic stands for it stand for such a world
module _ {L G : Type 0} (link : LinkGhosts L) (log : LogGhosts G) where
  pub numbers-stands : (code later : Nodes L G) (world : World) (settled delivered : List ℕ) → Stands link log code world
      → IsReached (with_numbers settled delivered world) → later.seats ≡ code.seats → later.addresses ≡ code.addresses
      → later.leader ≡ code.leader → TrafficStands later.traffic (with_numbers settled delivered world)
      → Stands link log later (with_numbers settled delivered world)
  numbers-stands code later world settled delivered stands reached seats addresses leader traffic =
      let next : World = with_numbers settled delivered world in
      let with_seats : Nodes L G = record later { seats = code.seats; addresses = code.addresses; leader = code.leader } in
      let same : with_seats ≡ later =
      (λ i. record later { seats = sym seats i; addresses = sym addresses i; leader = sym leader i }) in
      subst (λ c. Stands link log c next) same (record {
        nodes = λ id. numbers-node world settled delivered (node_of world id) (parts_at link log code.seats id) (stands.nodes id);
        leader = stands.leader;
        used = stands.used;
        addresses = stands.addresses;
        known = stands.known;
        unsent = stands.unsent;
        reached = reached;
        traffic = traffic;
      })
