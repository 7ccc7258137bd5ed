-- What a number stands for: a packet that was sent, which comes to the node with its address.
use Rattle.std.proofs.Common.{◌≡◌, ℕ, zero, suc, ◌-◌, Bor, List, [], ◌∷◌, Option, Some, None, true, false, cond, eqb, is_some}
use Rattle.std.proofs.Common.{refl, sym, ap, ◌∙◌, subst, arith}
use Rattle.std.specs.List.{AllZip, slice_get}
use Rattle.std.specs.Option.{option_copied}
use Rattle.std.proofs.lemmas.Bool.{false≢true}
use Rattle.std.proofs.lemmas.Option.{none-some, same_Some}
use Rattle.cs_link.specs.declared.link.Link.{Ghosts as LinkGhosts}
use Rattle.cs_log.specs.declared.log.Log.{Ghosts as LogGhosts}
use Rattle.cs_machine.specs.Delivering.{brought, deliver_at, deliver_to, delivered, noted_delivery, passed_over, sent_at, taken_out}
use Rattle.cs_machine.specs.Names.{Sent, World, node_of}
use Rattle.cs_machine.specs.Outcome.{After}
use Rattle.cs_machine.specs.Packets.{bytes_sent}
use Rattle.cs_machine.specs.Reached.{IsReached, IsSent}
use Rattle.cs_machine.proofs.RunSquares.{address-found}
use Rattle.cs_machine.proofs.Settles.{deliver_at-keeps, sent-found}
use Rattle.cs_world.specs.Happening.{IsCalled}
use Rattle.cs_world.specs.Sending.{datagram_at, marked, noted}
use Rattle.cs_world.specs.Sent.{PacketStands}
use Rattle.cs_world.specs.Stands.{IsLimitOf, Stands, Tells, id_at}
use Rattle.cs_world.specs.declared.call.Call.TheVariants as calls
use Rattle.cs_world.specs.declared.datagram.Datagram.{Datagram}
use Rattle.cs_world.specs.declared.fault.WorldFault.{WorldFault}
use Rattle.cs_world.specs.declared.nodes.Nodes.{Nodes}
use Rattle.cs_world.specs.declared.traffic.Traffic.{Traffic}
use Rattle.cs_world.proofs.Answering.{limit-later}
use Rattle.cs_world.proofs.Calling.{deliver-called}
use Rattle.cs_world.proofs.Passing.{noted-traffic, numbers-stands, passed-traffic}

-- what stands beside an element
beside : {X Y : Type 0} (R : X → Y → Type 0) (xs : List X) (ys : List Y) (i : ℕ) (x : X) → AllZip R xs ys
    → slice_get xs i ≡ Some x → (y : Y) × (slice_get ys i ≡ Some y) × R x y
beside R [] [] i x zip found = absurd (let e = found in cc)
beside R [] (y ∷ ys) i x zip found = absurd zip
beside R (u ∷ xs) [] i x zip found = absurd zip
beside {X} R (u ∷ xs) (y ∷ ys) zero x zip found =
    let same : u ≡ x = (let e = found in cc) in
    (y, refl, subst (λ (v : X). R v y) same zip.0)
beside R (u ∷ xs) (y ∷ ys) (suc i) x zip found = beside R xs ys i x zip.1 found

-- nothing stands beside what isn't there
beside-none : {X Y : Type 0} (R : X → Y → Type 0) (xs : List X) (ys : List Y) (i : ℕ) → AllZip R xs ys → slice_get xs i ≡ None
    → slice_get ys i ≡ None
beside-none R [] [] i zip none = refl
beside-none R [] (y ∷ ys) i zip none = absurd zip
beside-none R (u ∷ xs) [] i zip none = absurd zip
beside-none R (u ∷ xs) (y ∷ ys) zero zip none = absurd (none-some u (sym none))
beside-none R (u ∷ xs) (y ∷ ys) (suc i) zip none = beside-none R xs ys i zip.1 none

-- where no datagram has the number, no packet has it
pub unnumbered : (world : World) (datagrams : List Datagram) (number : ℕ) → AllZip (PacketStands world) datagrams world.sent
    → datagram_at datagrams number ≡ None → sent_at world number ≡ None
unnumbered world datagrams number zip none =
    elim (eqb number 0) as (λ b. cond b None (slice_get datagrams (number - 1)) ≡ None → cond b None (slice_get world.sent (number - 1)) ≡ None) [
      | true ↦ λ is. refl
      | false ↦ λ is. beside-none (PacketStands world) datagrams world.sent (number - 1) zip is
    ] none

-- a datagram stands for the packet with its number
pub numbered : (world : World) (datagrams : List Datagram) (number : ℕ) (datagram : Datagram) → AllZip (PacketStands world) datagrams world.sent
    → datagram_at datagrams number ≡ Some datagram → (sent : Sent) × (sent_at world number ≡ Some sent) × PacketStands world datagram sent
numbered world datagrams number datagram zip at =
    elim (eqb number 0) as (λ b. cond b None (slice_get datagrams (number - 1)) ≡ Some datagram
    → (sent : Sent) × (cond b None (slice_get world.sent (number - 1)) ≡ Some sent) × PacketStands world datagram sent) [
      | true ↦ λ none. absurd (none-some datagram none)
      | false ↦ λ got. beside (PacketStands world) datagrams world.sent (number - 1) datagram zip got
    ] at

-- a packet has the number where a datagram has it
pub found-packet : (world : World) (datagrams : List Datagram) (number : ℕ) → AllZip (PacketStands world) datagrams world.sent
    → (o : Option (Bor Datagram)) → option_copied o ≡ datagram_at datagrams number → is_some o ≡ true
    → (sent : Sent) × (sent_at world number ≡ Some sent)
found-packet world datagrams number zip None is none = absurd (false≢true none)
found-packet world datagrams number zip (Some d) is none =
    let found = numbered world datagrams number d.now zip (sym is) in (found.0, found.1)

-- the machine's packet with the number of a datagram
pub record SentBeside (world : World) (number : ℕ) (datagram : Datagram) : Type 0 where
  pub sent : Sent
  pub at : sent_at world number ≡ Some sent
  pub stands : PacketStands world datagram sent
  pub is_sent : IsSent world sent

-- a delivery sends as many bytes as the step of the receiver
passed-limit : (number : ℕ) (after : After) (fault : WorldFault) → IsLimitOf after.world fault
    → IsLimitOf (brought number (taken_out number after)).world fault
passed-limit number after fault limit =
    let later : World = noted_delivery number (passed_over number after.world) in
    let same : bytes_sent later ≡ bytes_sent after.world = refl in
    limit-later after.world later (omega (arith, same)) fault limit

-- the number's packet, and the node that it is for
module _ {L G : Type 0} (link : LinkGhosts L) (log : LogGhosts G) (code : Nodes L G) (world : World) (number : ℕ) (datagram : Datagram)
    (stands : Stands link log code world) (there : datagram_at code.traffic.datagrams.items number ≡ Some datagram) where
  -- the machine's packet
  pub packet : SentBeside world number datagram
  packet =
      let found = numbered world code.traffic.datagrams.items number datagram stands.traffic.packets there in
      record { sent = found.0; at = found.1; stands = found.2; is_sent = sent-found world number found.0 stands.reached found.1 }

  -- the receiver has the datagram's address
  same_address : datagram.addr ≡ packet.is_sent.node.own.addr
  same_address =
      same_Some datagram.addr packet.is_sent.node.own.addr
      (sym packet.stands.address ∙ address-found world packet.sent.to packet.is_sent.node packet.is_sent.receiver)

  -- and is found under it
  pub receiver-id : id_at code datagram.addr ≡ Some packet.sent.to
  receiver-id = ap (id_at code) same_address ∙ stands.addresses packet.sent.to packet.is_sent.node packet.is_sent.receiver

  -- what comes of its step
  abbrev pub arrives : After
  arrives = deliver_to world packet.sent (node_of world packet.sent.to)

  -- is what happens, and the packet was delivered, and settling passes over it
  delivers : deliver_at world number ≡ brought number (taken_out number arrives)
  delivers = ap (delivered world number) packet.at

  -- so the receiver is called with the bytes
  pub delivery-called : (to : ℕ) (bytes : Bor (List ℕ)) → Some to ≡ id_at code datagram.addr → bytes.now ≡ datagram.bytes
      → IsCalled world to (calls.Deliver bytes) arrives
  delivery-called to bytes is same =
      let is_to : packet.sent.to ≡ to = sym (same_Some to packet.sent.to (is ∙ receiver-id)) in
      subst (λ id. IsCalled world id (calls.Deliver bytes) arrives) is_to
      (deliver-called world stands.reached packet.sent packet.is_sent bytes (same ∙ packet.stands.bytes))

  -- where its step would send too much, so would the delivery
  pub delivery-limit : (fault : WorldFault) → IsLimitOf arrives.world fault → IsLimitOf (deliver_at world number).world fault
  delivery-limit fault limit =
      subst (λ (a : After). IsLimitOf a.world fault) (sym delivers) (passed-limit number arrives fault limit)

  -- and what it tells is told of the delivery, once the datagram is marked and noted
  pub delivery-tells : (then : Nodes L G) (passed now : Traffic) (text : List ℕ) → Tells link log then [] text arrives
      → passed.datagrams.items ≡ marked number then.traffic.datagrams.items → passed.bytes ≡ then.traffic.bytes
      → passed.front ≡ then.traffic.front → now.datagrams.items ≡ noted number passed.datagrams.items → now.bytes ≡ passed.bytes
      → now.front ≡ passed.front → Tells link log (record then { traffic = now }) [] text (deliver_at world number)
  delivery-tells then passed now text told marks mark_bytes mark_front notes note_bytes note_front =
      let next : World = arrives.world in
      let reached : IsReached (noted_delivery number (passed_over number next)) =
      subst (λ (a : After). IsReached a.world) delivers (deliver_at-keeps world number stands.reached).reached in
      let traffic = noted-traffic passed now (passed_over number next) number
      (passed-traffic then.traffic passed next number told.stands.traffic marks mark_bytes mark_front) notes note_bytes note_front in
      subst (Tells link log (record then { traffic = now }) [] text) (sym delivers) (record {
        text = told.text;
        stands = numbers-stands link log then (record then { traffic = now }) next (number ∷ next.settled) (number ∷ next.delivered) told.stands
            reached refl refl refl traffic;
      })
