-- What was sent, as the code keeps it: what stands for the machine's packets stands for them in later worlds, and with more
-- behind it.
use Rattle.std.proofs.Common.{◌≡◌, ◌⊎◌, inl, inr, ◌∙◌, ℕ, zero, suc, ◌+◌, ◌-◌, ◌<◌, ◌≤◌, ◌==◌, true, false, not, List, [], ◌∷◌, ◌++◌}
use Rattle.std.proofs.Common.{length, map, sum, slice_get, get_or, take, drop, Some, refl, sym, ap, subst, arith}
use Rattle.std.specs.List.{AllByRecursion, AllZip, list_any}
use Rattle.std.proofs.lemmas.Bool.Decides.{nat_tests}
use Rattle.std.proofs.lemmas.List.{map-append, take-append-drop, take_more}
use Rattle.std.proofs.lemmas.Option.{none-some}
use Rattle.std.proofs.lemmas.Simd.{map-map}
use Rattle.std.proofs.lemmas.Slice.Zip.{AllZip-long}
use Rattle.cs_base.specs.Address.{Address}
use Rattle.cs_base.specs.Limits.{most_sent}
use Rattle.cs_fields.proofs.Codec.{sum-append, sum-cons}
use Rattle.cs_packet.specs.PacketField.{packet_bytes}
use Rattle.cs_packet.specs.declared.packet.Packet.{Packet}
use Rattle.cs_machine.specs.Delivering.{was_delivered}
use Rattle.cs_machine.specs.Names.{Name, Node, Sent, World, leader_of}
use Rattle.cs_machine.specs.Outcome.{sent_by}
use Rattle.cs_machine.specs.Packets.{bytes_of, bytes_sent}
use Rattle.cs_machine.specs.Reached.{IsSent}
use Rattle.cs_machine.specs.Settling.{is_open}
use Rattle.cs_machine.specs.Squares.{SendStands}
use Rattle.cs_machine.proofs.Follows.{Follows}
use Rattle.cs_machine.proofs.Zips.{AllZip-append}
use Rattle.cs_world.specs.declared.datagram.Datagram.{Datagram}
use Rattle.cs_world.specs.declared.traffic.Traffic.{Traffic}
use Rattle.cs_world.specs.Sending.{bytes_in, datagram_of}
use Rattle.cs_world.specs.Sent.{PacketStands, TrafficStands}
use Rattle.cs_world.proofs.Later.{datagram-later}

-- the bytes of datagrams together
abbrev pub size_of : List Datagram → ℕ
size_of datagrams = sum (map (λ (d : Datagram). length d.bytes) datagrams)

-- those of the packets that they stand for
pub size-is : (world : World) (datagrams : List Datagram) (sent : List Sent) → AllZip (PacketStands world) datagrams sent
    → sum (map (λ (s : Sent). length (bytes_of world s)) sent) ≡ size_of datagrams
size-is world [] [] zip = refl
size-is world [] (s ∷ sent) zip = absurd zip
size-is world (d ∷ datagrams) [] zip = absurd zip
size-is world (d ∷ datagrams) (s ∷ sent) zip =
    let size = λ (s : Sent). length (bytes_of world s) in
    let first : sum (map size (s ∷ sent)) ≡ size s + sum (map size sent) = sum-cons (size s) (map size sent) in
    let last : size_of (d ∷ datagrams) ≡ length d.bytes + size_of datagrams = sum-cons (length d.bytes) (map (λ (d : Datagram). length d.bytes) datagrams) in
    first ∙ ap (λ (bytes : List ℕ). length bytes + sum (map size sent)) (sym zip.0.bytes)
    ∙ ap (λ n. length d.bytes + n) (size-is world datagrams sent zip.1) ∙ sym last

-- the sum of one
sum_by-one : (size : Address × Packet → ℕ) (x y : Address × Packet) → x ≡ y → sum (map size (y ∷ [])) ≡ size x
sum_by-one size x y same =
    let one : sum (size y ∷ []) ≡ size y = omega arith in
    one ∙ ap size (sym same)

-- with packets behind them
pub size-more : (datagrams : List Datagram) (sends : List (Address × Packet))
    → size_of (datagrams ++ map datagram_of sends) ≡ size_of datagrams + bytes_in sends
size-more datagrams sends =
    let size = λ (d : Datagram). length d.bytes in
    let all : size_of (datagrams ++ map datagram_of sends) ≡ size_of datagrams + size_of (map datagram_of sends) =
    ap sum (map-append size datagrams (map datagram_of sends)) ∙ sum-append (map size datagrams) (map size (map datagram_of sends)) in
    all ∙ ap (λ (sizes : List ℕ). size_of datagrams + sum sizes) (map-map size datagram_of sends)

-- packets in a row
pub bytes-append : (sends more : List (Address × Packet)) → bytes_in (sends ++ more) ≡ bytes_in sends + bytes_in more
bytes-append sends more =
    let size = λ (send : Address × Packet). length (packet_bytes send.1) in
    ap sum (map-append size sends more) ∙ sum-append (map size sends) (map size more)

-- the first packets and the next one are no more bytes than all
pub bytes-within : (sends : List (Address × Packet)) (i : ℕ) (x : Address × Packet) → i < length sends → x ≡ get_or sends i x
    → bytes_in (take i sends) + length (packet_bytes x.1) ≤ bytes_in sends
bytes-within sends i x within read =
    let size = λ (send : Address × Packet). length (packet_bytes send.1) in
    let more : bytes_in (take (i + 1) sends) ≡ bytes_in (take i sends) + size x =
    ap (λ (front : List (Address × Packet)). sum (map size front)) (take_more sends i x within)
    ∙ (bytes-append (take i sends) (get_or sends i x ∷ []) ∙ ap (λ n. bytes_in (take i sends) + n) (sum_by-one size x (get_or sends i x) read)) in
    let rest : bytes_in (take (i + 1) sends) + bytes_in (drop (i + 1) sends) ≡ bytes_in sends =
    sym (bytes-append (take (i + 1) sends) (drop (i + 1) sends))
    ∙ ap (λ (all : List (Address × Packet)). sum (map size all)) (take-append-drop (i + 1) sends) in
    omega (arith, more, rest)

-- where the same were delivered, each was that was
brought-same : (world later : World) → later.delivered ≡ world.delivered → (number : ℕ) → was_delivered later number ≡ was_delivered world number
brought-same world later same number = ap (λ (delivered : List ℕ). list_any (λ n. n == number) delivered) same

module _ (world later : World) (follows : Follows world later) (leader : Node) (leads : leader_of world ≡ Some leader) where
  -- what is kept stands for what it stood for
  pub datagrams-later : (ds : List Datagram) (sent : List Sent) → AllByRecursion (IsSent world) sent → AllZip (PacketStands world) ds sent
      → AllZip (PacketStands later) ds sent
  datagrams-later [] [] all zip = zip
  datagrams-later [] (s ∷ sent) all zip = absurd zip
  datagrams-later (d ∷ ds) [] all zip = absurd zip
  datagrams-later (d ∷ ds) (s ∷ sent) all zip =
      (datagram-later world later follows leader leads (d.addr, d.bytes) s all.0 zip.0, datagrams-later ds sent all.1 zip.1)

  -- so where nothing more was sent, passed over or delivered, all stands as it did
  pub traffic-later : (traffic : Traffic) → AllByRecursion (IsSent world) world.sent → later.sent ≡ world.sent
      → later.settled ≡ world.settled → later.delivered ≡ world.delivered → TrafficStands traffic world → TrafficStands traffic later
  traffic-later traffic all same_sent same_settled same_delivered stands =
      let zip = datagrams-later traffic.datagrams.items world.sent all stands.packets in
      let packets : AllZip (PacketStands later) traffic.datagrams.items later.sent =
      subst (AllZip (PacketStands later) traffic.datagrams.items) (sym same_sent) zip in
      let bytes : bytes_sent later ≡ bytes_sent world =
      size-is later traffic.datagrams.items later.sent packets ∙ sym (size-is world traffic.datagrams.items world.sent stands.packets) in
      let opens : (number : ℕ) → is_open later number ≡ is_open world number =
      λ number. ap (λ (settled : List ℕ). not (list_any (λ n. n == number) settled)) same_settled in
      record {
        packets = packets;
        marks = λ place datagram at. stands.marks place datagram at ∙ sym (opens (place + 1));
        delivered = λ place datagram at. stands.delivered place datagram at ∙ sym (brought-same world later same_delivered (place + 1));
        front = λ place before. opens (place + 1) ∙ stands.front place before;
        bytes = stands.bytes ∙ sym bytes;
        few = subst (λ n. n ≤ most_sent) (sym bytes) stands.few;
      }

-- what is sent stands for what its names are
pub sent-zip : (world : World) (me : ℕ) (sends : List (Address × Packet)) (named : List (ℕ × Name)) → AllZip (SendStands world me) sends named
    → AllZip (PacketStands world) (map datagram_of sends) (sent_by me named)
sent-zip world me [] [] zip = zip
sent-zip world me [] (n ∷ named) zip = absurd zip
sent-zip world me (s ∷ sends) [] zip = absurd zip
sent-zip world me (s ∷ sends) (n ∷ named) zip =
    (record { address = zip.0.address; bytes = ap packet_bytes zip.0.packet }, sent-zip world me sends named zip.1)

-- what stands at a place stands there before what is put behind, or is of that
pub at-append : {X : Type 0} (xs ys : List X) (i : ℕ) (x : X) → slice_get (xs ++ ys) i ≡ Some x
    → (slice_get xs i ≡ Some x) ⊎ ((length xs ≤ i) × (slice_get ys (i - length xs) ≡ Some x))
at-append [] ys i x at =
    let all : i ≡ i - 0 = omega arith in inr (omega arith, subst (λ n. slice_get ys n ≡ Some x) all at)
at-append (y ∷ xs) ys zero x at = inl at
at-append (y ∷ xs) ys (suc i) x at = elim (at-append xs ys i x at) [
  | inl there ↦ inl there
  | inr (behind, there) ↦
      let same : i - length xs ≡ suc i - length (y ∷ xs) = omega (arith, behind) in
      inr (omega (arith, behind), subst (λ n. slice_get ys n ≡ Some x) same there)
]

-- new packets are open
new-open : (sends : List (Address × Packet)) (i : ℕ) (d : Datagram) → slice_get (map datagram_of sends) i ≡ Some d → d.is_open ≡ true
new-open [] i d at = absurd (none-some d at)
new-open (s ∷ sends) zero d at = (let e = at in cc)
new-open (s ∷ sends) (suc i) d at = new-open sends i d at

-- and none was delivered yet
new-fresh : (sends : List (Address × Packet)) (i : ℕ) (d : Datagram) → slice_get (map datagram_of sends) i ≡ Some d → d.is_delivered ≡ false
new-fresh [] i d at = absurd (none-some d at)
new-fresh (s ∷ sends) zero d at = (let e = at in cc)
new-fresh (s ∷ sends) (suc i) d at = new-fresh sends i d at

-- a number behind all of these isn't among them
not-among : (numbers : List ℕ) (most number : ℕ) → AllByRecursion (λ n. n ≤ most) numbers → most < number
    → list_any (λ n. n == number) numbers ≡ false
not-among [] most number all behind = refl
not-among (n ∷ numbers) most number all behind =
    let other : (n == number) ≡ false = grind (arith, nat_tests, all.0, behind) in
    rw (other) (not-among numbers most number all.1 behind)

-- so what is behind everything that was sent is open
open-behind : (world : World) → AllByRecursion (λ number. number ≤ length world.sent) world.settled → (number : ℕ)
    → length world.sent < number → is_open world number ≡ true
open-behind world settled number behind = ap not (not-among world.settled (length world.sent) number settled behind)

module _ (traffic next : Traffic) (world later : World) (sends : List (Address × Packet)) (sent : List Sent)
    (stands : TrafficStands traffic world) (settled : AllByRecursion (λ number. number ≤ length world.sent) world.settled)
    (delivered : AllByRecursion (λ number. number ≤ length world.sent) world.delivered)
    (same : AllZip (PacketStands later) traffic.datagrams.items world.sent) (more : AllZip (PacketStands later) (map datagram_of sends) sent)
    (sent_is : later.sent ≡ world.sent ++ sent) (settled_is : later.settled ≡ world.settled)
    (delivered_is : later.delivered ≡ world.delivered) where
  -- the datagrams with those of the new packets
  abbrev all : List Datagram
  all = traffic.datagrams.items ++ map datagram_of sends

  -- stand for all
  zipped : AllZip (PacketStands later) all later.sent
  zipped =
      subst (AllZip (PacketStands later) all) (sym sent_is)
      (AllZip-append (PacketStands later) traffic.datagrams.items world.sent (map datagram_of sends) sent same more)

  -- so many bytes are sent then
  pub bytes-more : bytes_sent later ≡ traffic.bytes + bytes_in sends
  bytes-more =
      size-is later all later.sent zipped
      ∙ (size-more traffic.datagrams.items sends
      ∙ ap (λ n. n + bytes_in sends) (sym (stands.bytes ∙ size-is world traffic.datagrams.items world.sent stands.packets)))

  -- and settling delivers what it did
  opens : (number : ℕ) → is_open later number ≡ is_open world number
  opens number = ap (λ (ns : List ℕ). not (list_any (λ n. n == number) ns)) settled_is

  pub traffic-more : next.datagrams.items ≡ all → next.bytes ≡ traffic.bytes + bytes_in sends → next.bytes ≤ most_sent
      → next.front ≡ traffic.front → TrafficStands next later
  traffic-more datagrams bytes few front = record {
    packets = subst (λ ds. AllZip (PacketStands later) ds later.sent) (sym datagrams) zipped;
    marks = λ place datagram at. mark place datagram (subst (λ ds. slice_get ds place ≡ Some datagram) datagrams at);
    delivered = λ place datagram at. note place datagram (subst (λ ds. slice_get ds place ≡ Some datagram) datagrams at);
    front = λ place before. opens (place + 1) ∙ stands.front place (subst (λ n. place < n) front before);
    bytes = bytes ∙ sym bytes-more;
    few = subst (λ n. n ≤ most_sent) (bytes ∙ sym bytes-more) few;
  }
    where
      mark : (place : ℕ) (datagram : Datagram) → slice_get all place ≡ Some datagram → datagram.is_open ≡ is_open later (place + 1)
      mark place datagram at = elim (at-append traffic.datagrams.items (map datagram_of sends) place datagram at) [
        | inl there ↦ stands.marks place datagram there ∙ sym (opens (place + 1))
        | inr (behind, there) ↦
            let long = AllZip-long (PacketStands world) traffic.datagrams.items world.sent stands.packets in
            new-open sends (place - length traffic.datagrams.items) datagram there
            ∙ sym (opens (place + 1) ∙ open-behind world settled (place + 1) (omega (arith, behind, long)))
      ]

      note : (place : ℕ) (datagram : Datagram) → slice_get all place ≡ Some datagram → datagram.is_delivered ≡ was_delivered later (place + 1)
      note place datagram at = elim (at-append traffic.datagrams.items (map datagram_of sends) place datagram at) [
        | inl there ↦ stands.delivered place datagram there ∙ sym (brought-same world later delivered_is (place + 1))
        | inr (behind, there) ↦
            let long = AllZip-long (PacketStands world) traffic.datagrams.items world.sent stands.packets in
            new-fresh sends (place - length traffic.datagrams.items) datagram there
            ∙ sym (brought-same world later delivered_is (place + 1)
            ∙ not-among world.delivered (length world.sent) (place + 1) delivered (omega (arith, behind, long)))
      ]
