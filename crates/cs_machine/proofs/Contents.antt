-- What was sent: well-formed packets that fit a datagram, and whose bytes stay; so the count of all bytes only grows. And
-- what was logged: well-formed entries, which stay.
use Rattle.std.proofs.Common.{◌≡◌, ℕ, ◌+◌, ◌≤◌, List, [], ◌∷◌, ◌++◌, length, map, sum, Option, Some, None, refl, sym, ap, ◌∙◌, subst, arith}
use Rattle.std.specs.List.{AllByRecursion}
use Rattle.std.proofs.lemmas.List.{map-append}
use Rattle.cs_base.proofs.Elements.{All-weaker}
use Rattle.cs_fields.proofs.Codec.{sum-append}
use Rattle.cs_packet.specs.EntryField.{IsEntry}
use Rattle.cs_packet.specs.PacketField.{IsPacket, packet_bytes}
use Rattle.cs_packet.proofs.PacketLaws.{packet_size}
use Rattle.cs_machine.specs.Contents.{contents_of}
use Rattle.cs_machine.specs.Entries.{Entry}
use Rattle.cs_machine.specs.Names.{Node, Sent, World, leader_of, node_of}
use Rattle.cs_machine.specs.Packets.{bytes_of, bytes_sent, most_datagram, packet_for}
use Rattle.cs_machine.specs.Reached.{IsLogged, IsReached, IsSent}
use Rattle.cs_machine.specs.Values.{entry_for}
use Rattle.cs_machine.proofs.Follows.{Follows, entry_for-later, packet_for-later}
use Rattle.cs_machine.proofs.ReachedChanges.{Reaches}

-- what is equal of each element is equal of all
pub map-same : {X Y : Type 0} (f g : X → Y) (xs : List X) → AllByRecursion (λ (x : X). f x ≡ g x) xs → map f xs ≡ map g xs
map-same f g [] all = refl
map-same f g (x ∷ xs) all = ap (λ y. y ∷ map f xs) all.0 ∙ ap (λ ys. g x ∷ ys) (map-same f g xs all.1)

module _ (world : World) (reached : IsReached world) where
  -- in a later world the bytes are the same
  pub bytes-later : (later : World) → Follows world later
      → AllByRecursion (λ (sent : Sent). bytes_of later sent ≡ bytes_of world sent) world.sent
  bytes-later later follows = go (leader_of world) refl
    where
      go : (o : Option Node) → leader_of world ≡ o → AllByRecursion (λ (sent : Sent). bytes_of later sent ≡ bytes_of world sent) world.sent
      go None none =
          let Same : World → Type 0 = λ w. AllByRecursion (λ (sent : Sent). bytes_of later sent ≡ bytes_of w sent) w.sent in
          subst Same (sym (reached.started none)) tt
      go (Some leader) leads =
          All-weaker (IsSent world) (λ (sent : Sent). bytes_of later sent ≡ bytes_of world sent)
          (λ sent is. ap packet_bytes (packet_for-later world later follows leader leads sent is.name)) world.sent reached.sent

  -- and what a node has logged is the same
  pub entries-later : (later : World) → Follows world later → (id : ℕ) (node : Node) → node_of world id ≡ Some node
      → AllByRecursion (λ (entry : Entry). entry_for (contents_of later) entry ≡ entry_for (contents_of world) entry) node.entries
  entries-later later follows id node found =
      let is = reached.nodes id node found in
      All-weaker (IsLogged world) (λ (entry : Entry). entry_for (contents_of later) entry ≡ entry_for (contents_of world) entry)
      (λ entry is_logged. entry_for-later world later follows is.leader is.led entry is_logged.fits) node.entries is.entries

  -- so it is the same as a whole
  pub logged-later : (later : World) → Follows world later → (id : ℕ) (node : Node) → node_of world id ≡ Some node
      → map (entry_for (contents_of later)) node.entries ≡ map (entry_for (contents_of world)) node.entries
  logged-later later follows id node found =
      map-same (entry_for (contents_of later)) (entry_for (contents_of world)) node.entries (entries-later later follows id node found)

  -- and well formed
  pub entries-formed : (id : ℕ) (node : Node) → node_of world id ≡ Some node
      → AllByRecursion (λ (entry : Entry). IsEntry (entry_for (contents_of world) entry)) node.entries
  entries-formed id node found =
      All-weaker (IsLogged world) (λ (entry : Entry). IsEntry (entry_for (contents_of world) entry))
      (λ entry is_logged. is_logged.formed) node.entries (reached.nodes id node found).entries

  -- each packet is one
  pub packets-sent : AllByRecursion (λ (sent : Sent). IsPacket (packet_for (contents_of world) sent)) world.sent
  packets-sent = All-weaker (IsSent world) (λ (sent : Sent). IsPacket (packet_for (contents_of world) sent)) (λ sent is. is.packet) world.sent reached.sent

  -- and no packet has more bytes than a datagram carries
  pub short-sent : AllByRecursion (λ (sent : Sent). length (bytes_of world sent) ≤ most_datagram) world.sent
  short-sent =
      All-weaker (IsSent world) (λ (sent : Sent). length (bytes_of world sent) ≤ most_datagram)
      (λ sent is. omega (arith, packet_size (packet_for (contents_of world) sent) is.packet)) world.sent reached.sent

-- how many bytes a packet has
abbrev size_in : World → Sent → ℕ
size_in world sent = length (bytes_of world sent)

-- what a later world has sent in all is what the earlier one had, and what came behind that
pub bytes_sent-more : (world later : World) → IsReached world → Reaches world later → (more : List Sent) → later.sent ≡ world.sent ++ more
    → bytes_sent later ≡ bytes_sent world + sum (map (λ (sent : Sent). length (bytes_of later sent)) more)
bytes_sent-more world later reached reaches more longer =
    let same : map (size_in later) world.sent ≡ map (size_in world) world.sent =
    map-same (size_in later) (size_in world) world.sent
    (All-weaker (λ (sent : Sent). bytes_of later sent ≡ bytes_of world sent) (λ (sent : Sent). size_in later sent ≡ size_in world sent)
    (λ sent is. ap length is) world.sent (bytes-later world reached later reaches.follows)) in
    ap (λ all. sum (map (size_in later) all)) longer
    ∙ (ap sum (map-append (size_in later) world.sent more)
    ∙ (sum-append (map (size_in later) world.sent) (map (size_in later) more)
    ∙ ap (λ sizes. sum sizes + sum (map (size_in later) more)) same))

-- so it never falls
pub bytes_sent-rises : (world later : World) → IsReached world → Reaches world later → bytes_sent world ≤ bytes_sent later
bytes_sent-rises world later reached reaches =
    let more = reaches.follows.sent in
    let all = bytes_sent-more world later reached reaches more.0 more.1 in omega (arith, all)
