-- The packet that bytes are which came to a node: the one that is looked for by the node's address and them.
use Rattle.std.proofs.Common.{◌≡◌, ◌≢◌, ◌∙◌, ℕ, zero, suc, ◌+◌, ◌<◌, ◌&&◌, ◌==◌, Bool, true, false, not, eqb, List, [], ◌∷◌, length}
use Rattle.std.proofs.Common.{Option, Some, None, refl, sym, ap, subst, arith}
use Rattle.std.specs.List.{filter, find, range_with_len}
use Rattle.std.specs.Option.{option_map_or, option_or}
use Rattle.std.specs.Str.{bytes_eq}
use Rattle.std.proofs.lemmas.Bool.{and_left, eqb-true, eq-eqb, false≢true}
use Rattle.std.proofs.lemmas.Option.{none-some, same_Some}
use Rattle.std.proofs.lemmas.Slice.Zip.{AllZip-long}
use Rattle.cs_base.specs.Address.{Address}
use Rattle.cs_link.specs.declared.link.Link.{Ghosts as LinkGhosts}
use Rattle.cs_log.specs.declared.log.Log.{Ghosts as LogGhosts}
use Rattle.cs_machine.specs.Delivering.{sent_at, was_delivered}
use Rattle.cs_machine.specs.Happens.{same_address}
use Rattle.cs_machine.specs.Names.{Node, World, node_of}
use Rattle.cs_machine.specs.Squares.{address_in}
use Rattle.cs_world.specs.Receiving.{is_numbered_so, is_sent_so, least_of, number_for}
use Rattle.cs_world.specs.Sending.{datagram_at, is_for, least_with}
use Rattle.cs_world.specs.Sent.{PacketStands}
use Rattle.cs_world.specs.Stands.{Stands, address_of, id_at}
use Rattle.cs_world.specs.declared.datagram.Datagram.{Datagram}
use Rattle.cs_world.specs.declared.nodes.Nodes.{Nodes}
use Rattle.cs_world.proofs.Deliveries.{SentBeside, packet, receiver-id, unnumbered}
use Rattle.cs_world.proofs.Indexes.{at-place}
use Rattle.cs_world.proofs.Least.{find-filter, first-filter}
use Rattle.cs_world.proofs.SameAddress.{same_address-itself, same_address-only}

-- what passes no test
none-passes : (xs : List ℕ) → filter (λ n. false) xs ≡ []
none-passes [] = refl
none-passes (x ∷ xs) = none-passes xs

-- who has an address is there
addressed : (o : Option Node) (addr : Address) → option_map_or (λ (n : Node). Some n.own.addr) o None ≡ Some addr
    → (n : Node) × (o ≡ Some n) × (n.own.addr ≡ addr)
addressed None addr is = absurd (none-some addr is)
addressed (Some n) addr is = (n, refl, same_Some n.own.addr addr is)

module _ {L G : Type 0} (link : LinkGhosts L) (log : LogGhosts G) (code : Nodes L G) (world : World) (id : ℕ) (bytes : List ℕ)
    (stands : Stands link log code world) where
  -- what was sent
  abbrev items : List Datagram
  items = code.traffic.datagrams.items

  -- there are as many packets
  many : length items ≡ length world.sent
  many = sym (AllZip-long (PacketStands world) items world.sent stands.traffic.packets)

  -- a datagram was delivered as its packet was
  delivered-so : (number : ℕ) (d : Datagram) → datagram_at items number ≡ Some d → was_delivered world number ≡ d.is_delivered
  delivered-so zero d at = absurd (none-some d at)
  delivered-so (suc place) d at =
      let here : suc place ≡ place + 1 = omega arith in
      ap (was_delivered world) here ∙ sym (stands.traffic.delivered place d (sym (at-place items place) ∙ at))

  -- a packet is one where it goes to the node and its datagram has the bytes
  so-at : (number : ℕ) (d : Datagram) (there : datagram_at items number ≡ Some d) (b : Bool)
      → eqb (packet link log code world number d stands there).sent.to id ≡ b
      → is_numbered_so world id bytes number ≡ (b && bytes_eq d.bytes bytes)
  so-at number d there b receiver =
      let p = packet link log code world number d stands there in
      ap (λ o. option_map_or (is_sent_so world id bytes) o false) p.at
      ∙ ap (λ bs. (p.sent.to == id) && bytes_eq bs bytes) (sym p.stands.bytes)
      ∙ ap (λ r. r && bytes_eq d.bytes bytes) receiver

  -- without a datagram there is none
  so-absent : (number : ℕ) → datagram_at items number ≡ None → is_numbered_so world id bytes number ≡ false
  so-absent number absent =
      ap (λ o. option_map_or (is_sent_so world id bytes) o false) (unnumbered world items number stands.traffic.packets absent)

  -- where the node has no address, none goes to it
  pub unaddressed : address_of code id ≡ None → None ≡ number_for world id bytes
  unaddressed none =
      sym (ap (λ (p : ℕ → Bool). least_of world (filter p (range_with_len 1 (length world.sent)))) (λ i n. none-so n i)
      ∙ ap (least_of world) (none-passes (range_with_len 1 (length world.sent))))
    where
      others : (number : ℕ) (d : Datagram) (there : datagram_at items number ≡ Some d) (b : Bool)
          → eqb (packet link log code world number d stands there).sent.to id ≡ b → b ≡ false
      others number d there true same =
          let p = packet link log code world number d stands there in
          absurd (none-some d.addr (sym none ∙ stands.known id ∙ ap (address_in world) (sym (eqb-true p.sent.to id same)) ∙ p.stands.address))
      others number d there false other = refl

      go : (number : ℕ) (o : Option Datagram) → datagram_at items number ≡ o → is_numbered_so world id bytes number ≡ false
      go number None absent = so-absent number absent
      go number (Some d) there = so-at number d there false (others number d there _ refl)

      none-so : (number : ℕ) → is_numbered_so world id bytes number ≡ false
      none-so number = go number (datagram_at items number) refl

  module _ (addr : Address) (known : address_of code id ≡ Some addr) where
    -- else those go to it whose datagrams go to its address
    receiver : (number : ℕ) (d : Datagram) (there : datagram_at items number ≡ Some d)
        → eqb (packet link log code world number d stands there).sent.to id ≡ same_address d.addr addr
    receiver number d there = go (eqb p.sent.to id) refl
      where
        p : SentBeside world number d
        p = packet link log code world number d stands there

        here : id_at code addr ≡ Some id
        here =
            let n = addressed (node_of world id) addr (sym (stands.known id) ∙ known) in
            ap (id_at code) (sym n.2) ∙ stands.addresses id n.0 n.1

        not-here : (b : Bool) → same_address d.addr addr ≡ b → eqb p.sent.to id ≡ false → false ≡ b
        not-here true same other =
            (let to : p.sent.to ≡ id = same_Some p.sent.to id
            (sym (receiver-id link log code world number d stands there) ∙ ap (id_at code) (same_address-only d.addr addr same) ∙ here) in
            absurd (false≢true (sym other ∙ eq-eqb p.sent.to id to)))
        not-here false apart other = refl

        go : (b : Bool) → eqb p.sent.to id ≡ b → b ≡ same_address d.addr addr
        go true same =
            (let its : d.addr ≡ addr = same_Some d.addr addr
            (sym p.stands.address ∙ ap (address_in world) (eqb-true p.sent.to id same) ∙ sym (stands.known id) ∙ known) in
            sym (ap (λ a. same_address a addr) its ∙ same_address-itself addr))
        go false other = not-here (same_address d.addr addr) refl other

    -- so one is looked for among the datagrams
    so-for : (number : ℕ) → is_numbered_so world id bytes number ≡ option_map_or (is_for addr bytes) (datagram_at items number) false
    so-for number = go (datagram_at items number) refl
      where
        go : (o : Option Datagram) → datagram_at items number ≡ o
            → is_numbered_so world id bytes number ≡ option_map_or (is_for addr bytes) o false
        go None absent = so-absent number absent
        go (Some d) there = so-at number d there (same_address d.addr addr) (receiver number d there)

    -- and those that weren't delivered yet among those that weren't
    fresh-for : (number : ℕ) → (is_numbered_so world id bytes number && not (was_delivered world number))
        ≡ option_map_or (λ (d : Datagram). is_for addr bytes d && not d.is_delivered) (datagram_at items number) false
    fresh-for number = ap (λ b. b && not (was_delivered world number)) (so-for number) ∙ go (datagram_at items number) refl
      where
        go : (o : Option Datagram) → datagram_at items number ≡ o
            → (option_map_or (is_for addr bytes) o false && not (was_delivered world number))
            ≡ option_map_or (λ (d : Datagram). is_for addr bytes d && not d.is_delivered) o false
        go None absent = refl
        go (Some d) there = ap (λ b. is_for addr bytes d && not b) (delivered-so number d there)

    -- and what is found is the packet
    pub addressed-named : option_or (least_with (λ d. is_for addr bytes d && not d.is_delivered) items) (least_with (is_for addr bytes) items)
        ≡ number_for world id bytes
    addressed-named =
        let so = is_numbered_so world id bytes in
        let fresh = λ (n : ℕ). not (was_delivered world n) in
        let numbers = range_with_len 1 (length world.sent) in
        ap (λ n. option_or
        (find (λ n. option_map_or (λ (d : Datagram). is_for addr bytes d && not d.is_delivered) (datagram_at items n) false) (range_with_len 1 n))
        (find (λ n. option_map_or (is_for addr bytes) (datagram_at items n) false) (range_with_len 1 n))) many
        ∙ ap (λ (p : ℕ → Bool). option_or (find p numbers) (find (λ n. option_map_or (is_for addr bytes) (datagram_at items n) false) numbers))
        (λ i n. sym (fresh-for n) i)
        ∙ ap (λ (p : ℕ → Bool). option_or (find (λ n. so n && fresh n) numbers) (find p numbers)) (λ i n. sym (so-for n) i)
        ∙ ap (λ o. option_or o (find so numbers)) (sym (find-filter fresh so numbers))
        ∙ ap (option_or (find fresh (filter so numbers))) (sym (first-filter so numbers))
