-- After a node is started the code stands for the machine's next world.
use Rattle.std.proofs.Common.{◌≡◌, ◌∙◌, ◌||◌, ℕ, Bool, true, false, cond, eqb, is_some, List, [], ◌∷◌, ◌++◌, Option, Some, None}
use Rattle.std.proofs.Common.{refl, sym, ap, subst, append-nil, arith, codes, decimal, IfSome, IsSomeAnd}
use Rattle.std.specs.List.{find}
use Rattle.std.specs.Option.{option_map, option_map_or}
use Rattle.std.proofs.lemmas.Bool.{eq-eqb, eqb-true, false≢true, or_parts}
use Rattle.std.proofs.lemmas.Option.{none-some, same_Some}
use Rattle.cs_base.specs.Address.{Address}
use Rattle.cs_link.specs.declared.link.Link.{Ghosts as LinkGhosts}
use Rattle.cs_log.specs.Frames.{IsTorn}
use Rattle.cs_log.specs.declared.log.Log.{Ghosts as LogGhosts}
use Rattle.cs_node.specs.Appending.{entry_frame}
use Rattle.cs_show.specs.Text.{ended}
use Rattle.cs_machine.specs.Contents.{contents_of}
use Rattle.cs_machine.specs.Happens.{begun, is_used, same_address, started}
use Rattle.cs_machine.specs.Names.{Node, State, World, leader_of, node_of}
use Rattle.cs_machine.specs.Reached.{IsReached}
use Rattle.cs_machine.specs.Squares.{address_in}
use Rattle.cs_machine.specs.Values.{node_for}
use Rattle.cs_machine.proofs.Nodes.{find-append_none, list_any-push}
use Rattle.cs_machine.proofs.RunSquares.{address-found}
use Rattle.cs_packet.specs.declared.own.Own.{Own}
use Rattle.cs_world.specs.Addresses.{AreNoted}
use Rattle.cs_world.specs.Kept.{AreDatagramsOf, sent_from}
use Rattle.cs_world.specs.Processes.{Parts}
use Rattle.cs_world.specs.Seats.{parts_at}
use Rattle.cs_world.specs.Sent.{TrafficStands}
use Rattle.cs_world.specs.Stands.{NodeStands, Stands, StandsIf, Tells, address_of, id_at}
use Rattle.cs_world.specs.Starting.{StartsAs, boot_entry, started_as}
use Rattle.cs_world.specs.declared.nodes.Nodes.{Nodes}
use Rattle.cs_world.proofs.Answering.{line-behind}
use Rattle.cs_world.proofs.Options.{absent_none}
use Rattle.cs_world.proofs.SameAddress.{same_address-itself, same_address-only}
use Rattle.cs_world.proofs.Under.{none-under}

-- one is there where one was, or where the new one is
is_some-more : {X : Type 0} (new : Bool) (x : X) (before : Option X) → is_some (cond new (Some x) before) ≡ (new || is_some before)
is_some-more true x before = refl
is_some-more false x before = refl

-- a node, an address; and one more node with its id and its address
shuffle : (there has same_id same : Bool) → ((there || has) || (same_id || same)) ≡ ((same_id || there) || (same || has))
shuffle true true true true = refl
shuffle true true true false = refl
shuffle true true false same = refl
shuffle true false true same = refl
shuffle true false false true = refl
shuffle true false false false = refl
shuffle false true true same = refl
shuffle false true false true = refl
shuffle false true false false = refl
shuffle false false true same = refl
shuffle false false false true = refl
shuffle false false false false = refl

-- what a test finds isn't an element behind that fails it
find-push_other : {X : Type 0} (p : X → Bool) (xs : List X) (x : X) → p x ≡ false → find p (xs ++ x ∷ []) ≡ find p xs
find-push_other p [] x fails = ap (λ b. cond b (Some x) None) fails
find-push_other p (y ∷ xs) x fails = ap (λ found. cond (p y) (Some y) found) (find-push_other p xs x fails)

-- an unused id has no seat, and an unused address no id
pub free-of : {L G : Type 0} (link : LinkGhosts L) (log : LogGhosts G) (code : Nodes L G) (world : World) (id : ℕ) (addr : Address)
    → Stands link log code world → is_used id addr world ≡ false
    → (is_some (parts_at link log code.seats id) ≡ false) × (is_some (id_at code addr) ≡ false)
free-of link log code world id addr stands unused =
    or_parts (is_some (parts_at link log code.seats id)) (is_some (id_at code addr)) (sym (stands.used id addr) ∙ unused)

-- one frame, with nothing behind it
first-bytes : (frame : List ℕ) → (frame ++ []) ++ [] ≡ frame
first-bytes frame = append-nil (frame ++ []) ∙ append-nil frame

-- nothing is less than a whole frame
nothing-torn : IsTorn []
nothing-torn = omega arith

-- what the code has for a node at its start stands for it, where nobody sent anything under its id before
pub begun-stands : (world : World) (own : Own) (state : State) (parts : Parts) → StartsAs own parts → sent_from world own.id ≡ []
    → started_as own ≡ node_for (contents_of world) own state → NodeStands world (begun own state) parts
begun-stands world own state parts starts none value = record {
  node = starts.node ∙ ap Some value;
  link = record {
    sent = subst (λ o. IsSomeAnd o (λ datagrams. AreDatagramsOf world datagrams (sent_from world own.id))) (sym starts.sent)
        (subst (AreDatagramsOf world []) (sym none) tt);
    faults = starts.link_faults;
  };
  log = record {
    bytes = subst (λ frame. IfSome parts.log.bytes (λ bytes. bytes ≡ frame)) (sym (first-bytes (entry_frame (boot_entry own)))) starts.bytes;
    torn = nothing-torn;
    own_faults = starts.own_faults;
    armed = starts.unarmed;
  };
  back = λ down. absurd (none-some state (sym down));
}

module _ {L G : Type 0} (link : LinkGhosts L) (log : LogGhosts G) (code later : Nodes L G) (world : World) (node : Node) (parts : Parts)
    (stands : Stands link log code world) (unused : is_used node.own.id node.own.addr world ≡ false)
    (kept : (id : ℕ) (n : Node) (p : Parts) → node_of world id ≡ Some n → NodeStands world n p → NodeStands (started world node).world n p)
    (new : sent_from world node.own.id ≡ [] → NodeStands (started world node).world node parts)
    (seats : (q : ℕ) → parts_at link log later.seats q ≡ cond (eqb node.own.id q) (Some parts) (parts_at link log code.seats q))
    (addresses : AreNoted node.own.id node.own.addr code.addresses later.addresses)
    (leader : later.leader ≡ option_map (λ (n : Node). n.own) (leader_of (started world node).world))
    (traffic : TrafficStands later.traffic (started world node).world)
    (reached : IsReached (started world node).world) where
  -- the machine's next world
  abbrev next : World
  next = (started world node).world

  -- what the code has under an id
  abbrev was : ℕ → Option Parts
  was q = parts_at link log code.seats q

  -- and what it has now
  abbrev now_at : ℕ → Option Parts
  now_at q = parts_at link log later.seats q

  -- the id and the address are free
  free : (is_some (was node.own.id) ≡ false) × (is_some (id_at code node.own.addr) ≡ false)
  free = free-of link log code world node.own.id node.own.addr stands unused

  -- no node of the machine has the id
  not_there : node_of world node.own.id ≡ None
  not_there = none-under world (node_of world node.own.id) (was node.own.id) (absent_none (was node.own.id) free.0) (stands.nodes node.own.id)

  -- nodes with other ids are found as before
  node_other : (q : ℕ) → eqb node.own.id q ≡ false → node_of next q ≡ node_of world q
  node_other q other = find-push_other (λ (n : Node). eqb n.own.id q) world.nodes node other

  -- and the new one is there
  node_here : node_of next node.own.id ≡ Some node
  node_here =
      find-append_none (λ (n : Node). eqb n.own.id node.own.id) world.nodes (node ∷ []) not_there
      ∙ ap (λ b. cond b (Some node) None) (eq-eqb node.own.id node.own.id refl)

  -- what was under an id stands still
  still : (q : ℕ) (o : Option Node) (p : Option Parts) → node_of world q ≡ o → StandsIf world o p → StandsIf next o p
  still q None None is at = tt
  still q None (Some p) is at = absurd at
  still q (Some n) None is at = absurd at
  still q (Some n) (Some p) is at = kept q n p is at

  -- each node of the code stands
  nodes-next : (q : ℕ) → StandsIf next (node_of next q) (now_at q)
  nodes-next q = subst (StandsIf next (node_of next q)) (sym (seats q)) (go (eqb node.own.id q) refl)
    where
      go : (b : Bool) → eqb node.own.id q ≡ b → StandsIf next (node_of next q) (cond b (Some parts) (was q))
      go true same =
          subst (λ o. StandsIf next o (Some parts)) (sym (ap (node_of next) (sym (eqb-true node.own.id q same)) ∙ node_here))
          (new (stands.unsent node.own.id not_there))
      go false other =
          subst (λ o. StandsIf next o (was q)) (sym (node_other q other)) (still q (node_of world q) (was q) refl (stands.nodes q))

  -- its id and its address are used from now on
  used-next : (q : ℕ) (a : Address) → is_used q a next ≡ (is_some (now_at q) || is_some (id_at later a))
  used-next q a =
      list_any-push (λ (n : Node). eqb n.own.id q || same_address n.own.addr a) world.nodes node
      ∙ ap (λ b. b || (eqb node.own.id q || same_address node.own.addr a)) (stands.used q a)
      ∙ shuffle (is_some (was q)) (is_some (id_at code a)) (eqb node.own.id q) (same_address node.own.addr a)
      ∙ ap (λ b. (eqb node.own.id q || is_some (was q)) || b)
      (sym (ap is_some (addresses.ids a) ∙ is_some-more (same_address node.own.addr a) node.own.id (id_at code a)))
      ∙ ap (λ b. b || is_some (id_at later a)) (sym (ap is_some (seats q) ∙ is_some-more (eqb node.own.id q) parts (was q)))

  -- the others have other addresses
  address-differs : (q : ℕ) (n : Node) → id_at code n.own.addr ≡ Some q → same_address node.own.addr n.own.addr ≡ false
  address-differs q n there = go (same_address node.own.addr n.own.addr) refl
    where
      go : (b : Bool) → same_address node.own.addr n.own.addr ≡ b → same_address node.own.addr n.own.addr ≡ false
      go true same =
          (let here : id_at code node.own.addr ≡ Some q = ap (id_at code) (same_address-only node.own.addr n.own.addr same) ∙ there in
          absurd (false≢true (sym free.1 ∙ ap is_some here)))
      go false other = other

  -- each node is found under its address
  addresses-next : (q : ℕ) (n : Node) → node_of next q ≡ Some n → id_at later n.own.addr ≡ Some q
  addresses-next q n found = go (eqb node.own.id q) refl
    where
      go : (b : Bool) → eqb node.own.id q ≡ b → id_at later n.own.addr ≡ Some q
      go true same =
          (let is_q : node.own.id ≡ q = eqb-true node.own.id q same in
          let is_node : node ≡ n = same_Some node n (sym node_here ∙ ap (node_of next) is_q ∙ found) in
          subst (λ (m : Node). id_at later m.own.addr ≡ Some q) is_node
          (addresses.ids node.own.addr
          ∙ ap (λ b. cond b (Some node.own.id) (id_at code node.own.addr)) (same_address-itself node.own.addr)
          ∙ ap (λ p. Some p) is_q))
      go false other =
          (let there : id_at code n.own.addr ≡ Some q = stands.addresses q n (sym (node_other q other) ∙ found) in
          addresses.ids n.own.addr
          ∙ ap (λ b. cond b (Some node.own.id) (id_at code n.own.addr)) (address-differs q n there)
          ∙ there)

  -- and has it
  known-next : (q : ℕ) → address_of later q ≡ address_in next q
  known-next q = addresses.addrs q ∙ go (eqb node.own.id q) refl
    where
      go : (b : Bool) → eqb node.own.id q ≡ b → cond b (Some node.own.addr) (address_of code q) ≡ address_in next q
      go true same = sym (ap (address_in next) (sym (eqb-true node.own.id q same)) ∙ address-found next node.own.id node node_here)
      go false other = stands.known q ∙ ap (λ o. option_map_or (λ (n : Node). Some n.own.addr) o None) (sym (node_other q other))

  -- who isn't there has sent nothing
  unsent-next : (q : ℕ) → node_of next q ≡ None → sent_from next q ≡ []
  unsent-next q none = go (eqb node.own.id q) refl
    where
      go : (b : Bool) → eqb node.own.id q ≡ b → sent_from next q ≡ []
      go true same =
          absurd (none-some node (sym none ∙ ap (node_of next) (sym (eqb-true node.own.id q same)) ∙ node_here))
      go false other = stands.unsent q (sym (node_other q other) ∙ none)

  -- so the code stands for it, and has told so
  pub started-tells : (before now : List ℕ) → now ≡ before ++ ended (codes "up " ++ decimal node.own.id)
      → Tells link log later before now (started world node)
  started-tells before now appended = record {
    text = line-behind before now (codes "up " ++ decimal node.own.id) appended;
    stands = record {
      nodes = nodes-next;
      leader = leader;
      used = used-next;
      addresses = addresses-next;
      known = known-next;
      reached = reached;
      unsent = unsent-next;
      traffic = traffic;
    };
  }
