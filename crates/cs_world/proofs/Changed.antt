-- One node has changed, in the machine and in the code: the code stands for the machine's next world.
use Rattle.std.proofs.Common.{◌≡◌, ◌≢◌, ◌∙◌, ◌||◌, ◌==◌, ℕ, Bool, true, false, cond, eqb, is_some, List, [], ◌∷◌, ◌++◌}
use Rattle.std.proofs.Common.{Option, Some, None, refl, sym, ap, subst, append-nil}
use Rattle.std.specs.List.{filter}
use Rattle.std.specs.Option.{option_map, option_map_or}
use Rattle.std.proofs.lemmas.Bool.{eq-eqb, eqb-true, false≢true, ne_eqb}
use Rattle.std.proofs.lemmas.List.Elements.{filter-append}
use Rattle.std.proofs.lemmas.Option.{none-some}
use Rattle.cs_base.specs.Address.{Address}
use Rattle.cs_link.specs.declared.link.Link.{Ghosts as LinkGhosts}
use Rattle.cs_log.specs.declared.log.Log.{Ghosts as LogGhosts}
use Rattle.cs_packet.specs.declared.own.Own.{Own}
use Rattle.cs_machine.specs.Entries.{Entry}
use Rattle.cs_machine.specs.Happens.{is_used}
use Rattle.cs_machine.specs.Names.{Name, Node, Sent, World, leader_of, node_of}
use Rattle.cs_machine.specs.Outcome.{after_step, committed, sent_by, with_node}
use Rattle.cs_machine.specs.Reached.{IsReached}
use Rattle.cs_machine.specs.Squares.{address_in}
use Rattle.cs_machine.specs.Step.{Step}
use Rattle.cs_machine.proofs.Commits.{Appends, Follows-changed, Follows-commit, changed-other, changed-same, is_used-changed, is_used-commit}
use Rattle.cs_machine.proofs.Commits.{leader_of-changed, leader_of-commit, node_of-changed, node_of-commit}
use Rattle.cs_machine.proofs.Follows.{Follows}
use Rattle.cs_machine.proofs.Nodes.{changed_at, id-found, option_map-some, own-changed_at}
use Rattle.cs_world.specs.Addresses.{address_under, id_under}
use Rattle.cs_world.specs.Kept.{sent_from}
use Rattle.cs_world.specs.Processes.{Parts}
use Rattle.cs_world.specs.Seats.{parts_at}
use Rattle.cs_world.specs.Sent.{TrafficStands}
use Rattle.cs_world.specs.Stands.{NodeStands, Stands, StandsIf, address_of, id_at}
use Rattle.cs_world.specs.declared.nodes.Nodes.{Nodes}
use Rattle.cs_world.proofs.Later.{node-later}
use Rattle.cs_world.proofs.Options.{map-none}
use Rattle.cs_world.proofs.Under.{parts-under}

-- ---- in the machine

-- the next world comes from a world by a change of the node with an id, who alone may have sent more
pub record Changes (world next : World) (id : ℕ) (f : Node → Node) : Type 0 where
  pub own : (n : Node) → (f n).own ≡ n.own
  pub nodes : (q : ℕ) → node_of next q ≡ option_map (changed_at id f) (node_of world q)
  pub leader : leader_of next ≡ option_map (changed_at id f) (leader_of world)
  pub used : (q : ℕ) (addr : Address) → is_used q addr next ≡ is_used q addr world
  pub follows : Follows world next
  pub sent : (q : ℕ) → eqb id q ≡ false → sent_from next q ≡ sent_from world q

-- it does where nothing is sent
pub Changes-node : (world : World) (id : ℕ) (f : Node → Node) (more : List Entry) → Appends f more → Changes world (with_node id f world) id f
Changes-node world id f more appends = record {
  own = appends.own;
  nodes = node_of-changed world id f more appends;
  leader = leader_of-changed world id f more appends;
  used = is_used-changed world id f more appends;
  follows = Follows-changed world id f more appends;
  sent = λ q other. refl;
}

-- what a node sends is all from it
sent_by-same : (id : ℕ) (sends : List (ℕ × Name)) → filter (λ (sent : Sent). sent.from == id) (sent_by id sends) ≡ sent_by id sends
sent_by-same id [] = refl
sent_by-same id (send ∷ sends) =
    let sent : Sent = record { from = id; to = send.0; name = send.1 } in
    ap (λ b. cond b (sent ∷ filter (λ (s : Sent). s.from == id) (sent_by id sends)) (filter (λ (s : Sent). s.from == id) (sent_by id sends)))
    (eq-eqb id id refl)
    ∙ ap (λ more. sent ∷ more) (sent_by-same id sends)

-- and none of it is from another
sent_by-other : (id other : ℕ) → eqb id other ≡ false → (sends : List (ℕ × Name))
    → filter (λ (sent : Sent). sent.from == other) (sent_by id sends) ≡ []
sent_by-other id other differs [] = refl
sent_by-other id other differs (send ∷ sends) =
    let sent : Sent = record { from = id; to = send.0; name = send.1 } in
    let more = filter (λ (s : Sent). s.from == other) (sent_by id sends) in
    ap (λ b. cond b (sent ∷ more) more) differs ∙ sent_by-other id other differs sends

module _ (world : World) (node : Node) (step : Step) where
  -- what the node sent is what it had sent, and what it sends
  pub from-itself : sent_from (committed world node step) node.own.id ≡ sent_from world node.own.id ++ sent_by node.own.id step.sends
  from-itself =
      filter-append (λ (s : Sent). s.from == node.own.id) world.sent (sent_by node.own.id step.sends)
      ∙ ap (λ more. sent_from world node.own.id ++ more) (sent_by-same node.own.id step.sends)

  -- another one sent nothing more
  from-other : (q : ℕ) → eqb node.own.id q ≡ false → sent_from (committed world node step) q ≡ sent_from world q
  from-other q other =
      filter-append (λ (s : Sent). s.from == q) world.sent (sent_by node.own.id step.sends)
      ∙ ap (λ more. sent_from world q ++ more) (sent_by-other node.own.id q other step.sends)
      ∙ append-nil (sent_from world q)

  -- so it is where the node takes a step
  pub Changes-step : Changes world (committed world node step) node.own.id (after_step step)
  Changes-step = record {
    own = λ n. refl;
    nodes = node_of-commit world node step;
    leader = leader_of-commit world node step;
    used = is_used-commit world node step;
    follows = Follows-commit world node step;
    sent = from-other;
  }

-- ---- in the code

-- what the code has under an id has become this, and all else stayed but for the traffic
pub record HasPut {L G : Type 0} (link : LinkGhosts L) (log : LogGhosts G) (code later : Nodes L G) (id : ℕ) (new : Parts) : Type 0
  where
    pub now : parts_at link log later.seats id ≡ Some new
    pub others : (q : ℕ) → q ≢ id → parts_at link log later.seats q ≡ parts_at link log code.seats q
    pub leader : later.leader ≡ code.leader
    pub addresses : later.addresses ≡ code.addresses

-- ---- in both

-- who a node is stays as the node changes
own-map : (f : Node → Node) → ((n : Node) → (f n).own ≡ n.own) → (o : Option Node)
    → option_map (λ (n : Node). n.own) (option_map f o) ≡ option_map (λ (n : Node). n.own) o
own-map f same None = refl
own-map f same (Some n) = ap (λ own. Some own) (same n)

module _ {L G : Type 0} (link : LinkGhosts L) (log : LogGhosts G) (code later : Nodes L G) (world next : World) (node : Node)
    (f : Node → Node) (new : Parts) (changes : Changes world next node.own.id f) (put : HasPut link log code later node.own.id new)
    (stands : Stands link log code world) (found : node_of world node.own.id ≡ Some node) where
  -- what becomes of each node
  abbrev becomes : Node → Node
  becomes n = changed_at node.own.id f n

  -- another node stands as it was
  stands-other : (q : ℕ) → eqb node.own.id q ≡ false → (o : Option Node) (parts : Option Parts) → node_of world q ≡ o
      → StandsIf world o parts → StandsIf next (option_map becomes o) parts
  stands-other q other None None is before = tt
  stands-other q other None (Some parts) is before = absurd before
  stands-other q other (Some n) None is before = absurd before
  stands-other q other (Some n) (Some parts) is before =
      let has : n.own.id ≡ q = id-found world q n is in
      let differs : eqb n.own.id node.own.id ≡ false =
      ne_eqb n.own.id node.own.id (λ same. false≢true (sym other ∙ eq-eqb node.own.id q (sym same ∙ has))) in
      subst (λ m. NodeStands next m parts) (sym (changed-other node.own.id f n differs))
      (node-later world next stands.reached changes.follows n (ap (node_of world) has ∙ is)
      (ap (sent_from next) has ∙ changes.sent q other ∙ ap (sent_from world) (sym has)) parts before)

  -- each one has another id than the node, or is the node
  nodes-next : NodeStands next (f node) new → (q : ℕ) → StandsIf next (node_of next q) (parts_at link log later.seats q)
  nodes-next stood q = go (eqb node.own.id q) refl
    where
      go : (b : Bool) → eqb node.own.id q ≡ b → StandsIf next (node_of next q) (parts_at link log later.seats q)
      go true same =
          (let is_q : node.own.id ≡ q = eqb-true node.own.id q same in
          let here : node_of next node.own.id ≡ Some (f node) =
          changes.nodes node.own.id ∙ ap (option_map becomes) found ∙ ap (λ n. Some n) (changed-same node.own.id f node refl) in
          subst (λ id. StandsIf next (node_of next id) (parts_at link log later.seats id)) is_q
          (subst (λ o. StandsIf next o (parts_at link log later.seats node.own.id)) (sym here)
          (subst (StandsIf next (Some (f node))) (sym put.now) stood)))
      go false other =
          (let differs : q ≢ node.own.id = λ same. false≢true (sym other ∙ eq-eqb node.own.id q (sym same)) in
          subst (λ o. StandsIf next o (parts_at link log later.seats q)) (sym (changes.nodes q))
          (subst (StandsIf next (option_map becomes (node_of world q))) (sym (put.others q differs))
          (stands-other q other (node_of world q) (parts_at link log code.seats q) refl (stands.nodes q))))

  -- a node is there where it was
  same-there : (q : ℕ) → is_some (parts_at link log later.seats q) ≡ is_some (parts_at link log code.seats q)
  same-there q = go (eqb node.own.id q) refl
    where
      go : (b : Bool) → eqb node.own.id q ≡ b → is_some (parts_at link log later.seats q) ≡ is_some (parts_at link log code.seats q)
      go true same =
          (let is_q : node.own.id ≡ q = eqb-true node.own.id q same in
          subst (λ id. is_some (parts_at link log later.seats id) ≡ is_some (parts_at link log code.seats id)) is_q
          (ap is_some put.now
          ∙ sym (ap is_some (parts-under world (node_of world node.own.id) (parts_at link log code.seats node.own.id) node found
          (stands.nodes node.own.id)).1)))
      go false other = ap is_some (put.others q (λ same. false≢true (sym other ∙ eq-eqb node.own.id q (sym same))))

  -- who isn't there has sent nothing
  unsent-next : (q : ℕ) → node_of next q ≡ None → sent_from next q ≡ []
  unsent-next q none = go (eqb node.own.id q) refl
    where
      before : node_of world q ≡ None
      before = map-none becomes (node_of world q) (sym (changes.nodes q) ∙ none)

      go : (b : Bool) → eqb node.own.id q ≡ b → sent_from next q ≡ []
      go true same =
          (let is_q : node.own.id ≡ q = eqb-true node.own.id q same in
          absurd (none-some node (sym before ∙ ap (node_of world) (sym is_q) ∙ found)))
      go false other = changes.sent q other ∙ stands.unsent q before

  -- each node is found under its address
  addresses-next : (q : ℕ) (n : Node) → node_of next q ≡ Some n → id_at later n.own.addr ≡ Some q
  addresses-next q n there =
      let before = option_map-some becomes (node_of world q) n (sym (changes.nodes q) ∙ there) in
      let own : n.own ≡ before.0.own = ap (λ (m : Node). m.own) before.2 ∙ own-changed_at node.own.id f changes.own before.0 in
      ap (λ addresses. id_under addresses n.own.addr) put.addresses
      ∙ ap (λ (o : Own). id_at code o.addr) own ∙ stands.addresses q before.0 before.1

  -- and has the address that it had
  known-next : (q : ℕ) → address_of later q ≡ address_in next q
  known-next q =
      ap (λ addresses. address_under addresses q) put.addresses ∙ stands.known q ∙ sym (still (node_of world q))
      ∙ ap (λ o. option_map_or (λ (n : Node). Some n.own.addr) o None) (sym (changes.nodes q))
    where
      still : (o : Option Node)
          → option_map_or (λ (n : Node). Some n.own.addr) (option_map becomes o) None ≡ option_map_or (λ (n : Node). Some n.own.addr) o None
      still None = refl
      still (Some n) = ap (λ (own : Own). Some own.addr) (own-changed_at node.own.id f changes.own n)

  -- so the code stands for the next world, where what it has for the node and for what was sent does
  pub changed-stands : IsReached next → NodeStands next (f node) new → TrafficStands later.traffic next → Stands link log later next
  changed-stands reached stood traffic = record {
    nodes = nodes-next stood;
    leader = put.leader ∙ stands.leader
        ∙ sym (ap (option_map (λ (n : Node). n.own)) changes.leader
        ∙ own-map becomes (own-changed_at node.own.id f changes.own) (leader_of world));
    used = λ q a.
        changes.used q a ∙ stands.used q a
        ∙ ap (λ b. b || is_some (id_at code a)) (sym (same-there q))
        ∙ ap (λ addresses. is_some (parts_at link log later.seats q) || is_some (id_under addresses a)) (sym put.addresses);
    addresses = addresses-next;
    known = known-next;
    reached = reached;
    unsent = unsent-next;
    traffic = traffic;
  }
