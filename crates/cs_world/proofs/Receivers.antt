-- A node in its seat receives, and the machine's world is as it was.
use Rattle.std.proofs.Common.{◌≡◌, ◌∙◌, ℕ, ◌<◌, ◌||◌, Bool, true, false, eqb, nat_cmp, List, length, map, set, slice_get, Option, None, Some}
use Rattle.std.proofs.Common.{Result, Ok, IsSomeAnd, is_some, refl, sym, ap, subst}
use Rattle.std.specs.Option.{option_map}
use Rattle.std.proofs.lemmas.Bool.{eq-eqb, eqb-true, false≢true}
use Rattle.std.proofs.lemmas.Option.{get_or_from_slice_get}
use Rattle.std.specs.BTreeMap.{get}
use Rattle.std.proofs.Math.Seq.{map-set_same}
use Rattle.cs_link.specs.declared.link.Link.{Ghosts as LinkGhosts}
use Rattle.cs_link.specs.declared.link.LinkFailed.{LinkFailed}
use Rattle.cs_log.specs.declared.log.Log.{Ghosts as LogGhosts}
use Rattle.cs_link.specs.Sent.{Datagram}
use Rattle.cs_node.specs.Placed.{Placed}
use Rattle.cs_node.specs.Receiving.{HasReceived}
use Rattle.cs_node.specs.Told.{link_told, log_told}
use Rattle.cs_machine.specs.Names.{Node, World, node_of}
use Rattle.cs_world.specs.Kept.{AreDatagramsOf, sent_from}
use Rattle.cs_world.specs.Processes.{Parts, parts_in}
use Rattle.cs_world.specs.Receiving.{PartsReceive, ReceivesAt, dry_of, taken_of}
use Rattle.cs_world.specs.Seats.{parts_at, place_at, seated, state_at}
use Rattle.cs_world.specs.Stands.{NodeStands, Stands, StandsIf, id_at}
use Rattle.cs_world.specs.declared.nodes.Nodes.{Nodes}
use Rattle.cs_world.specs.declared.seat.Seat.{Seat}
use Rattle.cs_world.specs.declared.seats.Seats.{Seats}
use Rattle.cs_world.proofs.Places.{others_kept, slice_get-set_same, state_in, state_there}
use Rattle.cs_world.proofs.Receipts.{dry-set, taken-set}
use Rattle.cs_world.proofs.Under.{node-under}

module _ {L G : Type 0} (link : LinkGhosts L) (log : LogGhosts G) where
  -- a process whose link received, and whose node and log are as they were
  pub process-receives : (buffer : List ℕ) (answer : Result (Option ℕ) LinkFailed) (before now : Placed L G) → now.node ≡ before.node
      → HasReceived (link_told link before.link) buffer answer (link_told link now.link) → now.log ≡ before.log
      → PartsReceive buffer answer (parts_in link log before) (parts_in link log now)
  process-receives buffer answer before now node received logged = record {
    link = received;
    others = λ i. (let parts : Parts = record {
      node = node i;
      link = link_told link now.link;
      log = log_told log (logged i);
    } in parts);
  }

  module _ (before now : Seats (Placed L G)) (id place : ℕ) (old new : Seat (Placed L G)) (buffer : List ℕ)
      (answer : Result (Option ℕ) LinkFailed) (at : slice_get before.items.items place ≡ Some old) (within : place < length before.items.items)
      (set_so : now.items.items ≡ set before.items.items place new) (places : now.places ≡ before.places) (own : old.id ≡ id)
      (same : new.id ≡ old.id) (noted : place_at before id ≡ Some place)
      (receives : PartsReceive buffer answer (parts_in link log old.state) (parts_in link log new.state)) where
    -- the state under an id
    state-now : (q : ℕ) → state_at now q ≡ state_in q (set before.items.items place new) (place_at before q)
    state-now q = λ i. state_in q (set_so i) (get nat_cmp (places i) q)

    -- the seat at the place is that of the id, so the node with the id receives
    pub receives-at : ReceivesAt link log id buffer answer before now
    receives-at =
        let parts = option_map (parts_in link log) in
        let own_new : new.id ≡ id = same ∙ own in
        record {
          node = (
            parts_in link log old.state,
            parts_in link log new.state,
            ap parts (state_there id before.items.items old place (place_at before id) own noted at),
            ap parts (state-now id ∙ state_there id (set before.items.items place new) new place (place_at before id) own_new noted
                (slice_get-set_same before.items.items place new within)),
            receives,
          );
          others = λ other apart. ap parts (state-now other
              ∙ others_kept before.items.items old new place other (place_at before other) at same (λ is. apart (sym is ∙ own)));
          ids = ap (map (λ seat. seat.id)) set_so
              ∙ map-set_same (λ seat. seat.id) before.items.items place new old
              (same ∙ sym (ap (λ seat. seat.id) (get_or_from_slice_get before.items.items place old old at)));
          taken = ap (λ items. taken_of (map (seated link log) items)) set_so
              ∙ taken-set link log answer before.items.items place old new at receives.link.taken;
          dry = ap (λ items. dry_of (map (seated link log) items)) set_so
              ∙ dry-set link log answer before.items.items place old new at receives.link.dry;
        }

  -- a node stands for the same where its link received, and didn't fail
  node-receives : (world : World) (node : Node) (buffer : List ℕ) (got : Option ℕ) (old new : Parts) → PartsReceive buffer (Ok got) old new
      → NodeStands world node old → NodeStands world node new
  node-receives world node buffer got old new receives is =
      subst (NodeStands world node) (sym receives.others) (record {
        node = is.node;
        link = record {
          sent = subst (λ (o : Option (List Datagram)). IsSomeAnd o (λ ds. AreDatagramsOf world ds (sent_from world node.own.id)))
              (sym receives.link.sent) is.link.sent;
          faults = receives.link.quiet ∙ is.link.faults;
        };
        log = is.log;
        back = is.back;
      })

  -- so the code stands for the same world
  pub received-stands : (code : Nodes L G) (seats : Seats (Placed L G)) (world : World) (id : ℕ) (buffer : List ℕ) (got : Option ℕ)
      → ReceivesAt link log id buffer (Ok got) code.seats seats → Stands link log code world
      → Stands link log (record code { seats = seats }) world
  received-stands code seats world id buffer got receives stands = record {
    nodes = λ q. by-id (λ parts. StandsIf world (node_of world q) parts) q
        (λ same. here-stands q same) (stands.nodes q);
    leader = stands.leader;
    used = λ q addr. stands.used q addr ∙ ap (λ b. b || is_some (id_at code addr)) (sym (there q));
    addresses = stands.addresses;
    known = stands.known;
    reached = stands.reached;
    unsent = stands.unsent;
    traffic = stands.traffic;
  }
    where
      was : ℕ → Option Parts
      was q = parts_at link log code.seats q

      now_at : ℕ → Option Parts
      now_at q = parts_at link log seats q

      here-stands : (q : ℕ) → q ≡ id → StandsIf world (node_of world q) (parts_at link log seats q)
      here-stands q same =
          (let found = node-under world (node_of world id) (was id) receives.node.0 receives.node.2 (stands.nodes id) in
          subst (λ n. StandsIf world (node_of world n) (now_at n)) (sym same)
          (subst (λ o. StandsIf world o (now_at id)) (sym found.1)
          (subst (StandsIf world (Some found.0)) (sym receives.node.3)
          (node-receives world found.0 buffer got receives.node.0 receives.node.1 receives.node.4 found.2))))

      by-id : (Holds : Option Parts → Type 0) (q : ℕ) → (q ≡ id → Holds (parts_at link log seats q)) → Holds (parts_at link log code.seats q)
          → Holds (parts_at link log seats q)
      by-id Holds q here else_so = go (eqb q id) refl
        where
          go : (b : Bool) → eqb q id ≡ b → Holds (now_at q)
          go true same = here (eqb-true q id same)
          go false other = subst Holds (sym (receives.others q (λ same. false≢true (sym other ∙ eq-eqb q id same)))) else_so

      there : (q : ℕ) → is_some (parts_at link log seats q) ≡ is_some (parts_at link log code.seats q)
      there q = by-id (λ parts. is_some parts ≡ is_some (was q)) q (λ same.
          ap (λ n. is_some (now_at n)) same ∙ ap is_some receives.node.3 ∙ sym (ap is_some receives.node.2) ∙ sym (ap (λ n. is_some (was n)) same))
          refl
