-- What the code has for a node stands in later worlds too, and by what is seen of the seats alone.
use Rattle.std.proofs.Common.{◌≡◌, ◌∙◌, ℕ, ◌==◌, ◌||◌, List, [], ◌∷◌, ◌++◌, Option, Some, None, is_some, IfSome, refl, sym, ap, subst}
use Rattle.std.specs.List.{AllByRecursion}
use Rattle.std.specs.Option.{IsSomeAnd, option_map}
use Rattle.cs_base.proofs.Ascending.{All-of_filter}
use Rattle.cs_base.proofs.Elements.{All-weaker}
use Rattle.cs_link.specs.Sent.{Datagram}
use Rattle.cs_link.specs.declared.link.Link.{Ghosts as LinkGhosts}
use Rattle.cs_log.specs.Frames.{framed}
use Rattle.cs_log.specs.declared.log.Log.{Ghosts as LogGhosts}
use Rattle.cs_node.specs.Folding.{FoldsTo}
use Rattle.cs_node.specs.Told.{LinkTold, LogTold}
use Rattle.cs_node.specs.declared.folding.Folded.TheVariants.{Gives}
use Rattle.cs_node.specs.declared.node.Node.{Node as ANode}
use Rattle.cs_packet.specs.EntryField.{entry_bytes}
use Rattle.cs_packet.specs.PacketField.{packet_bytes}
use Rattle.cs_packet.specs.declared.own.Own.{Own}
use Rattle.cs_machine.specs.Contents.{contents_of}
use Rattle.cs_machine.specs.Entries.{Entry}
use Rattle.cs_machine.specs.Names.{Node, Sent, State, World, leader_of, node_of}
use Rattle.cs_machine.specs.Reached.{IsReached, IsSent, IsStarted}
use Rattle.cs_machine.specs.Restoring.{restored}
use Rattle.cs_machine.specs.Values.{entry_for, node_for}
use Rattle.cs_machine.proofs.Contents.{entries-later, map-same}
use Rattle.cs_machine.proofs.Follows.{Follows, is-up, node_for-later, packet_for-later, restored-later}
use Rattle.cs_machine.proofs.RunSquares.{address-found}
use Rattle.cs_world.specs.Addresses.{address_under, id_under}
use Rattle.cs_world.specs.Kept.{AreDatagramsOf, IsDatagramOf, log_bytes, sent_from, spelled_entries}
use Rattle.cs_world.specs.Processes.{Parts}
use Rattle.cs_world.specs.Seats.{parts_at}
use Rattle.cs_world.specs.Sent.{TrafficStands}
use Rattle.cs_world.specs.Stands.{LinkStands, LogStands, NodeStands, Stands, StandsIf, id_at, restored_value, value_of}
use Rattle.cs_world.specs.declared.nodes.Nodes.{Nodes}
use Rattle.std.proofs.lemmas.Option.{IfSome_then}

-- a value of which something holds is one of which what follows holds
some-and-so : {X : Type 0} (o : Option X) (P Q : X → Type 0) → ((x : X) → P x → Q x) → IsSomeAnd o P → IsSomeAnd o Q
some-and-so None P Q so is = is
some-and-so (Some x) P Q so is = so x is

module _ (world later : World) (follows : Follows world later) (leader : Node) (leads : leader_of world ≡ Some leader) where
  -- a datagram stands for what it stood for
  pub datagram-later : (d : Datagram) (sent : Sent) → IsSent world sent → IsDatagramOf world d sent → IsDatagramOf later d sent
  datagram-later d sent is stands =
      let next = follows.nodes sent.to is.node is.receiver in
      record {
        address = address-found later sent.to next.node next.found
            ∙ (ap (λ (own : Own). Some own.addr) next.same ∙ (sym (address-found world sent.to is.node is.receiver) ∙ stands.address));
        bytes = stands.bytes ∙ ap packet_bytes (sym (packet_for-later world later follows leader leads sent is.name));
      }

  -- and so do all
  pub are-datagrams-later : (ds : List Datagram) (sent : List Sent) → AllByRecursion (IsSent world) sent → AreDatagramsOf world ds sent
      → AreDatagramsOf later ds sent
  are-datagrams-later [] [] all zip = zip
  are-datagrams-later [] (s ∷ sent) all zip = absurd zip
  are-datagrams-later (d ∷ ds) [] all zip = absurd zip
  are-datagrams-later (d ∷ ds) (s ∷ sent) all zip = (datagram-later d s all.0 zip.0, are-datagrams-later ds sent all.1 zip.1)

module _ (world later : World) (reached : IsReached world) (follows : Follows world later) (node : Node)
    (found : node_of world node.own.id ≡ Some node) where
  -- the node as it was started
  was : IsStarted world node
  was = reached.nodes node.own.id node found

  -- what it has logged is spelled as before
  pub spelled-later : spelled_entries later node ≡ spelled_entries world node
  spelled-later =
      map-same (λ (entry : Entry). entry_bytes (entry_for (contents_of later) entry))
      (λ (entry : Entry). entry_bytes (entry_for (contents_of world) entry)) node.entries
      (All-weaker (λ (entry : Entry). entry_for (contents_of later) entry ≡ entry_for (contents_of world) entry)
      (λ (entry : Entry). entry_bytes (entry_for (contents_of later) entry) ≡ entry_bytes (entry_for (contents_of world) entry))
      (λ entry same. ap entry_bytes same) node.entries (entries-later world reached later follows node.own.id node found))

  -- so the bytes of its log are the same
  pub log-later : log_bytes later node ≡ log_bytes world node
  log-later = ap (λ spelled. framed spelled ++ node.tail) spelled-later

  -- what the code has for it is the same
  pub value-later : value_of later node ≡ value_of world node
  value-later = go node.state refl
    where
      go : (o : Option State) → node.state ≡ o
          → option_map (node_for (contents_of later) node.own) o ≡ option_map (node_for (contents_of world) node.own) o
      go None is = refl
      go (Some state) is =
          ap {B = Option ANode} (λ n. Some n)
          (node_for-later world later follows was.leader was.led node.own state (is-up world node state was is).fits)

  -- and so is what a restart brings back
  pub restored-value-later : restored_value later node ≡ restored_value world node
  restored-value-later =
      ap (node_for (contents_of later) node.own)
      (restored-later world later follows was.leader was.led node.own node.entries was.entries)
      ∙ node_for-later world later follows was.leader was.led node.own (restored (contents_of world) node.own node.entries) was.restores

  -- what stands for what it sent stands for that still
  pub sent-later : (id : ℕ) (datagrams : List Datagram) → AreDatagramsOf world datagrams (sent_from world id)
      → AreDatagramsOf later datagrams (sent_from world id)
  sent-later id datagrams are =
      are-datagrams-later world later follows was.leader was.led datagrams (sent_from world id)
      (All-of_filter (IsSent world) (λ (sent : Sent). sent.from == id) world.sent reached.sent) are

  -- where it sent nothing more, its link stands
  pub link-later : sent_from later node.own.id ≡ sent_from world node.own.id → (link : LinkTold) → LinkStands world node.own.id link
      → LinkStands later node.own.id link
  link-later same link stands = record {
    sent = some-and-so link.sent (λ datagrams. AreDatagramsOf world datagrams (sent_from world node.own.id))
        (λ datagrams. AreDatagramsOf later datagrams (sent_from later node.own.id))
        (λ datagrams are. subst (AreDatagramsOf later datagrams) (sym same) (sent-later node.own.id datagrams are)) stands.sent;
    faults = stands.faults;
  }

  -- and its log does
  pub log_stands-later : (log : LogTold) → LogStands world node log → LogStands later node log
  log_stands-later log stands = record {
    bytes = IfSome_then log.bytes {P = λ bytes. bytes ≡ log_bytes world node} {Q = λ bytes. bytes ≡ log_bytes later node} stands.bytes
        (λ bytes is. is ∙ sym log-later);
    torn = stands.torn;
    own_faults = stands.own_faults;
    armed = stands.armed;
  }

  -- so what the code has for a node that sent nothing more stands for it in a later world
  pub node-later : sent_from later node.own.id ≡ sent_from world node.own.id → (parts : Parts) → NodeStands world node parts
      → NodeStands later node parts
  node-later same parts stands = record {
    node = stands.node ∙ sym value-later;
    link = link-later same parts.link stands.link;
    log = log_stands-later parts.log stands.log;
    back = λ down. subst (λ value. IfSome parts.log.bytes (λ bytes. FoldsTo bytes (Gives value))) (sym restored-value-later) (stands.back down);
  }

-- nodes whose seats are seen alike, with the same leader, addresses and traffic, stand for the same world
pub stands-seen : {L G : Type 0} (link : LinkGhosts L) (log : LogGhosts G) (code later : Nodes L G) (world : World)
    → ((id : ℕ) → parts_at link log later.seats id ≡ parts_at link log code.seats id) → later.addresses ≡ code.addresses
    → later.leader ≡ code.leader → later.traffic ≡ code.traffic → Stands link log code world → Stands link log later world
stands-seen {L} {G} link log code later world seen addresses leader traffic stands = record {
  nodes = λ id. subst (StandsIf world (node_of world id)) (sym (seen id)) (stands.nodes id);
  leader = leader ∙ stands.leader;
  used = λ id addr. stands.used id addr
      ∙ ap (λ o. is_some o || is_some (id_at code addr)) (sym (seen id))
      ∙ ap (λ m. is_some (parts_at link log later.seats id) || is_some (id_under m addr)) (sym addresses);
  addresses = λ id node found. ap (λ m. id_under m node.own.addr) addresses ∙ stands.addresses id node found;
  known = λ id. ap (λ m. address_under m id) addresses ∙ stands.known id;
  unsent = stands.unsent;
  reached = stands.reached;
  traffic = subst (λ t. TrafficStands t world) (sym traffic) stands.traffic;
}
