-- A node has changed and sent nothing, and perhaps logged nothing either: what the code stands for then.
use Rattle.std.proofs.Common.{◌≡◌, ◌∙◌, List, [], ◌++◌, map, Some, IfSome, refl, sym, ap, subst}
use Rattle.std.specs.Option.{option_map}
use Rattle.std.proofs.lemmas.Option.{IfSome_then}
use Rattle.cs_link.specs.declared.link.Link.{Ghosts as LinkGhosts}
use Rattle.cs_log.specs.Frames.{framed}
use Rattle.cs_log.specs.declared.log.Log.{Ghosts as LogGhosts}
use Rattle.cs_node.specs.Folding.{FoldsTo}
use Rattle.cs_node.specs.declared.folding.Folded.TheVariants.{Gives}
use Rattle.cs_packet.specs.EntryField.{entry_bytes}
use Rattle.cs_packet.specs.declared.own.Own.{Own}
use Rattle.cs_machine.specs.Contents.{Contents, contents_of}
use Rattle.cs_machine.specs.Entries.{Entry}
use Rattle.cs_machine.specs.Names.{Node, World, node_of}
use Rattle.cs_machine.specs.Outcome.{with_node}
use Rattle.cs_machine.specs.Reached.{IsReached}
use Rattle.cs_machine.specs.Restoring.{restored}
use Rattle.cs_machine.specs.Values.{entry_for, node_for}
use Rattle.cs_machine.proofs.Commits.{Appends, Follows-changed, contents-still}
use Rattle.cs_world.specs.Kept.{log_bytes}
use Rattle.cs_world.specs.Processes.{Parts}
use Rattle.cs_world.specs.Sent.{TrafficStands}
use Rattle.cs_world.specs.Stands.{LinkStands, NodeStands, Stands}
use Rattle.cs_world.specs.declared.nodes.Nodes.{Nodes}
use Rattle.cs_world.proofs.Changed.{Changes-node, HasPut, changed-stands}
use Rattle.cs_world.proofs.Later.{link-later}
use Rattle.cs_world.proofs.Traffics.{traffic-later}

module _ {L G : Type 0} (link : LinkGhosts L) (log : LogGhosts G) (code later : Nodes L G) (world : World) (node : Node) (f : Node → Node)
    (new : Parts) (put : HasPut link log code later node.own.id new) (same_traffic : later.traffic ≡ code.traffic)
    (stands : Stands link log code world) (found : node_of world node.own.id ≡ Some node) where
  -- the world after the change
  abbrev next : World
  next = with_node node.own.id f world

  -- nothing was sent, so where the code has the node as it is then, it stands for that world
  pub unsent-stands : (more : List Entry) → Appends f more → IsReached next → NodeStands next (f node) new → Stands link log later next
  unsent-stands more appends reached stood =
      let was = stands.reached.nodes node.own.id node found in
      let follows = Follows-changed world node.own.id f more appends in
      let traffic : TrafficStands code.traffic next =
      traffic-later world next follows was.leader was.led code.traffic stands.reached.sent refl refl refl stands.traffic in
      changed-stands link log code later world next node f new (Changes-node world node.own.id f more appends) put stands found reached stood
      (subst (λ t. TrafficStands t next) (sym same_traffic) traffic)

  -- where nothing was logged either, names stand for what they did, and so does what the code has
  node-still : Appends f [] → NodeStands world (f node) new → NodeStands next (f node) new
  node-still appends was =
      let same : contents_of world ≡ contents_of next = sym (contents-still world node.own.id f appends) in
      record {
        node = was.node ∙ ap (λ (c : Contents). option_map (node_for c (f node).own) (f node).state) same;
        link = subst (λ (o : Own). LinkStands next o.id new.link) (sym (appends.own node))
            (link-later world next stands.reached (Follows-changed world node.own.id f [] appends) node found refl new.link
            (subst (λ (o : Own). LinkStands world o.id new.link) (appends.own node) was.link));
        log = record {
          bytes = IfSome_then new.log.bytes {P = λ bytes. bytes ≡ log_bytes world (f node)} {Q = λ bytes. bytes ≡ log_bytes next (f node)}
              was.log.bytes
              (λ bytes is. is ∙ ap (λ (c : Contents). framed (map (λ (e : Entry). entry_bytes (entry_for c e)) (f node).entries) ++ (f node).tail) same);
          torn = was.log.torn;
          own_faults = was.log.own_faults;
          armed = was.log.armed;
        };
        back = λ down. subst (λ (c : Contents). IfSome new.log.bytes
            (λ bytes. FoldsTo bytes (Gives (node_for c (f node).own (restored c (f node).own (f node).entries))))) same (was.back down);
      }

  -- so where it has the node as it is then by the names of the world before, it stands for the world after
  pub still-stands : Appends f [] → IsReached next → NodeStands world (f node) new → Stands link log later next
  still-stands appends reached stood = unsent-stands [] appends reached (node-still appends stood)
