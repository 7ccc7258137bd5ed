-- After a node has done what it decided, the code stands for the machine's next world.
use Rattle.std.proofs.Common.{◌≡◌, ◌∙◌, ℕ, List, [], ◌∷◌, ◌++◌, map, Option, Some, None, IfSome, refl, sym, ap, subst, append-nil}
use Rattle.std.specs.List.{AllZip}
use Rattle.std.specs.Option.{IsSomeAnd, option_map, option_map_or, unwrap_or}
use Rattle.std.proofs.lemmas.Option.{none-some}
use Rattle.cs_base.specs.Address.{Address}
use Rattle.cs_link.specs.Sent.{Datagram}
use Rattle.cs_link.specs.declared.link.Link.{Ghosts as LinkGhosts}
use Rattle.cs_log.specs.Frames.{framed}
use Rattle.cs_log.specs.declared.log.Log.{Ghosts as LogGhosts}
use Rattle.cs_node.specs.Appending.{IsKept}
use Rattle.cs_node.specs.Calls.{Ends, GoesOn}
use Rattle.cs_node.specs.Placed.{running}
use Rattle.cs_node.specs.Posting.{AreSent, all_posted, datagrams_of}
use Rattle.cs_node.specs.Told.{LinkTold, LogTold}
use Rattle.cs_node.specs.declared.effects.Effects.{Effects}
use Rattle.cs_node.specs.declared.node.Node.{Node as ANode}
use Rattle.cs_packet.specs.EntryField.{entry_bytes}
use Rattle.cs_packet.specs.PacketField.{packet_bytes}
use Rattle.cs_packet.specs.declared.packet.Packet.{Packet}
use Rattle.cs_machine.specs.Contents.{contents_of}
use Rattle.cs_machine.specs.Entries.{Entry, entries_of}
use Rattle.cs_machine.specs.Names.{Name, Node, State, World, node_of}
use Rattle.cs_machine.specs.Outcome.{after_step, committed, sent_by}
use Rattle.cs_machine.specs.Reached.{IsReached}
use Rattle.cs_machine.specs.Squares.{SendStands, StandsForStep}
use Rattle.cs_machine.specs.Step.{Step}
use Rattle.cs_machine.specs.Values.{entry_for, node_for}
use Rattle.cs_machine.proofs.Commits.{Follows-commit}
use Rattle.cs_machine.proofs.Zips.{AllZip-append}
use Rattle.cs_world.specs.Kept.{AreDatagramsOf, IsDatagramOf, sent_from}
use Rattle.cs_world.specs.Processes.{Parts, parts_of}
use Rattle.cs_world.specs.Sent.{TrafficStands}
use Rattle.cs_world.specs.Stands.{LinkStands, LogStands, NodeStands, Stands}
use Rattle.cs_world.specs.declared.nodes.Nodes.{Nodes}
use Rattle.cs_world.proofs.Changed.{Changes-step, HasPut, changed-stands, from-itself}
use Rattle.cs_world.proofs.Later.{log_stands-later, sent-later}
use Rattle.cs_world.proofs.LogFrames.{frame-behind}

-- the value, or else another
pub or-else : {X : Type 0} (o : Option X) (x : X) → unwrap_or o x ≡ option_map_or (λ (y : X). y) o x
or-else None x = refl
or-else (Some y) x = refl

-- what was told with more behind it
posted-some : (o : Option (List Datagram)) (more : List Datagram) (P Q : List Datagram → Type 0) → ((ds : List Datagram) → P ds → Q (ds ++ more))
    → IsSomeAnd o P → IsSomeAnd (all_posted more o) Q
posted-some None more P Q so is = is
posted-some (Some ds) more P Q so is = so ds is

-- what is sent is what its names are
named-datagrams : (world : World) (me : ℕ) (sends : List (Address × Packet)) (named : List (ℕ × Name)) → AllZip (SendStands world me) sends named
    → AreDatagramsOf world (datagrams_of sends) (sent_by me named)
named-datagrams world me [] [] zip = zip
named-datagrams world me [] (n ∷ named) zip = absurd zip
named-datagrams world me (s ∷ sends) [] zip = absurd zip
named-datagrams world me (s ∷ sends) (n ∷ named) zip =
    (record { address = zip.0.address; bytes = ap packet_bytes zip.0.packet }, named-datagrams world me sends named zip.1)

-- a log that keeps the entry of a step, or has none to keep, stands for the node's entries with it
pub log-kept : (world : World) (node : Node) (state : Option State) (entry : Option Entry) (old new : LogTold) → node.tail ≡ []
    → IsKept (option_map (entry_for (contents_of world)) entry) old new → LogStands world node old
    → LogStands world (record node { state = state; entries = node.entries ++ entries_of entry }) new
log-kept world node state None old new whole kept stands =
    let f : Entry → List ℕ = λ e. entry_bytes (entry_for (contents_of world) e) in
    let same : framed (map f node.entries) ++ node.tail ≡ framed (map f (node.entries ++ [])) ++ node.tail =
    ap (λ (es : List Entry). framed (map f es) ++ node.tail) (sym (append-nil node.entries)) in
    record {
      bytes = subst (λ (log : LogTold). IfSome log.bytes (λ b. b ≡ framed (map f (node.entries ++ [])) ++ node.tail)) (sym kept)
          (subst (λ all. IfSome old.bytes (λ b. b ≡ all)) same stands.bytes);
      torn = stands.torn;
      own_faults = ap (λ (log : LogTold). log.own_faults) kept ∙ stands.own_faults;
      armed = ap (λ (log : LogTold). log.tear) kept ∙ stands.armed;
    }
log-kept world node state (Some entry) old new whole kept stands = record {
  bytes = frame-behind (λ e. entry_bytes (entry_for (contents_of world) e)) node.entries entry node.tail old.bytes new.bytes whole
      kept.bytes stands.bytes;
  torn = stands.torn;
  own_faults = kept.own_faults ∙ stands.own_faults;
  armed = kept.still ∙ sym kept.unarmed ∙ stands.armed;
}

module _ {L G : Type 0} (link : LinkGhosts L) (log : LogGhosts G) (code later : Nodes L G) (world : World) (node : Node) (state : State)
    (step : Step) (effects : Effects) (stands : Stands link log code world) (found : node_of world node.own.id ≡ Some node)
    (whole : node.tail ≡ []) (for_step : StandsForStep world node state step effects) (reached : IsReached (committed world node step))
    (old : Parts) (ends : Ends) (stood : NodeStands world node old) (put : HasPut link log code later node.own.id (parts_of ends))
    (goes : GoesOn (node_for (contents_of world) node.own state) effects old.log ends)
    (sent : AreSent (datagrams_of effects.sends) old.link ends.link) where
  -- the machine's next world
  abbrev next : World
  next = committed world node step

  -- the link of the node has sent what the step sends
  link-itself : LinkStands next node.own.id ends.link
  link-itself = record {
    sent = subst (λ o. IsSomeAnd o (λ datagrams. AreDatagramsOf next datagrams (sent_from next node.own.id)))
        (sym (ap (λ (l : LinkTold). l.sent) sent))
        (posted-some old.link.sent (datagrams_of effects.sends) (λ datagrams. AreDatagramsOf world datagrams (sent_from world node.own.id))
        (λ datagrams. AreDatagramsOf next datagrams (sent_from next node.own.id))
        (λ datagrams are. subst (AreDatagramsOf next (datagrams ++ datagrams_of effects.sends)) (sym (from-itself world node step))
        (AllZip-append (IsDatagramOf next) datagrams (sent_from world node.own.id) (datagrams_of effects.sends) (sent_by node.own.id step.sends)
        (sent-later world next stands.reached (Follows-commit world node step) node found node.own.id datagrams are)
        (named-datagrams next node.own.id effects.sends step.sends for_step.sends)))
        stood.link.sent);
    faults = ap (λ (l : LinkTold). l.faults) sent ∙ stood.link.faults;
  }

  -- its log has the step's entry
  log-itself : LogStands next (after_step step node) ends.log
  log-itself =
      log-kept next node (Some step.state) step.entry old.log ends.log whole
      (subst (λ entry. IsKept entry old.log ends.log) for_step.entry_after goes.1)
      (log_stands-later world next stands.reached (Follows-commit world node step) node found old.log stood.log)

  -- so the code has the node as it is then
  node-itself : NodeStands next (after_step step node) (parts_of ends)
  node-itself = record {
    node = ap running goes.0
        ∙ ap {B = Option ANode} (λ n. Some n) (or-else effects.after (node_for (contents_of world) node.own state) ∙ for_step.after);
    link = link-itself;
    log = log-itself;
    back = λ down. absurd (none-some step.state (sym down));
  }

  -- and the code stands for the next world
  pub stepped-stands : TrafficStands later.traffic next → Stands link log later next
  stepped-stands traffic =
      changed-stands link log code later world next node (after_step step) (parts_of ends) (Changes-step world node step) put stands found
      reached node-itself traffic
