-- What a node sends at a step is told and kept, and the code stands for the packets of the next world.
use Rattle.std.proofs.Common.{◌≡◌, ◌∙◌, ℕ, ◌+◌, List, [], ◌∷◌, ◌++◌, length, map, Option, Some, None, refl, sym, ap, subst, append_assoc}
use Rattle.std.specs.List.{AllByRecursion, AllZip}
use Rattle.std.specs.Option.{option_map}
use Rattle.std.proofs.lemmas.List.Concat.{flat_map-append}
use Rattle.std.proofs.lemmas.Option.{none-some, same_Some}
use Rattle.std.proofs.lemmas.Slice.Zip.{AllZip-long}
use Rattle.cs_base.specs.Address.{Address}
use Rattle.cs_base.proofs.Elements.{All-behind}
use Rattle.cs_link.specs.Sent.{Datagram}
use Rattle.cs_node.specs.Posting.{all_posted, datagrams_of}
use Rattle.cs_node.specs.declared.effects.Effects.{Effects}
use Rattle.cs_packet.specs.PacketField.{IsPacket}
use Rattle.cs_packet.specs.declared.packet.Packet.{Packet}
use Rattle.cs_show.specs.Text.{ended, text_of}
use Rattle.cs_machine.specs.Contents.{contents_of}
use Rattle.cs_machine.specs.Lines.{note_lines, packet_lines}
use Rattle.cs_machine.specs.Names.{Name, Node, State, World, node_of}
use Rattle.cs_machine.specs.Outcome.{committed, sent_by, took}
use Rattle.cs_machine.specs.Packets.{bytes_sent, packet_for}
use Rattle.cs_machine.specs.Reached.{IsReached, IsSent, IsStarted}
use Rattle.cs_machine.specs.Squares.{SendStands, StandsForStep}
use Rattle.cs_machine.specs.Step.{Step}
use Rattle.cs_machine.proofs.Commits.{Follows-commit}
use Rattle.cs_world.specs.Posting.{ArePackets, IsSentBehind, Posts}
use Rattle.cs_world.specs.Sending.{bytes_in, datagram_of}
use Rattle.cs_world.specs.Sent.{PacketStands, TrafficStands}
use Rattle.cs_world.specs.declared.telling.Telling.TheVariants.{Names}
use Rattle.cs_world.specs.declared.traffic.Traffic.{Traffic}
use Rattle.cs_world.proofs.Traffics.{bytes-more, datagrams-later, sent-zip, traffic-more}
use Rattle.cs_world.proofs.SentLines.{lines-named}

-- an answer's lines, and then those of packets
text-lines : (before mid now : List ℕ) (lines more : List (List ℕ)) → mid ≡ before ++ text_of lines → now ≡ mid ++ text_of more
    → now ≡ before ++ text_of (lines ++ more)
text-lines before mid now lines more first second =
    second ∙ ap (λ t. t ++ text_of more) first
    ∙ append_assoc before (text_of lines) (text_of more)
    ∙ ap (λ t. before ++ t) (sym (flat_map-append ended lines more))

-- so they are the packets of these names
packets-are : (world : World) (me : ℕ) (sends : List (Address × Packet)) (named : List (ℕ × Name)) → AllZip (SendStands world me) sends named
    → map (λ (send : Address × Packet). send.1) sends ≡ map (packet_for (contents_of world)) (sent_by me named)
packets-are world me [] [] zip = refl
packets-are world me [] (n ∷ named) zip = absurd zip
packets-are world me (s ∷ sends) [] zip = absurd zip
packets-are world me (s ∷ sends) (n ∷ named) zip =
    ap (λ (p : Packet). p ∷ map (λ (send : Address × Packet). send.1) sends) zip.0.packet
    ∙ ap (λ (ps : List Packet). packet_for (contents_of world) (record { from = me; to = n.0; name = n.1 }) ∷ ps) (packets-are world me sends named zip.1)

-- and each is one
packets-formed : (world : World) (me : ℕ) (sends : List (Address × Packet)) (named : List (ℕ × Name)) → AllZip (SendStands world me) sends named
    → AllByRecursion (IsSent world) (sent_by me named) → ArePackets sends
packets-formed world me [] [] zip all = tt
packets-formed world me [] (n ∷ named) zip all = absurd zip
packets-formed world me (s ∷ sends) [] zip all = absurd zip
packets-formed world me (s ∷ sends) (n ∷ named) zip all =
    (subst IsPacket (sym zip.0.packet) all.0.packet, packets-formed world me sends named zip.1 all.1)

-- where a link told so many datagrams and then sent these packets, they stand behind so many
pub sent-behind-so_many : (earlier : ℕ) (sends : List (Address × Packet)) (told now : Option (List Datagram)) → Some earlier ≡ option_map length told
    → now ≡ all_posted (datagrams_of sends) told → IsSentBehind earlier sends now
sent-behind-so_many earlier sends None now count is = absurd (none-some earlier (sym count))
sent-behind-so_many earlier sends (Some before) now count is = (before, sym (same_Some earlier (length before) count), is)

module _ (world : World) (node : Node) (state : State) (step : Step) (effects : Effects) (traffic : Traffic)
    (stands : TrafficStands traffic world) (reached_before : IsReached world) (found : node_of world node.own.id ≡ Some node)
    (for_step : StandsForStep world node state step effects) (reached : IsReached (committed world node step)) where
  -- the machine's next world
  abbrev next : World
  next = committed world node step

  -- the node as it was started
  was : IsStarted world node
  was = reached_before.nodes node.own.id node found

  -- what was sent before stands on
  before_stands : AllZip (PacketStands next) traffic.datagrams.items world.sent
  before_stands =
      datagrams-later world next (Follows-commit world node step) was.leader was.led traffic.datagrams.items world.sent
      reached_before.sent stands.packets

  -- and what the node sends stands too
  new_stands : AllZip (PacketStands next) (map datagram_of effects.sends) (sent_by node.own.id step.sends)
  new_stands = sent-zip next node.own.id effects.sends step.sends for_step.sends

  -- what it sends are packets
  pub step-packets : ArePackets effects.sends
  step-packets =
      packets-formed next node.own.id effects.sends step.sends for_step.sends
      (All-behind (IsSent next) world.sent (sent_by node.own.id step.sends) reached.sent)

  -- so many bytes are sent then
  pub step-bytes : bytes_sent next ≡ traffic.bytes + bytes_in effects.sends
  step-bytes =
      bytes-more traffic traffic world next effects.sends (sent_by node.own.id step.sends) stands reached_before.settled
      reached_before.delivered before_stands new_stands refl refl refl

  -- with these packets behind them the packets stand
  pub step-traffic : (now : Traffic) (said told : List ℕ) → Posts Names effects.sends traffic now said told → TrafficStands now next
  step-traffic now said told posts =
      traffic-more traffic now world next effects.sends (sent_by node.own.id step.sends) stands reached_before.settled
      reached_before.delivered before_stands new_stands refl refl refl posts.datagrams posts.bytes now.few posts.front

  -- and the lines are those of the step
  pub step-text : (now : Traffic) (before said told : List ℕ) → said ≡ before ++ text_of (note_lines effects.note)
      → Posts Names effects.sends traffic now said told → told ≡ before ++ text_of (took world node step).lines
  step-text now before said told first posts =
      let packets = map (packet_for (contents_of next)) (sent_by node.own.id step.sends) in
      text-lines before said told (note_lines step.note) (packet_lines (length world.sent + 1) packets)
      (first ∙ ap (λ n. before ++ text_of (note_lines n)) for_step.note)
      (posts.text ∙ ap (λ lines. said ++ text_of lines) (lines-named (length traffic.datagrams.items + 1) effects.sends)
      ∙ ap (λ n. said ++ text_of (packet_lines (n + 1) (map (λ (send : Address × Packet). send.1) effects.sends)))
      (sym (AllZip-long (PacketStands world) traffic.datagrams.items world.sent stands.packets))
      ∙ ap (λ ps. said ++ text_of (packet_lines (length world.sent + 1) ps)) (packets-are next node.own.id effects.sends step.sends for_step.sends))
