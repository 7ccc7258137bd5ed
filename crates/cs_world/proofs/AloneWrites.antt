-- What a call made of the one node: its write was torn, or it did what it decided.
use Rattle.std.specs.Prelude.{⊤}
use Rattle.std.proofs.Common.{◌≡◌, ◌∙◌, inl, inr, ℕ, ◌<◌, ◌≤◌, Bool, true, false, cond, nat_le, List, [], ◌∷◌, ◌++◌, length, map, take, take_all}
use Rattle.std.proofs.Common.{MatchOption, Option, Some, None, IfSome, IsSome, Ok, codes, refl, sym, ap, subst, append-nil}
use Rattle.std.specs.List.{AllByRecursion}
use Rattle.std.specs.Option.{option_map}
use Rattle.std.proofs.lemmas.Bool.{cases_lt, le-leb, lt-leb}
use Rattle.std.proofs.lemmas.List.{map-append}
use Rattle.cs_base.specs.Address.{Address}
use Rattle.cs_base.proofs.Elements.{All-append}
use Rattle.cs_log.specs.Bytes.{appended}
use Rattle.cs_log.specs.Frames.{framed}
use Rattle.cs_log.specs.Tears.{armed_number}
use Rattle.cs_log.proofs.Torn.{part_is_torn}
use Rattle.cs_node.specs.Appending.{IsKept, IsLeftByArm, entry_frame}
use Rattle.cs_node.specs.Calls.{Ends, node_after}
use Rattle.cs_node.specs.Placed.{running}
use Rattle.cs_node.specs.Posting.{AreSent, all_posted, datagrams_of}
use Rattle.cs_node.specs.Sound.{IsSound}
use Rattle.cs_node.specs.Told.{LinkTold}
use Rattle.cs_node.specs.declared.effects.Effects.{Effects}
use Rattle.cs_node.specs.declared.node.Node.{Node}
use Rattle.cs_node.proofs.Entered.{entry-fits}
use Rattle.cs_packet.specs.EntryField.{IsEntry, entry_bytes}
use Rattle.cs_packet.specs.PacketField.{packet_bytes}
use Rattle.cs_packet.specs.declared.entry.Entry.{Entry}
use Rattle.cs_packet.specs.declared.packet.Packet.{Packet}
use Rattle.cs_world.specs.Actions.{tear_for}
use Rattle.cs_world.specs.Alone.{Alone, OneNode, log_of, payloads}
use Rattle.cs_world.specs.AloneEvents.{acted_lines, after_effects, becomes, carried_out, logged, torn_at, torn_write, unless_torn}
use Rattle.cs_world.specs.AloneStands.{IsOneNode, LinkIsOf, LogIsOf}
use Rattle.cs_world.specs.Processes.{Parts, parts_of}
use Rattle.cs_world.proofs.Acted.{armed-for}
use Rattle.cs_world.proofs.Failed.{IsTornCall}
use Rattle.cs_world.proofs.LogFrames.{frame-behind, piece-behind}

-- an entry of what was decided is well formed
entry-formed : (effects : Effects) (entry : Entry) → IsSound effects → effects.entry ≡ Some entry → IsEntry entry
entry-formed effects entry sound has = subst (λ o. MatchOption o ⊤ IsEntry) has sound.entry

module _ (alone : Alone) (n : OneNode) (node : Node) (effects : Effects) (old : Parts) (ends : Ends) (stood : IsOneNode n old)
    (was_up : n.node ≡ Some node) (sound : IsSound effects) where
  -- nothing was torn before
  whole : n.tail ≡ []
  whole = stood.formed.whole (subst IsSome (sym was_up) refl)

  -- ---- its write was torn

  module _ (torn : IsTornCall effects old ends) where
    -- after so many bytes
    abbrev b : ℕ
    b = torn.b

    abbrev piece : List ℕ
    piece = entry_frame torn.entry

    formed : IsEntry torn.entry
    formed = entry-formed effects torn.entry sound torn.has

    -- it was armed with them
    is_armed : n.armed ≡ Some b
    is_armed = sym (armed-for n.armed) ∙ ap armed_number (sym stood.log.armed) ∙ torn.armed

    -- so many bytes of the frame are there
    bytes-left : ends.log.bytes ≡ appended old.log.bytes (take b piece)
    bytes-left =
        subst (λ tear. IsLeftByArm tear piece old.log.bytes ends.log.bytes) (stood.log.armed ∙ ap tear_for is_armed) torn.fails.left

    -- the definition tears the write too
    torn-leads : carried_out alone n node effects ≡ becomes alone (torn_at torn.entry b n) (codes "stopped log" ∷ [])
    torn-leads =
        ap (λ o. unless_torn alone n node effects (torn_write o n.armed)) torn.has
        ∙ ap (λ o. unless_torn alone n node effects (torn_write (Some torn.entry) o)) is_armed

    -- with the entry, where the number is enough for its frame
    abbrev behind : OneNode
    behind = record n { node = None; entries = n.entries ++ torn.entry ∷ []; armed = None }

    behind-stands : length piece ≤ b → IsOneNode behind (parts_of ends)
    behind-stands long = record {
      node = ap running torn.stopped;
      link = subst (LinkIsOf n.sent) (sym torn.link) stood.link;
      log = record {
        bytes = frame-behind entry_bytes n.entries torn.entry n.tail old.log.bytes ends.log.bytes whole
            (bytes-left ∙ ap (appended old.log.bytes) (take_all b piece long)) stood.log.bytes;
        own_faults = torn.fails.uncounted ∙ stood.log.own_faults;
        armed = torn.fails.unarmed;
      };
      formed = record {
        entries = All-append IsEntry n.entries (torn.entry ∷ []) stood.formed.entries (formed, tt);
        torn = stood.formed.torn;
        whole = λ some. absurd (let e = some in cc);
      };
    }

    -- and else with the first bytes of it
    abbrev within : OneNode
    within = record n { node = None; tail = take b piece; armed = None }

    within-stands : b < length piece → IsOneNode within (parts_of ends)
    within-stands short = record {
      node = ap running torn.stopped;
      link = subst (LinkIsOf n.sent) (sym torn.link) stood.link;
      log = record {
        bytes = piece-behind old.log.bytes ends.log.bytes (take b piece) (framed (payloads n)) bytes-left
            (subst (λ front. IfSome old.log.bytes (λ bytes. bytes ≡ front))
            (ap (λ t. framed (payloads n) ++ t) whole ∙ append-nil (framed (payloads n))) stood.log.bytes);
        own_faults = torn.fails.uncounted ∙ stood.log.own_faults;
        armed = torn.fails.unarmed;
      };
      formed = record {
        entries = stood.formed.entries;
        torn = part_is_torn (entry_bytes torn.entry) b (entry-fits torn.entry formed) short;
        whole = λ some. absurd (let e = some in cc);
      };
    }

    -- it is the node as it was started, and has sent what it had
    pub torn-own : (torn_at torn.entry b n).own ≡ n.own
    torn-own = go (nat_le (length piece) b)
      where
        go : (t : Bool) → (cond t behind within).own ≡ n.own
        go true = refl
        go false = refl

    pub torn-sent : (torn_at torn.entry b n).sent ≡ n.sent
    torn-sent = go (nat_le (length piece) b)
      where
        go : (t : Bool) → (cond t behind within).sent ≡ n.sent
        go true = refl
        go false = refl

    -- one of the two
    pub torn-alone : (carried_out alone n node effects ≡ becomes alone (torn_at torn.entry b n) (codes "stopped log" ∷ []))
        × IsOneNode (torn_at torn.entry b n) (parts_of ends)
    torn-alone = (
      torn-leads,
      elim (cases_lt b (length piece)) [
        | inl short ↦ subst (λ t. IsOneNode (cond t behind within) (parts_of ends)) (sym (lt-leb (length piece) b short)) (within-stands short)
        | inr long ↦ subst (λ t. IsOneNode (cond t behind within) (parts_of ends)) (sym (le-leb (length piece) b long)) (behind-stands long)
      ],
    )

  -- ---- it did what it decided

  module _ (status : ends.status ≡ Ok (node_after node effects)) (kept : IsKept effects.entry old.log ends.log)
      (sent : AreSent (datagrams_of effects.sends) old.link ends.link) where
    -- no write is torn where the entry is kept, or there is none
    no-tear : (o : Option Entry) → IsKept o old.log ends.log → torn_write o n.armed ≡ None
    no-tear None same = refl
    no-tear (Some entry) keeps =
        ap (option_map (λ m. (entry, m))) (sym (armed-for n.armed) ∙ ap armed_number (sym stood.log.armed) ∙ ap armed_number keeps.unarmed)

    -- its log has the entry
    log-now : (o : Option Entry) → IsKept o old.log ends.log
        → LogIsOf (framed (map entry_bytes (n.entries ++ logged o)) ++ n.tail) n.armed ends.log
    log-now None same =
        subst (λ (es : List Entry). LogIsOf (framed (map entry_bytes es) ++ n.tail) n.armed ends.log) (sym (append-nil n.entries))
        (subst (LogIsOf (log_of n) n.armed) (sym same) stood.log)
    log-now (Some entry) keeps = record {
      bytes = frame-behind entry_bytes n.entries entry n.tail old.log.bytes ends.log.bytes whole keeps.bytes stood.log.bytes;
      own_faults = keeps.own_faults ∙ stood.log.own_faults;
      armed = keeps.still ∙ sym keeps.unarmed ∙ stood.log.armed;
    }

    -- its entries are well formed
    entries-now : (o : Option Entry) → MatchOption o ⊤ IsEntry → AllByRecursion IsEntry (n.entries ++ logged o)
    entries-now None are = All-append IsEntry n.entries [] stood.formed.entries tt
    entries-now (Some entry) is = All-append IsEntry n.entries (entry ∷ []) stood.formed.entries (is, tt)

    -- its link has sent the packets
    link-now : LinkIsOf (n.sent ++ effects.sends) ends.link
    link-now = record {
      sent = ap (λ (l : LinkTold). l.sent) sent
          ∙ ap (all_posted (datagrams_of effects.sends)) stood.link.sent
          ∙ ap (λ ds. Some ds) (sym (map-append (λ (send : Address × Packet). (send.0, packet_bytes send.1)) n.sent effects.sends));
      faults = ap (λ (l : LinkTold). l.faults) sent ∙ stood.link.faults;
      taken = ap (λ (l : LinkTold). l.taken) sent ∙ stood.link.taken;
      dry = ap (λ (l : LinkTold). l.dry) sent ∙ stood.link.dry;
    }

    -- so the code has the node after it
    pub done-alone : (carried_out alone n node effects ≡ becomes alone (after_effects node effects n) (acted_lines n effects))
        × IsOneNode (after_effects node effects n) (parts_of ends)
    done-alone = (
      ap (unless_torn alone n node effects) (no-tear effects.entry kept),
      record {
        node = ap running status;
        link = link-now;
        log = log-now effects.entry kept;
        formed = record {
          entries = entries-now effects.entry sound.entry;
          torn = stood.formed.torn;
          whole = λ some. whole;
        };
      },
    )
