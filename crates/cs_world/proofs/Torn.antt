-- The write of a node was torn by what was armed: the code stands for the world in which the node is down.
use Rattle.std.proofs.Common.{◌≡◌, ◌∙◌, inl, inr, ℕ, ◌+◌, ◌<◌, ◌≤◌, Bool, true, false, cond, nat_le, List, [], ◌∷◌, ◌++◌, length, take, codes}
use Rattle.std.proofs.Common.{Option, Some, None, Err, is_err, IfSome, IsErr, if◌then◌else◌, refl, sym, ap, subst, append-nil, arith}
use Rattle.std.proofs.Common.{length-append, length-take, take_all}
use Rattle.std.specs.List.{AllByRecursion}
use Rattle.std.specs.Option.{option_map}
use Rattle.std.proofs.lemmas.Bool.{cases_lt, le-leb, lt-leb}
use Rattle.std.proofs.lemmas.Option.{same_Some}
use Rattle.cs_base.proofs.Elements.{All-behind}
use Rattle.cs_link.specs.declared.link.Link.{Ghosts as LinkGhosts}
use Rattle.cs_log.specs.Bytes.{appended}
use Rattle.cs_log.specs.Frames.{framed}
use Rattle.cs_log.specs.Tears.{armed_number}
use Rattle.cs_log.specs.declared.log.Log.{Ghosts as LogGhosts}
use Rattle.cs_log.proofs.Torn.{part_is_torn}
use Rattle.cs_node.specs.Appending.{IsLeftByArm, entry_frame}
use Rattle.cs_node.specs.Calls.{Ends, GivesAgain, frame_length, left_by, node_after}
use Rattle.cs_node.specs.Folding.{FoldsTo}
use Rattle.cs_node.specs.Logged.{restarted}
use Rattle.cs_node.specs.Placed.{running}
use Rattle.cs_node.specs.declared.effects.Effects.{Effects}
use Rattle.cs_node.specs.declared.folding.Folded.TheVariants.{Gives}
use Rattle.cs_node.specs.declared.node.Node.{Node as ANode}
use Rattle.cs_node.specs.declared.stopped.Why.TheVariants as why
use Rattle.cs_node.proofs.Entered.{entry-fits}
use Rattle.cs_packet.specs.EntryField.{IsEntry, entry_bytes}
use Rattle.cs_packet.specs.declared.entry.Entry.{Entry as AnEntry}
use Rattle.cs_machine.specs.Contents.{Contents, contents_of}
use Rattle.cs_machine.specs.Entries.{Entry, entries_of}
use Rattle.cs_machine.specs.Names.{Node, State, World, node_of}
use Rattle.cs_machine.specs.Outcome.{After, after_step, answer, commit, committed, torn_behind, torn_entry, torn_within, unless_torn, with_node}
use Rattle.cs_machine.specs.Reached.{IsLogged, IsReached}
use Rattle.cs_machine.specs.Restoring.{restored}
use Rattle.cs_machine.specs.Squares.{StandsForStep}
use Rattle.cs_machine.specs.Step.{Step}
use Rattle.cs_machine.specs.Values.{entry_for, node_for}
use Rattle.cs_machine.proofs.Commits.{Appends-behind, Appends-none, Follows-changed, contents-torn, moved, node_of-commit, restated-same}
use Rattle.cs_machine.proofs.Follows.{is-up}
use Rattle.cs_machine.proofs.Nodes.{option_map-some}
use Rattle.cs_world.specs.Actions.{tear_for}
use Rattle.cs_world.specs.Kept.{spelled_entries}
use Rattle.cs_world.specs.Processes.{Parts, parts_of}
use Rattle.cs_world.specs.Stands.{LinkStands, NodeStands, Stands, restored_value}
use Rattle.cs_world.specs.declared.nodes.Nodes.{Nodes}
use Rattle.cs_world.proofs.Acted.{armed-for}
use Rattle.cs_world.proofs.Changed.{HasPut}
use Rattle.cs_world.proofs.Crashes.{restarts-as}
use Rattle.cs_world.proofs.Failed.{IsTornCall}
use Rattle.cs_world.proofs.Later.{link-later, log_stands-later}
use Rattle.cs_world.proofs.Stays.{still-stands, unsent-stands}
use Rattle.cs_world.proofs.LogFrames.{frame-behind, piece-behind}
use Rattle.cs_world.proofs.Stepped.{or-else}

-- ---- logs

-- the whole frame is left where the number is enough for it
left-whole : (before frame : List ℕ) (b : ℕ) → length frame ≤ b → nat_le (length before + length frame) (length (before ++ take b frame)) ≡ true
left-whole before frame b long =
    le-leb (length before + length frame) (length (before ++ take b frame))
    (omega (arith, long, length-append before (take b frame), length-take b frame))

-- and else it isn't
left-part : (before frame : List ℕ) (b : ℕ) → b < length frame → nat_le (length before + length frame) (length (before ++ take b frame)) ≡ false
left-part before frame b short =
    lt-leb (length before + length frame) (length (before ++ take b frame))
    (omega (arith, short, length-append before (take b frame), length-take b frame))

-- a log that gives a node again, with a piece behind what it told
gives-left : (value target : ANode) (effects : Effects) (old now : Option (List ℕ)) (piece : List ℕ) → now ≡ appended old piece
    → IfSome now (GivesAgain value effects old (Err why.Log))
    → ((before : List ℕ) → restarted (left_by value effects before (before ++ piece)) ≡ target)
    → IfSome now (λ bytes. FoldsTo bytes (Gives target))
gives-left value target effects old now piece is gives each =
    subst (λ o. IfSome o (λ bytes. FoldsTo bytes (Gives target))) (sym is)
    (go old (subst (λ o. IfSome o (GivesAgain value effects old (Err why.Log))) is gives))
  where
    go : (o : Option (List ℕ)) → IfSome (appended o piece) (GivesAgain value effects o (Err why.Log))
        → IfSome (appended o piece) (λ bytes. FoldsTo bytes (Gives target))
    go None left = tt
    go (Some before) left = subst (λ n. FoldsTo (before ++ piece) (Gives n)) (each before) left

-- ---- the node

module _ {L G : Type 0} (link : LinkGhosts L) (log : LogGhosts G) (code later : Nodes L G) (world : World) (node : Node) (state : State)
    (step : Step) (effects : Effects) (stands : Stands link log code world) (found : node_of world node.own.id ≡ Some node)
    (was_up : node.state ≡ Some state) (for_step : StandsForStep world node state step effects)
    (reached : IsReached (committed world node step)) (old : Parts) (ends : Ends) (stood : NodeStands world node old)
    (put : HasPut link log code later node.own.id (parts_of ends)) (same_traffic : later.traffic ≡ code.traffic)
    (again : IsErr ends.status → IfSome ends.log.bytes (GivesAgain (node_for (contents_of world) node.own state) effects old.log.bytes ends.status))
    (torn_call : IsTornCall effects old ends) where
  -- what the code had for the node
  abbrev value : ANode
  value = node_for (contents_of world) node.own state

  -- the world to which the step leads where no write is torn
  abbrev next : World
  next = committed world node step

  -- after how many bytes the write is torn
  abbrev b : ℕ
  b = torn_call.b

  -- the machine's node is armed with them
  is_armed : node.armed ≡ Some b
  is_armed = sym (armed-for node.armed) ∙ ap armed_number (sym stood.log.armed) ∙ torn_call.armed

  -- the step has an entry
  in_names : (named : Entry) × (step.entry ≡ Some named) × (torn_call.entry ≡ entry_for (contents_of world) named)
  in_names = option_map-some (entry_for (contents_of world)) step.entry torn_call.entry (sym for_step.entry ∙ torn_call.has)

  -- this one
  abbrev named : Entry
  named = in_names.0

  -- which says in the step's world what it says in this one
  said-after : torn_call.entry ≡ entry_for (contents_of next) named
  said-after =
      same_Some torn_call.entry (entry_for (contents_of next) named)
      (sym torn_call.has ∙ for_step.entry_after ∙ ap (option_map (entry_for (contents_of next))) in_names.1)

  -- its frame
  abbrev piece : List ℕ
  piece = entry_frame (entry_for (contents_of world) named)

  -- nothing was torn before
  whole : node.tail ≡ []
  whole = (is-up world node state (stands.reached.nodes node.own.id node found) was_up).whole

  -- so many bytes of the frame are there
  bytes-left : ends.log.bytes ≡ appended old.log.bytes (take b piece)
  bytes-left =
      subst (λ tear. IsLeftByArm tear (entry_frame torn_call.entry) old.log.bytes ends.log.bytes)
      (stood.log.armed ∙ ap tear_for is_armed) torn_call.fails.left
      ∙ ap (λ (e : AnEntry). appended old.log.bytes (take b (entry_frame e))) in_names.2

  -- and the log gives a node again
  gives-again : IfSome ends.log.bytes (GivesAgain value effects old.log.bytes (Err why.Log))
  gives-again =
      subst (λ status. IfSome ends.log.bytes (GivesAgain value effects old.log.bytes status)) torn_call.stopped
      (again (ap is_err torn_call.stopped))

  -- which node that is, by what is left
  left-as : (enough : Bool) (before : List ℕ) → nat_le (length before + length piece) (length (before ++ take b piece)) ≡ enough
      → left_by value effects before (before ++ take b piece) ≡ cond enough (node_after value effects) value
  left-as enough before is =
      ap (λ o. if nat_le (length before + frame_length o) (length (before ++ take b piece)) then node_after value effects else value)
      (torn_call.has ∙ ap (λ e. Some e) in_names.2)
      ∙ ap (λ t. cond t (node_after value effects) value) is

  -- the node after the step is in the step's world
  here-after : node_of next node.own.id ≡ Some (after_step step node)
  here-after =
      node_of-commit world node step node.own.id ∙ ap (option_map (moved world node step)) found
      ∙ ap (λ n. Some n) (restated-same node.own.id step node refl)

  -- ---- where the number is enough for the frame

  -- the node is down, with the entry behind its others
  abbrev behind : World
  behind = with_node node.own.id (torn_behind named) world

  -- names stand there for what they do in the step's world
  same-contents : contents_of next ≡ contents_of behind
  same-contents = sym (contents-torn world node step named in_names.1)

  -- a restart brings back the node after the step
  gives-after : restarted (node_after value effects) ≡ restored_value behind (torn_behind named node)
  gives-after =
      ap restarted (or-else effects.after value ∙ for_step.after)
      ∙ restarts-as next (after_step step node) step.state reached here-after refl
      ∙ ap (λ o. node_for (contents_of next) node.own (restored (contents_of next) node.own (node.entries ++ entries_of o))) in_names.1
      ∙ ap (λ (c : Contents). node_for c node.own (restored c node.own (node.entries ++ named ∷ []))) same-contents

  -- so the code has the node as it is then
  behind-itself : length piece ≤ b → NodeStands behind (torn_behind named node) (parts_of ends)
  behind-itself long =
      let follows = Follows-changed world node.own.id (torn_behind named) (named ∷ []) (Appends-behind named) in
      let before = log_stands-later world behind stands.reached follows node found old.log stood.log in
      let said : entry_for (contents_of world) named ≡ entry_for (contents_of behind) named =
      sym in_names.2 ∙ said-after ∙ ap (λ (c : Contents). entry_for c named) same-contents in
      record {
        node = ap running torn_call.stopped;
        link = link-later world behind stands.reached follows node found refl ends.link
            (subst (LinkStands world node.own.id) (sym torn_call.link) stood.link);
        log = record {
          bytes = frame-behind (λ e. entry_bytes (entry_for (contents_of behind) e)) node.entries named node.tail old.log.bytes ends.log.bytes whole
              (bytes-left ∙ ap (appended old.log.bytes) (take_all b piece long ∙ ap entry_frame said)) before.bytes;
          torn = before.torn;
          own_faults = torn_call.fails.uncounted ∙ before.own_faults;
          armed = torn_call.fails.unarmed;
        };
        back = λ down. gives-left value (restored_value behind (torn_behind named node)) effects old.log.bytes ends.log.bytes (take b piece)
            bytes-left gives-again
            (λ bytes. ap restarted (left-as true bytes (left-whole bytes piece b long)) ∙ gives-after);
      }

  -- ---- where it isn't

  -- the entry is well formed
  formed : IsEntry (entry_for (contents_of world) named)
  formed =
      let logged : IsLogged next named =
      (All-behind (IsLogged next) node.entries (named ∷ [])
      (subst (λ o. AllByRecursion (IsLogged next) (node.entries ++ entries_of o)) in_names.1
      (reached.nodes node.own.id (after_step step node) here-after).entries)).0 in
      subst IsEntry (sym said-after ∙ in_names.2) logged.formed

  -- the code has the node as it is then: its log has the first bytes of one more frame
  within-itself : b < length piece → NodeStands world (torn_within (take b piece) node) (parts_of ends)
  within-itself short = record {
    node = ap running torn_call.stopped;
    link = subst (LinkStands world node.own.id) (sym torn_call.link) stood.link;
    log = record {
      bytes = piece-behind old.log.bytes ends.log.bytes (take b piece) (framed (spelled_entries world node)) bytes-left
          (subst (λ front. IfSome old.log.bytes (λ bytes. bytes ≡ front))
          (ap (λ t. framed (spelled_entries world node) ++ t) whole ∙ append-nil (framed (spelled_entries world node))) stood.log.bytes);
      torn = part_is_torn (entry_bytes (entry_for (contents_of world) named)) b (entry-fits (entry_for (contents_of world) named) formed) short;
      own_faults = torn_call.fails.uncounted ∙ stood.log.own_faults;
      armed = torn_call.fails.unarmed;
    };
    back = λ down. gives-left value (restored_value world node) effects old.log.bytes ends.log.bytes (take b piece) bytes-left gives-again
        (λ bytes. ap restarted (left-as false bytes (left-part bytes piece b short))
        ∙ restarts-as world node state stands.reached found was_up);
  }

  -- ---- so it is either way

  -- the node is so, as the number is enough or isn't
  abbrev torn_at : Bool → Node → Node
  torn_at enough n = cond enough (torn_behind named n) (torn_within (take b piece) n)

  -- what the machine's step leads to
  torn-leads : commit world node step ≡ answer (with_node node.own.id (torn_at (nat_le (length piece) b)) world) (codes "stopped log")
  torn-leads =
      ap (λ o. unless_torn world node step (torn_entry o node.armed)) in_names.1
      ∙ ap (λ o. unless_torn world node step (torn_entry (Some named) o)) is_armed

  -- it says that the log stopped it
  pub torn-says : commit world node step ≡ answer (commit world node step).world (codes "stopped log")
  torn-says = torn-leads ∙ ap (λ w. answer w (codes "stopped log")) (sym (ap (λ (a : After). a.world) torn-leads))

  -- and the code stands for that world
  pub torn-stands : IsReached (commit world node step).world → Stands link log later (commit world node step).world
  torn-stands reached_there =
      subst (λ (a : After). Stands link log later a.world) (sym torn-leads) (elim (cases_lt b (length piece)) [
        | inl short ↦ at false (lt-leb (length piece) b short) (λ there.
            still-stands link log code later world node (torn_within (take b piece)) (parts_of ends) put same_traffic stands found
            (Appends-none (torn_within (take b piece)) (λ n. refl) (λ n. refl)) there (within-itself short))
        | inr long ↦ at true (le-leb (length piece) b long) (λ there.
            unsent-stands link log code later world node (torn_behind named) (parts_of ends) put same_traffic stands found
            (named ∷ []) (Appends-behind named) there (behind-itself long))
      ])
    where
      -- the world, as the number is enough or isn't
      world_at : Bool → World
      world_at enough = with_node node.own.id (torn_at enough) world

      at : (enough : Bool) → nat_le (length piece) b ≡ enough → (IsReached (world_at enough) → Stands link log later (world_at enough))
          → Stands link log later (world_at (nat_le (length piece) b))
      at enough is so =
          subst (λ t. Stands link log later (world_at t)) (sym is)
          (so (subst (λ t. IsReached (world_at t)) is (subst (λ (a : After). IsReached a.world) torn-leads reached_there)))
