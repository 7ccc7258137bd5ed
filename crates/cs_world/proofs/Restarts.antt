-- A node that is down comes back from its log, or stays down.
use Rattle.std.proofs.Common.{◌≡◌, ◌⊎◌, inl, inr, ◌∙◌, ℕ, ◌<◌, List, [], ◌++◌, Option, Some, None, IfSome, IsSome}
use Rattle.std.proofs.Common.{refl, sym, ap, subst}
use Rattle.std.specs.List.{AllByRecursion}
use Rattle.std.specs.Option.{option_map}
use Rattle.std.proofs.lemmas.Option.{none-some}
use Rattle.cs_base.proofs.Elements.{All-changed}
use Rattle.cs_link.specs.declared.link.Link.{Ghosts as LinkGhosts}
use Rattle.cs_log.specs.Frames.{Fits, IsTorn, framed}
use Rattle.cs_log.specs.Tears.{FailsSync, armed_number}
use Rattle.cs_log.specs.declared.log.Log.{Ghosts as LogGhosts}
use Rattle.cs_log.proofs.Torn.{nothing_is_torn}
use Rattle.cs_node.specs.Folding.{FoldsTo}
use Rattle.cs_node.specs.Recovery.{AreWhole, Explains, IsLeft}
use Rattle.cs_node.specs.declared.folding.Folded.TheVariants.{Bad, Empty, Gives}
use Rattle.cs_node.specs.declared.node.Node.{Node as ANode}
use Rattle.cs_node.specs.declared.stopped.Why.{Why}
use Rattle.cs_node.specs.declared.stopped.Why.TheVariants as why
use Rattle.cs_node.proofs.Entered.{entry-fits}
use Rattle.cs_packet.specs.EntryField.{IsEntry, entry_bytes}
use Rattle.cs_machine.specs.Contents.{contents_of}
use Rattle.cs_machine.specs.Entries.{Entry}
use Rattle.cs_machine.specs.Happens.{came_back, restart_as}
use Rattle.cs_machine.specs.Names.{Node, State, World, node_of}
use Rattle.cs_machine.specs.Outcome.{After}
use Rattle.cs_machine.specs.Reached.{IsReached}
use Rattle.cs_machine.specs.Restoring.{restored}
use Rattle.cs_machine.specs.Values.{entry_for, node_for}
use Rattle.cs_machine.proofs.Commits.{Appends-none}
use Rattle.cs_machine.proofs.Contents.{entries-formed}
use Rattle.cs_world.specs.Actions.{BringsBack, DoesAction, Recovers, RestartsAs, rearmed, tear_for}
use Rattle.cs_world.specs.Happening.{CanBeTold, LeadsTo}
use Rattle.cs_world.specs.Kept.{log_bytes, spelled_entries}
use Rattle.cs_world.specs.Processes.{Parts}
use Rattle.cs_world.specs.Stands.{LinkStands, NodeStands, Stands, restored_value}
use Rattle.cs_world.specs.declared.action.Action.{Action}
use Rattle.cs_world.specs.declared.action.Action.TheVariants as actions
use Rattle.cs_world.specs.declared.call.Answer.TheVariants.{Back, Stopped}
use Rattle.cs_world.specs.declared.nodes.Nodes.{Nodes}
use Rattle.cs_world.proofs.Acted.{armed-for, says}
use Rattle.cs_world.proofs.Causes.{risen-some}
use Rattle.cs_world.proofs.Changed.{HasPut}
use Rattle.cs_world.proofs.LogFrames.{folds-one, told-bytes, whole-payloads}
use Rattle.cs_world.proofs.Options.{map-none}
use Rattle.cs_world.proofs.Stays.{still-stands}

-- ---- logs

-- what is armed anew waits for an append, so no sync fails by it
rearmed-syncs : (o : Option ℕ) → FailsSync (tear_for o) → ⊥
rearmed-syncs None fails = fails
rearmed-syncs (Some b) fails = fails

module _ (world : World) (node : Node) (reached : IsReached world) (found : node_of world node.own.id ≡ Some node) where
  -- four bytes can say the length of each of the node's entries
  spelled-fit : AllByRecursion Fits (spelled_entries world node)
  spelled-fit =
      All-changed (λ (entry : Entry). IsEntry (entry_for (contents_of world) entry)) Fits
      (λ (entry : Entry). entry_bytes (entry_for (contents_of world) entry))
      (λ entry formed. entry-fits (entry_for (contents_of world) entry) formed) node.entries
      (entries-formed world reached node.own.id node found)

  -- so the whole frames of its log are those of the entries
  whole-frames : (torn : IsTorn node.tail) (bytes whole : List ℕ) → bytes ≡ log_bytes world node → AreWhole bytes whole
      → whole ≡ framed (spelled_entries world node) ++ []
  whole-frames torn bytes whole is are = whole-payloads (spelled_entries world node) node.tail bytes spelled-fit torn is whole are

-- ---- a node that comes back

-- it came back, in the code and in the machine
pub record HasComeBack (world : World) (node : Node) (action : Action) (after : After) (old new : Parts) : Type 0 where
  pub is : action ≡ actions.Restart
  pub was_down : node.state ≡ None
  pub leads : after ≡ came_back world node
  pub value : ANode
  pub up : new.node ≡ Some value
  pub link : new.link ≡ old.link
  pub brings : BringsBack (rearmed old.log) value new.log

-- where it says so
pub has-come-back : (world : World) (node : Node) (action : Action) (after : After) (old new : Parts) → NodeStands world node old
    → LeadsTo world action after (Some node) → DoesAction old action Back new → HasComeBack world node action after old new
has-come-back world node (actions.Call call) after old new stood leads acts = absurd (says old (actions.Call call) Back new acts)
has-come-back world node actions.Crash after old new stood leads acts = absurd (says old actions.Crash Back new acts)
has-come-back world node actions.Restart after old new stood leads acts =
    go node.state refl (subst (λ o. RestartsAs o old Back new) stood.node acts)
  where
    by : (o : Option ANode) → new.node ≡ o → Recovers (rearmed old.log) Back o new.log
        → (value : ANode) × (new.node ≡ Some value) × BringsBack (rearmed old.log) value new.log
    by None is none = absurd none
    by (Some value) is brings = (value, is, brings)

    go : (o : Option State) → node.state ≡ o → RestartsAs (option_map (node_for (contents_of world) node.own) o) old Back new
        → HasComeBack world node actions.Restart after old new
    go None is down =
        let back = by new.node refl down.1 in
        record {
          is = refl;
          was_down = is;
          leads = leads ∙ ap (restart_as world node) is;
          value = back.0;
          up = back.1;
          link = down.0;
          brings = back.2;
        }
    go (Some state) is up = absurd (let e = up.0 in cc)
has-come-back world node (actions.Arm b) after old new stood leads acts = absurd (says old (actions.Arm b) Back new acts)

-- so the node came back as what its log's entries lead to, and has their frames alone
back-itself : (world : World) (node : Node) (action : Action) (after : After) (old new : Parts) → IsReached world
    → node_of world node.own.id ≡ Some node → NodeStands world node old → IsSome old.log.bytes
    → HasComeBack world node action after old new
    → NodeStands world (record node { state = Some (restored (contents_of world) node.own node.entries); tail = [] }) new
back-itself world node action after old new reached found stood told has = record {
  node = has.up ∙ ap {B = Option ANode} (λ n. Some n) value;
  link = subst (LinkStands world node.own.id) (sym has.link) stood.link;
  log = record {
    bytes = subst (λ o. IfSome o (λ b. b ≡ framed (spelled_entries world node) ++ [])) (sym whole.1)
        (whole-frames world node reached found stood.log.torn bytes whole.0 (holds (λ b. b ≡ log_bytes world node) stood.log.bytes) whole.2);
    torn = nothing_is_torn;
    own_faults = has.brings.quiet.own_faults ∙ stood.log.own_faults;
    armed = has.brings.quiet.tear ∙ ap (λ t. tear_for (armed_number t)) stood.log.armed ∙ ap tear_for (armed-for node.armed);
  };
  back = λ up. absurd (none-some (restored (contents_of world) node.own node.entries) (sym up));
}
  where
    -- the bytes of the log
    bytes : List ℕ
    bytes = (told-bytes old.log.bytes told).0

    bytes_are : old.log.bytes ≡ Some bytes
    bytes_are = (told-bytes old.log.bytes told).1

    -- what holds of what the log tells holds of them
    holds : (P : List ℕ → Type 0) → IfSome old.log.bytes P → P bytes
    holds P told_so = subst (λ o. IfSome o P) bytes_are told_so

    -- they give what a restart brings back, and nothing else
    value : has.value ≡ restored_value world node
    value =
        let same : Gives has.value ≡ Gives (restored_value world node) =
        folds-one bytes (Gives has.value) (Gives (restored_value world node)) (holds (λ b. FoldsTo b (Gives has.value)) has.brings.gives)
        (holds (λ b. FoldsTo b (Gives (restored_value world node))) (stood.back has.was_down)) in
        (let e = same in cc)

    -- the whole frames of them are left
    whole : (w : List ℕ) × (new.log.bytes ≡ Some w) × AreWhole bytes w
    whole = holds (λ b. (w : List ℕ) × (new.log.bytes ≡ Some w) × AreWhole b w) has.brings.whole

-- and the code stands for the world then
pub back-stands : {L G : Type 0} (link : LinkGhosts L) (log : LogGhosts G) (code later : Nodes L G) (world : World) (node : Node)
    (action : Action) (after : After) (old new : Parts) → HasPut link log code later node.own.id new → later.traffic ≡ code.traffic
    → Stands link log code world → node_of world node.own.id ≡ Some node → NodeStands world node old → IsReached after.world
    → CanBeTold action (Some old) → HasComeBack world node action after old new → Stands link log later (came_back world node).world
back-stands link log code later world node action after old new put same stands found stood reached told has =
    let state : State = restored (contents_of world) node.own node.entries in
    let back : Node → Node = λ n. record n { state = Some state; tail = [] } in
    still-stands link log code later world node back new put same stands found (Appends-none back (λ n. refl) (λ n. refl))
    (subst (λ (a : After). IsReached a.world) has.leads reached)
    (back-itself world node action after old new stands.reached found stood (subst (λ a. CanBeTold a (Some old)) has.is told) has)

-- the code has it as what its entries lead to
pub back-value : (world : World) (node : Node) (action : Action) (after : After) (old new : Parts) → IsReached world
    → node_of world node.own.id ≡ Some node → NodeStands world node old → CanBeTold action (Some old)
    → HasComeBack world node action after old new
    → new.node ≡ Some (node_for (contents_of world) node.own (restored (contents_of world) node.own node.entries))
back-value world node action after old new reached found stood told has =
    (back-itself world node action after old new reached found stood (subst (λ a. CanBeTold a (Some old)) has.is told) has).node

-- ---- a node that stays down

-- its log didn't bring it back
pub record HasStayedDown (old : Parts) (action : Action) (reason : Why) (new : Parts) : Type 0 where
  pub is : action ≡ actions.Restart
  pub was_down : old.node ≡ None
  pub explains : IfSome old.log.bytes (Explains reason)
  pub left : IsLeft reason (rearmed old.log) new.log

-- where it says so
pub has-stayed-down : (old : Parts) (action : Action) (reason : Why) (new : Parts) → DoesAction old action (Stopped reason) new
    → HasStayedDown old action reason new
has-stayed-down old (actions.Call call) reason new acts = absurd (says old (actions.Call call) (Stopped reason) new acts)
has-stayed-down old actions.Crash reason new acts = absurd (says old actions.Crash (Stopped reason) new acts)
has-stayed-down old actions.Restart reason new acts = go old.node refl acts
  where
    by : (o : Option ANode) → Recovers (rearmed old.log) (Stopped reason) o new.log
        → IfSome old.log.bytes (Explains reason) × IsLeft reason (rearmed old.log) new.log
    by None recovers = recovers
    by (Some n) none = absurd none

    go : (o : Option ANode) → old.node ≡ o → RestartsAs o old (Stopped reason) new → HasStayedDown old actions.Restart reason new
    go None is down = (let left = by new.node down.1 in record { is = refl; was_down = is; explains = left.0; left = left.1 })
    go (Some n) is up = absurd (let e = up.0 in cc)
has-stayed-down old (actions.Arm b) reason new acts = absurd (says old (actions.Arm b) (Stopped reason) new acts)

-- where its log failed, it did so by itself, and that counts so
pub stopped-log-some : (old : Parts) (action : Action) (new : Parts) → DoesAction old action (Stopped why.Log) new → 0 < new.log.own_faults
stopped-log-some old action new acts = elim (has-stayed-down old action why.Log new acts).left.1 [
  | inl risen ↦ risen-some old.log.own_faults new.log.own_faults risen
  | inr fails ↦ absurd (rearmed-syncs (armed_number old.log.tear) fails)
]

-- a log that tells its bytes gives the node, so it failed then, or memory was wanting
pub stopped-why : (world : World) (node : Node) (action : Action) (reason : Why) (old new : Parts) → NodeStands world node old
    → CanBeTold action (Some old) → HasStayedDown old action reason new → (reason ≡ why.Log) ⊎ (reason ≡ why.Memory)
stopped-why world node action reason old new stood can has = go reason has.explains
  where
    -- the bytes of the log
    told : (bytes : List ℕ) × (old.log.bytes ≡ Some bytes)
    told = told-bytes old.log.bytes (subst (λ a. CanBeTold a (Some old)) has.is can)

    -- the node is down in the machine too
    was_down : node.state ≡ None
    was_down = map-none (node_for (contents_of world) node.own) node.state (sym stood.node ∙ has.was_down)

    gives : FoldsTo told.0 (Gives (restored_value world node))
    gives = subst (λ o. IfSome o (λ bytes. FoldsTo bytes (Gives (restored_value world node)))) told.1 (stood.back was_down)

    go : (r : Why) → IfSome old.log.bytes (Explains r) → (r ≡ why.Log) ⊎ (r ≡ why.Memory)
    go why.Log explains = inl refl
    go why.Memory explains = inr refl
    go why.Empty explains =
        absurd (let same = folds-one told.0 Empty (Gives (restored_value world node)) (subst (λ o. IfSome o (Explains why.Empty)) told.1 explains) gives in cc)
    go (why.Bad place) explains =
        absurd (let same = folds-one told.0 (Bad place) (Gives (restored_value world node))
        (subst (λ o. IfSome o (Explains (why.Bad place))) told.1 explains) gives in cc)
