-- A node crashes, and keeps its link and its log, which brings it back; or its log is armed.
use Rattle.std.proofs.Common.{◌≡◌, ◌∙◌, ℕ, Option, Some, None, IfSome, refl, sym, ap, subst}
use Rattle.std.specs.Option.{option_map}
use Rattle.cs_link.specs.declared.link.Link.{Ghosts as LinkGhosts}
use Rattle.cs_log.specs.declared.armed.Tear.TheVariants.{Append}
use Rattle.cs_log.specs.declared.log.Log.{Ghosts as LogGhosts}
use Rattle.cs_node.specs.Folding.{FoldsTo}
use Rattle.cs_node.specs.Logged.{restarted}
use Rattle.cs_node.specs.declared.folding.Folded.TheVariants.{Gives}
use Rattle.cs_node.specs.declared.node.Node.{Node as ANode}
use Rattle.cs_machine.specs.Contents.{contents_of}
use Rattle.cs_machine.specs.Happens.{crashed, tear_at}
use Rattle.cs_machine.specs.Names.{Node, State, World, node_of}
use Rattle.cs_machine.specs.Outcome.{After, unless_down}
use Rattle.cs_machine.specs.Reached.{IsReached}
use Rattle.cs_machine.specs.Values.{node_for}
use Rattle.cs_machine.proofs.Commits.{Appends-none}
use Rattle.cs_machine.proofs.Follows.{is-up}
use Rattle.cs_machine.proofs.Lasts.{restarted-for}
use Rattle.cs_world.specs.Actions.{CrashesAs, DoesAction}
use Rattle.cs_world.specs.Happening.{LeadsTo}
use Rattle.cs_world.specs.Processes.{Parts}
use Rattle.cs_world.specs.Stands.{NodeStands, Stands, restored_value}
use Rattle.cs_world.specs.declared.action.Action.{Action}
use Rattle.cs_world.specs.declared.action.Action.TheVariants as actions
use Rattle.cs_world.specs.declared.call.Answer.TheVariants.{Armed, Down}
use Rattle.cs_world.specs.declared.nodes.Nodes.{Nodes}
use Rattle.cs_world.proofs.Acted.{says}
use Rattle.cs_world.proofs.Changed.{HasPut}
use Rattle.cs_world.proofs.Stays.{still-stands}

-- what a restart brings back of a node in a state is what its log's entries lead to
pub restarts-as : (world : World) (node : Node) (state : State) → IsReached world → node_of world node.own.id ≡ Some node
    → node.state ≡ Some state → restarted (node_for (contents_of world) node.own state) ≡ restored_value world node
restarts-as world node state reached found is =
    restarted-for (contents_of world) node.own state
    ∙ ap (node_for (contents_of world) node.own) (is-up world node state (reached.nodes node.own.id node found) is).lasts

-- a node in a state crashed, in the code and in the machine
pub record HasCrashed (world : World) (node : Node) (after : After) (old new : Parts) : Type 0 where
  pub state : State
  pub was_up : node.state ≡ Some state
  pub leads : after ≡ crashed world node
  pub parts : new ≡ record old { node = None }
  pub gives : IfSome old.log.bytes (λ bytes. FoldsTo bytes (Gives (restarted (node_for (contents_of world) node.own state))))

-- where it says that it is down from now on
pub has-crashed : (world : World) (node : Node) (action : Action) (after : After) (old new : Parts) → NodeStands world node old
    → LeadsTo world action after (Some node) → DoesAction old action Down new → HasCrashed world node after old new
has-crashed world node (actions.Call call) after old new stood leads acts = absurd (says old (actions.Call call) Down new acts)
has-crashed world node actions.Crash after old new stood leads acts =
    go node.state refl (subst (λ o. CrashesAs o old Down new) stood.node acts)
  where
    go : (o : Option State) → node.state ≡ o → CrashesAs (option_map (node_for (contents_of world) node.own) o) old Down new
        → HasCrashed world node after old new
    go None is down = absurd (let e = down.0 in cc)
    go (Some state) is up = record {
      state = state;
      was_up = is;
      leads = leads ∙ ap (λ o. unless_down world (λ s. crashed world node) o) is;
      parts = up.1;
      gives = up.2;
    }
has-crashed world node actions.Restart after old new stood leads acts = absurd (says old actions.Restart Down new acts)
has-crashed world node (actions.Arm b) after old new stood leads acts = absurd (says old (actions.Arm b) Down new acts)

-- then the code stands for the world after the crash
pub crashed-stands : {L G : Type 0} (link : LinkGhosts L) (log : LogGhosts G) (code later : Nodes L G) (world : World) (node : Node)
    (after : After) (old new : Parts) → HasPut link log code later node.own.id new → later.traffic ≡ code.traffic
    → Stands link log code world → node_of world node.own.id ≡ Some node → NodeStands world node old → IsReached after.world
    → HasCrashed world node after old new → Stands link log later (crashed world node).world
crashed-stands link log code later world node after old new put same stands found stood reached has =
    still-stands link log code later world node (λ (n : Node). record n { state = None }) new put same stands found
    (Appends-none (λ (n : Node). record n { state = None }) (λ n. refl) (λ n. refl)) (subst (λ (a : After). IsReached a.world) has.leads reached)
    (subst (NodeStands world (record node { state = None })) (sym has.parts) (record {
      node = refl;
      link = stood.link;
      log = record { bytes = stood.log.bytes; torn = stood.log.torn; own_faults = stood.log.own_faults; armed = stood.log.armed };
      back = λ down. subst (λ (value : ANode). IfSome old.log.bytes (λ bytes. FoldsTo bytes (Gives value)))
          (restarts-as world node has.state stands.reached found has.was_up) has.gives;
    }))

-- ---- arming

-- the log is armed, in the code and in the machine
pub record HasArmed (world : World) (node : Node) (after : After) (b : ℕ) (old new : Parts) : Type 0 where
  pub leads : after ≡ tear_at world b (Some node)
  pub parts : new ≡ record old { log = record old.log { tear = Append b } }

-- where it says so
pub has-armed : (world : World) (node : Node) (action : Action) (after : After) (b : ℕ) (old new : Parts)
    → LeadsTo world action after (Some node) → DoesAction old action (Armed b) new → HasArmed world node after b old new
has-armed world node (actions.Call call) after b old new leads acts = absurd (says old (actions.Call call) (Armed b) new acts)
has-armed world node actions.Crash after b old new leads acts = absurd (says old actions.Crash (Armed b) new acts)
has-armed world node actions.Restart after b old new leads acts = absurd (says old actions.Restart (Armed b) new acts)
has-armed world node (actions.Arm a) after b old new leads acts =
    let same : a ≡ b = (let e = acts.0 in cc) in
    record {
      leads = leads ∙ ap (λ n. tear_at world n (Some node)) same;
      parts = acts.1 ∙ ap {B = Parts} (λ n. record old { log = record old.log { tear = Append n } }) same;
    }

-- then the code stands for the world after it
pub armed-stands : {L G : Type 0} (link : LinkGhosts L) (log : LogGhosts G) (code later : Nodes L G) (world : World) (node : Node)
    (after : After) (b : ℕ) (old new : Parts) → HasPut link log code later node.own.id new → later.traffic ≡ code.traffic
    → Stands link log code world → node_of world node.own.id ≡ Some node → NodeStands world node old → IsReached after.world
    → HasArmed world node after b old new → Stands link log later (tear_at world b (Some node)).world
armed-stands link log code later world node after b old new put same stands found stood reached has =
    still-stands link log code later world node (λ (n : Node). record n { armed = Some b }) new put same stands found
    (Appends-none (λ (n : Node). record n { armed = Some b }) (λ n. refl) (λ n. refl))
    (subst (λ (a : After). IsReached a.world) has.leads reached)
    (subst (NodeStands world (record node { armed = Some b })) (sym has.parts) (record {
      node = stood.node;
      link = stood.link;
      log = record { bytes = stood.log.bytes; torn = stood.log.torn; own_faults = stood.log.own_faults; armed = refl };
      back = stood.back;
    }))
