-- What actions on the node under an id lead to, by the state that the node is in.
use Rattle.std.proofs.Common.{◌≡◌, ◌∙◌, ◌++◌, ℕ, Bool, true, false, cond, eqb, Bor, List, Option, Some, None, codes, decimal}
use Rattle.std.proofs.Common.{refl, sym, ap, subst}
use Rattle.std.proofs.lemmas.Option.{none-some, same_Some}
use Rattle.cs_base.specs.Address.{Address}
use Rattle.cs_base.specs.Axes.{Axes}
use Rattle.cs_base.specs.declared.change.Mode.{Mode}
use Rattle.cs_core.specs.Node.{member}
use Rattle.cs_node.specs.Effects.{on_bytes}
use Rattle.cs_node.specs.declared.node.Node.TheVariants as nodes
use Rattle.cs_packet.specs.declared.own.Own.{Own}
use Rattle.cs_script.specs.Event.{IsEvent}
use Rattle.cs_script.specs.declared.event.Event.{Event}
use Rattle.cs_script.specs.declared.event.Event.TheVariants as events
use Rattle.cs_machine.specs.Asking.{ask_leader_step, ask_step, need_step}
use Rattle.cs_machine.specs.Changes.{flush_step, join_step, leave_step, move_step}
use Rattle.cs_machine.specs.Closing.{close_step}
use Rattle.cs_machine.specs.Contents.{Contents, contents_of}
use Rattle.cs_machine.specs.Delivering.{deliver_as, deliver_to}
use Rattle.cs_machine.specs.Happens.{ask_as, ask_at, close_as, close_at, happens, join_as, join_at, member_as, member_at}
use Rattle.cs_machine.specs.Machine.{deliver_step}
use Rattle.cs_machine.specs.Names.{Following, Joining, Leading, Left, Membership, Node, Sent, State, World, leader_of, node_of}
use Rattle.cs_machine.specs.Outcome.{After, answer, commit, unless_down}
use Rattle.cs_machine.specs.Packets.{bytes_of}
use Rattle.cs_machine.specs.Reached.{IsReached, IsSent}
use Rattle.cs_machine.specs.Squares.{IsStep}
use Rattle.cs_machine.specs.Step.{Step}
use Rattle.cs_machine.specs.Values.{member_for, node_for}
use Rattle.cs_machine.proofs.CloseRun.{close-step}
use Rattle.cs_machine.proofs.Lifts.{deliver-step}
use Rattle.cs_machine.proofs.Nodes.{id-found}
use Rattle.cs_machine.proofs.OwnRun.{ask-step, ask_leader-step, flush-step, join-step, leave-step, move-step, need-step}
use Rattle.cs_machine.proofs.ReachedHeld.{happens-keeps}
use Rattle.cs_machine.proofs.Settles.{deliver_to-keeps}
use Rattle.cs_world.proofs.TakenBytes.{hears}
use Rattle.cs_world.specs.Calls.{effects_at, refused, refused_by_joining, refused_by_leader, refused_by_left, refused_by_member}
use Rattle.cs_world.specs.Events.{action_for}
use Rattle.cs_world.specs.Happening.{CanBeTold, CalledAs, CalledIf, IsActed, IsCalled, RefusesOrSteps}
use Rattle.cs_world.specs.Processes.{Parts}
use Rattle.cs_world.specs.Stands.{CanTell}
use Rattle.cs_world.specs.declared.action.Action.{Action}
use Rattle.cs_world.specs.declared.action.Action.TheVariants as actions
use Rattle.cs_world.specs.declared.call.Call.{Call}
use Rattle.cs_world.specs.declared.call.Call.TheVariants as calls
use Rattle.cs_world.specs.declared.call.Refusal.TheVariants as refusals

-- a node is found under its own id
pub found-here : (world : World) (id : ℕ) (node : Node) → node_of world id ≡ Some node → node_of world node.own.id ≡ Some node
found-here world id node found = ap (node_of world) (id-found world id node found) ∙ found

-- a node that is down says so at a call, and one in a state does what it does there
called-as : (world : World) (node : Node) (call : Call) (next : State → After)
    → ((state : State) → node.state ≡ Some state
    → RefusesOrSteps world node state call (next state) (refused (node_for (contents_of world) node.own state) call))
    → CalledAs world node call (unless_down world next node.state) node.state
called-as world node call next each = go node.state each
  where
    go : (o : Option State) → ((state : State) → o ≡ Some state
        → RefusesOrSteps world node state call (next state) (refused (node_for (contents_of world) node.own state) call))
        → CalledAs world node call (unless_down world next o) o
    go None so = refl
    go (Some state) so = so state refl

-- what can be told of one action can be told of what equals it
told-moved : (parts : ℕ → Option Parts) (q : ℕ) (a : Action) (id : ℕ) (action : Action) → ◌≡◌ {A = Option (ℕ × Action)} (Some (q, a)) (Some (id, action))
    → CanBeTold a (parts q) → CanBeTold action (parts id)
told-moved parts q a id action is can = subst (λ (x : ℕ × Action). CanBeTold x.1 (parts x.0)) (same_Some (q, a) (id, action) is) can

-- one that brings a node back can be told where its action can
pub can-act : (event : Event) (id : ℕ) (action : Action) → action_for event ≡ Some (id, action) → (parts : ℕ → Option Parts)
    → CanTell event parts → CanBeTold action (parts id)
can-act (events.Join q) id action is parts can = told-moved parts q (actions.Call calls.Join) id action is tt
can-act (events.Leave q) id action is parts can = told-moved parts q (actions.Call calls.Leave) id action is tt
can-act (events.Flush q) id action is parts can = told-moved parts q (actions.Call calls.Flush) id action is tt
can-act (events.Move q at) id action is parts can = told-moved parts q (actions.Call (calls.Move at)) id action is tt
can-act (events.Need q to region) id action is parts can = told-moved parts q (actions.Call (calls.Need to region)) id action is tt
can-act (events.Crash q) id action is parts can = told-moved parts q actions.Crash id action is tt
can-act (events.Restart q) id action is parts can = told-moved parts q actions.Restart id action is can
can-act (events.Tear q b) id action is parts can = told-moved parts q (actions.Arm b) id action is tt
can-act event id action is parts can = absurd (none-some (id, action) is)

module _ (world : World) (reached : IsReached world) where
  -- an allowed event leads to a world that is reached
  happens-reached : (event : Event) → IsEvent event → IsReached (happens world event).world
  happens-reached event allowed = (happens-keeps world event allowed reached).reached

  -- a joining node asks to be let in, and another refuses
  pub join-called : (id : ℕ) → IsEvent (events.Join id) → IsCalled world id calls.Join (happens world (events.Join id))
  join-called id allowed = (go (node_of world id) refl, happens-reached (events.Join id) allowed)
    where
      by : (node : Node) → node_of world id ≡ Some node → (s : State) → node.state ≡ Some s
          → RefusesOrSteps world node s calls.Join (join_as world node s) (refused (node_for (contents_of world) node.own s) calls.Join)
      by node found Joining is = (join_step node.own, refl, join-step world reached node (found-here world id node found) is)
      by node found (Following m) is = refl
      by node found (Leading epoch pending) is = refl
      by node found Left is = refl

      go : (o : Option Node) → node_of world id ≡ o → CalledIf world calls.Join (join_at world o) o
      go None found = refl
      go (Some node) found = called-as world node calls.Join (join_as world node) (by node found)

  -- a call that members alone have
  module _ (call : Call) (event : ℕ → Event) (step : Contents → Own → Membership → Step)
      (is_step : (id : ℕ) → happens world (event id) ≡ member_at world step (node_of world id))
      (by_joining : refused_by_joining call ≡ Some refusals.Joining) (by_member : refused_by_member call ≡ None)
      (by_leader : refused_by_leader call ≡ Some refusals.Leader) (by_left : refused_by_left call ≡ Some refusals.Departed)
      (square : (node : Node) (m : Membership) → node_of world node.own.id ≡ Some node → node.state ≡ Some (Following m)
      → IsStep world node (Following m) (step (contents_of world) node.own m)
      (effects_at (nodes.Follower (member node.own (member_for (contents_of world) m))) call)) where
    -- a member does it, and another refuses
    member-called : (id : ℕ) → IsEvent (event id) → IsCalled world id call (happens world (event id))
    member-called id allowed = (
      subst (λ a. CalledIf world call a (node_of world id)) (sym (is_step id)) (go (node_of world id) refl),
      happens-reached (event id) allowed,
    )
      where
        by : (node : Node) → node_of world id ≡ Some node → (s : State) → node.state ≡ Some s → RefusesOrSteps world node s call
            (member_as world node (step (contents_of world) node.own) s) (refused (node_for (contents_of world) node.own s) call)
        by node found Joining is = subst (RefusesOrSteps world node Joining call _) (sym by_joining) refl
        by node found (Following m) is =
            subst (RefusesOrSteps world node (Following m) call _) (sym by_member)
            (step (contents_of world) node.own m, refl, square node m (found-here world id node found) is)
        by node found (Leading epoch pending) is = subst (RefusesOrSteps world node (Leading epoch pending) call _) (sym by_leader) refl
        by node found Left is = subst (RefusesOrSteps world node Left call _) (sym by_left) refl

        go : (o : Option Node) → node_of world id ≡ o → CalledIf world call (member_at world step o) o
        go None found = refl
        go (Some node) found = called-as world node call (member_as world node (step (contents_of world) node.own)) (by node found)

  -- a member wants to leave
  pub leave-called : (id : ℕ) → IsEvent (events.Leave id) → IsCalled world id calls.Leave (happens world (events.Leave id))
  leave-called =
      member-called calls.Leave (λ id. events.Leave id) leave_step (λ id. refl) refl refl refl refl
      (λ node m here is. leave-step world reached node here m is)

  -- it hands on what is pending
  pub flush-called : (id : ℕ) → IsEvent (events.Flush id) → IsCalled world id calls.Flush (happens world (events.Flush id))
  flush-called =
      member-called calls.Flush (λ id. events.Flush id) (λ c own m. flush_step own m m.pending) (λ id. refl) refl refl refl refl
      (λ node m here is. flush-step world reached node here m is)

  -- it moves
  pub move-called : (id : ℕ) (at : Axes) → IsEvent (events.Move id at)
      → IsCalled world id (calls.Move at) (happens world (events.Move id at))
  move-called id at allowed =
      member-called (calls.Move at) (λ q. events.Move q at) (λ c own m. move_step c own at m) (λ q. refl) refl refl refl refl
      (λ node m here is. move-step world reached node here at allowed.1 m is) id allowed

  -- it asks for a slice
  pub need-called : (id to region : ℕ) → IsEvent (events.Need id to region)
      → IsCalled world id (calls.Need to region) (happens world (events.Need id to region))
  need-called id to region allowed =
      member-called (calls.Need to region) (λ q. events.Need q to region) (λ c own m. need_step c own to region m) (λ q. refl)
      refl refl refl refl (λ node m here is. need-step world reached node here to region allowed.2 m is) id allowed

  -- a joining node asks the leader
  abbrev asks_leader : Node → After
  asks_leader node = commit world node (ask_leader_step node.own)

  -- or answers that it doesn't know whom it is told to ask
  abbrev unknown : ℕ → After
  unknown to = answer world (codes "unknown " ++ decimal to)

  -- a node asks for a snapshot: a member whom it is told to, and a joining one the leader alone
  pub ask-called : (id to : ℕ) (leads : Bool) → ((node : Node) → node_of world id ≡ Some node → leads ≡ eqb to node.own.leader)
      → IsEvent (events.Ask id to) → IsCalled world id (calls.Ask to leads) (happens world (events.Ask id to))
  ask-called id to leads same allowed = (go (node_of world id) refl, happens-reached (events.Ask id to) allowed)
    where
      joining : (node : Node) → node_of world id ≡ Some node → node.state ≡ Some Joining → (b : Bool)
          → RefusesOrSteps world node Joining (calls.Ask to leads) (cond b (asks_leader node) (unknown to)) (cond b None (Some (refusals.Unknown to)))
      joining node found is true = (ask_leader_step node.own, refl, ask_leader-step world reached node (found-here world id node found) is)
      joining node found is false = refl

      by : (node : Node) → node_of world id ≡ Some node → (s : State) → node.state ≡ Some s → RefusesOrSteps world node s
          (calls.Ask to leads) (ask_as world node to s) (refused (node_for (contents_of world) node.own s) (calls.Ask to leads))
      by node found Joining is =
          subst
          (λ b. RefusesOrSteps world node Joining (calls.Ask to leads) (cond b (asks_leader node) (unknown to))
          (cond leads None (Some (refusals.Unknown to)))) (same node found) (joining node found is leads)
      by node found (Following m) is =
          (ask_step (contents_of world) node.own to m, refl, ask-step world reached node (found-here world id node found) to m is)
      by node found (Leading epoch pending) is = refl
      by node found Left is = refl

      go : (o : Option Node) → node_of world id ≡ o → CalledIf world (calls.Ask to leads) (ask_at world to o) o
      go None found = refl
      go (Some node) found = called-as world node (calls.Ask to leads) (ask_as world node to) (by node found)

  -- the leader closes its epoch
  pub close-called : (node : Node) → leader_of world ≡ Some node
      → IsCalled world node.own.id calls.Close (happens world events.Close)
  close-called node leads = (
    subst (CalledIf world calls.Close (happens world events.Close)) (sym (reached.found node leads))
        (subst (λ a. CalledIf world calls.Close a (Some node)) (sym (ap (close_at world) leads))
        (called-as world node calls.Close (close_as world node) by)),
    happens-reached events.Close tt,
  )
    where
      by : (s : State) → node.state ≡ Some s
          → RefusesOrSteps world node s calls.Close (close_as world node s) (refused (node_for (contents_of world) node.own s) calls.Close)
      by Joining is = refl
      by (Following m) is = refl
      by (Leading epoch pending) is =
          (close_step (contents_of world) node.own.id epoch pending, refl, close-step world node epoch pending reached leads is)
      by Left is = refl

  -- the bytes of a packet come to the node that it is for
  pub deliver-called : (sent : Sent) → IsSent world sent → (bytes : Bor (List ℕ)) → bytes.now ≡ bytes_of world sent
      → IsCalled world sent.to (calls.Deliver bytes) (deliver_to world sent (node_of world sent.to))
  deliver-called sent is_sent bytes same = (
    subst (λ o. CalledIf world (calls.Deliver bytes) (deliver_to world sent o) o) (sym is_sent.receiver)
        (called-as world node (calls.Deliver bytes) (deliver_as world sent node) by),
    (deliver_to-keeps world sent (node_of world sent.to) reached is_sent refl).reached,
  )
    where
      -- the receiver
      node : Node
      node = is_sent.node

      -- does what it decides on them
      by : (s : State) → node.state ≡ Some s → RefusesOrSteps world node s (calls.Deliver bytes) (deliver_as world sent node s)
          (refused (node_for (contents_of world) node.own s) (calls.Deliver bytes))
      by s is =
          let step = deliver_step (contents_of world) node.own s sent.from sent.name in
          subst (RefusesOrSteps world node s (calls.Deliver bytes) (deliver_as world sent node s)) (sym (hears (node_for (contents_of world) node.own s) bytes)) (
            step,
            refl,
            subst (λ b. IsStep world node s step (on_bytes (node_for (contents_of world) node.own s) b)) (sym same)
                (deliver-step world node s sent reached is_sent is_sent.receiver is),
          )

  -- a node crashes
  pub crash-acted : (id : ℕ) → IsEvent (events.Crash id) → IsActed world id actions.Crash (happens world (events.Crash id))
  crash-acted id allowed = (refl, happens-reached (events.Crash id) allowed)

  -- it comes back
  pub restart-acted : (id : ℕ) → IsEvent (events.Restart id) → IsActed world id actions.Restart (happens world (events.Restart id))
  restart-acted id allowed = (refl, happens-reached (events.Restart id) allowed)

  -- its log is armed
  pub arm-acted : (id b : ℕ) → IsEvent (events.Tear id b) → IsActed world id (actions.Arm b) (happens world (events.Tear id b))
  arm-acted id b allowed = (refl, happens-reached (events.Tear id b) allowed)

  -- what acts as one action acts as what equals it
  acted-moved : (after : After) (q : ℕ) (a : Action) (id : ℕ) (action : Action)
      → ◌≡◌ {A = Option (ℕ × Action)} (Some (q, a)) (Some (id, action)) → IsActed world q a after
      → IsActed world id action after
  acted-moved after q a id action is acted = subst (λ (x : ℕ × Action). IsActed world x.0 x.1 after) (same_Some (q, a) (id, action) is) acted

  -- an event that is an action on a node acts on it
  pub event-acted : (event : Event) → IsEvent event → (id : ℕ) (action : Action) → action_for event ≡ Some (id, action)
      → IsActed world id action (happens world event)
  event-acted (events.Join q) allowed id action is =
      acted-moved (happens world (events.Join q)) q (actions.Call calls.Join) id action is (join-called q allowed)
  event-acted (events.Leave q) allowed id action is =
      acted-moved (happens world (events.Leave q)) q (actions.Call calls.Leave) id action is (leave-called q allowed)
  event-acted (events.Flush q) allowed id action is =
      acted-moved (happens world (events.Flush q)) q (actions.Call calls.Flush) id action is (flush-called q allowed)
  event-acted (events.Move q at) allowed id action is =
      acted-moved (happens world (events.Move q at)) q (actions.Call (calls.Move at)) id action is (move-called q at allowed)
  event-acted (events.Need q to region) allowed id action is =
      acted-moved (happens world (events.Need q to region)) q (actions.Call (calls.Need to region)) id action is (need-called q to region allowed)
  event-acted (events.Crash q) allowed id action is =
      acted-moved (happens world (events.Crash q)) q actions.Crash id action is (crash-acted q allowed)
  event-acted (events.Restart q) allowed id action is =
      acted-moved (happens world (events.Restart q)) q actions.Restart id action is (restart-acted q allowed)
  event-acted (events.Tear q b) allowed id action is =
      acted-moved (happens world (events.Tear q b)) q (actions.Arm b) id action is (arm-acted q b allowed)
  event-acted event allowed id action is = absurd (none-some (id, action) is)

-- what is no action, and none of these, is for a node that runs alone
pub never-here : (world : World) (event : Event) → action_for event ≡ None
    → ((id : ℕ) (addr : Address) (at : Axes) → event ≡ events.Lead id addr at → ⊥)
    → ((id : ℕ) (addr : Address) (at : Axes) (mode : Mode) → event ≡ events.Boot id addr at mode → ⊥)
    → (event ≡ events.Close → ⊥) → ((id to : ℕ) → event ≡ events.Ask id to → ⊥) → ((number : ℕ) → event ≡ events.Deliver number → ⊥)
    → ((number : ℕ) → event ≡ events.Lose number → ⊥) → ((most : ℕ) → event ≡ events.Settle most → ⊥)
    → ((id size : ℕ) → event ≡ events.Noise id size → ⊥) → ((id : ℕ) → event ≡ events.Print id → ⊥)
    → happens world event ≡ answer world (codes "not here")
never-here world (events.Home id addr) none lead boot close ask deliver lose settle noise print = refl
never-here world (events.Packet id bytes) none lead boot close ask deliver lose settle noise print = refl
never-here world (events.Lead id addr at) none lead boot close ask deliver lose settle noise print = absurd (lead id addr at refl)
never-here world (events.Boot id addr at mode) none lead boot close ask deliver lose settle noise print = absurd (boot id addr at mode refl)
never-here world events.Close none lead boot close ask deliver lose settle noise print = absurd (close refl)
never-here world (events.Ask id to) none lead boot close ask deliver lose settle noise print = absurd (ask id to refl)
never-here world (events.Deliver number) none lead boot close ask deliver lose settle noise print = absurd (deliver number refl)
never-here world (events.Lose number) none lead boot close ask deliver lose settle noise print = absurd (lose number refl)
never-here world (events.Settle most) none lead boot close ask deliver lose settle noise print = absurd (settle most refl)
never-here world (events.Noise id size) none lead boot close ask deliver lose settle noise print = absurd (noise id size refl)
never-here world (events.Print id) none lead boot close ask deliver lose settle noise print = absurd (print id refl)
never-here world event none lead boot close ask deliver lose settle noise print = absurd (none-some _ (sym none))
