-- What a node of the machine did as an action on it ended in the code.
use Rattle.std.proofs.Common.{◌≡◌, ◌≢◌, inl, inr, ◌∙◌, ℕ, Bool, true, false, eqb, length, Option, Some, None}
use Rattle.std.proofs.Common.{refl, sym, ap, subst, codes}
use Rattle.std.specs.Option.{option_map}
use Rattle.std.proofs.lemmas.Bool.{eqb-true, eq-eqb, false≢true}
use Rattle.cs_link.specs.declared.link.Link.{Ghosts as LinkGhosts}
use Rattle.cs_log.specs.Tears.{armed_number}
use Rattle.cs_log.specs.declared.log.Log.{Ghosts as LogGhosts}
use Rattle.cs_node.specs.Appending.{IsKept}
use Rattle.cs_node.specs.Placed.{Placed}
use Rattle.cs_node.specs.Told.{LogTold}
use Rattle.cs_node.specs.declared.node.Node.{Node as ANode}
use Rattle.cs_packet.specs.declared.entry.Entry.{Entry as AnEntry}
use Rattle.cs_machine.specs.Contents.{contents_of}
use Rattle.cs_machine.specs.Entries.{Entry}
use Rattle.cs_machine.specs.Happens.{crashed, restart_as}
use Rattle.cs_machine.specs.Names.{Node, State, World, node_of}
use Rattle.cs_machine.specs.Outcome.{After, answer, commit, took, torn_entry, unless_down, unless_torn}
use Rattle.cs_machine.specs.Squares.{IsStep}
use Rattle.cs_machine.specs.Step.{Step}
use Rattle.cs_machine.specs.Values.{entry_for, node_for}
use Rattle.cs_machine.proofs.Nodes.{id-found, option_map-some}
use Rattle.cs_world.specs.Acting.{ActsAt}
use Rattle.cs_world.specs.Actions.{CallsAs, CrashesAs, DoesAction, RestartsAs, tear_for}
use Rattle.cs_world.specs.Calls.{effects_at, refusal_word}
use Rattle.cs_world.specs.Happening.{CalledAs, CanBeTold, IsActed, LeadsTo, RefusesOrSteps}
use Rattle.cs_world.specs.Processes.{Parts}
use Rattle.cs_world.specs.Seats.{parts_at}
use Rattle.cs_world.specs.Stands.{NodeStands, Stands}
use Rattle.cs_world.specs.declared.action.Action.{Action}
use Rattle.cs_world.specs.declared.action.Action.TheVariants as actions
use Rattle.cs_world.specs.declared.acting.Acted.{Acted}
use Rattle.cs_world.specs.declared.call.Answer.{Answer}
use Rattle.cs_world.specs.declared.call.Answer.TheVariants.{Refused}
use Rattle.cs_world.specs.declared.call.Call.{Call}
use Rattle.cs_world.specs.declared.call.Refusal.{Refusal}
use Rattle.cs_world.specs.declared.call.Refusal.TheVariants as refusals
use Rattle.cs_world.specs.declared.nodes.Nodes.{Nodes}
use Rattle.cs_world.specs.declared.seats.Seats.{Seats}
use Rattle.cs_world.proofs.Acted.{IsOfCallAlone, Performs, armed-for, declines-or-performs, performs-alone, was-called}
use Rattle.cs_world.proofs.Changed.{HasPut}
use Rattle.cs_world.proofs.Later.{stands-seen}
use Rattle.cs_world.proofs.Under.{node-under, none-under}

-- ---- who acted

-- seats that are seen alike under one id, and under all others
pub seen-alike : {P : Type 0} (before now : ℕ → Option P) (id : ℕ) → now id ≡ before id → ((other : ℕ) → other ≢ id → now other ≡ before other)
    → (q : ℕ) → now q ≡ before q
seen-alike before now id here others q = go (eqb q id) refl
  where
    go : (b : Bool) → eqb q id ≡ b → now q ≡ before q
    go true same = subst (λ p. now p ≡ before p) (sym (eqb-true q id same)) here
    go false other = others q (λ same. false≢true (sym other ∙ eq-eqb q id same))

-- where nobody is there, the machine says so, whatever the action
nobody-leads : (world : World) (action : Action) (after : After) → LeadsTo world action after None → after ≡ answer world (codes "no node")
nobody-leads world (actions.Call call) after leads = leads
nobody-leads world actions.Crash after leads = leads
nobody-leads world actions.Restart after leads = leads
nobody-leads world (actions.Arm b) after leads = leads

-- a node that acted, before and now, and the machine's node that it stands for
pub record NodeActed {L G : Type 0} (link : LinkGhosts L) (log : LogGhosts G) (code later : Nodes L G) (world : World) (id : ℕ)
    (action : Action) (after : After) (acted : Acted) : Type 0 where
  pub old : Parts
  pub new : Parts
  pub earlier : Some acted.earlier ≡ option_map length old.link.sent
  pub acts : DoesAction old action acted.answer new
  pub told : CanBeTold action (Some old)
  pub node : Node
  pub mine : node.own.id ≡ id
  pub found : node_of world node.own.id ≡ Some node
  pub stood : NodeStands world node old
  pub leads : LeadsTo world action after (Some node)
  pub before : parts_at link log code.seats node.own.id ≡ Some old
  pub now : parts_at link log later.seats id ≡ Some new
  pub put : HasPut link log code later node.own.id new

module _ {L G : Type 0} (link : LinkGhosts L) (log : LogGhosts G) (code later : Nodes L G) (world : World) (id : ℕ) (action : Action)
    (after : After) (stands : Stands link log code world) (leader : later.leader ≡ code.leader) (addresses : later.addresses ≡ code.addresses)
  where
    -- so it is of each node that acted
    pub node-acted : (acted : Acted) (seats : Seats (Placed L G)) → CanBeTold action (parts_at link log code.seats id)
        → IsActed world id action after → ActsAt link log id action (Some acted) code.seats seats → later.seats ≡ seats
        → NodeActed link log code later world id action after acted
    node-acted acted seats can happens acts same =
        let old : Parts = acts.node.0 in
        let there = node-under world (node_of world id) (parts_at link log code.seats id) old acts.node.2 (stands.nodes id) in
        let mine : there.0.own.id ≡ id = id-found world id there.0 there.1 in
        record {
          old = old;
          new = acts.node.1;
          earlier = acts.node.4.earlier;
          acts = acts.node.4.acts;
          told = subst (CanBeTold action) acts.node.2 can;
          node = there.0;
          mine = mine;
          found = ap (node_of world) mine ∙ there.1;
          stood = there.2;
          leads = subst (LeadsTo world action after) there.1 happens.0;
          before = ap (parts_at link log code.seats) mine ∙ acts.node.2;
          now = ap (λ s. parts_at link log s id) same ∙ acts.node.3;
          put = record {
            now = ap (parts_at link log later.seats) mine ∙ ap (λ s. parts_at link log s id) same ∙ acts.node.3;
            others = λ q other. ap (λ s. parts_at link log s q) same ∙ acts.others q (λ is. other (is ∙ sym mine));
            leader = leader;
            addresses = addresses;
          };
        }

    -- where its parts are as they were, so is all
    pub stands-still : (acted : Acted) (a : NodeActed link log code later world id action after acted) → a.new ≡ a.old
        → later.traffic ≡ code.traffic → Stands link log later world
    stands-still acted a same traffic =
        stands-seen link log code later world
        (seen-alike (parts_at link log code.seats) (parts_at link log later.seats) a.node.own.id
        (a.put.now ∙ ap (λ p. Some p) same ∙ sym a.before) a.put.others)
        addresses leader traffic stands

    -- nobody was there, and all is as it was
    pub nobody-acted : IsActed world id action after → ActsAt link log id action None code.seats later.seats → later.traffic ≡ code.traffic
        → Stands link log later world × (after ≡ answer world (codes "no node"))
    nobody-acted happens acts traffic =
        let was : ℕ → Option Parts = parts_at link log code.seats in
        let seen = seen-alike was (parts_at link log later.seats) id (acts.node.1 ∙ sym acts.node.0) acts.others in (
          stands-seen link log code later world seen addresses leader traffic stands,
          nobody-leads world action after
              (subst (LeadsTo world action after) (none-under world (node_of world id) (was id) acts.node.0 (stands.nodes id)) happens.0),
        )

-- ---- what it did

module _ (world : World) (node : Node) (action : Action) (after : After) (old new : Parts) (stood : NodeStands world node old)
    (leads : LeadsTo world action after (Some node)) where
  -- it refused, in the code and in the machine
  abbrev IsRefused : Refusal → Type 0
  IsRefused refusal = (new ≡ old) × (after ≡ answer world (refusal_word refusal))

  -- so a refusal has the machine's word
  refusal-word : (refusal said : Refusal) → Refused refusal ≡ Refused said → after ≡ answer world (refusal_word said)
      → after ≡ answer world (refusal_word refusal)
  refusal-word refusal said same is =
      let one : said ≡ refusal = (let e = same in cc) in
      is ∙ ap (λ r. answer world (refusal_word r)) one

  -- a call is refused by what the node is
  call-refused : (call : Call) (refusal : Refusal) (o : Option State) → node.state ≡ o → CalledAs world node call after o
      → CallsAs (option_map (node_for (contents_of world) node.own) o) old call (Refused refusal) new → IsRefused refusal
  call-refused call refusal None is machine down = (down.1, refusal-word refusal refusals.Down down.0 machine)
  call-refused call refusal (Some state) is machine up =
      let value = node_for (contents_of world) node.own state in
      elim (declines-or-performs value old call (Refused refusal) new up) [
        | inl declines ↦
            let had : old.node ≡ Some value = stood.node ∙ ap (option_map (node_for (contents_of world) node.own)) is in (
              declines.same ∙ ap {B = Parts} (λ n. record old { node = n }) (sym had),
              refusal-word refusal declines.refusal declines.answers
                  (subst (RefusesOrSteps world node state call after) declines.is machine),
            )
        | inr performs ↦
            absurd (performs-alone value old call (Refused refusal) new performs)
      ]

  -- and any action is refused by whether the node is up or down
  pub was-refused : (refusal : Refusal) → DoesAction old action (Refused refusal) new → IsRefused refusal
  was-refused refusal acts = by action leads acts
    where
      value : Option State → Option ANode
      value o = option_map (node_for (contents_of world) node.own) o

      crash : (o : Option State) → after ≡ unless_down world (λ state. crashed world node) o
          → CrashesAs (value o) old (Refused refusal) new → IsRefused refusal
      crash None machine down = (down.1, refusal-word refusal refusals.Down down.0 machine)
      crash (Some state) machine up = absurd (let e = up.0 in cc)

      restart : (o : Option State) → after ≡ restart_as world node o → RestartsAs (value o) old (Refused refusal) new → IsRefused refusal
      restart None machine down = absurd down.1
      restart (Some state) machine up = (up.1, refusal-word refusal refusals.Up up.0 machine)

      by : (a : Action) → LeadsTo world a after (Some node) → DoesAction old a (Refused refusal) new → IsRefused refusal
      by (actions.Call call) machine acts_so =
          call-refused call refusal node.state refl machine (subst (λ o. CallsAs o old call (Refused refusal) new) stood.node acts_so)
      by actions.Crash machine acts_so = crash node.state machine (subst (λ o. CrashesAs o old (Refused refusal) new) stood.node acts_so)
      by actions.Restart machine acts_so = restart node.state machine (subst (λ o. RestartsAs o old (Refused refusal) new) stood.node acts_so)
      by (actions.Arm b) machine acts_so = absurd (let e = acts_so.0 in cc)

-- a node in a state performed a call, in the code and in the machine
pub record HasPerformed (world : World) (node : Node) (after : After) (old : Parts) (answered : Answer) (new : Parts) : Type 0 where
  pub call : Call
  pub state : State
  pub was_up : node.state ≡ Some state
  pub performs : Performs (node_for (contents_of world) node.own state) old call answered new
  pub step : Step
  pub leads : after ≡ commit world node step
  pub is_step : IsStep world node state step (effects_at (node_for (contents_of world) node.own state) call)

-- where it answers what a call alone answers
pub has-performed : (world : World) (node : Node) (action : Action) (after : After) (old : Parts) (answered : Answer) (new : Parts)
    → NodeStands world node old → LeadsTo world action after (Some node) → IsOfCallAlone answered → DoesAction old action answered new
    → HasPerformed world node after old answered new
has-performed world node action after old answered new stood leads alone acts =
    let was = was-called old action answered new alone acts in
    let c = contents_of world in
    let named = option_map-some (node_for c node.own) node.state was.node (sym stood.node ∙ was.up) in
    let state : State = named.0 in
    let performs = subst (λ n. Performs n old was.call answered new) named.2 was.performs in
    let called : CalledAs world node was.call after node.state = subst (λ a. LeadsTo world a after (Some node)) was.is leads in
    let stepped : RefusesOrSteps world node state was.call after None =
    subst (RefusesOrSteps world node state was.call after) performs.allowed (subst (CalledAs world node was.call after) named.1 called) in
    record {
      call = was.call;
      state = state;
      was_up = named.1;
      performs = performs;
      step = stepped.0;
      leads = stepped.1;
      is_step = stepped.2;
    }

-- where what a step logs is kept, the machine's write isn't torn
pub untorn : (world : World) (node : Node) (step : Step) (entry : Option AnEntry) (before now : LogTold)
    → entry ≡ option_map (entry_for (contents_of world)) step.entry → before.tear ≡ tear_for node.armed → IsKept entry before now
    → commit world node step ≡ took world node step
untorn world node step entry before now is armed kept = ap (unless_torn world node step) (go step.entry (subst (λ o. IsKept o before now) is kept))
  where
    go : (o : Option Entry) → IsKept (option_map (entry_for (contents_of world)) o) before now → torn_entry o node.armed ≡ None
    go None same = refl
    go (Some entry_of_step) keeps =
        ap (torn_entry (Some entry_of_step)) (sym (armed-for node.armed) ∙ ap armed_number (sym armed) ∙ ap armed_number keeps.unarmed)
