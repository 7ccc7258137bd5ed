-- A change of a node keeps what every reached world has where what it writes fits, and what it makes of the node: so do
-- steps, torn writes, crashes and restarts.
use Rattle.std.proofs.Common.{◌≡◌, ◌≢◌, ◌⊎◌, ℕ, ◌≤◌, nat_le, true, false, cond, List, [], ◌∷◌, ◌++◌, length, take, Option, Some, None, IfSome}
use Rattle.std.proofs.Common.{refl, sym, ap, ◌∙◌, subst, inl, inr, arith, append-nil, length-append}
use Rattle.std.specs.List.{AllByRecursion}
use Rattle.std.specs.Option.{option_map}
use Rattle.std.proofs.lemmas.Bool.{cases_eq, ne_eqb}
use Rattle.std.proofs.lemmas.Option.{IfSome_then, none-some, same_Some}
use Rattle.cs_base.specs.Limits.{last_number}
use Rattle.cs_base.proofs.Elements.{All-append, All-weaker}
use Rattle.cs_fields.specs.Changes.{IsChanges}
use Rattle.cs_node.specs.Appending.{entry_frame}
use Rattle.cs_packet.specs.declared.own.Own.{Own}
use Rattle.cs_packet.specs.Own.{member_of_own}
use Rattle.cs_machine.specs.Contents.{contents_of, items}
use Rattle.cs_machine.specs.Entries.{Entry, entries_of, items_in}
use Rattle.cs_machine.specs.Names.{Item, Node, Sent, State, World, node_of, leader_of}
use Rattle.cs_machine.specs.Outcome.{After, after_step, commit, committed, sent_by, torn, torn_behind, torn_entry, torn_within, unless_down}
use Rattle.cs_machine.specs.Outcome.{unless_torn, with_node}
use Rattle.cs_machine.specs.Reached.{AreAsked, IsHistory, IsLogged, IsReached, IsSent, IsStarted, IsUp, StateFits}
use Rattle.cs_machine.specs.Restoring.{lasting, restored}
use Rattle.cs_machine.specs.Step.{Step}
use Rattle.cs_machine.specs.Values.{entry_for}
use Rattle.cs_machine.proofs.Commits.{Appends, Appends-behind, Appends-none, Appends-step, Follows-changed, changed-other, changed-same}
use Rattle.cs_machine.proofs.Commits.{items-changed-leader, items-still, leader-was-changed, node-was-changed, node_of-changed}
use Rattle.cs_machine.proofs.Follows.{AreAsked-later, AreLogged-later, Follows, Follows-rest, IsSent-later, IsStarted-later, IsStarted-stays}
use Rattle.cs_machine.proofs.Follows.{StateFits-later, restored-later}
use Rattle.cs_machine.proofs.Lasts.{StateFits-lasting, lasting-restored}
use Rattle.cs_machine.proofs.Nodes.{changed_at, id-found, own-changed_at}
use Rattle.cs_machine.proofs.Rises.{IsLater-further, IsLater-same, Rises, Rises-stays, RisesTo, found-same, restored_in, rises-lasting, rises-later}

-- the later world is reached, and comes from the earlier one
pub record Reaches (world later : World) : Type 0 where
  pub reached : IsReached later
  pub follows : Follows world later
  pub rises : Rises world later

-- a world that stays keeps the laws
pub Reaches-same : (world : World) → IsReached world → Reaches world world
Reaches-same world reached = (let same = IsLater-same world in record { reached = reached; follows = same.0; rises = same.1 })

-- and what comes from a later world comes from the earlier one
pub Reaches-more : (a b c : World) → Reaches a b → Reaches b c → Reaches a c
Reaches-more a b c first second =
    let all = IsLater-further a b c (first.follows, first.rises) (second.follows, second.rises) in
    record { reached = second.reached; follows = all.0; rises = all.1 }

-- what a node that is up does keeps the laws where it does so in the node's state
pub unless_down-keeps : (world : World) (node : Node) (next : State → After) → IsReached world
    → ((state : State) → node.state ≡ Some state → Reaches world (next state).world)
    → Reaches world (unless_down world next node.state).world
unless_down-keeps world node next reached keeps = go node.state keeps
  where
    go : (o : Option State) → ((state : State) → o ≡ Some state → Reaches world (next state).world)
        → Reaches world (unless_down world next o).world
    go None each = Reaches-same world reached
    go (Some state) each = each state refl

-- ---- what is sent, and what settling passes over

-- packets that are sent keep the laws where somebody leads, and so does whatever settling passes over of them and
-- whatever of them was delivered
pub rest-keeps : (world : World) → IsReached world → (leader : Node) → leader_of world ≡ Some leader → (sent more : List Sent)
    (settled delivered : List ℕ) → sent ≡ world.sent ++ more → AllByRecursion (IsSent world) more
    → AllByRecursion (λ number. number ≤ length sent) settled → AllByRecursion (λ number. number ≤ length sent) delivered
    → Reaches world (record { nodes = world.nodes; sent = sent; settled = settled; delivered = delivered })
rest-keeps world reached leader leads sent more settled delivered longer are within came =
    let later : World = record { nodes = world.nodes; sent = sent; settled = settled; delivered = delivered } in
    let follows : Follows world later = Follows-rest world sent more settled delivered longer in
    let still = IsSent-later world later follows leader leads in
    record {
      reached = record {
        started = λ none. absurd (none-some leader (sym none ∙ leads));
        nodes = λ id node found. IsStarted-stays world later follows node (λ own_leads. refl) (reached.nodes id node found);
        found = reached.found;
        history = reached.history;
        asked = All-weaker (AreAsked world) (AreAsked later) (AreAsked-later world later follows) (items world) reached.asked;
        few = reached.few;
        epochs = reached.epochs;
        sent = subst (AllByRecursion (IsSent later)) (sym longer) (All-append (IsSent later) world.sent more
            (All-weaker (IsSent world) (IsSent later) still world.sent reached.sent) (All-weaker (IsSent world) (IsSent later) still more are));
        settled = within;
        delivered = came;
      };
      follows = follows;
      rises = Rises-stays world later reached follows (λ id node found. found);
    }

-- ---- changes of a node

-- what a node writes fits the world: well-formed entries, of which the leader's alone add items
pub record WriteFits (world : World) (node : Node) (more : List Entry) : Type 0 where
  pub few : length (items world ++ items_in more) ≤ last_number
  pub entry : AllByRecursion (IsLogged world) more
  pub still : node.own.id ≢ node.own.leader → items_in more ≡ []
  pub history : (leader : Node) → leader_of world ≡ Some leader
      → IsHistory (member_of_own leader.own) (items world ++ items_in more)
  pub asked : AllByRecursion (AreAsked world) (items_in more)
  pub changes : AllByRecursion (IsChanges 0) (items_in more)

-- a node can be in this state once it has written these entries: it fits where their items are there, and is but for what
-- is lost at a restart what the log leads to then
pub record HasState (world : World) (node : Node) (more : List Entry) (state : State) : Type 0 where
  pub fits : (later : World) → Follows world later → items later ≡ items world ++ items_in more → StateFits later node.own state
  pub lasts : lasting state ≡ restored (contents_of world) node.own (node.entries ++ more)

-- a node changes into the next one and writes these entries, which lead to a state that is no earlier. It is down then, or
-- in a state that it can be in
pub record ChangeFits (world : World) (node next : Node) (more : List Entry) : Type 0 where
  pub writes : WriteFits world node more
  pub state : State
  pub has : HasState world node more state
  pub rises : RisesTo (restored_in world node) state
  pub up : IfSome next.state (λ now. HasState world node more now × (next.tail ≡ []))

module _ (world : World) (node : Node) (f : Node → Node) (more : List Entry) (appends : Appends f more) (reached : IsReached world)
    (found : node_of world node.own.id ≡ Some node) (fits : ChangeFits world node (f node) more) where
  -- the next world
  abbrev after : World
  after = with_node node.own.id f world

  -- the node in it
  abbrev node_now : Node
  node_now = f node

  -- the node as it was started
  was : IsStarted world node
  was = reached.nodes node.own.id node found

  -- what was there stays
  follows : Follows world after
  follows = Follows-changed world node.own.id f more appends

  -- who is found in it is the node, or another one as before
  found-cases : (id : ℕ) (next : Node) → node_of after id ≡ Some next
      → ((node_of world id ≡ Some node) × (next ≡ node_now)) ⊎ ((node_of world id ≡ Some next) × (next.own.id ≢ node.own.id))
  found-cases id next is =
      let before = node-was-changed world node.own.id f more appends id next is in
      elim (cases_eq before.0.own.id node.own.id) [
        | inl same ↦
            let here : node_of world node.own.id ≡ Some before.0 =
            subst (λ q. node_of world q ≡ Some before.0) (sym (id-found world id before.0 before.1) ∙ same) before.1 in
            let is_node : before.0 ≡ node = same_Some before.0 node (sym here ∙ found) in
            inl (
              before.1 ∙ ap (λ n. Some n) is_node,
              before.2 ∙ changed-same node.own.id f before.0 same ∙ ap f is_node,
            )
        | inr other ↦
            let still : next ≡ before.0 =
            before.2 ∙ changed-other node.own.id f before.0 (ne_eqb before.0.own.id node.own.id other) in
            inr (
              before.1 ∙ ap (λ n. Some n) (sym still),
              λ same. other (ap (λ (n : Node). n.own.id) (sym still) ∙ same),
            )
      ]

  -- the items that are written become items of the world, since the node leads or there are none
  items-after : items after ≡ items world ++ items_in more
  items-after = elim (cases_eq was.leader.own.id node.own.id) [
    | inl same ↦ items-changed-leader world node.own.id f more appends was.leader was.led same
    | inr other ↦
        let none = fits.writes.still (λ itself. other (was.leader_id ∙ sym itself)) in
        items-still world node.own.id f more appends none ∙ (sym (append-nil (items world)) ∙ ap (λ given. items world ++ given) (sym none))
  ]

  -- where the leader is another node, the items stay
  same_count : (n : Node) → IsStarted world n → n.own.id ≢ node.own.id → n.own.id ≡ n.own.leader
      → length (items after) ≡ length (items world)
  same_count n is other leads =
      let leader : node.own.leader ≡ n.own.leader =
      sym was.leader_id ∙ ap (λ (l : Node). l.own.id) (same_Some was.leader is.leader (sym was.led ∙ is.led)) ∙ is.leader_id in
      ap length (items-still world node.own.id f more appends (fits.writes.still (λ itself. other (leads ∙ sym leader ∙ sym itself))))

  -- the node's entries fit, with what it wrote
  entries-all : AllByRecursion (IsLogged world) (node.entries ++ more)
  entries-all = All-append (IsLogged world) node.entries more was.entries fits.writes.entry

  -- they lead to what they would have led to before
  restored-now : restored_in after node_now ≡ restored (contents_of world) node.own (node.entries ++ more)
  restored-now =
      ap (λ o. restored (contents_of after) o node_now.entries) (appends.own node)
      ∙ (ap (restored (contents_of after) node.own) (appends.written node)
      ∙ restored-later world after follows was.leader was.led node.own (node.entries ++ more) entries-all)

  -- which is what lasts of a state that the node can be in
  restored-is : restored_in after node_now ≡ lasting fits.state
  restored-is = restored-now ∙ sym fits.has.lasts

  -- a state that the node can be in fits it
  state-fits : (state : State) → HasState world node more state → StateFits after node_now.own state
  state-fits state has = subst (λ o. StateFits after o state) (sym (appends.own node)) (has.fits after follows items-after)

  -- so the node is a started one
  started-now : IsStarted after node_now
  started-now =
      IsStarted-later world after follows node node_now (appends.own node)
      (subst (AllByRecursion (IsLogged after)) (sym (appends.written node))
      (AreLogged-later world after follows was.leader was.led (node.entries ++ more) entries-all))
      (subst (StateFits after node_now.own) (sym restored-is)
      (StateFits-lasting after node_now.own fits.state (state-fits fits.state fits.has)))
      (IfSome_then node_now.state fits.up (λ now up. record {
        fits = state-fits now up.0;
        lasts = up.0.lasts ∙ sym restored-now;
        whole = up.1;
      })) was

  -- and so are the others
  started-after : (id : ℕ) (next : Node) → node_of after id ≡ Some next → IsStarted after next
  started-after id next is = elim (found-cases id next is) [
    | inl (there, now) ↦ subst (IsStarted after) (sym now) started-now
    | inr (there, other) ↦
        let before = reached.nodes id next there in
        IsStarted-stays world after follows next (same_count next before other) before
  ]

  -- none falls back
  rises-after : Rises world after
  rises-after id before next there is = elim (found-cases id next is) [
    | inl (here, now) ↦
        subst (λ (n : Node). RisesTo (restored_in world n) (restored_in after next)) (found-same world id node before here there)
        (subst (λ (n : Node). RisesTo (restored_in world node) (restored_in after n)) (sym now)
        (subst (RisesTo (restored_in world node)) (sym restored-is) (λ n at. rises-lasting fits.state n (fits.rises n at))))
    | inr (here, other) ↦
        subst (λ (n : Node). RisesTo (restored_in world n) (restored_in after next)) (found-same world id next before here there)
        (rises-later world after follows next (reached.nodes id next here))
  ]

  -- the leader is found by its id
  leader-found : (next : Node) → leader_of after ≡ Some next → node_of after next.own.id ≡ Some next
  leader-found next leads =
      let before = leader-was-changed world node.own.id f more appends next leads in
      let same : next.own ≡ before.0.own = ap (λ (n : Node). n.own) before.2 ∙ own-changed_at node.own.id f appends.own before.0 in
      ap (λ (o : Own). node_of after o.id) same ∙ node_of-changed world node.own.id f more appends before.0.own.id
      ∙ ap (option_map (changed_at node.own.id f)) (reached.found before.0 before.1) ∙ ap (λ n. Some n) (sym before.2)

  -- the groups so far are groups
  history-after : (next : Node) → leader_of after ≡ Some next → IsHistory (member_of_own next.own) (items after)
  history-after next leads =
      let before = leader-was-changed world node.own.id f more appends next leads in
      let same : next.own ≡ before.0.own = ap (λ (n : Node). n.own) before.2 ∙ own-changed_at node.own.id f appends.own before.0 in
      subst (λ (o : Own). IsHistory (member_of_own o) (items after)) (sym same)
      (subst (IsHistory (member_of_own before.0.own)) (sym items-after) (fits.writes.history before.0 before.1))

  -- so the next world keeps the laws
  pub changed-keeps : Reaches world after
  changed-keeps = record {
    reached = record {
      started = λ none. let next = follows.led was.leader was.led in absurd (none-some next.0 (sym none ∙ next.1));
      nodes = started-after;
      found = leader-found;
      history = history-after;
      asked = subst (AllByRecursion (AreAsked after)) (sym items-after) (All-append (AreAsked after) (items world) (items_in more)
          (All-weaker (AreAsked world) (AreAsked after) (AreAsked-later world after follows) (items world) reached.asked)
          (All-weaker (AreAsked world) (AreAsked after) (AreAsked-later world after follows) (items_in more) fits.writes.asked));
      few = subst (AllByRecursion (IsChanges 0)) (sym items-after)
          (All-append (IsChanges 0) (items world) (items_in more) reached.few fits.writes.changes);
      epochs = subst (λ (given : List Item). length given ≤ last_number) (sym items-after) fits.writes.few;
      sent = All-weaker (IsSent world) (IsSent after) (IsSent-later world after follows was.leader was.led) world.sent reached.sent;
      settled = reached.settled;
      delivered = reached.delivered;
    };
    follows = follows;
    rises = rises-after;
  }

-- ---- changes without items

module _ (world : World) (node : Node) (reached : IsReached world) (found : node_of world node.own.id ≡ Some node) (more : List Entry)
    (none : items_in more ≡ []) where
  -- no item more
  no-more : items world ≡ items world ++ items_in more
  no-more = sym (ap (λ given. items world ++ given) none ∙ append-nil (items world))

  -- entries without items fit where each does
  pub WriteFits-quiet : AllByRecursion (IsLogged world) more → WriteFits world node more
  WriteFits-quiet all = record {
    few = subst (λ (given : List Item). length given ≤ last_number) no-more reached.epochs;
    entry = all;
    still = λ other. none;
    history = λ leader leads. subst (IsHistory (member_of_own leader.own)) no-more (reached.history leader leads);
    asked = subst (AllByRecursion (AreAsked world)) (sym none) tt;
    changes = subst (AllByRecursion (IsChanges 0)) (sym none) tt;
  }

  -- and a state can follow them that fits and is what they lead to
  pub HasState-quiet : (state : State) → StateFits world node.own state
      → lasting state ≡ restored (contents_of world) node.own (node.entries ++ more) → HasState world node more state
  HasState-quiet state fits lasts = record {
    fits = λ later follows same.
        (let is = reached.nodes node.own.id node found in
        StateFits-later world later follows is.leader is.led node.own state (λ leads. ap length (same ∙ sym no-more)) fits);
    lasts = lasts;
  }

module _ (world : World) (node : Node) (reached : IsReached world) (found : node_of world node.own.id ≡ Some node) where
  -- the node as it was started
  now : IsStarted world node
  now = reached.nodes node.own.id node found

  -- nothing more is written
  entries-nil : restored_in world node ≡ restored (contents_of world) node.own (node.entries ++ [])
  entries-nil = ap (restored (contents_of world) node.own) (sym (append-nil node.entries))

  -- the node can be in the state to which its log leads
  pub HasState-restored : HasState world node [] (restored_in world node)
  HasState-restored =
      HasState-quiet world node reached found [] refl (restored_in world node) now.restores
      (lasting-restored (contents_of world) node.own node.entries ∙ entries-nil)

  -- and in the one in which it is
  pub HasState-up : (state : State) → IsUp world node state → HasState world node [] state
  HasState-up state up = HasState-quiet world node reached found [] refl state up.fits (up.lasts ∙ entries-nil)

  -- a change that writes nothing keeps the laws where the node is down then, or in a state that it can be in
  pub still-keeps : (f : Node → Node) → Appends f [] → IfSome (f node).state (λ state. HasState world node [] state × ((f node).tail ≡ []))
      → Reaches world (with_node node.own.id f world)
  still-keeps f appends up = changed-keeps world node f [] appends reached found (record {
    writes = WriteFits-quiet world node reached found [] refl tt;
    state = restored_in world node;
    has = HasState-restored;
    rises = λ n at. at;
    up = up;
  })

-- ---- steps

-- a step of a node that is up: its entry fits, the node can be in its state behind that, and its packets are sent in the
-- world where it is
pub record StepFits (world : World) (node : Node) (step : Step) : Type 0 where
  pub whole : node.tail ≡ []
  pub writes : WriteFits world node (entries_of step.entry)
  pub has : HasState world node (entries_of step.entry) step.state
  pub rises : RisesTo (restored_in world node) step.state
  pub sends : AllByRecursion (IsSent (with_node node.own.id (after_step step) world)) (sent_by node.own.id step.sends)

module _ (world : World) (node : Node) (step : Step) (reached : IsReached world) (found : node_of world node.own.id ≡ Some node)
    (fits : StepFits world node step) where
  -- the world after the step, without its packets
  abbrev bare : World
  bare = with_node node.own.id (after_step step) world

  -- it keeps the laws
  pub bare-keeps : Reaches world bare
  bare-keeps = changed-keeps world node (after_step step) (entries_of step.entry) (Appends-step step) reached found (record {
    writes = fits.writes;
    state = step.state;
    has = fits.has;
    rises = fits.rises;
    up = (fits.has, fits.whole);
  })

  -- and so does the one with them
  pub committed-keeps : Reaches world (committed world node step)
  committed-keeps =
      let more : List Sent = sent_by node.own.id step.sends in
      let was = reached.nodes node.own.id node found in
      let leader = bare-keeps.follows.led was.leader was.led in
      let later = All-weaker (λ number. number ≤ length world.sent) (λ number. number ≤ length (world.sent ++ more))
      (λ number within. omega (arith, within, length-append world.sent more)) in
      Reaches-more world bare (committed world node step) bare-keeps
      (rest-keeps bare bare-keeps.reached leader.0 leader.1 (world.sent ++ more) more world.settled world.delivered refl fits.sends
      (later world.settled reached.settled) (later world.delivered reached.delivered))

  -- so does a write of its entry that is torn behind the frame
  torn_behind-keeps : (entry : Entry) → step.entry ≡ Some entry → Reaches world (with_node node.own.id (torn_behind entry) world)
  torn_behind-keeps entry is =
      let written : entries_of step.entry ≡ entry ∷ [] = ap entries_of is in
      changed-keeps world node (torn_behind entry) (entry ∷ []) (Appends-behind entry) reached found (record {
        writes = subst (WriteFits world node) written fits.writes;
        state = step.state;
        has = subst (λ more. HasState world node more step.state) written fits.has;
        rises = fits.rises;
        up = tt;
      })

  -- and one that is torn within it
  torn_within-keeps : (tail : List ℕ) → Reaches world (with_node node.own.id (torn_within tail) world)
  torn_within-keeps tail =
      still-keeps world node reached found (torn_within tail) (Appends-none (torn_within tail) (λ n. refl) (λ n. refl)) tt

  -- wherever it is torn
  torn-keeps : (entry : Entry) (b : ℕ) → step.entry ≡ Some entry → Reaches world (torn world node entry b).world
  torn-keeps entry b is =
      let frame : List ℕ = entry_frame (entry_for (contents_of world) entry) in
      elim (nat_le (length frame) b)
      as (λ kept. Reaches world (with_node node.own.id (λ (n : Node). cond kept (torn_behind entry n) (torn_within (take b frame) n)) world)) [
        | true ↦ torn_behind-keeps entry is
        | false ↦ torn_within-keeps (take b frame)
      ]

  -- so the step keeps the laws, whether its write is torn or not
  pub commit-keeps : Reaches world (commit world node step).world
  commit-keeps = go step.entry node.armed refl
    where
      go : (o : Option Entry) (armed : Option ℕ) → step.entry ≡ o → Reaches world (unless_torn world node step (torn_entry o armed)).world
      go None armed is = committed-keeps
      go (Some entry) None is = committed-keeps
      go (Some entry) (Some b) is = torn-keeps entry b is
