-- Starts of nodes and the calls of nodes keep what every reached world has.
use Rattle.std.proofs.Common.{◌≡◌, ℕ, Bool, true, false, cond, eqb, List, [], ◌∷◌, Option, Some, None, codes, refl, sym, ap}
use Rattle.std.proofs.Common.{◌≢◌, ◌≤◌, ◌==◌, ◌||◌, ◌++◌, decimal, length, subst, ◌∙◌, arith, append-nil}
use Rattle.std.specs.List.{AllByRecursion, find, list_any}
use Rattle.std.proofs.lemmas.Bool.{eq-eqb, false≢true, ne_eqb, or_right}
use Rattle.std.proofs.lemmas.Option.{IfSome_then, none-some, same_Some}
use Rattle.cs_base.specs.Address.{Address, IsAddress}
use Rattle.cs_base.specs.Axes.{Axes}
use Rattle.cs_base.specs.Limits.{last_number}
use Rattle.cs_base.specs.Ranges.{IsId, IsMember}
use Rattle.cs_base.specs.declared.change.Mode.{Mode}
use Rattle.cs_base.specs.declared.change.Mode.TheVariants as modes
use Rattle.cs_fields.specs.Changes.{IsChanges}
use Rattle.cs_packet.specs.BootField.{IsBoot}
use Rattle.cs_packet.specs.declared.own.Own.{Own}
use Rattle.cs_packet.specs.Own.{member_of_own}
use Rattle.cs_machine.specs.Asking.{ask_leader_step, ask_step}
use Rattle.cs_machine.specs.Changes.{join_step}
use Rattle.cs_machine.specs.Contents.{Contents, contents_of, group_led_by, items, items_led_by}
use Rattle.cs_machine.specs.Names.{Item, State, Joining, Following, Leading, Left, Membership, Node, World, empty_world, node_of, leader_of}
use Rattle.cs_machine.specs.Happens.{ask_as, ask_at, begun, boot_in, booted, is_used, join_as, join_at, led, member_as, member_at, noise_at, own_leader}
use Rattle.cs_machine.specs.Happens.{crash_at, crashed, own_under, print_as, print_at, restart_as, restart_at, same_address, started, tear_at}
use Rattle.cs_machine.specs.Outcome.{After, answer, commit}
use Rattle.cs_machine.specs.Reached.{AreAsked, IsHistory, IsReached, IsSent, IsStarted, LeaderFits, MemberFits, StateFits}
use Rattle.cs_machine.specs.Restoring.{first_state}
use Rattle.cs_machine.specs.Step.{Step}
use Rattle.cs_base.proofs.Elements.{All-weaker}
use Rattle.cs_machine.proofs.Commits.{Appends-none}
use Rattle.cs_machine.proofs.Follows.{Agree-more, Follows, HasNode-same, AreAsked-later, IsSent-later, IsStarted-stays, is-up}
use Rattle.cs_machine.proofs.Groups.{IsHistory-empty}
use Rattle.cs_machine.proofs.Nodes.{find-append_some, find-append_none, id-found}
use Rattle.cs_machine.proofs.Lasts.{CanWait-none}
use Rattle.cs_machine.proofs.ReachedAsks.{IsQuiet-ask, IsQuiet-ask_leader}
use Rattle.cs_machine.proofs.ReachedChanges.{HasState-restored, HasState-up, Reaches, Reaches-same, still-keeps, unless_down-keeps}
use Rattle.cs_machine.proofs.ReachedSteps.{IsQuiet, IsQuiet-join, quiet-commits}
use Rattle.cs_machine.proofs.Rises.{Rises-stays, restored_in}

-- the world without nodes is reached
pub IsReached-empty : IsReached empty_world
IsReached-empty = record {
  started = λ none. refl;
  nodes = λ id node is. absurd (none-some node is);
  found = λ leader is. absurd (none-some leader is);
  history = λ leader is. absurd (none-some leader is);
  asked = tt;
  few = tt;
  epochs = omega arith;
  sent = tt;
  settled = tt;
  delivered = tt;
}

-- ---- starts

-- what is found in a list of one is that one
found-one : (test : Node → Bool) (node n : Node) → find test (node ∷ []) ≡ Some n → node ≡ n
found-one test node n =
    elim (test node) as (λ b. cond b (Some node) None ≡ Some n → node ≡ n) [
      | true ↦ same_Some node n
      | false ↦ λ none. absurd (none-some n none)
    ]

-- who leads starts as a leader
IsBoot-leader : (own : Own) → IsMember (member_of_own own) → own.id ≡ own.leader → own.addr ≡ own.leader_addr → own.mode ≡ modes.Full
    → IsBoot (eqb own.id own.leader) own
IsBoot-leader own allowed id addr mode =
    subst (λ b. IsBoot b own) (sym (eq-eqb own.id own.leader id)) (record {
      fields = record {
        id = allowed.id;
        addr = allowed.addr;
        at = allowed.at;
        leader = subst IsId id allowed.id;
        leader_addr = subst IsAddress addr allowed.addr;
      };
      led = (mode, sym id, sym addr);
    })

-- the leader is the first node
first-keeps : (own : Own) → IsMember (member_of_own own) → own.id ≡ own.leader → own.addr ≡ own.leader_addr → own.mode ≡ modes.Full
    → Reaches empty_world (started empty_world (begun own (Leading 0 []))).world
first-keeps own allowed id addr mode =
    let node : Node = begun own (Leading 0 []) in
    let world : World = (started empty_world node).world in
    let led : leader_of world ≡ Some node = ap (λ b. cond b (Some node) None) (eq-eqb own.id own.leader id) in
    let none : items world ≡ [] = ap items_led_by led in
    let same : (n : Node) → leader_of world ≡ Some n → node ≡ n = λ n is. same_Some node n (sym led ∙ is) in
    let leads : LeaderFits world own 0 [] = record { last = sym (ap length none); leads = id; waiting = CanWait-none world } in
    let first : first_state own ≡ Leading 0 [] = ap (λ b. cond b (Leading 0 []) Joining) (eq-eqb own.id own.leader id) in
    let is_started : IsStarted world node = record {
      allowed = allowed;
      leader = node;
      led = led;
      leader_id = id;
      leader_addr = addr;
      entries = (record { fits = tt; formed = IsBoot-leader own allowed id addr mode }, tt);
      restores = subst (StateFits world own) (sym first) leads;
      state = record { fits = leads; lasts = sym first; whole = refl };
    } in
    record {
      reached = record {
        started = λ none. absurd (none-some node (sym none ∙ led));
        nodes = λ q n is. subst (IsStarted world) (found-one (λ (m : Node). eqb m.own.id q) node n is) is_started;
        found = λ n is. subst (λ (m : Node). node_of world m.own.id ≡ Some m) (same n is)
            (ap (λ b. cond b (Some node) None) (eq-eqb own.id own.id refl));
        history = λ n is. subst (λ (m : Node). IsHistory (member_of_own m.own) (items world)) (same n is)
            (subst (IsHistory (member_of_own own)) (sym none) (IsHistory-empty (member_of_own own) allowed));
        asked = subst (AllByRecursion (AreAsked world)) (sym none) tt;
        few = subst (AllByRecursion (IsChanges 0)) (sym none) tt;
        epochs = subst (λ (given : List Item). length given ≤ last_number) (sym none) (omega arith);
        sent = tt;
        settled = tt;
        delivered = tt;
      };
      follows = record {
        longer = omega arith;
        nodes = λ q n is. absurd (none-some n is);
        led = λ n is. absurd (none-some n is);
        contents = λ n is. absurd (none-some n is);
        sent = ([], refl);
      };
      rises = λ q n now is. absurd (none-some n is);
    }

-- a leader starts in the empty world only
pub led-keeps : (world : World) (o : Option Node) (id : ℕ) (addr : Address) (at : Axes)
    → IsMember (record { id = id; addr = addr; at = at }) → IsReached world → leader_of world ≡ o
    → Reaches world (led world o id addr at).world
led-keeps world (Some leader) id addr at allowed reached leads = Reaches-same world reached
led-keeps world None id addr at allowed reached leads =
    subst (λ w. Reaches w (started w (begun (own_leader id addr at) (Leading 0 []))).world)
    (sym (reached.started leads)) (first-keeps (own_leader id addr at) allowed refl refl refl)

module _ (world : World) (own : Own) (leader : Node) (leads : leader_of world ≡ Some leader) where
  -- a further node
  abbrev new_node : Node
  new_node = begun own Joining

  -- the world with it
  abbrev after : World
  after = (started world new_node).world

  -- whom a test found it still finds
  still : (test : Node → Bool) (n : Node) → find test world.nodes ≡ Some n → find test after.nodes ≡ Some n
  still test n is = find-append_some test world.nodes (new_node ∷ []) n is

  -- so the leader stays
  same_leader : leader_of after ≡ leader_of world
  same_leader = still (λ n. eqb n.own.id n.own.leader) leader leads ∙ sym leads

  -- and so do the items
  same_items : items after ≡ items world
  same_items = ap items_led_by same_leader

  -- and the world behind it has what the one before had
  pub Follows-started : Follows world after
  Follows-started = record {
    longer = omega (arith, ap length same_items);
    nodes = λ id n is. HasNode-same after id n (still (λ m. eqb m.own.id id) n is);
    led = λ l is. (l, same_leader ∙ is, refl);
    contents = λ l is.
        Agree-more world after [] (same_items ∙ sym (append-nil (items world))) (λ given epoch. ap (λ o. group_led_by o given epoch) same_leader);
    sent = ([], sym (append-nil world.sent));
  }

  module _ (allowed : IsMember (member_of_own own)) (id : leader.own.id ≡ own.leader)
      (addr : leader.own.addr ≡ own.leader_addr) (other : own.id ≢ own.leader) (reached : IsReached world) where
    -- it starts as one that is led
    boots : IsBoot (eqb own.id own.leader) own
    boots =
        let was = (reached.nodes leader.own.id leader (reached.found leader leads)).allowed in
        subst (λ b. IsBoot b own) (sym (ne_eqb own.id own.leader other)) (record {
          fields = record {
            id = allowed.id;
            addr = allowed.addr;
            at = allowed.at;
            leader = subst IsId id was.id;
            leader_addr = subst IsAddress addr was.addr;
          };
          led = λ same. other (sym same);
        })

    -- who is found was there before, or is the further node
    started-after : (q : ℕ) (n : Node) → node_of after q ≡ Some n → IsStarted after n
    started-after q n is =
        let test : Node → Bool = λ m. eqb m.own.id q in
        elim (node_of world q) as (λ o. node_of world q ≡ o → IsStarted after n) [
          | None ↦ λ none.
              let first : first_state own ≡ Joining = ap (λ b. cond b (Leading 0 []) Joining) (ne_eqb own.id own.leader other) in
              let same : new_node ≡ n = found-one test new_node n (sym (find-append_none test world.nodes (new_node ∷ []) none) ∙ is) in
              subst (IsStarted after) same (record {
                allowed = allowed;
                leader = leader;
                led = same_leader ∙ leads;
                leader_id = id;
                leader_addr = addr;
                entries = (record { fits = tt; formed = boots }, tt);
                restores = subst (StateFits after own) (sym first) tt;
                state = record { fits = tt; lasts = sym first; whole = refl };
              })
          | Some before ↦ λ found.
              let same : before ≡ n = same_Some before n (sym (still test before found) ∙ is) in
              subst (IsStarted after) same
              (IsStarted-stays world after Follows-started before (λ own_leads. ap length same_items) (reached.nodes q before found))
        ] refl

    -- so the next world keeps the laws
    started-keeps : Reaches world after
    started-keeps = record {
      reached = record {
        started = λ none. absurd (none-some leader (sym none ∙ (same_leader ∙ leads)));
        nodes = started-after;
        found = λ l is. still (λ n. eqb n.own.id l.own.id) l (reached.found l (sym same_leader ∙ is));
        history = λ l is. subst (IsHistory (member_of_own l.own)) (sym same_items) (reached.history l (sym same_leader ∙ is));
        asked = subst (AllByRecursion (AreAsked after)) (sym same_items)
            (All-weaker (AreAsked world) (AreAsked after) (AreAsked-later world after Follows-started) (items world) reached.asked);
        few = subst (AllByRecursion (IsChanges 0)) (sym same_items) reached.few;
        epochs = subst (λ (given : List Item). length given ≤ last_number) (sym same_items) reached.epochs;
        sent = All-weaker (IsSent world) (IsSent after) (IsSent-later world after Follows-started leader leads) world.sent reached.sent;
        settled = reached.settled;
        delivered = reached.delivered;
      };
      follows = Follows-started;
      rises = Rises-stays world after reached Follows-started (λ id n found. still (λ m. eqb m.own.id id) n found);
    }

-- who is found under an id uses it
used-found : (id : ℕ) (q : Node → Bool) (nodes : List Node) (node : Node) → find (λ (n : Node). eqb n.own.id id) nodes ≡ Some node
    → list_any (λ (n : Node). eqb n.own.id id || q n) nodes ≡ true
used-found id q [] node found = absurd (none-some node found)
used-found id q (n ∷ nodes) node found =
    elim (eqb n.own.id id)
    as (λ b. cond b (Some n) (find (λ (m : Node). eqb m.own.id id) nodes) ≡ Some node
    → ((b || q n) || list_any (λ (m : Node). eqb m.own.id id || q m) nodes) ≡ true) [
      | true ↦ λ here. refl
      | false ↦ λ later. or_right (q n) _ (used-found id q nodes node later)
    ] found

-- so an id that isn't used isn't the leader's
unused-other : (world : World) (id : ℕ) (addr : Address) (leader : Node) → IsReached world → is_used id addr world ≡ false
    → leader_of world ≡ Some leader → id ≢ leader.own.id
unused-other world id addr leader reached unused leads same =
    let found : node_of world id ≡ Some leader = subst (λ q. node_of world q ≡ Some leader) (sym same) (reached.found leader leads) in
    false≢true (sym unused ∙ used-found id (λ n. same_address n.own.addr addr) world.nodes leader found)

-- a further node starts where there is a leader
booted-keeps : (world : World) (o : Option Node) (id : ℕ) (addr : Address) (at : Axes) (mode : Mode)
    → IsMember (record { id = id; addr = addr; at = at }) → is_used id addr world ≡ false → IsReached world → leader_of world ≡ o
    → Reaches world (booted world o id addr at mode).world
booted-keeps world None id addr at mode allowed unused reached leads = Reaches-same world reached
booted-keeps world (Some leader) id addr at mode allowed unused reached leads =
    started-keeps world (own_under leader.own id addr at mode) leader leads allowed refl refl
    (unused-other world id addr leader reached unused leads) reached

-- an event that is refused where its id or its address is used
pub unless-used : (world : World) (used : Bool) (line : List ℕ) (next : After) → IsReached world → (used ≡ false → Reaches world next.world)
    → Reaches world (cond used (answer world line) next).world
unless-used world true line next reached keeps = Reaches-same world reached
unless-used world false line next reached keeps = keeps refl

-- a further node starts, whatever it is to know of the group
pub boot_in-keeps : (world : World) (id : ℕ) (addr : Address) (at : Axes) (mode : Mode) → IsMember (record { id = id; addr = addr; at = at })
    → IsReached world → Reaches world (boot_in world id addr at mode).world
boot_in-keeps world id addr at mode allowed reached =
    unless-used world (is_used id addr world) (codes "taken") (booted world (leader_of world) id addr at mode) reached
    (λ unused. booted-keeps world (leader_of world) id addr at mode allowed unused reached refl)

-- ---- calls of nodes

-- the node under an id is found by its own
found-itself : (world : World) (id : ℕ) (node : Node) → node_of world id ≡ Some node → node_of world node.own.id ≡ Some node
found-itself world id node found = subst (λ q. node_of world q ≡ Some node) (sym (id-found world id node found)) found

-- a joining node asks the leader, whatever state it is in
join_as-keeps : (world : World) (id : ℕ) (node : Node) (state : State) → IsReached world → node_of world id ≡ Some node
    → node.state ≡ Some state → Reaches world (join_as world node state).world
join_as-keeps world id node Joining reached found is_up =
    quiet-commits world node id Joining (join_step node.own) reached found is_up
    (IsQuiet-join world reached node (reached.nodes id node found) (found-itself world id node found))
join_as-keeps world id node (Following m) reached found is_up = Reaches-same world reached
join_as-keeps world id node (Leading epoch pending) reached found is_up = Reaches-same world reached
join_as-keeps world id node Left reached found is_up = Reaches-same world reached

-- by an id, whether a node has it or none
pub join_at-keeps : (world : World) (id : ℕ) (o : Option Node) → IsReached world → node_of world id ≡ o
    → Reaches world (join_at world o).world
join_at-keeps world id None reached found = Reaches-same world reached
join_at-keeps world id (Some node) reached found =
    unless_down-keeps world node (join_as world node) reached (λ state is_up. join_as-keeps world id node state reached found is_up)

-- each such call of a member is a step that keeps what every reached world has
abbrev pub KeepsMembers : World → (Contents → Own → Membership → Step) → Type 0
KeepsMembers world step =
    (node : Node) (m : Membership) → IsStarted world node → node_of world node.own.id ≡ Some node → MemberFits world m
    → IsQuiet world node.own (Following m) (step (contents_of world) node.own m)

-- a call that members alone have, whatever state the node is in
member_as-keeps : (world : World) (step : Contents → Own → Membership → Step) (id : ℕ) (node : Node) (state : State) → KeepsMembers world step
    → IsReached world → node_of world id ≡ Some node → node.state ≡ Some state
    → Reaches world (member_as world node (step (contents_of world) node.own) state).world
member_as-keeps world step id node Joining keeps reached found is_up = Reaches-same world reached
member_as-keeps world step id node (Following m) keeps reached found is_up =
    let is_started = reached.nodes id node found in
    let up = is-up world node (Following m) is_started is_up in
    quiet-commits world node id (Following m) (step (contents_of world) node.own m) reached found is_up
    (keeps node m is_started (found-itself world id node found) up.fits)
member_as-keeps world step id node (Leading epoch pending) keeps reached found is_up = Reaches-same world reached
member_as-keeps world step id node Left keeps reached found is_up = Reaches-same world reached

-- by an id, whether a node has it or none
pub member_at-keeps : (world : World) (step : Contents → Own → Membership → Step) (id : ℕ) (o : Option Node) → KeepsMembers world step
    → IsReached world → node_of world id ≡ o → Reaches world (member_at world step o).world
member_at-keeps world step id None keeps reached found = Reaches-same world reached
member_at-keeps world step id (Some node) keeps reached found =
    unless_down-keeps world node (member_as world node (step (contents_of world) node.own)) reached
    (λ state is_up. member_as-keeps world step id node state keeps reached found is_up)

-- a joining node asks its leader alone, and a member another node that it knows
ask_as-keeps : (world : World) (to id : ℕ) (node : Node) (state : State) → IsReached world → node_of world id ≡ Some node
    → node.state ≡ Some state → Reaches world (ask_as world node to state).world
ask_as-keeps world to id node Joining reached found is_up =
    elim (to == node.own.leader)
    as (λ b. Reaches world (cond b (commit world node (ask_leader_step node.own)) (answer world (codes "unknown " ++ decimal to))).world) [
      | true ↦ quiet-commits world node id Joining (ask_leader_step node.own) reached found is_up
          (IsQuiet-ask_leader world reached node (reached.nodes id node found) (found-itself world id node found))
      | false ↦ Reaches-same world reached
    ]
ask_as-keeps world to id node (Following m) reached found is_up =
    let is_started = reached.nodes id node found in
    let up = is-up world node (Following m) is_started is_up in
    quiet-commits world node id (Following m) (ask_step (contents_of world) node.own to m) reached found is_up
    (IsQuiet-ask world reached node is_started (found-itself world id node found) m up.fits to)
ask_as-keeps world to id node (Leading epoch pending) reached found is_up = Reaches-same world reached
ask_as-keeps world to id node Left reached found is_up = Reaches-same world reached

-- by an id, whether a node has it or none
pub ask_at-keeps : (world : World) (to id : ℕ) (o : Option Node) → IsReached world → node_of world id ≡ o
    → Reaches world (ask_at world to o).world
ask_at-keeps world to id None reached found = Reaches-same world reached
ask_at-keeps world to id (Some node) reached found =
    unless_down-keeps world node (ask_as world node to) reached (λ state is_up. ask_as-keeps world to id node state reached found is_up)

-- ---- crashes, restarts and tears

-- a node crashes, if one has the id and is up
pub crash_at-keeps : (world : World) (id : ℕ) (o : Option Node) → IsReached world → node_of world id ≡ o
    → Reaches world (crash_at world o).world
crash_at-keeps world id None reached found = Reaches-same world reached
crash_at-keeps world id (Some node) reached found =
    let f : Node → Node = λ n. record n { state = None } in
    unless_down-keeps world node (λ state. crashed world node) reached
    (λ state is_up. still-keeps world node reached (found-itself world id node found) f (Appends-none f (λ n. refl) (λ n. refl)) tt)

-- a node comes back in the state to which its log leads, if it was down
restart_as-keeps : (world : World) (id : ℕ) (node : Node) (o : Option State) → IsReached world → node_of world id ≡ Some node
    → Reaches world (restart_as world node o).world
restart_as-keeps world id node None reached found =
    let here = found-itself world id node found in
    let f : Node → Node = λ n. record n { state = Some (restored_in world node); tail = [] } in
    still-keeps world node reached here f (Appends-none f (λ n. refl) (λ n. refl)) (HasState-restored world node reached here, refl)
restart_as-keeps world id node (Some state) reached found = Reaches-same world reached

-- by an id, whether a node has it or none
pub restart_at-keeps : (world : World) (id : ℕ) (o : Option Node) → IsReached world → node_of world id ≡ o
    → Reaches world (restart_at world o).world
restart_at-keeps world id None reached found = Reaches-same world reached
restart_at-keeps world id (Some node) reached found = restart_as-keeps world id node node.state reached found

-- the next write of a node is to tear
pub tear_at-keeps : (world : World) (id b : ℕ) (o : Option Node) → IsReached world → node_of world id ≡ o
    → Reaches world (tear_at world b o).world
tear_at-keeps world id b None reached found = Reaches-same world reached
tear_at-keeps world id b (Some node) reached found =
    let here = found-itself world id node found in
    let f : Node → Node = λ n. record n { armed = Some b } in
    still-keeps world node reached here f (Appends-none f (λ n. refl) (λ n. refl))
    (IfSome_then node.state (reached.nodes id node found).state (λ state up. (HasState-up world node reached here state up, up.whole)))

-- a print leaves the world as it is
pub print_at-keeps : (world : World) (o : Option Node) → IsReached world → Reaches world (print_at world o).world
print_at-keeps world None reached = Reaches-same world reached
print_at-keeps world (Some node) reached =
    unless_down-keeps world node (print_as world) reached (λ state is_up. Reaches-same world reached)

-- and so do bytes that are no packet
pub noise_at-keeps : (world : World) (o : Option Node) → IsReached world → Reaches world (noise_at world o).world
noise_at-keeps world None reached = Reaches-same world reached
noise_at-keeps world (Some node) reached = Reaches-same world reached
