-- The world after a change of one node, as by a step: who is found in it, which groups it has, and what stays.
use Rattle.std.proofs.Common.{◌≡◌, ℕ, ◌-◌, List, [], ◌∷◌, ◌++◌, Option, Some, None, true, false, cond, eqb, ◌||◌}
use Rattle.std.proofs.Common.{refl, sym, ap, ◌∙◌, append-nil, arith, length, length-append}
use Rattle.std.specs.Option.{option_map, unwrap_or}
use Rattle.std.proofs.lemmas.Bool.Decides.{nat_tests}
use Rattle.std.proofs.lemmas.Grind.{flat_map-append}
use Rattle.cs_base.specs.Address.{Address}
use Rattle.cs_packet.specs.Own.{member_of_own}
use Rattle.cs_group.specs.History.{group_at}
use Rattle.cs_group.specs.Next.{next_turn}
use Rattle.cs_machine.specs.Contents.{contents_of, group_led_by, group_of, item_at, items, items_led_by, no_group, no_turn}
use Rattle.cs_machine.specs.Entries.{Entry, accepted_in, entries_of, items_in}
use Rattle.cs_machine.specs.Happens.{is_used, same_address}
use Rattle.cs_machine.specs.Outcome.{after_step, committed, sent_by, torn_behind, with_node}
use Rattle.cs_machine.specs.Names.{Item, Node, World, node_of, leader_of}
use Rattle.cs_machine.specs.Step.{Step}
use Rattle.cs_machine.proofs.Follows.{Agree-more, Follows, Follows-further, Follows-sent}
use Rattle.cs_machine.proofs.Nodes.{changed_at, find-map, list_any-map, option_map-some, own-changed_at, restated}

-- ---- changes of a node

-- a change leaves who a node is, and writes these entries behind those of its log
pub record Appends (f : Node → Node) (more : List Entry) : Type 0 where
  pub own : (n : Node) → (f n).own ≡ n.own
  pub written : (n : Node) → (f n).entries ≡ n.entries ++ more

-- a step writes its entry
pub Appends-step : (step : Step) → Appends (after_step step) (entries_of step.entry)
Appends-step step = record { own = λ n. refl; written = λ n. refl }

-- a change that leaves a node's log writes none
pub Appends-none : (f : Node → Node) → ((n : Node) → (f n).own ≡ n.own) → ((n : Node) → (f n).entries ≡ n.entries) → Appends f []
Appends-none f own same = record { own = own; written = λ n. same n ∙ sym (append-nil n.entries) }

-- a write that is torn behind an entry's frame writes it
pub Appends-behind : (entry : Entry) → Appends (torn_behind entry) (entry ∷ [])
Appends-behind entry = record { own = λ n. refl; written = λ n. refl }

-- a node with another id stays as it is
pub changed-other : (id : ℕ) (f : Node → Node) (n : Node) → eqb n.own.id id ≡ false → changed_at id f n ≡ n
changed-other id f n other = ap (λ b. cond b (f n) n) other

-- the node with the id has changed
pub changed-same : (id : ℕ) (f : Node → Node) (n : Node) → n.own.id ≡ id → changed_at id f n ≡ f n
changed-same id f n same =
    let is : eqb n.own.id id ≡ true = grind (arith, nat_tests) in
    ap (λ b. cond b (f n) n) is

module _ (world : World) (id : ℕ) (f : Node → Node) (more : List Entry) (appends : Appends f more) where
  -- the next world
  abbrev after : World
  after = with_node id f world

  -- the change leaves who each node is
  same_own : (n : Node) → (changed_at id f n).own ≡ n.own
  same_own n = own-changed_at id f appends.own n

  -- who is found is the one before, perhaps changed
  pub node_of-changed : (q : ℕ) → node_of after q ≡ option_map (changed_at id f) (node_of world q)
  node_of-changed q =
      find-map (λ (n : Node). eqb n.own.id q) (changed_at id f) (λ n. ap (λ o. eqb o.id q) (same_own n)) world.nodes

  -- so is who leads
  pub leader_of-changed : leader_of after ≡ option_map (changed_at id f) (leader_of world)
  leader_of-changed =
      find-map (λ (n : Node). eqb n.own.id n.own.leader) (changed_at id f) (λ n. ap (λ o. eqb o.id o.leader) (same_own n)) world.nodes

  -- ids and addresses are used as before
  pub is_used-changed : (q : ℕ) (addr : Address) → is_used q addr after ≡ is_used q addr world
  is_used-changed q addr =
      list_any-map (λ (n : Node). eqb n.own.id q || same_address n.own.addr addr) (changed_at id f)
      (λ n. ap (λ o. eqb o.id q || same_address o.addr addr) (same_own n)) world.nodes

  -- the items that the change adds to those of a leader
  abbrev added : Option Node → List Item
  added None = []
  added (Some leader) = cond (eqb leader.own.id id) (items_in more) []

  -- they stand behind those before
  items_led_by-changed : (leader : Option Node) → items_led_by (option_map (changed_at id f) leader) ≡ items_led_by leader ++ added leader
  items_led_by-changed None = refl
  items_led_by-changed (Some leader) =
      elim (eqb leader.own.id id) as (λ b. items_in (cond b (f leader) leader).entries ≡ items_in leader.entries ++ cond b (items_in more) []) [
        | true ↦ ap items_in (appends.written leader) ∙ flat_map-append accepted_in leader.entries more
        | false ↦ sym (append-nil (items_in leader.entries))
      ]

  -- so the items are those before, and what the change adds to those of the leader
  pub items-changed : items after ≡ items world ++ added (leader_of world)
  items-changed = ap items_led_by leader_of-changed ∙ items_led_by-changed (leader_of world)

  -- where the leader changes, that is what it writes
  pub items-changed-leader : (leader : Node) → leader_of world ≡ Some leader → leader.own.id ≡ id → items after ≡ items world ++ items_in more
  items-changed-leader leader leads same =
      let is : eqb leader.own.id id ≡ true = grind (arith, nat_tests) in
      items-changed ∙ ap (λ given. items world ++ given) (ap added leads ∙ ap (λ b. cond b (items_in more) []) is)

  -- entries without items add none
  added-none : (leader : Option Node) → items_in more ≡ [] → added leader ≡ []
  added-none None none = refl
  added-none (Some leader) none =
      elim (eqb leader.own.id id) as (λ b. cond b (items_in more) [] ≡ []) [ true ↦ none | false ↦ refl ]

  -- so the items stay
  pub items-still : items_in more ≡ [] → items after ≡ items world
  items-still none = items-changed ∙ (ap (λ given. items world ++ given) (added-none (leader_of world) none) ∙ append-nil (items world))

  -- the groups are those of who led before
  group_led_by-changed : (leader : Option Node) (given : List Item) (epoch : ℕ)
      → group_led_by (option_map (changed_at id f) leader) given epoch ≡ group_led_by leader given epoch
  group_led_by-changed None given epoch = refl
  group_led_by-changed (Some leader) given epoch =
      ap (λ o. unwrap_or (group_at (member_of_own o) given epoch) no_group) (same_own leader)

  -- whatever the items are
  pub led-changed : (given : List Item) (epoch : ℕ) → group_led_by (leader_of after) given epoch ≡ group_led_by (leader_of world) given epoch
  led-changed given epoch = ap (λ o. group_led_by o given epoch) leader_of-changed ∙ group_led_by-changed (leader_of world) given epoch

  -- with one more item, where the change adds it
  pub group_of-changed : (epoch : ℕ) → group_of after epoch ≡ group_led_by (leader_of world) (items after) epoch
  group_of-changed epoch = led-changed (items after) epoch

  -- who is there was there
  pub node-was-changed : (q : ℕ) (next : Node) → node_of after q ≡ Some next
      → (n : Node) × (node_of world q ≡ Some n) × (next ≡ changed_at id f n)
  node-was-changed q next found = option_map-some (changed_at id f) (node_of world q) next (sym (node_of-changed q) ∙ found)

  -- who leads led
  pub leader-was-changed : (next : Node) → leader_of after ≡ Some next
      → (leader : Node) × (leader_of world ≡ Some leader) × (next ≡ changed_at id f leader)
  leader-was-changed next leads = option_map-some (changed_at id f) (leader_of world) next (sym leader_of-changed ∙ leads)

  -- what a node has written then
  abbrev written : Node → List Entry
  written n = cond (eqb n.own.id id) more []

  -- stands behind what it wrote before
  longer-log : (n : Node) → (changed_at id f n).entries ≡ n.entries ++ written n
  longer-log n =
      elim (eqb n.own.id id) as (λ b. (cond b (f n) n).entries ≡ n.entries ++ cond b more []) [
        | true ↦ appends.written n
        | false ↦ sym (append-nil n.entries)
      ]

  -- what was there stays
  pub Follows-changed : Follows world after
  Follows-changed = record {
    longer = (let all = items-changed in omega (arith, ap length all, length-append (items world) (added (leader_of world))));
    nodes = λ q n found. record {
      node = changed_at id f n;
      found = node_of-changed q ∙ ap (option_map (changed_at id f)) found;
      same = same_own n;
      more = written n;
      longer = longer-log n;
    };
    led = λ leader leads.
        (changed_at id f leader, leader_of-changed ∙ ap (option_map (changed_at id f)) leads, same_own leader);
    contents = λ leader leads. Agree-more world after (added (leader_of world)) items-changed led-changed;
    sent = ([], sym (append-nil world.sent));
  }

-- ---- contents

-- worlds with the same items and the same who leads have the same contents
contents-same : (world later : World) → items later ≡ items world
    → ((given : List Item) (epoch : ℕ) → group_led_by (leader_of later) given epoch ≡ group_led_by (leader_of world) given epoch)
    → contents_of later ≡ contents_of world
contents-same world later same led =
    let groups : (epoch : ℕ) → group_of later epoch ≡ group_of world epoch =
    λ epoch. led (items later) epoch ∙ ap (λ given. group_led_by (leader_of world) given epoch) same in
    λ i. record {
      group = λ epoch. groups epoch i;
      turn = λ epoch. unwrap_or (next_turn (groups (epoch - 1) i) (item_at (same i) epoch)) no_turn;
    }

-- the contents stay where nothing is written
pub contents-still : (world : World) (id : ℕ) (f : Node → Node) → Appends f [] → contents_of (with_node id f world) ≡ contents_of world
contents-still world id f appends =
    contents-same world (with_node id f world) (items-still world id f [] appends refl) (led-changed world id f [] appends)

-- changes that write the same lead to the same contents
pub contents-alike : (world : World) (id : ℕ) (f g : Node → Node) (more : List Entry) → Appends f more → Appends g more
    → contents_of (with_node id f world) ≡ contents_of (with_node id g world)
contents-alike world id f g more first second =
    contents-same (with_node id g world) (with_node id f world)
    (items-changed world id f more first ∙ sym (items-changed world id g more second))
    (λ given epoch. led-changed world id f more first given epoch ∙ sym (led-changed world id g more second given epoch))

-- ---- steps

-- a node with another id stays as it is
pub restated-other : (id : ℕ) (step : Step) (n : Node) → eqb n.own.id id ≡ false → restated id step n ≡ n
restated-other id step n other = changed-other id (after_step step) n other

-- the node with the id has taken the step
pub restated-same : (id : ℕ) (step : Step) (n : Node) → n.own.id ≡ id → restated id step n ≡ after_step step n
restated-same id step n same = changed-same id (after_step step) n same

-- the items that a step adds, where it is the leader's
abbrev pub items_by : Step → List Item
items_by step = items_in (entries_of step.entry)

module _ (world : World) (node : Node) (step : Step) where
  -- the next world
  abbrev next : World
  next = committed world node step

  -- the change of each node: the one with the id of the node takes the step
  abbrev pub moved : Node → Node
  moved n = restated node.own.id step n

  -- who is found is the one before, perhaps after the step
  pub node_of-commit : (id : ℕ) → node_of next id ≡ option_map moved (node_of world id)
  node_of-commit id = node_of-changed world node.own.id (after_step step) (entries_of step.entry) (Appends-step step) id

  -- so is who leads
  pub leader_of-commit : leader_of next ≡ option_map moved (leader_of world)
  leader_of-commit = leader_of-changed world node.own.id (after_step step) (entries_of step.entry) (Appends-step step)

  -- ids and addresses are used as before
  pub is_used-commit : (id : ℕ) (addr : Address) → is_used id addr next ≡ is_used id addr world
  is_used-commit id addr = is_used-changed world node.own.id (after_step step) (entries_of step.entry) (Appends-step step) id addr

  -- where the leader takes the step, the items are those before and what the step has
  pub items-leader : (leader : Node) → leader_of world ≡ Some leader → leader.own.id ≡ node.own.id → items next ≡ items world ++ items_by step
  items-leader leader leads same =
      items-changed-leader world node.own.id (after_step step) (entries_of step.entry) (Appends-step step) leader leads same

  -- with the groups of who led before
  pub group_of-commit : (epoch : ℕ) → group_of next epoch ≡ group_led_by (leader_of world) (items next) epoch
  group_of-commit epoch = group_of-changed world node.own.id (after_step step) (entries_of step.entry) (Appends-step step) epoch

  -- who is there was there
  pub node-was : (id : ℕ) (now : Node) → node_of next id ≡ Some now → (n : Node) × (node_of world id ≡ Some n) × (now ≡ moved n)
  node-was id now found = node-was-changed world node.own.id (after_step step) (entries_of step.entry) (Appends-step step) id now found

  -- what was there stays
  pub Follows-commit : Follows world next
  Follows-commit =
      let bare : World = with_node node.own.id (after_step step) world in
      Follows-further world bare next
      (Follows-changed world node.own.id (after_step step) (entries_of step.entry) (Appends-step step))
      (Follows-sent bare (sent_by node.own.id step.sends))

-- a write that is torn behind a step's entry leads to the contents to which the step leads
pub contents-torn : (world : World) (node : Node) (step : Step) (entry : Entry) → step.entry ≡ Some entry
    → contents_of (with_node node.own.id (torn_behind entry) world) ≡ contents_of (committed world node step)
contents-torn world node step entry is =
    contents-alike world node.own.id (torn_behind entry) (after_step step) (entry ∷ []) (Appends-behind entry) (record {
      own = λ n. refl;
      written = λ n. ap (λ o. n.entries ++ entries_of o) is;
    })
