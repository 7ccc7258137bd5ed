-- What stays in the worlds after a world: who is there, who leads, the groups and turns so far, what was sent, and so what
-- names stand for.
use Rattle.std.proofs.Common.{◌≡◌, ◌≢◌, ℕ, zero, suc, ◌+◌, ◌-◌, ◌≤◌, ◌<◌, ◌==◌, true, List, [], ◌∷◌, ◌++◌, length, map, Option, Some, None}
use Rattle.std.proofs.Common.{refl, sym, ap, subst, ◌∙◌, append_assoc, append-nil, arith, IfSome, if◌then◌else◌}
use Rattle.std.specs.List.{AllByRecursion, slice_get}
use Rattle.std.specs.Option.{option_map, unwrap_or}
use Rattle.std.proofs.lemmas.Option.{IfSome_then}
use Rattle.cs_base.specs.Address.{Address}
use Rattle.cs_base.specs.declared.member.Member.{Member}
use Rattle.cs_base.specs.declared.change.Change.{Change}
use Rattle.cs_base.specs.declared.change.Change.TheVariants.{Join, Move, Leave}
use Rattle.cs_base.specs.Ranges.{IsMember}
use Rattle.cs_core.specs.Node.{Following as Values, Past as PastValues, member}
use Rattle.cs_hold.specs.Held.{Held}
use Rattle.cs_node.specs.declared.node.Node.TheVariants as nodes
use Rattle.cs_packet.specs.EntryField.{IsEntry}
use Rattle.cs_packet.specs.declared.entry.Entry.TheVariants as logged
use Rattle.cs_packet.specs.declared.own.Own.{Own}
use Rattle.cs_packet.specs.declared.packet.Body.{Body}
use Rattle.cs_packet.specs.declared.packet.Body.TheVariants as bodies
use Rattle.cs_packet.specs.declared.packet.Packet.{Packet}
use Rattle.cs_packet.specs.Own.{member_of_own}
use Rattle.cs_packet.specs.PacketField.{IsPacket}
use Rattle.cs_group.specs.Group.{GroupState, is_among}
use Rattle.cs_group.specs.Next.{next_turn}
use Rattle.cs_group.specs.Rows.{regions}
use Rattle.cs_group.specs.declared.next.Turn.{Turn}
use Rattle.cs_group.proofs.Bounded.{group_at-longer}
use Rattle.cs_item.specs.SliceField.{slice_bytes}
use Rattle.cs_item.specs.declared.picture.Picture.{Picture}
use Rattle.cs_item.specs.declared.slice.Slice.{Slice}
use Rattle.cs_piece.specs.Blocks.{piece_of}
use Rattle.cs_slicer.specs.Projection.{image, projection}
use Rattle.cs_slicer.specs.Slice.{slice_in}
use Rattle.cs_machine.specs.Answers.{has_node, slices_of_leader}
use Rattle.cs_machine.specs.Closing.{whole_view}
use Rattle.cs_machine.specs.Contents.{Contents, contents_of, group_led_by, group_of, item_at, items, no_group, no_turn, piece_at, slice_at}
use Rattle.cs_machine.specs.Contents.{view_at}
use Rattle.cs_machine.specs.Entries.{Entry}
use Rattle.cs_machine.specs.Entries as entries
use Rattle.cs_machine.specs.Names.{Item, Name, Report, Piece, Need, Slice as SliceName, Ask, Snap, Bye, Sent, State}
use Rattle.cs_machine.specs.Names.{Joining, Following, Leading, Left, Membership, Node, Past, World, node_of, leader_of}
use Rattle.cs_machine.specs.Packets.{body_for, packet_for}
use Rattle.cs_machine.specs.Reached.{AreAsked, AreRegionsOf, CanWait, EntryFits, IsAsked, IsLogged, IsNodeMember, IsPast, IsSent}
use Rattle.cs_machine.specs.Reached.{IsAsker, IsStarted, IsUp, MemberFits, NameStands, StateFits}
use Rattle.cs_machine.specs.Outcome.{with_sent}
use Rattle.cs_machine.specs.Restoring.{at_step, restored, resumed, resumed_by}
use Rattle.cs_machine.specs.Values.{entry_for, held_for, item_for, leader_for, member_for, node_for, past_for}
use Rattle.cs_base.proofs.Elements.{All-weaker}

-- ---- contents

-- the groups of the epochs up to one are the same, and so are the turns that led to them
pub record Agree (upto : ℕ) (c d : Contents) : Type 0 where
  pub group : (epoch : ℕ) → epoch ≤ upto → c.group epoch ≡ d.group epoch
  pub turn : (epoch : ℕ) → 0 < epoch → epoch ≤ upto → c.turn epoch ≡ d.turn epoch

module _ (upto : ℕ) (c d : Contents) (agree : Agree upto c d) where
  -- so are views
  pub view_at-agree : (epoch : ℕ) (known : List ℕ) → epoch ≤ upto → view_at c epoch known ≡ view_at d epoch known
  view_at-agree epoch known so_far = ap (projection epoch known) (agree.group epoch so_far)

  -- the view of all of the group
  pub whole_view-agree : (epoch : ℕ) → epoch ≤ upto → whole_view c epoch ≡ whole_view d epoch
  whole_view-agree epoch so_far =
      ap (λ (g : GroupState). projection epoch (regions g.rows) g) (agree.group epoch so_far)

  -- slices
  pub slice_at-agree : (epoch region : ℕ) → 0 < epoch → epoch ≤ upto → slice_at c epoch region ≡ slice_at d epoch region
  slice_at-agree epoch region later so_far =
      let before : epoch - 1 ≤ upto = omega (arith, later, so_far) in
      let group = agree.group (epoch - 1) before in
      let turn = agree.turn epoch later so_far in
      ap (λ (g : GroupState). slice_in g (c.turn epoch) epoch region) group
      ∙ ap (λ (t : Turn). slice_in (d.group (epoch - 1)) t epoch region) turn

  -- and pieces
  pub piece_at-agree : (epoch region colour : ℕ) → 0 < epoch → epoch ≤ upto
      → piece_at c epoch region colour ≡ piece_at d epoch region colour
  piece_at-agree epoch region colour later so_far =
      ap (λ (s : Slice). piece_of (slice_bytes s) colour) (slice_at-agree epoch region later so_far)

  -- held pieces are the same, where there are none or their epoch is one of these
  pub held-agree : (epoch : ℕ) (held : List (ℕ × ℕ)) → (held ≢ [] → epoch < upto)
      → map (held_for c (epoch + 1)) held ≡ map (held_for d (epoch + 1)) held
  held-agree epoch [] begun = refl
  held-agree epoch (pair ∷ held) begun =
      let lt : epoch < upto = begun (λ none. cc) in
      let same = λ (p : ℕ × ℕ). piece_at-agree (epoch + 1) p.0 p.1 (omega arith) (omega (arith, lt)) in
      λ i. map (λ (p : ℕ × ℕ). (let h : Held = record { region = p.0; colour = p.1; bytes = same p i } in h)) (pair ∷ held)

  -- and so are the slices by which a member came to its epoch
  pub used-agree : (epoch : ℕ) (used : List ℕ) → epoch ≤ upto → (used ≢ [] → 0 < epoch)
      → map (slice_at c epoch) used ≡ map (slice_at d epoch) used
  used-agree epoch [] so_far later = refl
  used-agree epoch (region ∷ used) so_far later =
      let some : 0 < epoch = later (λ none. cc) in
      λ i. map (λ r. slice_at-agree epoch r some so_far i) (region ∷ used)

  -- a past
  pub past-agree : (epoch : ℕ) (past : Option Past) → epoch ≤ upto
      → option_map (past_for c epoch) past ≡ option_map (past_for d epoch) past
  past-agree epoch None so_far = refl
  past-agree epoch (Some past) so_far =
      let before : epoch - 1 ≤ upto = omega (arith, so_far) in
      ap {B = Option PastValues} (λ (v : Picture). Some (record { view = v; had = past.had }))
      (view_at-agree (epoch - 1) past.known before)

  -- the slices of the leader are of no epoch before the first
  leader-later : (epoch : ℕ) → slices_of_leader d epoch ≢ [] → 0 < epoch
  leader-later zero some = absurd (some refl)
  leader-later (suc epoch) some = omega arith

  -- so they are the same
  pub slices_of_leader-agree : (epoch : ℕ) → epoch ≤ upto
      → map (slice_at c epoch) (slices_of_leader c epoch) ≡ map (slice_at d epoch) (slices_of_leader d epoch)
  slices_of_leader-agree epoch so_far =
      let before : epoch - 1 ≤ upto = omega (arith, so_far) in
      ap (λ (g : GroupState). map (slice_at c epoch) (if epoch == 0 then [] else regions g.rows)) (agree.group (epoch - 1) before)
      ∙ used-agree epoch (slices_of_leader d epoch) so_far (leader-later epoch)

  -- so a member is the same where what it has is of these epochs
  pub member_for-agree : (m : Membership) → m.epoch ≤ upto → (m.held ≢ [] → m.epoch < upto) → (m.used ≢ [] → 0 < m.epoch)
      → member_for c m ≡ member_for d m
  member_for-agree m so_far begun later =
      let view = view_at-agree m.epoch m.known so_far in
      let held = held-agree m.epoch m.held begun in
      let used = used-agree m.epoch m.used so_far later in
      let past = past-agree m.epoch m.past so_far in
      λ i. record { view = view i; held = held i; used = used i; pending = m.pending; seq = m.seq; past = past i }

  -- and so is the leader
  pub leader_for-agree : (own : Own) (epoch : ℕ) (pending : List Change) → epoch ≤ upto
      → leader_for c own epoch pending ≡ leader_for d own epoch pending
  leader_for-agree own epoch pending so_far =
      let group = agree.group epoch so_far in
      let view = whole_view-agree epoch so_far in
      let slices = slices_of_leader-agree epoch so_far in
      λ i. record { me = member_of_own own; group = group i; view = view i; slices = slices i; pending = pending }

-- an item that is there stays at its place
pub slice_get-append : {X : Type 0} (xs ys : List X) (i : ℕ) → i < length xs → slice_get (xs ++ ys) i ≡ slice_get xs i
slice_get-append [] ys i within = absurd (omega (arith, within))
slice_get-append (x ∷ xs) ys zero within = refl
slice_get-append (x ∷ xs) ys (suc i) within = slice_get-append xs ys i (omega (arith, within))

-- further items leave the groups so far, whoever leads
pub group_led_by-append : (o : Option Node) (given more : List Item) (epoch : ℕ) → epoch ≤ length given
    → group_led_by o (given ++ more) epoch ≡ group_led_by o given epoch
group_led_by-append None given more epoch so_far = refl
group_led_by-append (Some leader) given more epoch so_far =
    ap (λ o. unwrap_or o no_group) (group_at-longer (member_of_own leader.own) given more epoch so_far)

-- so where the same one leads and items are added, the contents so far stay
pub Agree-more : (world later : World) (more : List Item) → items later ≡ items world ++ more
    → ((given : List Item) (epoch : ℕ) → group_led_by (leader_of later) given epoch ≡ group_led_by (leader_of world) given epoch)
    → Agree (length (items world)) (contents_of later) (contents_of world)
Agree-more world later more longer same_leader =
    let group : (epoch : ℕ) → epoch ≤ length (items world) → group_of later epoch ≡ group_of world epoch =
    λ epoch so_far. same_leader (items later) epoch
    ∙ (ap (λ given. group_led_by (leader_of world) given epoch) longer ∙ group_led_by-append (leader_of world) (items world) more epoch so_far) in
    record {
      group = group;
      turn = λ epoch first so_far.
          let before : epoch - 1 ≤ length (items world) = omega (arith, so_far) in
          let within : epoch - 1 < length (items world) = omega (arith, first, so_far) in
          let item : item_at (items later) epoch ≡ item_at (items world) epoch =
          ap (λ given. item_at given epoch) longer ∙ ap (λ o. unwrap_or o []) (slice_get-append (items world) more (epoch - 1) within) in
          ap (λ (g : GroupState). unwrap_or (next_turn g (item_at (items later) epoch)) no_turn) (group (epoch - 1) before)
          ∙ ap (λ i. unwrap_or (next_turn (group_of world (epoch - 1)) i) no_turn) item;
    }

-- ---- worlds

-- the node of this id is there, and has written what it had and perhaps more
pub record HasNode (world : World) (id : ℕ) (was : Node) : Type 0 where
  pub node : Node
  pub found : node_of world id ≡ Some node
  pub same : node.own ≡ was.own
  pub more : List Entry
  pub longer : node.entries ≡ was.entries ++ more

-- it is the same node
pub HasNode-same : (world : World) (id : ℕ) (node : Node) → node_of world id ≡ Some node → HasNode world id node
HasNode-same world id node found =
    record { node = node; found = found; same = refl; more = []; longer = sym (append-nil node.entries) }

-- the later world has the earlier one's nodes, its leader and its items, where somebody leads its contents so far, and in
-- front of what was sent what the earlier one's nodes sent
pub record Follows (world later : World) : Type 0 where
  pub longer : length (items world) ≤ length (items later)
  pub nodes : (id : ℕ) (node : Node) → node_of world id ≡ Some node → HasNode later id node
  pub led : (leader : Node) → leader_of world ≡ Some leader
      → (next : Node) × (leader_of later ≡ Some next) × (next.own ≡ leader.own)
  pub contents : (leader : Node) → leader_of world ≡ Some leader
      → Agree (length (items world)) (contents_of later) (contents_of world)
  pub sent : (more : List Sent) × (later.sent ≡ world.sent ++ more)

-- a world comes from itself
pub Follows-same : (world : World) → Follows world world
Follows-same world = record {
  longer = omega arith;
  nodes = HasNode-same world;
  led = λ leader leads. (leader, leads, refl);
  contents = λ leader leads. record { group = λ epoch so_far. refl; turn = λ epoch first so_far. refl };
  sent = ([], sym (append-nil world.sent));
}

-- what was there stays where more is sent, whatever settling passes over, and whatever was delivered
pub Follows-rest : (world : World) (sent more : List Sent) (settled delivered : List ℕ) → sent ≡ world.sent ++ more
    → Follows world (record { nodes = world.nodes; sent = sent; settled = settled; delivered = delivered })
Follows-rest world sent more settled delivered longer =
    let later : World = record { nodes = world.nodes; sent = sent; settled = settled; delivered = delivered } in
    record {
      longer = (let same : items later ≡ items world = refl in omega (arith, ap length same));
      nodes = HasNode-same later;
      led = λ leader leads. (leader, leads, refl);
      contents = λ leader leads. record { group = λ epoch so_far. refl; turn = λ epoch first so_far. refl };
      sent = (more, longer);
    }

-- so it does where these packets are sent
pub Follows-sent : (world : World) (more : List Sent) → Follows world (with_sent more world)
Follows-sent world more = Follows-rest world (world.sent ++ more) more world.settled world.delivered refl

-- what stays in a later world, and from there in one that is later still, stays
pub Follows-further : (a b c : World) → Follows a b → Follows b c → Follows a c
Follows-further a b c first second = record {
  longer = omega (arith, first.longer, second.longer);
  nodes = λ id node found.
      let next = first.nodes id node found in
      let last = second.nodes id next.node next.found in
      record {
        node = last.node;
        found = last.found;
        same = last.same ∙ next.same;
        more = next.more ++ last.more;
        longer = last.longer ∙ (ap (λ es. es ++ last.more) next.longer ∙ append_assoc node.entries next.more last.more);
      };
  led = λ leader leads.
      let next = first.led leader leads in
      let last = second.led next.0 next.1 in (last.0, last.1, last.2 ∙ next.2);
  contents = λ leader leads.
      let next = first.led leader leads in
      let before = first.contents leader leads in
      let after = second.contents next.0 next.1 in
      record {
        group = λ epoch so_far. after.group epoch (omega (arith, first.longer, so_far)) ∙ before.group epoch so_far;
        turn = λ epoch later so_far. after.turn epoch later (omega (arith, first.longer, so_far)) ∙ before.turn epoch later so_far;
      };
  sent = (
    first.sent.0 ++ second.sent.0,
    second.sent.1 ∙ (ap (λ sent. sent ++ second.sent.0) first.sent.1 ∙ append_assoc a.sent first.sent.0 second.sent.0),
  );
}

module _ (world later : World) (follows : Follows world later) where
  -- a node of the world stays one
  pub IsNodeMember-later : (m : Member) → IsNodeMember world m → IsNodeMember later m
  IsNodeMember-later m is =
      let next = follows.nodes m.id is.node is.found in
      record { node = next.node; found = next.found; same = is.same ∙ ap member_of_own (sym next.same) }

  -- so a change that is under way still is
  pub IsAsked-later : (change : Change) → IsAsked world change → IsAsked later change
  IsAsked-later (Join m) is = IsNodeMember-later m is
  IsAsked-later (Move id seq at) is = is
  IsAsked-later (Leave id) is = is

  -- and so are many
  pub AreAsked-later : (changes : List Change) → AreAsked world changes → AreAsked later changes
  AreAsked-later changes all = All-weaker (IsAsked world) (IsAsked later) IsAsked-later changes all

  -- pending changes can wait on
  pub CanWait-later : (pending : List Change) → CanWait world pending → CanWait later pending
  CanWait-later pending can = record { reportable = can.reportable; asked = AreAsked-later pending can.asked }

  -- a node stays a started one where its entries, what they lead to and its state fit
  pub IsStarted-later : (node next : Node) → next.own ≡ node.own → AllByRecursion (IsLogged later) next.entries
      → StateFits later next.own (restored (contents_of later) next.own next.entries) → IfSome next.state (IsUp later next)
      → IsStarted world node → IsStarted later next
  IsStarted-later node next same written restores state is =
      let leader = follows.led is.leader is.led in
      record {
        allowed = subst (λ (o : Own). IsMember (member_of_own o)) (sym same) is.allowed;
        leader = leader.0;
        led = leader.1;
        leader_id = ap (λ (o : Own). o.id) leader.2 ∙ (is.leader_id ∙ ap (λ (o : Own). o.leader) (sym same));
        leader_addr = ap (λ (o : Own). o.addr) leader.2 ∙ (is.leader_addr ∙ ap (λ (o : Own). o.leader_addr) (sym same));
        entries = written;
        restores = restores;
        state = state;
      }

module _ (world later : World) (follows : Follows world later) (leader : Node) (leads : leader_of world ≡ Some leader) where
  -- the contents so far
  abbrev upto : ℕ
  upto = length (items world)

  agree : Agree upto (contents_of later) (contents_of world)
  agree = follows.contents leader leads

  -- regions of a group so far stay its regions
  pub AreRegionsOf-later : (epoch : ℕ) (known : List ℕ) → epoch ≤ length (items world) → AreRegionsOf (group_of world epoch) known
      → AreRegionsOf (group_of later epoch) known
  AreRegionsOf-later epoch known so_far are = subst (λ (group : GroupState). AreRegionsOf group known) (sym (agree.group epoch so_far)) are

  -- what a member has fits on
  pub MemberFits-later : (m : Membership) → MemberFits world m → MemberFits later m
  MemberFits-later m fits =
      let so_far = fits.epoch in
      let before : m.epoch - 1 ≤ length (items world) = omega (arith, so_far) in
      record {
        epoch = omega (arith, so_far, follows.longer);
        known = AreRegionsOf-later m.epoch m.known so_far fits.known;
        held = record {
          ascending = fits.held.ascending;
          begun = λ some. (let lt = fits.held.begun some in omega (arith, lt, follows.longer));
          there = subst (λ (g : GroupState). AllByRecursion (λ (pair : ℕ × ℕ). is_among (regions g.rows) pair.0 ≡ true) m.held)
              (sym (agree.group m.epoch so_far)) fits.held.there;
          colours = fits.held.colours;
          whole = fits.held.whole;
        };
        used = record { later = fits.used.later; regions = AreRegionsOf-later (m.epoch - 1) m.used before fits.used.regions };
        pending = CanWait-later world later follows m.pending fits.pending;
        seq = fits.seq;
        past = past-later m.past fits.past;
      }
    where
      past-later : (past : Option Past) → IfSome past (IsPast world m.epoch) → IfSome past (IsPast later m.epoch)
      past-later None is = tt
      past-later (Some past) is =
          let so_far = fits.epoch in
          let before : m.epoch - 1 ≤ length (items world) = omega (arith, so_far) in
          record { later = is.later; known = AreRegionsOf-later (m.epoch - 1) past.known before is.known }

  -- a state fits on, where it leads one as many items
  pub StateFits-later : (own : Own) (state : State)
      → (own.id ≡ own.leader → length (items later) ≡ length (items world)) → StateFits world own state → StateFits later own state
  StateFits-later own Joining still fits = tt
  StateFits-later own (Following m) still fits = MemberFits-later m fits
  StateFits-later own (Leading epoch pending) still fits = record {
    last = fits.last ∙ sym (still fits.leads);
    leads = fits.leads;
    waiting = CanWait-later world later follows pending fits.waiting;
  }
  StateFits-later own Left still fits = tt

  -- a node in a fitting state is what it was
  pub node_for-later : (own : Own) (state : State) → StateFits world own state
      → node_for (contents_of later) own state ≡ node_for (contents_of world) own state
  node_for-later own Joining fits = refl
  node_for-later own (Following m) fits =
      ap (λ (values : Values). nodes.Follower (member own values))
      (member_for-agree upto (contents_of later) (contents_of world) agree m fits.epoch fits.held.begun fits.used.later)
  node_for-later own (Leading epoch pending) fits =
      (let last = fits.last in
      ap nodes.Leader (leader_for-agree upto (contents_of later) (contents_of world) agree own epoch pending (omega (arith, last))))
  node_for-later own Left fits = refl

  -- an entry fits on
  pub EntryFits-later : (entry : Entry) → EntryFits world entry → EntryFits later entry
  EntryFits-later (entries.Boot own) fits = tt
  EntryFits-later (entries.Seq seq at) fits = tt
  EntryFits-later (entries.View epoch known) fits =
      let so_far = fits.0 in (omega (arith, so_far, follows.longer), AreRegionsOf-later epoch known so_far fits.1)
  EntryFits-later (entries.Step epoch used) fits =
      let so_far = fits.1 in
      let before : epoch - 1 ≤ length (items world) = omega (arith, so_far) in
      (fits.0, omega (arith, so_far, follows.longer), AreRegionsOf-later (epoch - 1) used before fits.2)
  EntryFits-later (entries.Gone epoch) fits = tt
  EntryFits-later (entries.Item epoch changes anew) fits = omega (arith, fits, follows.longer)

  -- it says what it said
  pub entry_for-later : (entry : Entry) → EntryFits world entry
      → entry_for (contents_of later) entry ≡ entry_for (contents_of world) entry
  entry_for-later (entries.Boot own) fits = refl
  entry_for-later (entries.Seq seq at) fits = refl
  entry_for-later (entries.View epoch known) fits =
      ap logged.View (view_at-agree upto (contents_of later) (contents_of world) agree epoch known fits.0)
  entry_for-later (entries.Step epoch used) fits =
      ap logged.Step (used-agree upto (contents_of later) (contents_of world) agree epoch used fits.1 (λ some. fits.0))
  entry_for-later (entries.Gone epoch) fits = refl
  entry_for-later (entries.Item epoch changes anew) fits =
      ap (λ (before : GroupState). item_for before epoch changes anew) (agree.group (epoch - 1) fits)

  -- so it stays well formed
  pub IsLogged-later : (entry : Entry) → IsLogged world entry → IsLogged later entry
  IsLogged-later entry is = record {
    fits = EntryFits-later entry is.fits;
    formed = subst IsEntry (sym (entry_for-later entry is.fits)) is.formed;
  }

  -- and so do many
  pub AreLogged-later : (written : List Entry) → AllByRecursion (IsLogged world) written → AllByRecursion (IsLogged later) written
  AreLogged-later written all = All-weaker (IsLogged world) (IsLogged later) IsLogged-later written all

  -- it makes the same of a member of an epoch before
  at_step-later : (own : Own) (epoch : ℕ) (used : List ℕ) (state : State) → 0 < epoch → epoch ≤ length (items world)
      → at_step (contents_of later) own epoch used state ≡ at_step (contents_of world) own epoch used state
  at_step-later own epoch used Joining some so_far = refl
  at_step-later own epoch used (Following m) some so_far =
      let group = agree.group (epoch - 1) (omega (arith, so_far)) in
      let turn = agree.turn epoch some so_far in
      λ i. Following (record m { epoch = epoch; known = image (group i) (turn i) m.known own.id own.mode; used = used })
  at_step-later own epoch used (Leading at pending) some so_far = refl
  at_step-later own epoch used Left some so_far = refl

  -- and of each state
  resumed-later : (own : Own) (state : State) (entry : Entry) → EntryFits world entry
      → resumed (contents_of later) own state entry ≡ resumed (contents_of world) own state entry
  resumed-later own state (entries.Boot who) fits = refl
  resumed-later own state (entries.Seq seq at) fits = refl
  resumed-later own state (entries.View epoch known) fits = refl
  resumed-later own state (entries.Step epoch used) fits = at_step-later own epoch used state fits.0 fits.1
  resumed-later own state (entries.Gone epoch) fits = refl
  resumed-later own state (entries.Item epoch changes anew) fits = refl

  -- so do many
  resumed_by-later : (own : Own) (state : State) (written : List Entry) → AllByRecursion (IsLogged world) written
      → resumed_by (contents_of later) own state written ≡ resumed_by (contents_of world) own state written
  resumed_by-later own state [] all = refl
  resumed_by-later own state (entry ∷ more) all =
      ap (λ s. resumed_by (contents_of later) own s more) (resumed-later own state entry all.0.fits)
      ∙ resumed_by-later own (resumed (contents_of world) own state entry) more all.1

  -- so they lead to what they led to
  pub restored-later : (own : Own) (written : List Entry) → AllByRecursion (IsLogged world) written
      → restored (contents_of later) own written ≡ restored (contents_of world) own written
  restored-later own written all = resumed_by-later own Joining written all

  -- who asks gives its address
  IsAsker-later : (from : ℕ) (addr : Address) → IsAsker world from addr → IsAsker later from addr
  IsAsker-later from addr is =
      let next = follows.nodes from is.node is.found in
      record { node = next.node; found = next.found; same = ap (λ (o : Own). o.addr) next.same ∙ is.same }

  -- a region of the group before an epoch so far is one
  region-later : (epoch region : ℕ) → epoch ≤ length (items world)
      → is_among (regions (group_of world (epoch - 1)).rows) region ≡ true → is_among (regions (group_of later (epoch - 1)).rows) region ≡ true
  region-later epoch region so_far there =
      let before : epoch - 1 ≤ length (items world) = omega (arith, so_far) in
      subst (λ (g : GroupState). is_among (regions g.rows) region ≡ true) (sym (agree.group (epoch - 1) before)) there

  -- a name stands
  pub NameStands-later : (from to : ℕ) (name : Name) → NameStands world from to name → NameStands later from to name
  NameStands-later from to (Report changes) is = (is.0, AreAsked-later world later follows changes is.1)
  NameStands-later from to (Piece epoch region colour) is =
      let so_far = is.begun in
      record {
        later = is.later;
        begun = omega (arith, so_far, follows.longer);
        there = region-later epoch region so_far is.there;
        below = is.below;
      }
  NameStands-later from to (Need addr mode epoch region) is = IsAsker-later from addr is
  NameStands-later from to (SliceName epoch region) is =
      let so_far = is.begun in
      record { later = is.later; begun = omega (arith, so_far, follows.longer); there = region-later epoch region so_far is.there }
  NameStands-later from to (Ask addr mode least) is = IsAsker-later from addr is
  NameStands-later from to (Snap epoch known) is =
      let so_far = is.begun in
      record {
        begun = omega (arith, so_far, follows.longer);
        regions = AreRegionsOf-later epoch known so_far is.regions;
        there = subst (λ (g : GroupState). has_node g to known ≡ true) (sym (agree.group epoch so_far)) is.there;
      }
  NameStands-later from to (Bye epoch) is = omega (arith, is, follows.longer)

  -- a packet says what it said
  pub body_for-later : (from to : ℕ) (name : Name) → NameStands world from to name
      → body_for (contents_of later) name ≡ body_for (contents_of world) name
  body_for-later from to (Report changes) is = refl
  body_for-later from to (Piece epoch region colour) is =
      ap (bodies.Piece epoch region colour)
      (piece_at-agree upto (contents_of later) (contents_of world) agree epoch region colour is.later is.begun)
  body_for-later from to (Need addr mode epoch region) is = refl
  body_for-later from to (SliceName epoch region) is =
      ap bodies.Slice (slice_at-agree upto (contents_of later) (contents_of world) agree epoch region is.later is.begun)
  body_for-later from to (Ask addr mode least) is = refl
  body_for-later from to (Snap epoch known) is =
      ap bodies.Snap (view_at-agree upto (contents_of later) (contents_of world) agree epoch known is.begun)
  body_for-later from to (Bye epoch) is = refl

  -- so it stays as it is
  pub packet_for-later : (sent : Sent) → NameStands world sent.from sent.to sent.name
      → packet_for (contents_of later) sent ≡ packet_for (contents_of world) sent
  packet_for-later sent is =
      ap {B = Packet} (λ (body : Body). record { from = sent.from; to = sent.to; body = body })
      (body_for-later sent.from sent.to sent.name is)

  -- and what was sent stays a packet whose receiver is there
  pub IsSent-later : (sent : Sent) → IsSent world sent → IsSent later sent
  IsSent-later sent is =
      let next = follows.nodes sent.to is.node is.receiver in
      record {
        node = next.node;
        receiver = next.found;
        name = NameStands-later sent.from sent.to sent.name is.name;
        packet = subst IsPacket (sym (packet_for-later sent is.name)) is.packet;
      }

-- a node that is up is so in its state
pub is-up : (world : World) (node : Node) (state : State) → IsStarted world node → node.state ≡ Some state → IsUp world node state
is-up world node state is same = subst (λ o. IfSome o (IsUp world node)) same is.state

-- a node that stays as it is stays a started one, where the items of one that leads are as many
pub IsStarted-stays : (world later : World) → Follows world later → (node : Node)
    → (node.own.id ≡ node.own.leader → length (items later) ≡ length (items world)) → IsStarted world node → IsStarted later node
IsStarted-stays world later follows node still was =
    let same = restored-later world later follows was.leader was.led node.own node.entries was.entries in
    let stays = λ (state : State). StateFits-later world later follows was.leader was.led node.own state still in
    IsStarted-later world later follows node node refl
    (AreLogged-later world later follows was.leader was.led node.entries was.entries)
    (subst (StateFits later node.own) (sym same) (stays (restored (contents_of world) node.own node.entries) was.restores))
    (IfSome_then node.state was.state (λ state up. record {
      fits = stays state up.fits;
      lasts = up.lasts ∙ sym same;
      whole = up.whole;
    })) was
