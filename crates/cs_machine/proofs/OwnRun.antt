-- A node's own calls in a reached world: what it plans is its step in names. What a member says goes to the leader, to its
-- reporter or to another node that it knows, and it knows the addresses of all of them.
use Rattle.std.proofs.Common.{◌≡◌, ◌∙◌, ◌==◌, ℕ, Bool, true, false, cond, List, [], ◌∷◌, Option, Some, None, refl, sym, ap, subst}
use Rattle.std.specs.List.{cons_option, filter_map, slice_get}
use Rattle.std.specs.Option.{option_and_then, option_map, option_map_or, option_or}
use Rattle.std.proofs.lemmas.Bool.{eq-eqb, eqb-true}
use Rattle.std.proofs.lemmas.Option.{none-some, same_Some}
use Rattle.cs_base.specs.Address.{Address}
use Rattle.cs_base.specs.Axes.{Axes, IsPoint}
use Rattle.cs_base.specs.Ranges.{IsRegion}
use Rattle.cs_base.specs.declared.member.Member.{Member}
use Rattle.cs_core.specs.Addresses.{home_reporter, reporter_of}
use Rattle.cs_core.specs.Asking.{ask_plan, asked_address, need_plan}
use Rattle.cs_core.specs.Changes.{flush_plan, leave_plan, move_plan}
use Rattle.cs_core.specs.Decision.{ask_leader_plan, join_plan}
use Rattle.cs_item.specs.declared.picture.Picture.{Picture}
use Rattle.cs_node.specs.Effects.{effects_of_follower}
use Rattle.cs_packet.specs.declared.own.Own.{Own}
use Rattle.cs_roll.specs.Roll.{member_of}
use Rattle.cs_roll.specs.Sight.{Summaries, at_region}
use Rattle.cs_roll.specs.Summary.{RegionSummary}
use Rattle.cs_tree.specs.Route.{Target}
use Rattle.cs_view.specs.Place.{member_at, place_in, place_in_globals, place_in_rolls}
use Rattle.cs_view.specs.View.{holder}
use Rattle.cs_machine.specs.Asking.{ask_leader_step, ask_step, need_step}
use Rattle.cs_machine.specs.Changes.{flush_step, join_step, leave_step, move_step, reporter}
use Rattle.cs_machine.specs.Contents.{Contents, contents_of, view_at}
use Rattle.cs_machine.specs.Names.{Following, Joining, Membership, Node, World, node_of}
use Rattle.cs_machine.specs.Reached.{IsReached, IsStarted, MemberFits}
use Rattle.cs_machine.specs.Squares.{IsStep, address_in}
use Rattle.cs_machine.specs.Values.{member_for}
use Rattle.cs_machine.proofs.Follows.{is-up}
use Rattle.cs_machine.proofs.Lifts.{lifted-step}
use Rattle.cs_machine.proofs.Nodes.{option_map-some}
use Rattle.cs_machine.proofs.OwnSquares.{KnowsAddress, ask-square, ask_leader-square, flush-square, join-square, leave-square, move-square}
use Rattle.cs_machine.proofs.OwnSquares.{need-square}
use Rattle.cs_machine.proofs.ReachedAsks.{IsQuiet-ask, IsQuiet-ask_leader, IsQuiet-need}
use Rattle.cs_machine.proofs.ReachedSteps.{IsQuiet-flush, IsQuiet-join, IsQuiet-leave, IsQuiet-move}
use Rattle.cs_machine.proofs.ReachedTargets.{IsNodeThere, IsNodeThere-asked, IsNodeThere-leader, IsNodeThere-placed}
use Rattle.cs_machine.proofs.RunSquares.{address-found}

-- ---- places in a view

-- a value is given
abbrev IsGiven : {Y : Type 0} → Option Y → Type 0
IsGiven {Y} o = (y : Y) × (o ≡ Some y)

-- there is a first value where the first element gives one
given-here : {Y : Type 0} (o : Option Y) (ys : List Y) → IsGiven o → IsGiven (slice_get (cons_option o ys) 0)
given-here None ys is = absurd (none-some is.0 is.1)
given-here (Some y) ys is = (y, refl)

-- and where a later one does
given-later : {Y : Type 0} (o : Option Y) (ys : List Y) → IsGiven (slice_get ys 0) → IsGiven (slice_get (cons_option o ys) 0)
given-later None ys is = is
given-later (Some y) ys is = (y, refl)

-- the first one of two values is given where the other is
given-either : {Y : Type 0} (first rest : Option Y) → IsGiven rest → IsGiven (option_or first rest)
given-either None rest is = is
given-either (Some y) rest is = (y, refl)

-- the first of some members is found among them by its id
given-first : (region : ℕ) (members : List Member) (m : Member) → slice_get members 0 ≡ Some m → IsGiven (member_at m.id (region, members))
given-first region [] m first = absurd (none-some m first)
given-first region (k ∷ members) m first =
    let here : (k.id == m.id) ≡ true = eq-eqb k.id m.id (ap (λ (n : Member). n.id) (same_Some k m first)) in
    ((region, k), ap (λ b. option_map (λ (n : Member). (region, n)) (cond b (Some k) (member_of m.id members))) here)

-- so the first global of a region that is listed is found among the globals
given-global : (summaries : Summaries) (region : ℕ) (s : RegionSummary) (m : Member) → at_region region summaries ≡ Some s
    → slice_get s.globals 0 ≡ Some m → IsGiven (place_in_globals m.id summaries)
given-global [] region s m listed first = absurd (none-some s listed)
given-global (pair ∷ summaries) region s m listed first = go (pair.0 == region) refl (λ there. given-global summaries region s m there first)
  where
    there : ℕ × RegionSummary → Option (ℕ × Member)
    there p = member_at m.id (p.0, p.1.globals)

    go : (b : Bool) → (pair.0 == region) ≡ b → (at_region region summaries ≡ Some s → IsGiven (place_in_globals m.id summaries))
        → IsGiven (place_in_globals m.id (pair ∷ summaries))
    go true e later =
        let here : at_region region (pair ∷ summaries) ≡ Some pair.1 = rw e refl in
        let same : s ≡ pair.1 = same_Some s pair.1 (sym listed ∙ here) in
        given-here (there pair) (filter_map there summaries)
        (given-first pair.0 pair.1.globals m (subst (λ (t : RegionSummary). slice_get t.globals 0 ≡ Some m) same first))
    go false e later =
        let rest : at_region region (pair ∷ summaries) ≡ at_region region summaries = rw e refl in
        given-later (there pair) (filter_map there summaries) (later (sym rest ∙ listed))

-- and the reporter of a region in a place of the view
given-reporter : (view : Picture) (region : ℕ) (m : Member) → reporter_of view region ≡ Some m → IsGiven (place_in m.id view)
given-reporter view region m is =
    given-either (place_in_rolls m.id view.rolls) (place_in_globals m.id view.summaries) (go (at_region region view.summaries) refl is)
  where
    go : (o : Option RegionSummary) → at_region region view.summaries ≡ o
        → option_and_then (λ (s : RegionSummary). slice_get s.globals 0) o ≡ Some m → IsGiven (place_in_globals m.id view.summaries)
    go None none first = absurd (none-some m first)
    go (Some s) listed first = given-global view.summaries region s m listed first

-- ---- addresses

-- a target that is a node of the world is where that was started
address-there : (world : World) (target : Target) → IsNodeThere world target → address_in world target.0 ≡ Some target.1
address-there world target there = address-found world target.0 there.node there.found ∙ ap (λ a. Some a) there.addr

module _ (world : World) (reached : IsReached world) (node : Node) (is : IsStarted world node) where
  -- who the node is, and the contents of the run
  abbrev own : Own
  own = node.own

  abbrev c : Contents
  c = contents_of world

  -- the node knows where the leader was started
  knows-led : address_in world own.leader ≡ Some own.leader_addr
  knows-led = address-there world (own.leader, own.leader_addr) (IsNodeThere-leader world reached node is)

  module _ (m : Membership) where
    -- what the member sees
    abbrev view : Picture
    view = view_at c m.epoch m.known

    -- the address that the view has, where it isn't the leader's
    abbrev seen_address : ℕ → Option Address
    seen_address id = option_map (λ (place : ℕ × Member). place.1.addr) (place_in id view)

    -- it knows the leader's address
    knows-leader : (id : ℕ) → (id == own.leader) ≡ true → KnowsAddress world c own m id
    knows-leader id leads = record {
      addr = own.leader_addr;
      known = ap (λ b. cond b (Some own.leader_addr) (seen_address id)) leads;
      started = subst (λ q. address_in world q ≡ Some own.leader_addr) (sym (eqb-true id own.leader leads)) knows-led;
    }

    -- and that of another node which the view shows
    knows-place : (id : ℕ) → (id == own.leader) ≡ false → (place : ℕ × Member) → place_in id view ≡ Some place → KnowsAddress world c own m id
    knows-place id other place shown = record {
      addr = place.1.addr;
      known = ap (λ b. cond b (Some own.leader_addr) (seen_address id)) other
          ∙ ap (option_map (λ (p : ℕ × Member). p.1.addr)) shown;
      started = address-there world (id, place.1.addr) (IsNodeThere-placed world reached m.epoch m.known id place shown);
    }

    -- so it knows that of each node which the view shows
    knows-shown : (id : ℕ) → IsGiven (place_in id view) → KnowsAddress world c own m id
    knows-shown id shown = go (id == own.leader) refl
      where
        go : (b : Bool) → (id == own.leader) ≡ b → KnowsAddress world c own m id
        go true leads = knows-leader id leads
        go false other = knows-place id other shown.0 shown.1

    -- and whom it may ask was started at the address that it has
    knows-asked : (to : ℕ) (addr : Address) → asked_address own view to ≡ Some addr → address_in world to ≡ Some addr
    knows-asked to addr e =
        address-there world (to, addr)
        (IsNodeThere-asked world reached own m.epoch m.known (IsNodeThere-leader world reached node is) to addr e)

    -- a member knows the address of its reporter
    knows-reporter : KnowsAddress world c own m (reporter c own m)
    knows-reporter = by (home_reporter own.id view) refl
      where
        in_region : (o : Option (ℕ × List Member)) (k : Member)
            → option_and_then (λ (pair : ℕ × List Member). reporter_of view pair.0) o ≡ Some k → IsGiven (place_in k.id view)
        in_region None k none = absurd (none-some k none)
        in_region (Some pair) k is_first = given-reporter view pair.0 k is_first

        by : (o : Option ℕ) → home_reporter own.id view ≡ o → KnowsAddress world c own m (option_map_or (λ to. to) o own.leader)
        by None e = knows-leader own.leader (eq-eqb own.leader own.leader refl)
        by (Some id) e =
            let home = option_map-some (λ (k : Member). k.id)
            (option_and_then (λ (pair : ℕ × List Member). reporter_of view pair.0) (holder own.id view.rolls)) id e in
            knows-shown id
            (subst (λ q. IsGiven (place_in q view)) (sym home.2) (in_region (holder own.id view.rolls) home.0 home.1))

-- ---- calls

module _ (world : World) (reached : IsReached world) (node : Node) (found : node_of world node.own.id ≡ Some node) where
  -- the node is a started one
  started : IsStarted world node
  started = reached.nodes node.own.id node found

  -- what a member has fits
  fits : (m : Membership) → node.state ≡ Some (Following m) → MemberFits world m
  fits m following = (is-up world node (Following m) started following).fits

  -- a joining node joins
  pub join-step : node.state ≡ Some Joining → IsStep world node Joining (join_step node.own) (effects_of_follower (join_plan node.own))
  join-step joining =
      lifted-step world reached node found Joining (join_step node.own) (IsQuiet-join world reached node started found)
      (effects_of_follower (join_plan node.own)) (join-square world (contents_of world) node.own (knows-led world reached node started)) joining

  -- a member wants to leave
  pub leave-step : (m : Membership) → node.state ≡ Some (Following m)
      → IsStep world node (Following m) (leave_step (contents_of world) node.own m)
      (effects_of_follower (leave_plan node.own (member_for (contents_of world) m)))
  leave-step m following =
      lifted-step world reached node found (Following m) (leave_step (contents_of world) node.own m)
      (IsQuiet-leave world reached node started m (fits m following))
      (effects_of_follower (leave_plan node.own (member_for (contents_of world) m)))
      (leave-square world (contents_of world) node.own m (knows-reporter world reached node started m)) following

  -- a member moves
  pub move-step : (at : Axes) → IsPoint at → (m : Membership) → node.state ≡ Some (Following m)
      → IsStep world node (Following m) (move_step (contents_of world) node.own at m)
      (effects_of_follower (move_plan node.own (member_for (contents_of world) m) at))
  move-step at point m following =
      lifted-step world reached node found (Following m) (move_step (contents_of world) node.own at m)
      (IsQuiet-move world reached node started m (fits m following) at point)
      (effects_of_follower (move_plan node.own (member_for (contents_of world) m) at))
      (move-square world (contents_of world) node.own m (knows-reporter world reached node started m) at) following

  -- a member hands on what is pending
  pub flush-step : (m : Membership) → node.state ≡ Some (Following m)
      → IsStep world node (Following m) (flush_step node.own m m.pending)
      (effects_of_follower (flush_plan node.own (member_for (contents_of world) m) m.pending))
  flush-step m following =
      lifted-step world reached node found (Following m) (flush_step node.own m m.pending)
      (IsQuiet-flush world reached node started m (fits m following) m.pending (fits m following).pending)
      (effects_of_follower (flush_plan node.own (member_for (contents_of world) m) m.pending))
      (flush-square world (contents_of world) node.own (knows-led world reached node started) m m.pending) following

  -- a joining node asks the leader for a snapshot
  pub ask_leader-step : node.state ≡ Some Joining
      → IsStep world node Joining (ask_leader_step node.own) (effects_of_follower (ask_leader_plan node.own))
  ask_leader-step joining =
      lifted-step world reached node found Joining (ask_leader_step node.own) (IsQuiet-ask_leader world reached node started found)
      (effects_of_follower (ask_leader_plan node.own))
      (ask_leader-square world (contents_of world) node.own (knows-led world reached node started)) joining

  -- a member asks another node for a snapshot
  pub ask-step : (to : ℕ) (m : Membership) → node.state ≡ Some (Following m)
      → IsStep world node (Following m) (ask_step (contents_of world) node.own to m)
      (effects_of_follower (ask_plan node.own (member_for (contents_of world) m) to))
  ask-step to m following =
      lifted-step world reached node found (Following m) (ask_step (contents_of world) node.own to m)
      (IsQuiet-ask world reached node started found m (fits m following) to)
      (effects_of_follower (ask_plan node.own (member_for (contents_of world) m) to))
      (ask-square world (contents_of world) node.own m to (knows-asked world reached node started m to)) following

  -- or for a slice
  pub need-step : (to region : ℕ) → IsRegion region → (m : Membership) → node.state ≡ Some (Following m)
      → IsStep world node (Following m) (need_step (contents_of world) node.own to region m)
      (effects_of_follower (need_plan node.own (member_for (contents_of world) m) to region))
  need-step to region allowed m following =
      lifted-step world reached node found (Following m) (need_step (contents_of world) node.own to region m)
      (IsQuiet-need world reached node started found m (fits m following) to region allowed)
      (effects_of_follower (need_plan node.own (member_for (contents_of world) m) to region))
      (need-square world (contents_of world) node.own m to (knows-asked world reached node started m to) region) following
