-- What a view shows of a group are members of it. So whom a piece goes to and whom a change is reported to are nodes of
-- the world, and what is sent to them has a receiver.
use Rattle.std.proofs.Common.{◌≡◌, ◌==◌, ℕ, Bool, true, false, cond, List, [], ◌∷◌, Option, Some, None, Contains, refl, sym, ap, subst, ◌∙◌}
use Rattle.std.proofs.Common.{inl, inr}
use Rattle.std.specs.List.{AllByRecursion, cons_option, filter, filter_map, flat_map, slice_get}
use Rattle.std.specs.Option.{option_and_then, option_map, option_map_or, option_or}
use Rattle.std.proofs.lemmas.Bool.{eqb-true}
use Rattle.std.proofs.lemmas.List.Elements.{All-contains, All-from_recursion}
use Rattle.std.proofs.lemmas.Option.{none-some, same_Some}
use Rattle.cs_base.specs.Address.{Address}
use Rattle.cs_base.specs.Limits.{most_globals}
use Rattle.cs_base.specs.Ranges.{IsId}
use Rattle.cs_base.specs.declared.member.Member.{Member}
use Rattle.cs_base.proofs.Ascending.{All-of_filter}
use Rattle.cs_base.proofs.Elements.{All-append, All-changed, All-find, All-get, All-map, All-take}
use Rattle.cs_core.specs.Addresses.{home_reporter, reporter_of, reports_to}
use Rattle.cs_core.specs.Asking.{asked_address}
use Rattle.cs_group.specs.Group.{GroupState, is_among}
use Rattle.cs_group.specs.Rows.{members_in, regions}
use Rattle.cs_group.specs.declared.row.Row.{Row}
use Rattle.cs_group.proofs.Lists.{ByRecursion-map}
use Rattle.cs_item.specs.declared.picture.Picture.{Picture}
use Rattle.cs_packet.specs.BodyField.{IsBody}
use Rattle.cs_packet.specs.declared.own.Own.{Own}
use Rattle.cs_roll.specs.Roll.{member_of}
use Rattle.cs_roll.specs.Sight.{at_region}
use Rattle.cs_roll.specs.Summary.{RegionSummary}
use Rattle.cs_slicer.specs.Projection.{projection}
use Rattle.cs_slicer.proofs.Beside.{beside}
use Rattle.cs_slicer.proofs.Summaries.{summary_in}
use Rattle.cs_tree.specs.Route.{Target}
use Rattle.cs_tree.specs.Seen.{IsSeen}
use Rattle.cs_tree.proofs.Seen.{All-at_region}
use Rattle.cs_view.specs.Place.{member_at, place_in, place_in_globals, place_in_rolls}
use Rattle.cs_view.specs.View.{holder}
use Rattle.cs_view.proofs.Placed.{is_there, place-id}
use Rattle.cs_machine.specs.Contents.{contents_of, group_of, view_at}
use Rattle.cs_machine.specs.Outcome.{sent_by}
use Rattle.cs_machine.specs.Names.{Name, Piece, Node, Sent, World, node_of}
use Rattle.cs_machine.specs.Packets.{body_for}
use Rattle.cs_machine.specs.Reached.{IsPieceOf, IsReached, IsSent, IsStarted, NameStands}
use Rattle.cs_machine.specs.Step.{piece_sends}
use Rattle.cs_machine.proofs.Groups.{AllRows}
use Rattle.cs_machine.proofs.Nodes.{id-found, option_map-some}
use Rattle.cs_machine.proofs.ReachedGroups.{AreNodes-group, IsNodeAt}

-- what holds of all that each of some elements gives holds of what they give one behind the other
pub All-flat_map-where : {S T : Type 0} (P : T → Type 0) (Q : S → Type 0) (f : S → List T) → ((x : S) → Q x → AllByRecursion P (f x))
    → (xs : List S) → AllByRecursion Q xs → AllByRecursion P (flat_map f xs)
All-flat_map-where P Q f each [] all = tt
All-flat_map-where P Q f each (x ∷ xs) all =
    All-append P (f x) (flat_map f xs) (each x all.0) (All-flat_map-where P Q f each xs all.1)

-- ---- what a view shows

module _ (Q : Member → Type 0) (g : GroupState) (all : AllRows Q g.rows) where
  -- what holds of each row's member holds of the members of a region
  All-members_in : (region : ℕ) → AllByRecursion Q (members_in region g.rows)
  All-members_in region =
      let mine : Row → Type 0 = λ r. Q r.member in
      let here = λ (r : Row). r.region == region in
      All-changed mine Q (λ (r : Row). r.member) (λ r holds. holds) (filter here g.rows) (All-of_filter mine here g.rows all)

  -- so it holds of the globals that a view shows
  pub All-globals : (epoch : ℕ) (known : List ℕ)
      → AllByRecursion (λ (pair : ℕ × RegionSummary). AllByRecursion Q pair.1.globals) (projection epoch known g).summaries
  All-globals epoch known =
      All-map (λ (pair : ℕ × RegionSummary). AllByRecursion Q pair.1.globals) (beside (summary_in g.rows))
      (λ region. All-take Q most_globals (members_in region g.rows) (All-members_in region)) (regions g.rows)

  -- and of those of its rolls
  pub All-rolls : (epoch : ℕ) (known : List ℕ)
      → AllByRecursion (λ (pair : ℕ × List Member). AllByRecursion Q pair.1) (projection epoch known g).rolls
  All-rolls epoch known =
      All-map (λ (pair : ℕ × List Member). AllByRecursion Q pair.1) (beside (λ region. members_in region g.rows))
      All-members_in (filter (λ region. is_among known region) (regions g.rows))

  -- it holds of one of some members
  holds-one : (ms : List Member) (m : Member) → AllByRecursion Q ms → Contains ms m → Q m
  holds-one ms m each one = All-contains Q ms m (All-from_recursion Q ms each) one

  -- so it holds of the member at which a target is seen
  holds-seen : (epoch : ℕ) (known : List ℕ) (target : Target)
      → (seen : IsSeen (projection epoch known g).summaries (projection epoch known g).rolls target) → Q seen.member
  holds-seen epoch known target seen =
      let view : Picture = projection epoch known g in
      let of_globals : RegionSummary → Type 0 = λ s. AllByRecursion Q s.globals in
      elim seen.seen [
        | inl global ↦ holds-one global.summary.globals seen.member
            (All-at_region of_globals global.region view.summaries global.summary (All-globals epoch known) global.listed) global.global
        | inr there ↦ holds-one there.roll seen.member
            (All-at_region (AllByRecursion Q) there.region view.rolls there.roll (All-rolls epoch known) there.known) there.stands
      ]

  -- and of the reporter of a region
  holds-reporter : (epoch : ℕ) (known : List ℕ) (region : ℕ) (m : Member) → reporter_of (projection epoch known g) region ≡ Some m → Q m
  holds-reporter epoch known region m is = by (at_region region (projection epoch known g).summaries) refl is
    where
      by : (o : Option RegionSummary) → at_region region (projection epoch known g).summaries ≡ o
          → (elim o as (λ _. Option Member) [ None ↦ None | Some s ↦ slice_get s.globals 0 ]) ≡ Some m → Q m
      by None e none = absurd (none-some m none)
      by (Some s) e first =
          let of_globals : RegionSummary → Type 0 = λ t. AllByRecursion Q t.globals in
          All-get Q s.globals 0 m
          (All-at_region of_globals region (projection epoch known g).summaries s (All-globals epoch known) e) first

-- ---- what stands in a place of a view

-- the first of the values that some elements give is given by one of them
first-of : {X Y : Type 0} (P : X → Type 0) (Q : Y → Type 0) (f : X → Option Y) → ((x : X) (y : Y) → P x → f x ≡ Some y → Q y)
    → (xs : List X) (y : Y) → AllByRecursion P xs → slice_get (filter_map f xs) 0 ≡ Some y → Q y
first-of P Q f each [] y all first = absurd (none-some y first)
first-of {X} {Y} P Q f each (x ∷ xs) y all first = go (f x) refl first (λ later. first-of P Q f each xs y all.1 later)
  where
    go : (o : Option Y) → f x ≡ o → slice_get (cons_option o (filter_map f xs)) 0 ≡ Some y
        → (slice_get (filter_map f xs) 0 ≡ Some y → Q y) → Q y
    go None e later rest = rest later
    go (Some z) e here rest = subst Q (same_Some z y here) (each x z all.0 e)

module _ (Q : Member → Type 0) (id : ℕ) where
  -- what holds of each of some members holds of the one with the id
  holds-at : (region : ℕ) (members : List Member) (place : ℕ × Member) → AllByRecursion Q members
      → member_at id (region, members) ≡ Some place → Q place.1
  holds-at region members place all at =
      let found = option_map-some (λ (m : Member). (region, m)) (member_of id members) place at in
      subst Q (ap (λ (p : ℕ × Member). p.1) (sym found.2))
      (All-find Q (λ (m : Member). m.id == id) members found.0 all found.1)

  -- so what holds of all that a view shows holds of what stands in a place
  holds-place : (view : Picture) (place : ℕ × Member) → AllByRecursion (λ (pair : ℕ × List Member). AllByRecursion Q pair.1) view.rolls
      → AllByRecursion (λ (pair : ℕ × RegionSummary). AllByRecursion Q pair.1.globals) view.summaries
      → place_in id view ≡ Some place → Q place.1
  holds-place view place rolls globals is = go (place_in_rolls id view.rolls) refl is
    where
      go : (o : Option (ℕ × Member)) → place_in_rolls id view.rolls ≡ o → option_or o (place_in_globals id view.summaries) ≡ Some place
          → Q place.1
      go None none among =
          first-of (λ (pair : ℕ × RegionSummary). AllByRecursion Q pair.1.globals) (λ (p : ℕ × Member). Q p.1)
          (λ (pair : ℕ × RegionSummary). member_at id (pair.0, pair.1.globals))
          (λ pair p all at. holds-at pair.0 pair.1.globals p all at) view.summaries place globals among
      go (Some p) known here =
          first-of (λ (pair : ℕ × List Member). AllByRecursion Q pair.1) (λ (p : ℕ × Member). Q p.1) (member_at id)
          (λ pair p all at. holds-at pair.0 pair.1 p all at) view.rolls place rolls (known ∙ here)

-- ---- targets

-- the target is a node of the world, with its address
pub record IsNodeThere (world : World) (target : Target) : Type 0 where
  pub node : Node
  pub found : node_of world target.0 ≡ Some node
  pub addr : node.own.addr ≡ target.1

module _ (world : World) (reached : IsReached world) where
  -- so is each target that is seen in a view
  pub IsNodeThere-seen : (epoch : ℕ) (known : List ℕ) (target : Target)
      → (let view : Picture = view_at (contents_of world) epoch known in IsSeen view.summaries view.rolls target) → IsNodeThere world target
  IsNodeThere-seen epoch known target seen =
      let is = holds-seen (IsNodeAt world) (group_of world epoch) (AreNodes-group world reached epoch) epoch known target seen in
      let to : seen.member.id ≡ target.0 = ap (λ (t : Target). t.0) (sym seen.is) in
      record {
        node = is.node;
        found = subst (λ id. node_of world id ≡ Some is.node) to is.found;
        addr = is.addr ∙ ap (λ (t : Target). t.1) (sym seen.is);
      }

  -- and so is what stands in a place of a view
  pub IsNodeThere-placed : (epoch : ℕ) (known : List ℕ) (id : ℕ) (place : ℕ × Member)
      → place_in id (view_at (contents_of world) epoch known) ≡ Some place → IsNodeThere world (id, place.1.addr)
  IsNodeThere-placed epoch known id place shown =
      let view : Picture = view_at (contents_of world) epoch known in
      let nodes = AreNodes-group world reached epoch in
      let at = holds-place (IsNodeAt world) id view place
      (All-rolls (IsNodeAt world) (group_of world epoch) nodes epoch known)
      (All-globals (IsNodeAt world) (group_of world epoch) nodes epoch known) shown in
      let same : place.1.id ≡ id = is_there (λ (p : ℕ × Member). p.1.id ≡ id) (place_in id view) place (place-id id view) shown in
      record { node = at.node; found = subst (λ q. node_of world q ≡ Some at.node) same at.found; addr = at.addr }

  -- the leader is one, by the id and at the address that each node knows
  pub IsNodeThere-leader : (node : Node) → IsStarted world node → IsNodeThere world (node.own.leader, node.own.leader_addr)
  IsNodeThere-leader node is = record {
    node = is.leader;
    found = subst (λ q. node_of world q ≡ Some is.leader) is.leader_id (reached.found is.leader is.led);
    addr = is.leader_addr;
  }

  -- so whom a member may ask is one
  pub IsNodeThere-asked : (own : Own) (epoch : ℕ) (known : List ℕ) → IsNodeThere world (own.leader, own.leader_addr) → (to : ℕ) (addr : Address)
      → asked_address own (view_at (contents_of world) epoch known) to ≡ Some addr → IsNodeThere world (to, addr)
  IsNodeThere-asked own epoch known leader to addr is = go (to == own.id) (to == own.leader) refl is
    where
      addr_of : ℕ × Member → Address
      addr_of place = place.1.addr

      found : Option (ℕ × Member)
      found = place_in to (view_at (contents_of world) epoch known)

      go : (itself leads : Bool) → (to == own.leader) ≡ leads
          → cond itself None (cond leads (Some own.leader_addr) (option_map addr_of found)) ≡ Some addr → IsNodeThere world (to, addr)
      go true leads e none = absurd (none-some addr none)
      go false true e at = record {
        node = leader.node;
        found = subst (λ q. node_of world q ≡ Some leader.node) (sym (eqb-true to own.leader e)) leader.found;
        addr = leader.addr ∙ same_Some own.leader_addr addr at;
      }
      go false false e at =
          let placed = option_map-some addr_of found addr at in
          let there = IsNodeThere-placed epoch known to placed.0 placed.1 in
          record { node = there.node; found = there.found; addr = there.addr ∙ sym placed.2 }

  -- the id of a node is allowed
  pub IsId-node : (id : ℕ) (node : Node) → node_of world id ≡ Some node → IsId id
  IsId-node id node found = subst IsId (id-found world id node found) (reached.nodes id node found).allowed.id

  -- what goes to a node is sent, where its name stands and its body is allowed
  pub IsSent-to : (from id : ℕ) (name : Name) (node : Node) → IsId from → node_of world id ≡ Some node → NameStands world from id name
      → IsBody (body_for (contents_of world) name) → IsSent world (record { from = from; to = id; name = name })
  IsSent-to from id name node from_allowed found stands body = record {
    node = node;
    receiver = found;
    name = stands;
    packet = record { from = from_allowed; to = IsId-node id node found; body = body };
  }

  -- so it is with each of what a node sends
  abbrev pub IsSend : ℕ → ℕ × Name → Type 0
  IsSend from send = IsSent world (record { from = from; to = send.0; name = send.1 })

  pub AreSent-sends : (from : ℕ) (sends : List (ℕ × Name)) → AllByRecursion (IsSend from) sends → AllByRecursion (IsSent world) (sent_by from sends)
  AreSent-sends from sends all =
      ByRecursion-map (λ (send : ℕ × Name). (let s : Sent = record { from = from; to = send.0; name = send.1 } in s)) (IsSent world) sends all

  -- and with the pieces that go to nodes
  pub AreSends-pieces : (from epoch region colour : ℕ) (targets : List Target) → IsId from → IsPieceOf world epoch region colour
      → IsBody (body_for (contents_of world) (Piece epoch region colour)) → AllByRecursion (IsNodeThere world) targets
      → AllByRecursion (IsSend from) (piece_sends epoch region colour targets)
  AreSends-pieces from epoch region colour [] allowed is body there = tt
  AreSends-pieces from epoch region colour (target ∷ targets) allowed is body there = (
    IsSent-to from target.0 (Piece epoch region colour) there.0.node allowed there.0.found is body,
    AreSends-pieces from epoch region colour targets allowed is body there.1,
  )

  -- a node of the world has the id
  abbrev pub IsThere : ℕ → Type 0
  IsThere id = (node : Node) × (node_of world id ≡ Some node)

  -- whom a member reports to is a node, where the leader is
  pub reporter-there : (own : Own) (epoch : ℕ) (known : List ℕ) → IsThere own.leader
      → IsThere (reports_to own (view_at (contents_of world) epoch known))
  reporter-there own epoch known leader = by (home_reporter own.id view) refl
    where
      view : Picture
      view = view_at (contents_of world) epoch known

      in_region : (o : Option (ℕ × List Member)) (m : Member) → option_and_then (λ (pair : ℕ × List Member). reporter_of view pair.0) o ≡ Some m
          → IsNodeAt world m
      in_region None m none = absurd (none-some m none)
      in_region (Some pair) m is =
          holds-reporter (IsNodeAt world) (group_of world epoch) (AreNodes-group world reached epoch) epoch known pair.0 m is

      by : (o : Option ℕ) → home_reporter own.id view ≡ o → IsThere (option_map_or (λ reporter. reporter) o own.leader)
      by None e = leader
      by (Some id) e =
          let home = option_map-some (λ (m : Member). m.id)
          (option_and_then (λ (pair : ℕ × List Member). reporter_of view pair.0) (holder own.id view.rolls)) id e in
          let is = in_region (holder own.id view.rolls) home.0 home.1 in
          (is.node, subst (λ q. node_of world q ≡ Some is.node) (sym home.2) is.found)
