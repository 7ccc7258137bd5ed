-- What a node of a reached world decides on the bytes of a packet of the run is its step in names.
use Rattle.std.proofs.Common.{◌≡◌, ◌∙◌, ℕ, ◌+◌, ◌-◌, ◌≤◌, eqb, true, cond, is_some, length, List, Option, Some, None}
use Rattle.std.proofs.Common.{Result, Ok, refl, sym, ap, subst, arith}
use Rattle.std.specs.List.{list_all}
use Rattle.std.specs.Option.{option_map_or}
use Rattle.std.proofs.lemmas.Bool.{eq-eqb, eqb-false, eqb-true, leb-false, ltb-false}
use Rattle.cs_base.specs.Address.{Address}
use Rattle.cs_base.proofs.Elements.{All-weaker}
use Rattle.cs_core.specs.Node.{lists}
use Rattle.cs_core.specs.Snapshots.{knows}
use Rattle.cs_fields.specs.declared.fault.PacketFault.{PacketFault}
use Rattle.cs_group.specs.Group.{GroupState, IsGroup, is_among}
use Rattle.cs_group.specs.Rows.{regions}
use Rattle.cs_item.specs.SliceField.{IsSlice, slice_bytes}
use Rattle.cs_node.specs.Effects.{on_bytes}
use Rattle.cs_packet.specs.PacketField.{IsPacket, packet_bytes, packet_of}
use Rattle.cs_packet.specs.declared.own.Own.{Own}
use Rattle.cs_packet.specs.declared.packet.Packet.{Packet}
use Rattle.cs_packet.proofs.PacketLaws.{packet_only}
use Rattle.cs_projection.proofs.Taken.{takes}
use Rattle.cs_slicer.specs.Turn.{IsTurnOf}
use Rattle.cs_slicer.proofs.Summaries.{at_region-summaries_of, summary_in}
use Rattle.cs_tree.specs.Route.{Target, route}
use Rattle.cs_tree.specs.Seen.{IsSeen}
use Rattle.cs_tree.proofs.SeenTargets.{seen-route}
use Rattle.cs_machine.specs.Answers.{ForSlice, ForSnapshot}
use Rattle.cs_machine.specs.Contents.{Contents, contents_of, group_of, items, slice_at, turn_of, view_at}
use Rattle.cs_machine.specs.Machine.{deliver_step, piece_comes, slice_comes}
use Rattle.cs_machine.specs.Names.{Following, Joining, Leading, Left, Membership, Name, Node, Sent, State, World, node_of}
use Rattle.cs_machine.specs.Names.{Report, Piece, Need, Slice, Ask, Snap, Bye}
use Rattle.cs_machine.specs.Packets.{body_for, bytes_of, packet_for}
use Rattle.cs_machine.specs.Reached.{IsAsker, IsPieceOf, IsReached, IsSent, IsSliceOf, IsStarted, MemberFits, NameStands, StateFits}
use Rattle.cs_machine.specs.Snapshots.{known_from}
use Rattle.cs_machine.specs.Squares.{address_in}
use Rattle.cs_machine.specs.Values.{node_for}
use Rattle.cs_machine.proofs.AnswerSquares.{bye-square, wish-square}
use Rattle.cs_machine.proofs.CloseSquares.{AreStarted, back}
use Rattle.cs_machine.proofs.Follows.{Follows}
use Rattle.cs_machine.proofs.GainSquares.{gain-is, gain-stands}
use Rattle.cs_machine.proofs.Groups.{AreRegionsOf-known_by}
use Rattle.cs_machine.proofs.HeldFits.{few-held, listed}
use Rattle.cs_machine.proofs.HeldValues.{is_whole-for, there-for}
use Rattle.cs_machine.proofs.NextSteps.{Steps-turn}
use Rattle.cs_machine.proofs.PieceSquares.{FitsNext, RoutesToNodes, piece-square}
use Rattle.cs_machine.proofs.ProgressSquares.{Steps}
use Rattle.cs_machine.proofs.Projections.{knows-known}
use Rattle.cs_machine.proofs.ReachedGroups.{group_of-there}
use Rattle.cs_machine.proofs.ReachedSlices.{IsSlice-there, turn-there}
use Rattle.cs_machine.proofs.ReachedTargets.{IsNodeThere-seen}
use Rattle.cs_machine.proofs.SimpleSquares.{report-square, snapshot-square, untold-square}
use Rattle.cs_machine.proofs.SliceGains.{sliced-is, sliced-stands}
use Rattle.cs_machine.proofs.SliceSquares.{FitsSlice, slice-square}
use Rattle.cs_machine.proofs.SquareParts.{SquareAt, on_body}

-- the address of a node that is found
pub address-found : (world : World) (id : ℕ) (node : Node) → node_of world id ≡ Some node → address_in world id ≡ Some node.own.addr
address-found world id node found = ap (λ (o : Option Node). option_map_or (λ (n : Node). Some n.own.addr) o None) found

-- it is so in each later world
pub address-later : (world later : World) → Follows world later → (id : ℕ) (node : Node) → node_of world id ≡ Some node
    → address_in later id ≡ Some node.own.addr
address-later world later follows id node found =
    let now = follows.nodes id node found in
    address-found later id now.node now.found ∙ ap (λ own. Some own.addr) now.same

-- a region of the group is listed by what is known of it
pub view-lists : (c : Contents) (epoch : ℕ) (known : List ℕ) (region : ℕ) → is_among (regions (c.group epoch).rows) region ≡ true
    → lists (view_at c epoch known) region ≡ true
view-lists c epoch known region there =
    ap is_some (at_region-summaries_of region (c.group epoch).rows)
    ∙ ap (λ b. is_some (cond b (Some (summary_in (c.group epoch).rows region)) None)) there

module _ (world : World) (reached : IsReached world) (node : Node) (is : IsStarted world node) where
  -- who the node is, and the contents of the run
  abbrev own : Own
  own = node.own

  abbrev c : Contents
  c = contents_of world

  -- whom a piece is passed on to are nodes
  pub targets-started : (epoch : ℕ) (known : List ℕ) (region colour : ℕ)
      → AreStarted world (route own.id (view_at c epoch known).summaries (view_at c epoch known).rolls region colour)
  targets-started epoch known region colour =
      All-weaker (IsSeen (view_at c epoch known).summaries (view_at c epoch known).rolls)
      (λ (t : Target). address_in world t.0 ≡ Some t.1)
      (λ t seen. (let there = IsNodeThere-seen world reached epoch known t seen in
      address-found world t.0 there.node there.found ∙ ap (λ a. Some a) there.addr))
      (route own.id (view_at c epoch known).summaries (view_at c epoch known).rolls region colour)
      (seen-route (view_at c epoch known).summaries (view_at c epoch known).rolls own.id region colour)

  pub routes : (m : Membership) → RoutesToNodes world c own m
  routes m = record {
    now = targets-started m.epoch m.known;
    before = λ past is_past. targets-started (m.epoch - 1) past.known;
  }

  module _ (m : Membership) (fits : MemberFits world m) where
    -- the turn to the next epoch, which has begun, steps what the member knows
    steps-next : m.epoch + 1 ≤ length (items world) → Steps c own m
    steps-next so_far =
        let turn = turn-there world reached is.leader is.led (m.epoch + 1) (omega arith) so_far in
        let now = group_of-there world reached is.leader (m.epoch + 1) is.led so_far in
        Steps-turn c own m (subst (λ e. IsGroup (group_of world e)) (back m.epoch) turn.before)
        (subst IsGroup (sym turn.group) now.1.group)
        (subst (λ e. IsTurnOf (group_of world e) (turn_of world (m.epoch + 1))) (back m.epoch) turn.of) turn.group fits.known.there

    -- and its slices are well formed
    slices-next : m.epoch + 1 ≤ length (items world) → (o : ℕ) → is_among (regions (group_of world m.epoch).rows) o ≡ true
        → IsSlice (slice_at c (m.epoch + 1) o)
    slices-next so_far o there =
        IsSlice-there world reached is.leader is.led (m.epoch + 1) o (omega arith) so_far
        (subst (λ e. is_among (regions (group_of world e).rows) o ≡ true) (sym (back m.epoch)) there)

    -- a piece of the next epoch fits
    fits-next : (region colour : ℕ) → IsPieceOf world (m.epoch + 1) region colour → FitsNext c own m (m.epoch + 1) region colour
    fits-next region colour piece =
        let few = few-held world m.epoch m.held fits.held in
        let of_group = listed world m region piece.there in
        let slices = slices-next piece.begun in
        record {
          listed = view-lists c m.epoch m.known region of_group;
          there = there-for (λ o. slice_bytes (slice_at c (m.epoch + 1) o)) region colour m.held;
          taken = λ fresh. gain-is c m few fits.held.there region colour of_group piece.below fresh slices;
          stands = λ fresh. gain-stands c m few fits.held.there region colour of_group piece.below fresh slices;
          steps = steps-next piece.begun;
        }

    -- a piece comes to a member
    member-piece : (from given region colour : ℕ) → IsPieceOf world given region colour
        → SquareAt world c own (Following m) (piece_comes c own (Following m) given region colour)
        (on_body (node_for c own (Following m)) from (body_for c (Piece given region colour)))
    member-piece from given region colour piece =
        piece-square world c own m (routes m) from given region colour
        (λ same past is_past. view-lists c (m.epoch - 1) past.known region
        (subst (λ e. is_among (regions (group_of world (e - 1)).rows) region ≡ true) (eqb-true given m.epoch same) piece.there))
        (λ not_before differs not_after.
        let least = ltb-false given m.epoch not_before in
        let most = ltb-false (m.epoch + 1) given not_after in
        let other = eqb-false given m.epoch differs in
        let next : given ≡ m.epoch + 1 = omega (arith, least, most, other) in
        subst (λ g. FitsNext c own m g region colour) (sym next)
        (fits-next region colour (subst (λ e. IsPieceOf world e region colour) next piece)))

    -- a slice of the next epoch fits
    fits-slice : (region : ℕ) → IsSliceOf world (m.epoch + 1) region → FitsSlice c own m (m.epoch + 1) region
    fits-slice region slice =
        let few = few-held world m.epoch m.held fits.held in
        let of_group = listed world m region slice.there in
        record {
          listed = view-lists c m.epoch m.known region of_group;
          whole = is_whole-for (λ o. slice_bytes (slice_at c (m.epoch + 1) o)) region m.held;
          taken = λ partly. sliced-is c m few fits.held.there region of_group partly;
          stands = sliced-stands c m few fits.held.there region of_group (slices-next slice.begun);
          steps = steps-next slice.begun;
        }

    -- a slice comes to a member
    member-slice : (from given region : ℕ) → IsSliceOf world given region
        → SquareAt world c own (Following m) (slice_comes c own (Following m) given region)
        (on_body (node_for c own (Following m)) from (body_for c (Slice given region)))
    member-slice from given region slice =
        slice-square world c own m (targets-started m.epoch m.known) from given region
        (λ above not_after.
        let least = leb-false given m.epoch above in
        let most = ltb-false (m.epoch + 1) given not_after in
        let next : given ≡ m.epoch + 1 = omega (arith, least, most) in
        subst (λ g. FitsSlice c own m g region) (sym next)
        (fits-slice region (subst (λ e. IsSliceOf world e region) next slice)))

  -- a piece comes to a node in a state
  state-piece : (state : State) → StateFits world own state → (from given region colour : ℕ) → IsPieceOf world given region colour
      → SquareAt world c own state (piece_comes c own state given region colour)
      (on_body (node_for c own state) from (body_for c (Piece given region colour)))
  state-piece Joining fits from given region colour piece = record { note = refl; entry = refl; after = refl; sends = tt }
  state-piece (Following m) fits from given region colour piece = member-piece m fits from given region colour piece
  state-piece (Leading epoch pending) fits from given region colour piece = untold-square world c own epoch pending given
  state-piece Left fits from given region colour piece = record { note = refl; entry = refl; after = refl; sends = tt }

  -- a slice comes to a node in a state
  state-slice : (state : State) → StateFits world own state → (from given region : ℕ) → IsSliceOf world given region
      → SquareAt world c own state (slice_comes c own state given region) (on_body (node_for c own state) from (body_for c (Slice given region)))
  state-slice Joining fits from given region slice = record { note = refl; entry = refl; after = refl; sends = tt }
  state-slice (Following m) fits from given region slice = member-slice m fits from given region slice
  state-slice (Leading epoch pending) fits from given region slice = untold-square world c own epoch pending given
  state-slice Left fits from given region slice = record { note = refl; entry = refl; after = refl; sends = tt }

  -- who asks is at the address that it gives
  asker-found : (from : ℕ) (addr : Address) → IsAsker world from addr → address_in world from ≡ Some addr
  asker-found from addr asks = address-found world from asks.node asks.found ∙ ap (λ a. Some a) asks.same

  module _ (state : State) (fits : StateFits world own state) where
    -- the square of a delivery, by what the packet says
    pub deliver-square : (from : ℕ) (name : Name) → NameStands world from own.id name
        → SquareAt world c own state (deliver_step c own state from name) (on_body (node_for c own state) from (body_for c name))
    deliver-square from (Report changes) stands = report-square world c own state from changes
    deliver-square from (Piece epoch region colour) stands = state-piece state fits from epoch region colour stands
    deliver-square from (Need addr mode epoch region) stands =
        wish-square world reached node is from addr (asker-found from addr stands) state fits (ForSlice mode epoch region)
    deliver-square from (Slice epoch region) stands = state-slice state fits from epoch region stands
    deliver-square from (Ask addr mode least) stands =
        wish-square world reached node is from addr (asker-found from addr stands) state fits (ForSnapshot mode least)
    deliver-square from (Snap epoch given) stands =
        let group : GroupState = group_of world epoch in
        let is_group = (group_of-there world reached is.leader epoch is.led stands.begun).1.group in
        snapshot-square world c own epoch from given (known_from c own epoch given)
        (takes group epoch given own.id own.mode is_group stands.regions.there stands.there) state knows-of
      where
        knows-of : (m : Membership) → state ≡ Following m
            → knows (view_at c m.epoch m.known).rolls (view_at c epoch (known_from c own epoch given)).rolls
            ≡ list_all (is_among m.known) (known_from c own epoch given)
        knows-of m same =
            let member : MemberFits world m = subst (StateFits world own) same fits in
            knows-known (group_of world m.epoch) (group_of world epoch) m.known (known_from c own epoch given) member.known
            (AreRegionsOf-known_by (group_of world epoch) own.id own.mode given stands.regions)
    deliver-square from (Bye epoch) stands = bye-square world c own state from epoch

    -- bytes of a packet for the node are taken as what it says
    on-packet : (packet : Packet) → packet.to ≡ own.id → IsPacket packet
        → on_bytes (node_for c own state) (packet_bytes packet) ≡ on_body (node_for c own state) packet.from packet.body
    on-packet packet mine allowed = go state
      where
        read : packet_of (packet_bytes packet) ≡ (let r : Result Packet PacketFault = Ok packet in r)
        read = packet_only (packet_bytes packet) packet allowed refl

        is_mine : eqb packet.to own.id ≡ true
        is_mine = eq-eqb packet.to own.id mine

        go : (s : State) → on_bytes (node_for c own s) (packet_bytes packet) ≡ on_body (node_for c own s) packet.from packet.body
        go Joining = rw (read, is_mine) refl
        go (Following m) = rw (read, is_mine) refl
        go (Leading epoch pending) = rw (read, is_mine) refl
        go Left = refl

    -- so it is with the bytes of what was sent to it
    pub run-square : (sent : Sent) → IsSent world sent → sent.to ≡ own.id
        → SquareAt world c own state (deliver_step c own state sent.from sent.name) (on_bytes (node_for c own state) (bytes_of world sent))
    run-square sent is_sent mine =
        subst (SquareAt world c own state (deliver_step c own state sent.from sent.name))
        (sym (on-packet (packet_for c sent) mine is_sent.packet))
        (deliver-square sent.from sent.name (subst (λ id. NameStands world sent.from id sent.name) mine is_sent.name))
