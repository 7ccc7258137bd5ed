-- A close keeps what every reached world has: whom it lets in are nodes, each gets the picture of its region, and the
-- pieces start at nodes.
use Rattle.std.proofs.Common.{◌≡◌, ◌≢◌, ℕ, ◌+◌, ◌-◌, ◌≤◌, ◌<◌, ◌==◌, true, List, [], ◌∷◌, ◌++◌, length, map, take, drop, Option, Some, None, refl}
use Rattle.std.proofs.Common.{sym, ap, ◌∙◌, subst, arith, length-append, length-take}
use Rattle.std.specs.List.{AllByRecursion, flat_map, range_with_len}
use Rattle.std.specs.Option.{unwrap_or}
use Rattle.std.proofs.lemmas.Bool.{cond_both, eqb-false}
use Rattle.std.proofs.lemmas.Option.{same_Some}
use Rattle.cs_base.specs.Limits.{colours, last_number, most_changes}
use Rattle.cs_base.specs.Ranges.{IsChange}
use Rattle.cs_base.specs.declared.change.Change.{Change}
use Rattle.cs_base.specs.declared.change.Mode.TheVariants.{Partial}
use Rattle.cs_base.specs.declared.member.Member.{Member}
use Rattle.cs_base.proofs.Elements.{All-append, All-drop, All-take, All-weaker}
use Rattle.cs_fields.specs.Changes.{IsChanges}
use Rattle.cs_fields.specs.Fields.{IsLaterEpoch}
use Rattle.cs_group.specs.declared.next.Turn.{Turn}
use Rattle.cs_group.specs.Group.{GroupState, IsGroup, is_among}
use Rattle.cs_group.specs.History.{group_at}
use Rattle.cs_group.specs.Judging.{accepted}
use Rattle.cs_group.specs.Next.{next_turn}
use Rattle.cs_group.specs.Place.{region_sums}
use Rattle.cs_group.specs.Rows.{has_member, regions}
use Rattle.cs_group.specs.Taking.{FitsRow}
use Rattle.cs_group.proofs.Bounded.{group_at-turn}
use Rattle.cs_item.specs.declared.picture.Picture.{Picture}
use Rattle.cs_lead.specs.Closing.{begins_anew}
use Rattle.cs_lead.proofs.Bases.{IsEntry-base}
use Rattle.cs_node.specs.declared.note.Note.TheVariants as notes
use Rattle.cs_packet.specs.EntryField.{IsEntry}
use Rattle.cs_packet.specs.declared.entry.Entry.TheVariants as logged
use Rattle.cs_packet.specs.Own.{member_of_own}
use Rattle.cs_pending.proofs.Offers.{IsPending-take}
use Rattle.cs_pending.proofs.Reportable.{reportable-drop}
use Rattle.cs_slicer.specs.Joiners.{joiners}
use Rattle.cs_slicer.specs.Projection.{known_by}
use Rattle.cs_slicer.specs.Turn.{IsTurnOf}
use Rattle.cs_slicer.proofs.LetIn.{AreMembersOf-joiners}
use Rattle.cs_slicer.proofs.Turns.{All-accepted, IsTurnOf-next}
use Rattle.cs_projection.proofs.Pictures.{IsPicture-projection}
use Rattle.cs_tree.specs.Route.{Target}
use Rattle.cs_tree.specs.Seen.{IsSeen}
use Rattle.cs_tree.specs.Start.{start}
use Rattle.cs_tree.proofs.SeenTargets.{seen-start}
use Rattle.cs_machine.specs.Answers.{has_node}
use Rattle.cs_machine.specs.Closing.{close_step, region_sends, snapshot_for, start_sends, turn_step, whole_view}
use Rattle.cs_machine.specs.Contents.{contents_of, group_led_by, group_of, items, no_group}
use Rattle.cs_machine.specs.Entries.{Entry}
use Rattle.cs_machine.specs.Entries as entries
use Rattle.cs_machine.specs.Happens.{close_as, close_at}
use Rattle.cs_machine.specs.Outcome.{after_step, sent_by, with_node}
use Rattle.cs_machine.specs.Names.{Item, Name, State, Joining, Following, Leading, Left, Node, World, leader_of, node_of}
use Rattle.cs_machine.specs.Reached.{AreAsked, AreRegionsOf, IsAsked, IsGroupOf, IsHistory, IsNodeMember, IsPieceOf, IsReached, IsSent, LeaderFits}
use Rattle.cs_machine.specs.Reached.{CanWait, IsStarted, IsUp}
use Rattle.cs_machine.specs.Step.{Step, quiet}
use Rattle.cs_machine.specs.Values.{item_for}
use Rattle.cs_machine.proofs.Commits.{Appends-step, Follows-changed, group_of-commit, items-leader}
use Rattle.cs_machine.proofs.Follows.{CanWait-later, Follows, is-up}
use Rattle.cs_machine.proofs.Groups.{AreRegionsOf-known_by, AreRegionsOf-regions, IsGroupOf-turn, IsHistory-turn, has_node-member, turn-made}
use Rattle.cs_machine.proofs.ReachedGroups.{AreNodes-joiners, FitsRow-asked, IsChange-asked, group_of-there}
use Rattle.cs_machine.proofs.ReachedPieces.{colours-below}
use Rattle.cs_machine.proofs.ReachedSlices.{IsBody-piece}
use Rattle.cs_machine.proofs.Lasts.{resumed_by-append}
use Rattle.cs_machine.proofs.ReachedChanges.{HasState, Reaches, Reaches-same, StepFits, WriteFits, bare-keeps, commit-keeps, unless_down-keeps}
use Rattle.cs_machine.proofs.ReachedSteps.{IsQuiet-stays, StepFits-quiet}
use Rattle.cs_machine.proofs.Rises.{IsAtLeast-restored, RisesTo, restored_in}
use Rattle.cs_machine.proofs.ReachedTargets.{All-flat_map-where, AreSends-pieces, AreSent-sends, IsNodeThere, IsNodeThere-seen, IsSend, IsSent-to}

module _ (world : World) (node : Node) (epoch : ℕ) (pending : List Change) (reached : IsReached world)
    (leads : leader_of world ≡ Some node) (leading : node.state ≡ Some (Leading epoch pending)) (unspent : epoch ≢ last_number) where
  -- the leader is found, and it is up
  found : node_of world node.own.id ≡ Some node
  found = reached.found node leads

  is : IsStarted world node
  is = reached.nodes node.own.id node found

  up : IsUp world node (Leading epoch pending)
  up = is-up world node (Leading epoch pending) is leading

  -- its state fits
  fits : LeaderFits world node.own epoch pending
  fits = up.fits

  -- the leader as a member, the group that judges, and the changes that it judges
  abbrev me : Member
  me = member_of_own node.own

  abbrev pub group : GroupState
  group = group_of world epoch

  abbrev pub batch : List Change
  batch = take most_changes pending

  -- they are under way
  batch-asked : AreAsked world batch
  batch-asked = All-take (IsAsked world) most_changes pending fits.waiting.asked

  -- so they fit rows
  batch-fits : AllByRecursion FitsRow batch
  batch-fits = All-weaker (IsAsked world) FitsRow (FitsRow-asked world reached) batch batch-asked

  -- the group is that of all items so far
  there : (group_at me (items world) epoch ≡ Some group) × IsGroupOf me group
  there = (let last = fits.last in group_of-there world reached node epoch leads (omega (arith, last)))

  last-there : group_at me (items world) (length (items world)) ≡ Some group
  last-there = subst (λ n. group_at me (items world) n ≡ Some group) fits.last there.0

  module _ (turn : Turn) (next : next_turn group batch ≡ Some turn) where
    -- the entry that closes the epoch
    abbrev item : Entry
    item = entries.Item (epoch + 1) (accepted turn.verdicts) (begins_anew epoch)

    -- what is pending then
    abbrev left : List Change
    left = drop most_changes pending

    -- the step that closes the epoch, with these packets
    abbrev pub closed : List (ℕ × Name) → Step
    closed sends = record {
      state = Leading (epoch + 1) left;
      entry = Some item;
      note = notes.Closed (epoch + 1) turn.verdicts;
      sends = sends;
    }

    -- the world after it, without packets
    abbrev pub bare : World
    bare = with_node node.own.id (after_step (closed [])) world

    -- the batch is of distinct members, so the turn is one of the group
    of : IsTurnOf group turn
    of =
        let front = IsPending-take most_changes pending fits.waiting.reportable.pending in
        IsTurnOf-next group batch turn front.distinct (omega (arith, length-take most_changes pending)) next

    -- the item is what was accepted
    pub item-same : turn.item ≡ accepted turn.verdicts
    item-same = (let made = turn-made group batch turn next in made.item ∙ ap accepted (sym made.verdicts))

    -- it is under way
    pub item-asked : AreAsked world turn.item
    item-asked =
        subst (AreAsked world) (sym (turn-made group batch turn next).item)
        (All-accepted (region_sums group.rows) (IsAsked world) batch group batch-asked)

    -- its changes are few and about distinct members
    item-changes : IsChanges 0 turn.item
    item-changes = record {
      enough = omega arith;
      few = of.few;
      allowed = All-weaker (IsAsked world) IsChange (IsChange-asked world reached) turn.item item-asked;
      distinct = of.distinct;
    }

    -- it is the next one
    pub items-bare : items bare ≡ items world ++ accepted turn.verdicts ∷ []
    items-bare = items-leader world node (closed []) node leads refl

    -- and what there was stays
    follows : Follows world bare
    follows = Follows-changed world node.own.id (after_step (closed [])) (item ∷ []) (Appends-step (closed []))

    -- so there is one more of them
    one_more : length (items bare) ≡ epoch + 1
    one_more = (let last = fits.last in omega (arith, ap length items-bare, length-append (items world) (accepted turn.verdicts ∷ [])))

    -- the group of the turn is one of the same leader
    IsGroupOf-next : IsGroupOf me turn.group
    IsGroupOf-next = IsGroupOf-turn me group batch turn batch-fits there.1 next

    -- it isn't beyond the last epoch
    later_epoch : IsLaterEpoch (epoch + 1)
    later_epoch = (let last = fits.last in (omega arith, omega (arith, last, unspent, reached.epochs)))

    -- so the groups stay groups
    history : IsHistory me (items world ++ accepted turn.verdicts ∷ [])
    history =
        subst (λ (item : Item). IsHistory me (items world ++ item ∷ [])) item-same
        (IsHistory-turn me (items world) batch group turn (reached.history node leads) last-there next IsGroupOf-next)

    -- the new group is that of the turn
    pub new_group : group_of bare (epoch + 1) ≡ turn.group
    new_group =
        let at : group_at me (items bare) (epoch + 1) ≡ Some turn.group =
        ap (λ given. group_at me given (epoch + 1)) items-bare
        ∙ (ap (λ (item : Item). group_at me (items world ++ item ∷ []) (epoch + 1)) (sym item-same)
        ∙ (ap (λ n. group_at me (items world ++ turn.item ∷ []) (n + 1)) fits.last ∙ group_at-turn me (items world) batch group turn last-there next)) in
        group_of-commit world node (closed []) (epoch + 1)
        ∙ (ap (λ o. group_led_by o (items bare) (epoch + 1)) leads ∙ ap (λ o. unwrap_or o no_group) at)

    -- what it stands for is well formed
    formed-item : IsEntry (item_for (group_of world (epoch + 1 - 1)) (epoch + 1) (accepted turn.verdicts) (begins_anew epoch))
    formed-item =
        let changes = subst (IsChanges 0) item-same item-changes in
        let at : epoch ≡ epoch + 1 - 1 = omega arith in
        subst (λ n. IsEntry (item_for (group_of world n) (epoch + 1) (accepted turn.verdicts) (begins_anew epoch))) at
        (cond_both (begins_anew epoch)
        (logged.Base (epoch + 1) group.next_region group.retired group.rows (accepted turn.verdicts)) (logged.Item (epoch + 1) (accepted turn.verdicts))
        IsEntry (λ anew. IsEntry-base me group (epoch + 1) (accepted turn.verdicts) there.1.group there.1.led later_epoch changes)
        (λ other. (later_epoch, changes)))

    -- the item fits the world
    WriteFits-closed : WriteFits world node (item ∷ [])
    WriteFits-closed = record {
      few = omega (arith, length-append (items world) (accepted turn.verdicts ∷ []), unspent, reached.epochs, fits.last);
      entry = (record { fits = (let last = fits.last in omega (arith, last)); formed = formed-item }, tt);
      still = λ other. absurd (other fits.leads);
      history = λ leader leads_too.
          subst (λ (n : Node). IsHistory (member_of_own n.own) (items world ++ accepted turn.verdicts ∷ []))
          (same_Some node leader (sym leads ∙ leads_too)) history;
      asked = (subst (AreAsked world) item-same item-asked, tt);
      changes = (subst (IsChanges 0) item-same item-changes, tt);
    }

    -- what is pending then can wait in each later world
    CanWait-left : (later : World) → Follows world later → CanWait later left
    CanWait-left later later_follows = CanWait-later world later later_follows left (record {
      reportable = reportable-drop most_changes pending fits.waiting.reportable;
      asked = All-drop (IsAsked world) most_changes pending fits.waiting.asked;
    })

    -- so the leader can be at the next epoch
    HasState-closed : HasState world node (item ∷ []) (Leading (epoch + 1) left)
    HasState-closed = record {
      fits = λ later later_follows same. record {
        last = (let last = fits.last in omega (arith, last, ap length same, length-append (items world) (accepted turn.verdicts ∷ [])));
        leads = fits.leads;
        waiting = CanWait-left later later_follows;
      };
      lasts = sym (resumed_by-append (contents_of world) node.own Joining node.entries (item ∷ []));
    }

    -- which is later than where it was
    rises-closed : RisesTo (restored_in world node) (Leading (epoch + 1) left)
    rises-closed n at =
        let before = (IsAtLeast-restored world node (Leading epoch pending) is leading).1 n at in omega (arith, before)

    -- so its step fits, where its packets do
    StepFits-closed : (sends : List (ℕ × Name)) → AllByRecursion (IsSent bare) (sent_by node.own.id sends) → StepFits world node (closed sends)
    StepFits-closed sends sent =
        record { whole = up.whole; writes = WriteFits-closed; has = HasState-closed; rises = rises-closed; sends = sent }

    -- and the world without packets is a reached one
    bare-reached : IsReached bare
    bare-reached = (bare-keeps world node (closed []) reached found (StepFits-closed [] tt)).reached

    -- the leader is found in it
    leader_now : (l : Node) × (leader_of bare ≡ Some l) × (l.own ≡ node.own)
    leader_now = follows.led node leads

    -- a packet of the leader is sent in it
    abbrev Sends : ℕ × Name → Type 0
    Sends = IsSend bare bare-reached node.own.id

    -- a joiner's snapshot is
    IsSend-snapshot : (m : Member) → IsNodeMember world m → has_member m.id turn.group.rows ≡ true → Sends (snapshot_for (epoch + 1) turn.group m)
    IsSend-snapshot m is_node is_in =
        let receiver = follows.nodes m.id is_node.node is_node.found in
        let known : List ℕ = known_by m.id Partial turn.group.rows (regions turn.group.rows) in
        let still = sym new_group in
        let few : epoch + 1 ≤ last_number = omega (arith, one_more, bare-reached.epochs) in
        IsSent-to bare bare-reached node.own.id m.id (snapshot_for (epoch + 1) turn.group m).1 receiver.node
        (reached.nodes node.own.id node found).allowed.id receiver.found
        (record {
          begun = omega (arith, one_more);
          regions = subst (λ (g : GroupState). AreRegionsOf g known) still
              (AreRegionsOf-known_by turn.group m.id Partial (regions turn.group.rows) (AreRegionsOf-regions turn.group));
          there = subst (λ (g : GroupState). has_node g m.id known ≡ true) still (has_node-member m.id turn.group is_in);
        })
        (IsPicture-projection (group_of bare (epoch + 1)) (epoch + 1) known (subst IsGroup still IsGroupOf-next.group) few)

    -- and so are those of some joiners
    All-snapshots : (members : List Member) → AllByRecursion (IsNodeMember world) members
        → AllByRecursion (λ (m : Member). has_member m.id turn.group.rows ≡ true) members
        → AllByRecursion Sends (map (snapshot_for (epoch + 1) turn.group) members)
    All-snapshots [] are are_in = tt
    All-snapshots (m ∷ members) are are_in = (IsSend-snapshot m are.0 are_in.0, All-snapshots members are.1 are_in.1)

    -- what the leader sees of the group
    abbrev view : Picture
    view = whole_view (contents_of world) epoch

    -- a target that it sees is a node
    IsNodeThere-start : (target : Target) → IsSeen view.summaries view.rolls target → IsNodeThere bare target
    IsNodeThere-start target seen =
        let was = IsNodeThere-seen world reached epoch (regions group.rows) target seen in
        let now = follows.nodes target.0 was.node was.found in
        record { node = now.node; found = now.found; addr = ap (λ o. o.addr) now.same ∙ was.addr }

    -- a piece of the new epoch is one of a region of the group
    IsPieceOf-new : (region colour : ℕ) → is_among (regions group.rows) region ≡ true → colour < colours
        → IsPieceOf bare (epoch + 1) region colour
    IsPieceOf-new region colour is_in below =
        let last = fits.last in
        let before : epoch ≡ epoch + 1 - 1 = omega arith in
        let same : group_of bare epoch ≡ group = (follows.contents node leads).group epoch (omega (arith, last)) in
        record {
          later = omega arith;
          begun = omega (arith, one_more);
          there = subst (λ n. is_among (regions (group_of bare n).rows) region ≡ true) before
              (subst (λ (g : GroupState). is_among (regions g.rows) region ≡ true) (sym same) is_in);
          below = below;
        }

    -- so it is sent to those at which it starts
    AreSends-start : (region colour : ℕ) → is_among (regions group.rows) region ≡ true → colour < colours
        → AllByRecursion Sends (start_sends node.own.id (epoch + 1) view region colour)
    AreSends-start region colour is_in below =
        let piece = IsPieceOf-new region colour is_in below in
        let targets : List Target = start node.own.id view.summaries view.rolls region colour in
        AreSends-pieces bare bare-reached node.own.id (epoch + 1) region colour targets (reached.nodes node.own.id node found).allowed.id piece
        (IsBody-piece bare bare-reached leader_now.0 leader_now.1 (epoch + 1) region colour piece)
        (All-weaker (IsSeen view.summaries view.rolls) (IsNodeThere bare) IsNodeThere-start targets
        (seen-start view.summaries view.rolls node.own.id region colour))

    -- and so are all pieces
    AreSends-regions : AllByRecursion Sends (flat_map (region_sends node.own.id (epoch + 1) view) (regions group.rows))
    AreSends-regions =
        All-flat_map-where Sends (λ region. is_among (regions group.rows) region ≡ true) (region_sends node.own.id (epoch + 1) view)
        (λ region is_in. All-flat_map-where Sends (λ n. n < colours) (start_sends node.own.id (epoch + 1) view region)
        (λ colour below. AreSends-start region colour is_in below) (range_with_len 0 colours) colours-below)
        (regions group.rows) (AreRegionsOf-regions group).there

    -- what the leader sends
    abbrev told : List (ℕ × Name)
    told = (turn_step (contents_of world) node.own.id epoch pending (Some turn)).sends

    AreSends-told : AllByRecursion Sends told
    AreSends-told =
        let distinct = (IsPending-take most_changes pending fits.waiting.reportable.pending).distinct in
        All-append Sends (map (snapshot_for (epoch + 1) turn.group) (joiners turn.item))
        (flat_map (region_sends node.own.id (epoch + 1) view) (regions group.rows))
        (All-snapshots (joiners turn.item) (AreNodes-joiners world turn.item item-asked)
        (AreMembersOf-joiners group batch turn distinct (omega (arith, length-take most_changes pending)) next))
        AreSends-regions

    -- so the step fits
    pub StepFits-told : StepFits world node (closed told)
    StepFits-told = StepFits-closed told (AreSent-sends bare bare-reached node.own.id told AreSends-told)

  -- whether there is a turn or none
  StepFits-turn : (o : Option Turn) → next_turn group batch ≡ o → StepFits world node (turn_step (contents_of world) node.own.id epoch pending o)
  StepFits-turn None next =
      StepFits-quiet world node node.own.id (Leading epoch pending) (quiet (Leading epoch pending) notes.Spent) reached found leading
      (IsQuiet-stays world node.own (Leading epoch pending) notes.Spent fits)
  StepFits-turn (Some turn) next = StepFits-told turn next

-- a close is a step that fits
pub StepFits-close : (world : World) (node : Node) (epoch : ℕ) (pending : List Change) → IsReached world → leader_of world ≡ Some node
    → node.state ≡ Some (Leading epoch pending) → StepFits world node (close_step (contents_of world) node.own.id epoch pending)
StepFits-close world node epoch pending reached leads leading =
    let found = reached.found node leads in
    let up = is-up world node (Leading epoch pending) (reached.nodes node.own.id node found) leading in
    cond_both (epoch == last_number) (quiet (Leading epoch pending) notes.Spent)
    (turn_step (contents_of world) node.own.id epoch pending (next_turn (group_of world epoch) (take most_changes pending)))
    (StepFits world node)
    (λ spent.
    StepFits-quiet world node node.own.id (Leading epoch pending) (quiet (Leading epoch pending) notes.Spent) reached found leading
    (IsQuiet-stays world node.own (Leading epoch pending) notes.Spent up.fits))
    (λ unspent.
    StepFits-turn world node epoch pending reached leads leading (eqb-false epoch last_number unspent)
    (next_turn (group_of world epoch) (take most_changes pending)) refl)

-- so it keeps the laws, whatever the leader's state
close_as-keeps : (world : World) (node : Node) (state : State) → IsReached world → leader_of world ≡ Some node
    → node.state ≡ Some state → Reaches world (close_as world node state).world
close_as-keeps world node Joining reached leads is_up = Reaches-same world reached
close_as-keeps world node (Following m) reached leads is_up = Reaches-same world reached
close_as-keeps world node (Leading epoch pending) reached leads is_up =
    commit-keeps world node (close_step (contents_of world) node.own.id epoch pending) reached (reached.found node leads)
    (StepFits-close world node epoch pending reached leads is_up)
close_as-keeps world node Left reached leads is_up = Reaches-same world reached

-- and where there is no leader, or it is down
pub close_at-keeps : (world : World) (o : Option Node) → IsReached world → leader_of world ≡ o
    → Reaches world (close_at world o).world
close_at-keeps world None reached leads = Reaches-same world reached
close_at-keeps world (Some node) reached leads =
    unless_down-keeps world node (close_as world node) reached (λ state is_up. close_as-keeps world node state reached leads is_up)
