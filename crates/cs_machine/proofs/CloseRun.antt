-- A close in a reached world: what the leader plans is its step in names, in the world with the new item.
use Rattle.std.proofs.Common.{◌≡◌, ◌≢◌, ◌∙◌, ◌==◌, ℕ, ◌+◌, Bool, true, false, cond, List, [], ◌∷◌, ◌++◌, length, drop, take, Option}
use Rattle.std.proofs.Common.{Some, None, refl, sym, ap, arith}
use Rattle.std.specs.List.{slice_get}
use Rattle.std.specs.Option.{option_map, unwrap_or}
use Rattle.std.proofs.lemmas.Bool.{eqb-false}
use Rattle.cs_base.specs.Address.{Address}
use Rattle.cs_base.specs.Limits.{last_number, most_changes}
use Rattle.cs_base.specs.declared.change.Change.{Change}
use Rattle.cs_base.specs.declared.member.Member.{Member}
use Rattle.cs_base.proofs.Elements.{All-weaker}
use Rattle.cs_group.specs.Group.{GroupState}
use Rattle.cs_group.specs.Judging.{accepted, item_of}
use Rattle.cs_group.specs.Next.{next_turn, with_all_accepted}
use Rattle.cs_group.specs.Rows.{regions}
use Rattle.cs_group.specs.declared.next.Turn.{Turn}
use Rattle.cs_group.proofs.Again.{same-turn}
use Rattle.cs_item.specs.declared.picture.Picture.{Picture}
use Rattle.cs_lead.specs.Closing.{close_plan, turn_plan}
use Rattle.cs_lead.specs.Leading.{Leading as Leader}
use Rattle.cs_lead.specs.Plans.{only}
use Rattle.cs_lead.specs.declared.plan.LeadNote.TheVariants as lead_notes
use Rattle.cs_node.specs.Effects.{effects_of_leader}
use Rattle.cs_node.specs.declared.effects.Effects.{Effects}
use Rattle.cs_packet.specs.declared.packet.Packet.{Packet}
use Rattle.cs_node.specs.declared.note.Note.TheVariants as notes
use Rattle.cs_slicer.specs.Joiners.{joiners}
use Rattle.cs_tree.specs.Route.{Target}
use Rattle.cs_tree.specs.Seen.{IsSeen}
use Rattle.cs_tree.specs.Start.{start}
use Rattle.cs_tree.proofs.SeenTargets.{seen-start}
use Rattle.cs_machine.specs.Closing.{close_step, turn_step, whole_view}
use Rattle.cs_machine.specs.Contents.{Contents, contents_of, group_of, item_at, items, no_turn}
use Rattle.cs_machine.specs.Outcome.{committed}
use Rattle.cs_machine.specs.Names.{Item, Leading, Name, Node, World, leader_of}
use Rattle.cs_machine.specs.Reached.{IsNodeMember, IsReached}
use Rattle.cs_machine.specs.Squares.{IsStep, SendStands, StandsForStep, address_in}
use Rattle.cs_machine.specs.Step.{Step, quiet}
use Rattle.cs_machine.specs.Values.{leader_for}
use Rattle.cs_machine.proofs.CloseSquares.{IsClosed, ReachesNodes, back, entry-stands, turn-square}
use Rattle.cs_machine.proofs.Commits.{Follows-commit}
use Rattle.cs_machine.proofs.Follows.{Follows, is-up}
use Rattle.cs_machine.proofs.Groups.{turn-made}
use Rattle.cs_machine.proofs.Lifts.{lifted}
use Rattle.cs_machine.proofs.ReachedChanges.{committed-keeps}
use Rattle.cs_machine.proofs.ReachedClose.{StepFits-close, closed, item-asked, item-same, items-bare, new_group}
use Rattle.cs_machine.proofs.ReachedGroups.{AreNodes-joiners}
use Rattle.cs_machine.proofs.ReachedSteps.{IsQuiet-stays}
use Rattle.cs_machine.proofs.ReachedTargets.{IsNodeThere-seen}
use Rattle.cs_machine.proofs.RunSquares.{address-later}
use Rattle.cs_machine.proofs.SquareParts.{SendOver, quiet-leader}
use Rattle.cs_machine.proofs.Zips.{AllZip-weaker}

-- the last of some elements
last-there : {T : Type 0} (xs : List T) (x : T) → slice_get (xs ++ x ∷ []) (length xs) ≡ Some x
last-there [] x = refl
last-there (y ∷ ys) x = last-there ys x

module _ (world : World) (node : Node) (epoch : ℕ) (pending : List Change) (reached : IsReached world)
    (leads : leader_of world ≡ Some node) (leading : node.state ≡ Some (Leading epoch pending)) (unspent : epoch ≢ last_number)
    (turn : Turn) (next : next_turn (group_of world epoch) (take most_changes pending) ≡ Some turn) (sends : List (ℕ × Name)) where
  -- the world after the close
  abbrev later : World
  later = committed world node (closed world node epoch pending reached leads leading unspent turn next sends)

  -- which comes from the world
  follows : Follows world later
  follows = Follows-commit world node (closed world node epoch pending reached leads leading unspent turn next sends)

  -- the leader is at the last epoch
  last-epoch : epoch ≡ length (items world)
  last-epoch = (is-up world node (Leading epoch pending) (reached.nodes node.own.id node (reached.found node leads)) leading).fits.last

  -- its last item is that of the turn
  last-item : item_at (items later) (epoch + 1) ≡ accepted turn.verdicts
  last-item =
      ap (λ given. item_at given (epoch + 1)) (items-bare world node epoch pending reached leads leading unspent turn next)
      ∙ (ap (λ n. unwrap_or (slice_get (items world ++ accepted turn.verdicts ∷ []) n) []) (back epoch ∙ last-epoch)
      ∙ ap (λ (o : Option Item). unwrap_or o []) (last-there (items world) (accepted turn.verdicts)))

  -- the contents after the close are those of the turn
  closed-contents : IsClosed (contents_of world) (contents_of later) epoch turn
  closed-contents =
      let same = (follows.contents node leads).group epoch (let last = last-epoch in omega (arith, last)) in
      let made = turn-made (group_of world epoch) (take most_changes pending) turn next in
      let item : accepted turn.verdicts ≡ item_of (group_of world epoch) (take most_changes pending) =
      sym (item-same world node epoch pending reached leads leading unspent turn next) ∙ made.item in
      record {
        before = same;
        item = item-same world node epoch pending reached leads leading unspent turn next;
        group = new_group world node epoch pending reached leads leading unspent turn next;
        is_turn =
            ap (λ (o : Option Turn). unwrap_or o no_turn)
            (ap (λ n. next_turn (group_of later n) (item_at (items later) (epoch + 1))) (back epoch)
            ∙ (ap (λ (g : GroupState). next_turn g (item_at (items later) (epoch + 1))) same
            ∙ (ap (next_turn (group_of world epoch)) (last-item ∙ item)
            ∙ (same-turn (group_of world epoch) (take most_changes pending) ∙ ap (option_map with_all_accepted) next))));
      }

  -- whom the close sends something are nodes
  close-reaches : ReachesNodes later node.own.id (whole_view (contents_of world) epoch) turn
  close-reaches =
      let view : Picture = whole_view (contents_of world) epoch in
      record {
        joiners = All-weaker (IsNodeMember world) (λ (m : Member). address_in later m.id ≡ Some m.addr)
            (λ m is. address-later world later follows m.id is.node is.found ∙ ap (λ (k : Member). Some k.addr) (sym is.same)) (joiners turn.item)
            (AreNodes-joiners world turn.item (item-asked world node epoch pending reached leads leading unspent turn next));
        targets = λ region colour.
            All-weaker (IsSeen view.summaries view.rolls) (λ (t : Target). address_in later t.0 ≡ Some t.1)
            (λ t seen. (let there = IsNodeThere-seen world reached epoch (regions (group_of world epoch).rows) t seen in
            address-later world later follows t.0 there.node there.found ∙ ap (λ a. Some a) there.addr))
            (start node.own.id view.summaries view.rolls region colour) (seen-start view.summaries view.rolls node.own.id region colour);
      }

-- a packet that stands for a name in a world does so for its contents
send-stands : (world : World) (me : ℕ) (send : Address × Packet) (named : ℕ × Name) → SendOver world (contents_of world) me send named
    → SendStands world me send named
send-stands world me send named stands = record { address = stands.address; packet = stands.packet }

module _ (world : World) (node : Node) (epoch : ℕ) (pending : List Change) (reached : IsReached world)
    (leads : leader_of world ≡ Some node) (leading : node.state ≡ Some (Leading epoch pending)) where
  -- what the leader is in values, and the contents of the run
  abbrev c : Contents
  c = contents_of world

  abbrev values : Leader
  values = leader_for c node.own epoch pending

  -- effects stand for a step of the leader
  abbrev Stands : Step → Effects → Type 0
  Stands step effects = StandsForStep world node (Leading epoch pending) step effects

  -- a close that changes nothing
  spent : Stands (quiet (Leading epoch pending) notes.Spent) (effects_of_leader (only lead_notes.Spent))
  spent =
      let found = reached.found node leads in
      lifted world reached node found (Leading epoch pending) (quiet (Leading epoch pending) notes.Spent)
      (IsQuiet-stays world node.own (Leading epoch pending) notes.Spent
      (is-up world node (Leading epoch pending) (reached.nodes node.own.id node found) leading).fits)
      (effects_of_leader (only lead_notes.Spent)) (quiet-leader world c node.own (Leading epoch pending) lead_notes.Spent)

  -- by the turn, if there is one
  by_turn : epoch ≢ last_number → (o : Option Turn) → next_turn (group_of world epoch) (take most_changes pending) ≡ o
      → Stands (turn_step c node.own.id epoch pending o) (effects_of_leader (turn_plan values (drop most_changes pending) o))
  by_turn unspent None none = spent
  by_turn unspent (Some turn) next =
      let sends : List (ℕ × Name) = (turn_step c node.own.id epoch pending (Some turn)).sends in
      let later : World = committed world node (turn_step c node.own.id epoch pending (Some turn)) in
      let square = turn-square later c (contents_of later) node.own epoch turn
      (closed-contents world node epoch pending reached leads leading unspent turn next sends) pending
      (close-reaches world node epoch pending reached leads leading unspent turn next sends) in
      record {
        note = square.note;
        entry = entry-stands later c (contents_of later) node.own epoch turn
            (closed-contents world node epoch pending reached leads leading unspent turn next sends) pending c refl;
        entry_after = square.entry;
        after = square.after;
        sends = AllZip-weaker (SendOver later (contents_of later) node.own.id) (SendStands later node.own.id)
            (send-stands later node.own.id) _ sends square.sends;
      }

  -- the leader's close is its step
  close-stands : Stands (close_step c node.own.id epoch pending) (effects_of_leader (close_plan values))
  close-stands = go (epoch == last_number) refl
    where
      go : (b : Bool) → (epoch == last_number) ≡ b
          → Stands
          (cond b (quiet (Leading epoch pending) notes.Spent)
          (turn_step c node.own.id epoch pending (next_turn (group_of world epoch) (take most_changes pending))))
          (effects_of_leader (cond b (only lead_notes.Spent)
          (turn_plan values (drop most_changes pending) (next_turn (group_of world epoch) (take most_changes pending)))))
      go true is = spent
      go false is = by_turn (eqb-false epoch last_number is) (next_turn (group_of world epoch) (take most_changes pending)) refl

  -- which leads to a reached world
  pub close-step : IsStep world node (Leading epoch pending) (close_step c node.own.id epoch pending) (effects_of_leader (close_plan values))
  close-step = (
    close-stands,
    (committed-keeps world node (close_step c node.own.id epoch pending) reached (reached.found node leads)
        (StepFits-close world node epoch pending reached leads leading)).reached,
  )
