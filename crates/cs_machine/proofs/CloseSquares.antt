-- The square of a close: the leader's plan, and its step in names, over the contents with the new item.
use Rattle.std.proofs.Common.{◌≡◌, ◌∙◌, ℕ, ◌+◌, ◌-◌, false, cond, eqb, List, [], ◌∷◌, ◌++◌, map, drop, Some}
use Rattle.std.proofs.Common.{refl, sym, ap, arith}
use Rattle.std.proofs.lemmas.Bool.Decides.{nat_tests}
use Rattle.std.specs.List.{AllByRecursion, AllZip, flat_map, range_with_len}
use Rattle.cs_base.specs.Limits.{colours, most_changes}
use Rattle.cs_base.specs.declared.change.Change.{Change}
use Rattle.cs_base.specs.declared.change.Mode.TheVariants.{Partial}
use Rattle.cs_base.specs.declared.member.Member.{Member}
use Rattle.cs_group.specs.Group.{GroupState}
use Rattle.cs_group.specs.Judging.{accepted}
use Rattle.cs_group.specs.Next.{with_all_accepted}
use Rattle.cs_group.specs.Rows.{regions}
use Rattle.cs_group.specs.declared.next.Turn.{Turn}
use Rattle.cs_item.specs.SliceField.{slice_bytes}
use Rattle.cs_item.specs.declared.picture.Picture.{Picture}
use Rattle.cs_item.specs.declared.slice.Slice.{Slice}
use Rattle.cs_lead.specs.Closing.{begins_anew, piece_of_slice, slice_sends, snapshot_to, started, turn_entry, turn_plan}
use Rattle.cs_lead.specs.Leading.{Leading as Leader, after_turn, all_slices}
use Rattle.cs_node.specs.Effects.{effects_of_leader}
use Rattle.cs_node.specs.declared.node.Node.TheVariants as nodes
use Rattle.cs_packet.specs.NamedPiece.{NamedPiece, piece_to}
use Rattle.cs_packet.specs.declared.entry.Entry.{Entry as AnEntry}
use Rattle.cs_packet.specs.declared.own.Own.{Own}
use Rattle.cs_packet.specs.declared.packet.Body.TheVariants as bodies
use Rattle.cs_packet.specs.declared.packet.Packet.{Packet}
use Rattle.cs_piece.specs.Blocks.{piece_of}
use Rattle.cs_slicer.specs.Joiners.{joiners}
use Rattle.cs_slicer.specs.Projection.{known_by, projection}
use Rattle.cs_slicer.specs.Slice.{slice_in}
use Rattle.cs_tree.specs.Route.{Target}
use Rattle.cs_tree.specs.Start.{start}
use Rattle.cs_machine.specs.Answers.{slices_of_leader}
use Rattle.cs_machine.specs.Closing.{region_sends, snapshot_for, start_sends, turn_step, whole_view}
use Rattle.cs_machine.specs.Contents.{Contents, slice_at}
use Rattle.cs_machine.specs.Entries as entries
use Rattle.cs_machine.specs.Names.{Leading, Piece, World}
use Rattle.cs_machine.specs.Squares.{address_in}
use Rattle.cs_machine.specs.Values.{entry_for, item_for, leader_for}
use Rattle.cs_machine.proofs.SquareParts.{SendOver, SquareAt}
use Rattle.cs_machine.proofs.Zips.{AllZip-append, AllZip-flat, AllZip-flat_same, AllZip-map}

-- the epoch before the next one
pub back : (epoch : ℕ) → epoch + 1 - 1 ≡ epoch
back epoch = omega arith

-- the slices of the next epoch are of the regions of this one
pub slices-of-next : (c : Contents) (epoch : ℕ) → slices_of_leader c (epoch + 1) ≡ regions (c.group epoch).rows
slices-of-next c epoch =
    let later : eqb (epoch + 1) 0 ≡ false = grind (arith, nat_tests) in
    ap (λ b. cond b [] (regions (c.group (epoch + 1 - 1)).rows)) later
    ∙ ap (λ n. regions (c.group n).rows) (back epoch)

-- the contents after a close by a turn, beside those before it: the turn is that of the item, which is accepted whole
pub record IsClosed (c d : Contents) (epoch : ℕ) (turn : Turn) : Type 0 where
  pub item : turn.item ≡ accepted turn.verdicts
  pub before : d.group epoch ≡ c.group epoch
  pub group : d.group (epoch + 1) ≡ turn.group
  pub is_turn : d.turn (epoch + 1) ≡ with_all_accepted turn

-- the targets are nodes, with the addresses that these were started with
abbrev pub AreStarted : World → List Target → Type 0
AreStarted world targets = AllByRecursion (λ (t : Target). address_in world t.0 ≡ Some t.1) targets

-- whom a close sends something are nodes
pub record ReachesNodes (world : World) (me : ℕ) (view : Picture) (turn : Turn) : Type 0 where
  pub joiners : AllByRecursion (λ (m : Member). address_in world m.id ≡ Some m.addr) (joiners turn.item)
  pub targets : (region colour : ℕ) → AreStarted world (start me view.summaries view.rolls region colour)

module _ (world : World) (c d : Contents) (own : Own) (epoch : ℕ) (turn : Turn) (closed : IsClosed c d epoch turn) where
  -- a slice of the new epoch is what the turn tells the region
  pub new-slice : (region : ℕ) → slice_at d (epoch + 1) region ≡ slice_in (c.group epoch) turn (epoch + 1) region
  new-slice region =
      ap (λ n. slice_in (d.group n) (d.turn (epoch + 1)) (epoch + 1) region) (back epoch)
      ∙ ap (λ (g : GroupState). slice_in g (d.turn (epoch + 1)) (epoch + 1) region) closed.before
      ∙ ap (λ (t : Turn). slice_in (c.group epoch) t (epoch + 1) region) closed.is_turn

  -- so are all of them
  new-slices : (rs : List ℕ) → map (slice_at d (epoch + 1)) rs ≡ map (slice_in (c.group epoch) turn (epoch + 1)) rs
  new-slices [] = refl
  new-slices (r ∷ rs) =
      ap (λ (s : Slice). s ∷ map (slice_at d (epoch + 1)) rs) (new-slice r)
      ∙ ap (λ (ss : List Slice). slice_in (c.group epoch) turn (epoch + 1) r ∷ ss) (new-slices rs)

  -- the leader after the turn is the one at the new epoch
  leader-after : (pending left : List Change)
      → after_turn (leader_for c own epoch pending) turn left ≡ leader_for d own (epoch + 1) left
  leader-after pending left =
      let at_group : GroupState → List Slice → Leader = λ g ss. record {
        me = (leader_for c own epoch pending).me;
        group = g;
        view = projection (epoch + 1) (regions g.rows) g;
        slices = ss;
        pending = left;
      } in
      let slices : all_slices (c.group epoch) turn (epoch + 1) ≡ map (slice_at d (epoch + 1)) (slices_of_leader d (epoch + 1)) =
      sym (ap (map (slice_at d (epoch + 1))) (slices-of-next d epoch)
      ∙ (ap (λ (g : GroupState). map (slice_at d (epoch + 1)) (regions g.rows)) closed.before
      ∙ new-slices (regions (c.group epoch).rows))) in
      ap (λ (g : GroupState). at_group g (all_slices (c.group epoch) turn (epoch + 1))) (sym closed.group)
      ∙ ap (at_group (d.group (epoch + 1))) slices

  module _ (view : Picture) (reaches : ReachesNodes world own.id view turn) where
    -- the snapshots
    snapshots-stand : AllZip (SendOver world d own.id) (map (snapshot_to own.id (epoch + 1) turn.group) (joiners turn.item))
        (map (snapshot_for (epoch + 1) turn.group) (joiners turn.item))
    snapshots-stand =
        AllZip-map (SendOver world d own.id) (snapshot_to own.id (epoch + 1) turn.group) (snapshot_for (epoch + 1) turn.group)
        (λ (m : Member). address_in world m.id ≡ Some m.addr)
        (λ m there. record {
          address = there;
          packet = ap (λ (g : GroupState). (let p : Packet = record {
            from = own.id;
            to = m.id;
            body = bodies.Snap (projection (epoch + 1) (known_by m.id Partial turn.group.rows (regions turn.group.rows)) g);
          } in p))
              (sym closed.group);
        }) (joiners turn.item) reaches.joiners

    -- a piece for its targets
    piece-stands : (region colour : ℕ)
        → AllZip (SendOver world d own.id) (started own.id view (piece_of_slice (slice_in (c.group epoch) turn (epoch + 1) region) colour))
        (start_sends own.id (epoch + 1) view region colour)
    piece-stands region colour =
        let piece : NamedPiece = piece_of_slice (slice_in (c.group epoch) turn (epoch + 1) region) colour in
        let targets : List Target = start own.id view.summaries view.rolls region colour in
        AllZip-map (SendOver world d own.id) (piece_to own.id piece) (λ (t : Target). (t.0, Piece (epoch + 1) region colour))
        (λ (t : Target). address_in world t.0 ≡ Some t.1)
        (λ t there. record {
          address = there;
          packet = ap (λ (s : Slice). (let p : Packet = record {
            from = own.id;
            to = t.0;
            body = bodies.Piece (epoch + 1) region colour (piece_of (slice_bytes s) colour);
          } in p)) (sym (new-slice region));
        }) targets (reaches.targets region colour)

    -- all pieces of a region
    region-stands : (region : ℕ)
        → AllZip (SendOver world d own.id) (slice_sends own.id view (slice_in (c.group epoch) turn (epoch + 1) region))
        (region_sends own.id (epoch + 1) view region)
    region-stands region =
        AllZip-flat_same (SendOver world d own.id)
        (λ colour. started own.id view (piece_of_slice (slice_in (c.group epoch) turn (epoch + 1) region) colour))
        (start_sends own.id (epoch + 1) view region) (λ colour. Unit {0}) (λ colour any. piece-stands region colour)
        (range_with_len 0 colours) (tt, (tt, (tt, (tt, tt))))

    -- all packets of the close
    sends-stand : AllZip (SendOver world d own.id)
        (map (snapshot_to own.id (epoch + 1) turn.group) (joiners turn.item)
        ++ flat_map (slice_sends own.id view) (all_slices (c.group epoch) turn (epoch + 1)))
        (map (snapshot_for (epoch + 1) turn.group) (joiners turn.item)
        ++ flat_map (region_sends own.id (epoch + 1) view) (regions (c.group epoch).rows))
    sends-stand =
        AllZip-append (SendOver world d own.id) (map (snapshot_to own.id (epoch + 1) turn.group) (joiners turn.item))
        (map (snapshot_for (epoch + 1) turn.group) (joiners turn.item))
        (flat_map (slice_sends own.id view) (all_slices (c.group epoch) turn (epoch + 1)))
        (flat_map (region_sends own.id (epoch + 1) view) (regions (c.group epoch).rows)) snapshots-stand
        (AllZip-flat (SendOver world d own.id) (slice_in (c.group epoch) turn (epoch + 1)) (slice_sends own.id view)
        (region_sends own.id (epoch + 1) view) region-stands (regions (c.group epoch).rows))

  -- the entry stands for what is logged, by contents that have the group before
  pub entry-stands : (pending : List Change) (e : Contents) → e.group epoch ≡ c.group epoch
      → Some (turn_entry (leader_for c own epoch pending) turn)
      ≡ Some (entry_for e (entries.Item (epoch + 1) (accepted turn.verdicts) (begins_anew epoch)))
  entry-stands pending e same =
      let spelled : GroupState → List Change → AnEntry = λ before changes. item_for before (epoch + 1) changes (begins_anew epoch) in
      ap (λ changes. Some (spelled (c.group epoch) changes)) closed.item
      ∙ ap (λ (before : GroupState). Some (spelled before (accepted turn.verdicts))) (sym same)
      ∙ ap (λ n. Some (spelled (e.group n) (accepted turn.verdicts))) (sym (back epoch))

  -- the close by the turn
  pub turn-square : (pending : List Change) → ReachesNodes world own.id (whole_view c epoch) turn
      → SquareAt world d own (Leading epoch pending) (turn_step c own.id epoch pending (Some turn))
      (effects_of_leader (turn_plan (leader_for c own epoch pending) (drop most_changes pending) (Some turn)))
  turn-square pending reaches = record {
    note = refl;
    entry = entry-stands pending d closed.before;
    after = ap nodes.Leader (leader-after pending (drop most_changes pending));
    sends = sends-stand (whole_view c epoch) reaches;
  }
