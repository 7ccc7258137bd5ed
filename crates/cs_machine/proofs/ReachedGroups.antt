-- Whom changes, items and reports let in: nodes of the world alone, so the groups are of nodes, at their addresses.
use Rattle.std.proofs.Common.{◌≡◌, ◌==◌, ℕ, ◌≤◌, not, List, [], ◌∷◌, length, take, Option, Some, None, refl, sym, ap, subst, arith}
use Rattle.std.specs.List.{AllByRecursion, filter_map, fold}
use Rattle.std.specs.Option.{option_map, unwrap_or}
use Rattle.cs_base.specs.Axes.{Axes}
use Rattle.cs_base.specs.Ranges.{IsChange, IsMember}
use Rattle.cs_base.specs.declared.member.Member.{Member}
use Rattle.cs_base.specs.declared.change.Change.{Change}
use Rattle.cs_base.specs.declared.change.Change.TheVariants.{Join, Move, Leave}
use Rattle.cs_base.proofs.Ascending.{All-of_filter}
use Rattle.cs_base.proofs.Elements.{All-find, All-take}
use Rattle.cs_near.specs.declared.keyed.RegionSum.{RegionSum}
use Rattle.cs_group.specs.declared.next.Turn.{Turn}
use Rattle.cs_group.specs.declared.row.Row.{Row}
use Rattle.cs_group.specs.Group.{GroupState, first_group}
use Rattle.cs_group.specs.History.{next_group, group_at}
use Rattle.cs_group.specs.Judging.{item_of}
use Rattle.cs_group.specs.Next.{next_turn}
use Rattle.cs_group.specs.Place.{region_sums}
use Rattle.cs_group.specs.Rows.{row_of, without}
use Rattle.cs_group.specs.Taking.{FitsRow, joined_row, moved_row, with_change, with_item, with_mover}
use Rattle.cs_group.proofs.Order.{ByRecursion-placed}
use Rattle.cs_packet.specs.Own.{member_of_own}
use Rattle.cs_slicer.specs.Joiners.{joiner_in, joiners}
use Rattle.cs_slicer.proofs.LetIn.{All-joiners}
use Rattle.cs_slicer.proofs.Turns.{All-accepted}
use Rattle.cs_machine.specs.Contents.{group_led_by, group_of, items, no_group}
use Rattle.cs_machine.specs.Names.{Item, Node, World, node_of, leader_of}
use Rattle.cs_machine.specs.Reached.{AreAsked, IsAsked, IsGroupOf, IsNodeMember, IsReached}
use Rattle.cs_machine.proofs.Groups.{AllRows, AllRows-turn, group-there}

-- the member is a node of the world, with its address, wherever it has moved
pub record IsNodeAt (world : World) (m : Member) : Type 0 where
  pub node : Node
  pub found : node_of world m.id ≡ Some node
  pub addr : node.own.addr ≡ m.addr

module _ (world : World) where
  -- ---- joiners

  -- those that changes let in are nodes
  AreNodes-let_in : (item : Item) → AreAsked world item → AllByRecursion (IsNodeMember world) (filter_map joiner_in item)
  AreNodes-let_in [] all = tt
  AreNodes-let_in (Join m ∷ item) all = (all.0, AreNodes-let_in item all.1)
  AreNodes-let_in (Move id seq at ∷ item) all = AreNodes-let_in item all.1
  AreNodes-let_in (Leave id ∷ item) all = AreNodes-let_in item all.1

  -- so joiners are
  pub AreNodes-joiners : (item : Item) → AreAsked world item → AllByRecursion (IsNodeMember world) (joiners item)
  AreNodes-joiners item all = All-joiners (IsNodeMember world) item (AreNodes-let_in item all)

  -- ---- groups

  -- a node has its address
  IsNodeAt-node : (m : Member) → IsNodeMember world m → IsNodeAt world m
  IsNodeAt-node m is = record { node = is.node; found = is.found; addr = sym (ap (λ (n : Member). n.addr) is.same) }

  module _ (sums : List RegionSum) where
    -- the row of a member that is there
    abbrev AtNode : Row → Type 0
    AtNode r = IsNodeAt world r.member

    -- a mover keeps its id and its address
    AreNodes-mover : (id seq : ℕ) (at : Axes) (g : GroupState) (o : Option Row) → row_of id g.rows ≡ o → AllRows (IsNodeAt world) g.rows
        → AllRows (IsNodeAt world) (with_mover sums g id seq at o).rows
    AreNodes-mover id seq at g None e are = are
    AreNodes-mover id seq at g (Some row) e are =
        let was : AtNode row = All-find AtNode (λ (r : Row). r.member.id == id) g.rows row are e in
        ByRecursion-placed AtNode (moved_row sums seq at row) (without id g.rows)
        (record { node = was.node; found = was.found; addr = was.addr })
        (All-of_filter AtNode (λ (r : Row). not (r.member.id == id)) g.rows are)

    -- members that are nodes stay so with a change
    AreNodes-change : (change : Change) (g : GroupState) → AllRows (IsNodeAt world) g.rows → IsAsked world change
        → AllRows (IsNodeAt world) (with_change sums g change).rows
    AreNodes-change (Join m) g are is = ByRecursion-placed AtNode (joined_row sums m) g.rows (IsNodeAt-node m is) are
    AreNodes-change (Move id seq at) g are is = AreNodes-mover id seq at g (row_of id g.rows) refl are
    AreNodes-change (Leave id) g are is = All-of_filter AtNode (λ (r : Row). not (r.member.id == id)) g.rows are

    -- and with each of an item
    AreNodes-item : (item : Item) (g : GroupState) → AllRows (IsNodeAt world) g.rows → AreAsked world item
        → AllRows (IsNodeAt world) (with_item sums g item).rows
    AreNodes-item [] g are all = are
    AreNodes-item (change ∷ item) g are all =
        AreNodes-item item (with_change sums g change) (AreNodes-change change g are all.0) all.1

  -- so the members of a turn's group are nodes
  AreNodes-turn : (g : GroupState) (changes : List Change) (turn : Turn) → AllRows (IsNodeAt world) g.rows → AreAsked world changes
      → next_turn g changes ≡ Some turn → AllRows (IsNodeAt world) turn.group.rows
  AreNodes-turn g changes turn are all next =
      AllRows-turn (IsNodeAt world) g changes turn next
      (AreNodes-item (region_sums g.rows) (item_of g changes) g are (All-accepted (region_sums g.rows) (IsAsked world) changes g all))

  -- what is known of a group, where there is one
  abbrev AreNodesOf : Option GroupState → Type 0
  AreNodesOf o = AllRows (IsNodeAt world) (unwrap_or o no_group).rows

  -- the next group's members are nodes
  AreNodes-next : (o : Option GroupState) (item : Item) → AreNodesOf o → AreAsked world item → AreNodesOf (next_group o item)
  AreNodes-next None item are all = tt
  AreNodes-next (Some g) item are all = go (next_turn g item) refl
    where
      go : (t : Option Turn) → next_turn g item ≡ t → AreNodesOf (option_map (λ (turn : Turn). turn.group) t)
      go None e = tt
      go (Some turn) e = AreNodes-turn g item turn are all e

  -- and so are those of each later one
  AreNodes-items : (o : Option GroupState) (items : List Item) → AreNodesOf o → AllByRecursion (AreAsked world) items
      → AreNodesOf (fold next_group o items)
  AreNodes-items o [] are all = are
  AreNodes-items o (item ∷ items) are all = AreNodes-items (next_group o item) items (AreNodes-next o item are all.0) all.1

  -- a group is of nodes where its leader is one
  AreNodes-led_by : (o : Option Node) (items : List Item) (epoch : ℕ)
      → ((leader : Node) → o ≡ Some leader → node_of world leader.own.id ≡ Some leader)
      → AllByRecursion (AreAsked world) items → AllRows (IsNodeAt world) (group_led_by o items epoch).rows
  AreNodes-led_by None items epoch found all = tt
  AreNodes-led_by (Some leader) items epoch found all =
      AreNodes-items (Some (first_group (member_of_own leader.own))) (take epoch items)
      (record { node = leader; found = found leader refl; addr = refl }, tt) (All-take (AreAsked world) epoch items all)

  module _ (reached : IsReached world) where
    -- so the members of each group are nodes of the world
    pub AreNodes-group : (epoch : ℕ) → AllRows (IsNodeAt world) (group_of world epoch).rows
    AreNodes-group epoch = AreNodes-led_by (leader_of world) (items world) epoch reached.found reached.asked

    -- a node has allowed values
    pub IsMember-node : (m : Member) → IsNodeMember world m → IsMember m
    IsMember-node m is = subst IsMember (sym is.same) (reached.nodes m.id is.node is.found).allowed

    -- so a change that is under way has
    pub IsChange-asked : (change : Change) → IsAsked world change → IsChange change
    IsChange-asked (Join m) is = IsMember-node m is
    IsChange-asked (Move id seq at) is = is
    IsChange-asked (Leave id) is = is

    -- and it fits a row
    pub FitsRow-asked : (change : Change) → IsAsked world change → FitsRow change
    FitsRow-asked (Join m) is = IsMember-node m is
    FitsRow-asked (Move id seq at) is = ((omega arith, is.1.1), is.2)
    FitsRow-asked (Leave id) is = tt

    -- the group of an epoch so far is that of the items, a group of the leader
    pub group_of-there : (leader : Node) (epoch : ℕ) → leader_of world ≡ Some leader → epoch ≤ length (items world)
        → (let me = member_of_own leader.own in let group = group_of world epoch in
        (group_at me (items world) epoch ≡ Some group) × IsGroupOf me group)
    group_of-there leader epoch leads so_far =
        let me : Member = member_of_own leader.own in
        let same : group_of world epoch ≡ unwrap_or (group_at me (items world) epoch) no_group = ap (λ o. group_led_by o (items world) epoch) leads in
        subst (λ (group : GroupState). (group_at me (items world) epoch ≡ Some group) × IsGroupOf me group) (sym same)
        (group-there me (items world) epoch (reached.history leader leads) so_far)
