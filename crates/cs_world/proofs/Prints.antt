-- What a node prints, by its state: the block of its view, or that it has none.
use Rattle.std.proofs.Common.{◌≡◌, ℕ, List, [], ◌∷◌, ◌++◌, Option, Some, None, ap, append-nil, refl, sym, subst, ◌∙◌, codes}
use Rattle.std.specs.Option.{option_and_then, option_map, option_map_or}
use Rattle.std.proofs.lemmas.Option.{same_Some}
use Rattle.cs_core.specs.Routing.{view_trees}
use Rattle.cs_item.specs.declared.picture.Picture.{Picture}
use Rattle.cs_link.specs.declared.link.Link.{Ghosts as LinkGhosts}
use Rattle.cs_log.specs.declared.log.Log.{Ghosts as LogGhosts}
use Rattle.cs_node.specs.Node.{trees_in, view_of}
use Rattle.cs_node.specs.Placed.{Placed}
use Rattle.cs_node.specs.declared.node.Node.{Node as ANode}
use Rattle.cs_packet.specs.declared.own.Own.{Own}
use Rattle.cs_show.specs.Block.{block_lines}
use Rattle.cs_show.specs.Text.{ended, text_of}
use Rattle.cs_tree.specs.Kept.{KeptTrees, kept_trees}
use Rattle.cs_machine.specs.Contents.{Contents, contents_of}
use Rattle.cs_machine.specs.Happens.{print_as, print_at, print_lines}
use Rattle.cs_machine.specs.Names.{Following, Joining, Leading, Left, Node, State, World, node_of}
use Rattle.cs_machine.specs.Outcome.{unless_down}
use Rattle.cs_machine.specs.Values.{node_for}
use Rattle.cs_world.specs.AloneEvents.{printed}
use Rattle.cs_world.specs.Processes.{parts_in}
use Rattle.cs_world.specs.Seats.{parts_at, state_at}
use Rattle.cs_world.specs.Shown.{shown_at, shown_by, viewless_word}
use Rattle.cs_world.specs.Stands.{Stands, Tells, value_of}
use Rattle.cs_world.specs.declared.nodes.Nodes.{Nodes}
use Rattle.cs_world.proofs.Answering.{line-tells}
use Rattle.cs_world.proofs.Under.{node-under, none-under}

-- what has a view prints its block
pub view-printed : (node : ANode) (view : Picture) → Some view ≡ view_of node → printed (Some node) ≡ block_lines view
view-printed node view shows =
    ap (λ (o : Option Picture). option_map_or block_lines o (viewless_word (Some node) ∷ [])) (sym shows)

-- by the trees of that view
pub trees-printed : (node : ANode) (view : Picture) (kept : KeptTrees) → Some view ≡ view_of node → Some kept ≡ trees_in node
    → kept ≡ kept_trees view.summaries view.rolls
trees-printed node view kept shows keeps = same_Some kept (view_trees view) (keeps ∙ ap (option_map view_trees) (sym shows))

-- one without a view prints its word
pub viewless-printed : (node : ANode) → None ≡ view_of node → text_of (printed (Some node)) ≡ ended (viewless_word (Some node))
viewless-printed node none =
    ap (λ (o : Option Picture). text_of (option_map_or block_lines o (viewless_word (Some node) ∷ []))) (sym none) ∙ simp append-nil

-- a node of the machine prints what its state prints
printed-named : (c : Contents) (own : Own) (named : State) → printed (Some (node_for c own named)) ≡ print_lines c named
printed-named c own Joining = refl
printed-named c own (Following m) = refl
printed-named c own (Leading epoch pending) = refl
printed-named c own Left = refl

-- so it does, up or down
prints-as : (world : World) (own : Own) (state : Option State) → unless_down world (print_as world) state
    ≡ record { world = world; lines = printed (option_map (node_for (contents_of world) own) state) }
prints-as world own None = refl
prints-as world own (Some state) = ap (λ lines. record { world = world; lines = lines }) (sym (printed-named (contents_of world) own state))

-- the view of what stands for a node
shown-for : (c : Contents) (own : Own) (state : Option State)
    → option_and_then view_of (option_map (node_for c own) state) ≡ option_and_then (shown_by c) state
shown-for c own None = refl
shown-for c own (Some Joining) = refl
shown-for c own (Some (Following m)) = refl
shown-for c own (Some (Leading epoch pending)) = refl
shown-for c own (Some Left) = refl

module _ {L G : Type 0} (link : LinkGhosts L) (log : LogGhosts G) (code : Nodes L G) (world : World)
    (stands : Stands link log code world) (id : ℕ) where
  -- what is found under the id
  node-there : (process : Placed L G) → state_at code.seats id ≡ Some process
      → (node : Node) × (node_of world id ≡ Some node) × (process.node ≡ value_of world node)
  node-there process at =
      let found = node-under world (node_of world id) (parts_at link log code.seats id) (parts_in link log process)
      (ap (option_map (parts_in link log)) at) (stands.nodes id) in
      (found.0, found.1, found.2.node)

  -- where nothing is found, no node is
  none-there : state_at code.seats id ≡ None → node_of world id ≡ None
  none-there gone =
      none-under world (node_of world id) (parts_at link log code.seats id) (ap (option_map (parts_in link log)) gone) (stands.nodes id)

  -- the view of what is found is the one that the machine shows
  pub view-there : (process : Placed L G) → state_at code.seats id ≡ Some process
      → option_and_then view_of process.node ≡ shown_at world (node_of world id)
  view-there process at =
      let found = node-there process at in
      ap (option_and_then view_of) found.2 ∙ shown-for (contents_of world) found.0.own found.0.state ∙ ap (shown_at world) (sym found.1)

  -- what is found prints what the machine's node prints
  pub node-prints : (process : Placed L G) → state_at code.seats id ≡ Some process → (now : List ℕ)
      → now ≡ text_of (printed process.node) → Tells link log code [] now (print_at world (node_of world id))
  node-prints process at now is =
      let found = node-there process at in
      let node = found.0 in
      let prints = ap (print_at world) found.1 ∙ prints-as world node.own node.state in
      subst (Tells link log code [] now) (sym prints)
      (record { text = is ∙ ap (λ (o : Option ANode). text_of (printed o)) found.2; stands = stands })

  -- and where nothing is, that is told
  pub none-prints : state_at code.seats id ≡ None → (before mid now : List ℕ) → before ≡ [] → mid ≡ before ++ ended (codes "no node")
      → now ≡ mid → Tells link log code [] now (print_at world (node_of world id))
  none-prints gone before mid now none told is =
      subst (λ o. Tells link log code [] now (print_at world o)) (sym (none-there gone))
      (line-tells link log code world [] now (codes "no node") stands (is ∙ told ∙ ap (λ t. t ++ ended (codes "no node")) none))
