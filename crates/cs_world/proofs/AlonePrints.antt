-- What the one node prints.
use Rattle.std.proofs.Common.{◌≡◌, ◌∙◌, ℕ, List, Option, Some, None, codes, sym, ap, append-nil}
use Rattle.std.specs.Option.{option_map}
use Rattle.cs_link.specs.declared.link.Link.{Ghosts as LinkGhosts}
use Rattle.cs_log.specs.declared.log.Log.{Ghosts as LogGhosts}
use Rattle.cs_node.specs.Placed.{Placed}
use Rattle.cs_node.specs.declared.node.Node.{Node}
use Rattle.cs_show.specs.Text.{ended, text_of}
use Rattle.cs_world.specs.Alone.{Alone, node_named}
use Rattle.cs_world.specs.AloneEvents.{printed, prints}
use Rattle.cs_world.specs.AloneStands.{AreAlone}
use Rattle.cs_world.specs.Processes.{parts_in}
use Rattle.cs_world.specs.Seats.{parts_at, state_at}
use Rattle.cs_world.specs.declared.nodes.Nodes.{Nodes}
use Rattle.cs_world.proofs.AloneNodes.{nobody-under, one-under}

module _ {L G : Type 0} (link : LinkGhosts L) (log : LogGhosts G) (code : Nodes L G) (alone : Alone) (are : AreAlone link log code alone)
    (id : ℕ) where
  -- what is found under the id prints what the definition says
  pub one-printed : (process : Placed L G) → state_at code.seats id ≡ Some process → (now : List ℕ)
      → now ≡ text_of (printed process.node) → now ≡ text_of (prints alone (node_named alone id)).lines
  one-printed process at now is =
      let found = one-under (node_named alone id) (parts_at link log code.seats id) (parts_in link log process)
      (ap (option_map (parts_in link log)) at) (are.nodes id) in
      is ∙ ap (λ (o : Option Node). text_of (printed o)) found.2.node ∙ ap (λ o. text_of (prints alone o).lines) (sym found.1)

  -- and where nothing is, that is told
  pub nobody-printed : state_at code.seats id ≡ None → (now : List ℕ) → now ≡ ended (codes "no node")
      → now ≡ text_of (prints alone (node_named alone id)).lines
  nobody-printed gone now is =
      let none = nobody-under (node_named alone id) (parts_at link log code.seats id) (ap (option_map (parts_in link log)) gone) (are.nodes id) in
      is ∙ sym (append-nil (ended (codes "no node"))) ∙ ap (λ o. text_of (prints alone o).lines) (sym none)
