-- A block is printed, and the world stays as it is.
use Rattle.std.proofs.Common.{◌≡◌, ℕ, Some, None, refl}
use Rattle.cs_machine.specs.Happens.{happens, print_as, print_at}
use Rattle.cs_machine.specs.Names.{World, node_of}
use Rattle.cs_machine.specs.Outcome.{unless_down}
use Rattle.cs_script.specs.declared.event.Event.TheVariants as events

pub print-stays : (world : World) (id : ℕ) → (happens world (events.Print id)).world ≡ world
print-stays world id =
    elim (node_of world id) as (λ node. (print_at world node).world ≡ world) [
      | None ↦ refl
      | Some node ↦ elim node.state as (λ state. (unless_down world (print_as world) state).world ≡ world) [ None ↦ refl | Some state ↦ refl ]
    ]
