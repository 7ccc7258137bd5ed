-- The text of an event with a point, part by part.
use Rattle.std.proofs.Common.{◌≡◌, ℕ, List, ◌++◌, decimal, codes, append_assoc}
use Rattle.cs_base.specs.Address.{Address}
use Rattle.cs_base.specs.Axes.{Axes, axes_text}
use Rattle.cs_base.specs.Canonical.{address_text}
use Rattle.cs_base.specs.declared.change.Mode.{Mode}
use Rattle.cs_script.specs.Spelling.{mode_text, spelling}
use Rattle.cs_script.specs.declared.event.Event.TheVariants as events

-- a leader's start
pub lead-text : (id : ℕ) (addr : Address) (at : Axes)
    → codes "lead " ++ (decimal id ++ (codes " " ++ (address_text addr ++ (codes " " ++ axes_text at)))) ≡ spelling (events.Lead id addr at)
unfolding spelling
lead-text id addr at = simp append_assoc

-- another node's start
pub boot-text : (id : ℕ) (addr : Address) (at : Axes) (mode : Mode) (word : List ℕ) → word ≡ mode_text mode
    → codes "boot " ++ (decimal id ++ (codes " " ++ (address_text addr ++ (codes " " ++ (axes_text at ++ (codes " " ++ word))))))
    ≡ spelling (events.Boot id addr at mode)
unfolding spelling
boot-text id addr at mode word is = rw is (simp append_assoc)

-- a move
pub move-text : (id : ℕ) (at : Axes) → codes "move " ++ (decimal id ++ (codes " " ++ axes_text at)) ≡ spelling (events.Move id at)
unfolding spelling
move-text id at = simp append_assoc
