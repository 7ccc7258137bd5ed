-- What a view shows to a node that asks for a snapshot.
use Rattle.std.specs.Prelude.{ℕ, List, Option, None, Some}
use Rattle.std.specs.Option.{option_map}
use Rattle.cs_base.specs.declared.change.Mode.{Mode}
use Rattle.cs_base.specs.declared.change.Mode.TheVariants.{Partial, Full}
use Rattle.cs_base.specs.declared.member.Member.{Member}
use Rattle.cs_item.specs.declared.picture.Picture.{Picture}
use Rattle.cs_view.specs.View.{holder, shown}

-- the rolls of a snapshot: for mode Partial that of one region, for mode Full every known one
abbrev pub rolls_for : Mode → ℕ → Option ℕ
rolls_for Partial region = Some region
rolls_for Full region = None

-- what a view shows to a node that asks for a snapshot, where a known roll has it
abbrev pub shown_to : ℕ → Mode → Picture → Option Picture
shown_to id mode view =
    option_map (λ (pair : ℕ × List Member). shown (rolls_for mode pair.0) view) (holder id view.rolls)
