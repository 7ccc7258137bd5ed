use Rattle.std.proofs.Common.{◌≡◌, List, [], ◌∷◌, Option, Some, None, Result, Ok, Err, refl}
use Rattle.std.specs.Option.{option_map}
use Rattle.cs_item.specs.declared.slice.Slice.{Slice}
use Rattle.cs_packet.specs.declared.entry.Entry.{Entry}
use Rattle.cs_packet.specs.declared.entry.Entry.TheVariants as entries
use Rattle.cs_packet.specs.declared.own.Own.{Own}
use Rattle.cs_view.specs.declared.next.Next.{Next}
use Rattle.cs_view.specs.declared.next.Next.TheVariants as next
use Rattle.cs_core.specs.Node.{Following, lasting}
use Rattle.cs_core.specs.Resume.{as_stepped, by_slices, resumed_by}
use Rattle.cs_core.specs.Taking.{step_with}
use Rattle.cs_core.specs.declared.plan.Unfit.{Unfit}
use Rattle.cs_core.proofs.laws.all_that_resuming_reads_lasts.Goals as goal

-- a step keeps the number of the last move alone
as_stepped-lasts : (own : Own) (m : Following) (used : List Slice) (r : Result Next Unfit)
    → as_stepped own m used r ≡ as_stepped own (lasting m) used r
as_stepped-lasts own m used (Ok (next.Member view)) = refl
as_stepped-lasts own m used (Ok next.Departed) = refl
as_stepped-lasts own m used (Err reason) = refl

-- and is a step of the view
by_slices-lasts : (own : Own) (m : Following) (slices : List Slice) → by_slices own m slices ≡ by_slices own (lasting m) slices
by_slices-lasts own m [] = refl
by_slices-lasts own m (w ∷ rest) = as_stepped-lasts own m (w ∷ rest) (step_with own m.view w (w ∷ rest))

-- a joining node has nothing, and a member's entries read its view and the number of its last move
resumed-lasts : (own : Own) (f : Option Following) (entry : Entry) → resumed_by own f entry ≡ resumed_by own (option_map lasting f) entry
resumed-lasts own None (entries.Boot leads who) = refl
resumed-lasts own None (entries.Seq seq at) = refl
resumed-lasts own None (entries.View picture) = refl
resumed-lasts own None (entries.Step slices) = refl
resumed-lasts own None (entries.Gone epoch) = refl
resumed-lasts own None (entries.Item epoch changes) = refl
resumed-lasts own None (entries.Base epoch next_region retired rows changes) = refl
resumed-lasts own (Some m) (entries.Boot leads who) = refl
resumed-lasts own (Some m) (entries.Seq seq at) = refl
resumed-lasts own (Some m) (entries.View picture) = refl
resumed-lasts own (Some m) (entries.Step slices) = by_slices-lasts own m slices
resumed-lasts own (Some m) (entries.Gone epoch) = refl
resumed-lasts own (Some m) (entries.Item epoch changes) = refl
resumed-lasts own (Some m) (entries.Base epoch next_region retired rows changes) = refl

-- of each node
pub returns : goal.returns
returns c = λ node entry. resumed-lasts node.own node.following entry
