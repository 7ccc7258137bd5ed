-- What a node becomes by an entry of its log; an entry that doesn't continue the ones before it breaks the log.
use Rattle.std.specs.Prelude.{ℕ, ◌+◌, ◌==◌, nat_lt, Bool, false, List, [], ◌∷◌, length, Option, None, Some}
use Rattle.std.specs.Prelude.{Result, Ok, Err, if◌then◌else◌}
use Rattle.cs_item.specs.declared.picture.Picture.{Picture}
use Rattle.cs_item.specs.declared.slice.Slice.{Slice}
use Rattle.cs_packet.specs.declared.entry.Entry.{Entry}
use Rattle.cs_packet.specs.declared.entry.Entry.TheVariants.{Boot, Seq, View, Step, Gone, Item, Base}
use Rattle.cs_packet.specs.declared.own.Own.{Own}
use Rattle.cs_view.specs.Taking.{taken}
use Rattle.cs_view.specs.declared.fault.ViewFault.{ViewFault}
use Rattle.cs_view.specs.declared.next.Next.{Next}
use Rattle.cs_view.specs.declared.next.Next.TheVariants as next
use Rattle.cs_core.specs.Node.{Following, Node, lasting, member}
use Rattle.cs_core.specs.Snapshots.{at_view}
use Rattle.cs_core.specs.Taking.{step_with}
use Rattle.cs_core.specs.declared.plan.Resumed.{Resumed}
use Rattle.cs_core.specs.declared.plan.Resumed.TheVariants as resumed
use Rattle.cs_core.specs.declared.plan.Unfit.{Unfit}

-- the node goes on as a member; no entry brings back held pieces, pending changes or the past
abbrev pub resumes_as : Own → Following → Resumed
resumes_as own m = resumed.Next (member own (lasting m))

-- the number of a move has to be one higher than the last one
abbrev pub after_seq : Own → Option Following → ℕ → Resumed
after_seq own None seq = resumed.Breaks
after_seq own (Some m) seq = if seq == m.seq + 1 then resumes_as own (record m { seq = seq }) else resumed.Breaks

-- the number of the last move; none yet is 0
abbrev pub seq_of : Option Following → ℕ
seq_of None = 0
seq_of (Some m) = m.seq

-- the epoch is below that of the view
abbrev pub is_below : ℕ → Option Following → Bool
is_below epoch None = false
is_below epoch (Some m) = nat_lt epoch m.view.epoch

-- a view has to be one that the node keeps whole: a part of its rolls is kept, so none is missing where as many are
abbrev pub as_taken : Own → ℕ → Picture → Result Picture ViewFault → Resumed
as_taken own seq picture (Err fault) = resumed.Breaks
as_taken own seq picture (Ok view) =
    if length view.rolls == length picture.rolls then resumes_as own (at_view [] seq view) else resumed.Breaks

-- and its epoch isn't below that of the last one
abbrev pub after_view : Own → Option Following → Picture → Resumed
after_view own following picture =
    if is_below picture.epoch following then resumed.Breaks
    else as_taken own (seq_of following) picture (taken own.id own.mode picture)

-- a member that came to its view by these slices
abbrev pub at_step : Following → List Slice → Picture → Following
at_step m used view = record {
  view = view;
  held = [];
  used = used;
  pending = [];
  seq = m.seq;
  past = None;
}

-- the step has to give a member
abbrev pub as_stepped : Own → Following → List Slice → Result Next Unfit → Resumed
as_stepped own m used (Ok (next.Member view)) = resumes_as own (at_step m used view)
as_stepped own m used (Ok next.Departed) = resumed.Breaks
as_stepped own m used (Err reason) = resumed.Breaks

-- slices with one head, by which the view makes a step
abbrev pub by_slices : Own → Following → List Slice → Resumed
by_slices own m [] = resumed.Breaks
by_slices own m (w ∷ rest) = as_stepped own m (w ∷ rest) (step_with own m.view w (w ∷ rest))

abbrev pub after_slices : Own → Option Following → List Slice → Resumed
after_slices own None slices = resumed.Breaks
after_slices own (Some m) slices = by_slices own m slices

-- what a node is after an entry: only a leader has items, and Boot comes first of all and once
abbrev pub resumed_by : Own → Option Following → Entry → Resumed
resumed_by own following (Boot leader who) = resumed.Breaks
resumed_by own following (Seq seq at) = after_seq own following seq
resumed_by own following (View picture) = after_view own following picture
resumed_by own following (Step slices) = after_slices own following slices
resumed_by own following (Gone epoch) = resumed.Gone
resumed_by own following (Item epoch changes) = resumed.Breaks
resumed_by own following (Base epoch next_region retired rows changes) = resumed.Breaks
