-- What a node answers to one that asks for a snapshot or for a slice.
use Rattle.std.specs.Prelude.{ℕ, ◌-◌, ◌==◌, ◌&&◌, nat_le, Bool, List, [], ◌∷◌, Option, None, Some, is_some}
use Rattle.std.specs.Prelude.{if◌then◌else◌}
use Rattle.std.specs.List.{list_any}
use Rattle.cs_base.specs.declared.change.Mode.{Mode}
use Rattle.cs_group.specs.Group.{GroupState, is_among}
use Rattle.cs_group.specs.Rows.{has_member, members_in, regions}
use Rattle.cs_node.specs.declared.note.Note.TheVariants as notes
use Rattle.cs_roll.specs.Roll.{member_of}
use Rattle.cs_slicer.specs.Projection.{known_by}
use Rattle.cs_machine.specs.Contents.{Contents}
use Rattle.cs_machine.specs.Names.{Bye, Following, Joining, Leading, Left, Name, Slice, Snap, State}
use Rattle.cs_machine.specs.Step.{Step, quiet}

-- one of these regions has the node
abbrev pub has_node : GroupState → ℕ → List ℕ → Bool
has_node group id known = list_any (λ region. is_some (member_of id (members_in region group.rows))) known

-- a snapshot of an epoch for one that asks for an epoch that is at least so late, where a known region has it: with
-- the roll of that region, or with all that are known for one that wants to know all
abbrev pub late_snapshot : Contents → ℕ → List ℕ → ℕ → Mode → ℕ → Option Name
late_snapshot c epoch known asker mode least =
    let group = c.group epoch in
    if nat_le least epoch && has_node group asker known
    then Some (Snap epoch (known_by asker mode group.rows known)) else None

-- a slice by which nodes came to this epoch
abbrev pub used_slice : ℕ → List ℕ → ℕ → ℕ → Option Name
used_slice epoch used wanted region =
    if (wanted == epoch) && is_among used region then Some (Slice wanted region) else None

-- what is asked for: a snapshot of an epoch that is at least so late, or the slice of an epoch and a region
pub data Wish : Type 0 where
  ForSnapshot : (mode : Mode) → (least : ℕ) → Wish
  ForSlice : (mode : Mode) → (epoch region : ℕ) → Wish

-- the slice, or else a snapshot
abbrev pub or_else : Option Name → Option Name → Option Name
or_else None other = other
or_else (Some name) other = Some name

-- what a node with these known regions and used slices grants
abbrev pub granted : Contents → ℕ → List ℕ → List ℕ → ℕ → Wish → Option Name
granted c epoch known used asker (ForSnapshot mode least) = late_snapshot c epoch known asker mode least
granted c epoch known used asker (ForSlice mode wanted region) =
    or_else (used_slice epoch used wanted region) (late_snapshot c epoch known asker mode wanted)

-- the leader has all of the group, and each slice by which members came to its epoch
abbrev pub slices_of_leader : Contents → ℕ → List ℕ
slices_of_leader c epoch = if epoch == 0 then [] else regions (c.group (epoch - 1)).rows

-- it tells one that left so, and one that isn't a member nothing
abbrev pub leader_grants : Contents → ℕ → ℕ → Wish → Option Name
leader_grants c epoch asker wish =
    let group = c.group epoch in
    if is_among group.retired asker then Some (Bye epoch) else
    (if has_member asker group.rows
    then granted c epoch (regions group.rows) (slices_of_leader c epoch) asker wish else None)

-- the answer goes back to the one that asked
abbrev pub answers : State → ℕ → Option Name → Step
answers state asker None = quiet state notes.Silent
answers state asker (Some name) =
    record { state = state; entry = None; note = notes.Answered; sends = (asker, name) ∷ [] }

-- a request comes
abbrev pub wish_step : Contents → State → ℕ → Wish → Step
wish_step c Joining asker wish = quiet Joining notes.Idle
wish_step c (Following m) asker wish = answers (Following m) asker (granted c m.epoch m.known m.used asker wish)
wish_step c (Leading epoch pending) asker wish =
    answers (Leading epoch pending) asker (leader_grants c epoch asker wish)
wish_step c Left asker wish = quiet Left notes.Departed
