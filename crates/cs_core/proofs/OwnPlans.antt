-- Plans on a node's own changes, by what becomes of the change.
use Rattle.std.proofs.Common.{◌≡◌, ◌≢◌, ◌+◌, ◌==◌, ℕ, Bool, true, false, List, [], ◌∷◌, Some, None, length, take, drop, refl, sym, ap, if◌then◌else◌}
use Rattle.std.proofs.Common.{inl, inr, ◌⊎◌}
use Rattle.std.proofs.lemmas.Bool.Decides.{eqb_tells}
use Rattle.cs_base.specs.Axes.{Axes}
use Rattle.cs_base.specs.Limits.{last_id, most_changes}
use Rattle.cs_base.specs.declared.change.Change.{Change}
use Rattle.cs_base.specs.declared.change.Change.TheVariants.{Leave, Move}
use Rattle.cs_packet.specs.declared.entry.Entry.TheVariants as entries
use Rattle.cs_packet.specs.declared.own.Own.{Own}
use Rattle.cs_packet.specs.declared.packet.Body.TheVariants.{Report}
use Rattle.cs_core.specs.Addresses.{send_leader}
use Rattle.cs_core.specs.Changes.{flush_plan, leave_plan, move_plan}
use Rattle.cs_core.specs.Node.{Following}
use Rattle.cs_core.specs.Plans.{goes_on}
use Rattle.cs_core.specs.Reported.{IsReported}
use Rattle.cs_core.specs.declared.changes.Reported.{Reported}
use Rattle.cs_core.specs.declared.plan.FollowNote.TheVariants as notes
use Rattle.cs_core.specs.declared.plan.Plan.{Plan}

-- numbers that differ, as a test
differs : (a b : ℕ) → a ≢ b → (a == b) ≡ false
differs a b other = by (eqb_tells a b)
  where
    by : (((a == b) ≡ true) × (a ≡ b)) ⊎ (((a == b) ≡ false) × (a ≢ b)) → (a == b) ≡ false
    by (inl same) = absurd (other same.1)
    by (inr is) = is.0

-- a move that has a number
pub move-made : (own : Own) (m after : Following) (at : Axes) (r : Reported) → m.seq ≢ last_id
    → IsReported own m (Move own.id (m.seq + 1) at) r → after ≡ record m { pending = r.pending; seq = m.seq + 1 }
    → (let plan : Plan = record {
      entry = Some (entries.Seq (m.seq + 1) at);
      sends = r.sends;
      note = notes.Moved (m.seq + 1) r.kept;
      after = goes_on own after;
    } in plan) ≡ move_plan own m at
move-made own m after at r left is same = rw (differs m.seq last_id left, same, is.sends, is.kept, is.pending) refl

-- a leave
pub leave-made : (own : Own) (m after : Following) (r : Reported) → IsReported own m (Leave own.id) r
    → after ≡ record m { pending = r.pending; seq = m.seq }
    → (let plan : Plan = record { entry = None; sends = r.sends; note = notes.Told r.kept; after = goes_on own after } in plan) ≡ leave_plan own m
leave-made own m after r is same = rw (same, is.sends, is.kept, is.pending) refl

-- pending changes that are handed on
pub flush-made : (own : Own) (m after : Following) (pending : List Change) → pending ≢ []
    → after ≡ record m { pending = drop most_changes pending; seq = m.seq }
    → (let plan : Plan = record {
      entry = None;
      sends = send_leader own (Report (take most_changes pending));
      note = notes.Flushed (length (take most_changes pending));
      after = goes_on own after;
    } in plan) ≡ flush_plan own m pending
flush-made own m after [] some same = absurd (some refl)
flush-made own m after (change ∷ changes) some same = rw same refl
