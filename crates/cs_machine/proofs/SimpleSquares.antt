-- Squares in which nothing of a slice is read: reports, snapshots, and what comes to one that has no use for it.
use Rattle.std.proofs.Common.{◌≡◌, ◌==◌, ◌&&◌, ◌||◌, ◌∙◌, ℕ, Bool, true, false, cond, nat_lt, nat_le, List, [], Result, Ok}
use Rattle.std.proofs.Common.{refl, sym, ap, subst}
use Rattle.std.specs.List.{list_all}
use Rattle.cs_base.specs.declared.change.Change.{Change}
use Rattle.cs_core.specs.Plans.{only, or_unfit, unfit_by, ◌>>=◌}
use Rattle.cs_core.specs.Snapshots.{jump, knows, taken_view}
use Rattle.cs_core.specs.declared.plan.FollowNote.TheVariants as follow_notes
use Rattle.cs_core.specs.declared.plan.Plan.{Plan}
use Rattle.cs_core.specs.declared.plan.Unfit.TheVariants as unfit
use Rattle.cs_group.specs.Group.{is_among}
use Rattle.cs_item.specs.declared.picture.Picture.{Picture}
use Rattle.cs_lead.specs.Plans.{only as leader_only, untold as leader_untold}
use Rattle.cs_lead.specs.declared.plan.LeadNote.TheVariants as lead_notes
use Rattle.cs_node.specs.Effects.{effects_of_follower, effects_of_leader}
use Rattle.cs_node.specs.declared.note.Note.TheVariants as notes
use Rattle.cs_packet.specs.declared.own.Own.{Own}
use Rattle.cs_packet.specs.declared.packet.Body.TheVariants as bodies
use Rattle.cs_view.specs.Taking.{taken}
use Rattle.cs_view.specs.declared.fault.ViewFault.{ViewFault}
use Rattle.cs_machine.specs.Changes.{report_step}
use Rattle.cs_machine.specs.Contents.{Contents, view_at}
use Rattle.cs_machine.specs.Names.{Following, Joining, Leading, Left, Membership, State, World}
use Rattle.cs_machine.specs.Snapshots.{jumps, snapshot_step, untold}
use Rattle.cs_machine.specs.Step.{quiet}
use Rattle.cs_machine.specs.Values.{leader_for, member_for, node_for}
use Rattle.cs_machine.proofs.SquareParts.{SquareAt, on_body, quiet-follower, quiet-leader}

module _ (world : World) (c : Contents) (own : Own) where
  -- a report
  pub report-square : (state : State) (from : ℕ) (changes : List Change)
      → SquareAt world c own state (report_step state changes) (on_body (node_for c own state) from (bodies.Report changes))
  report-square Joining from changes = record { note = refl; entry = refl; after = refl; sends = tt }
  report-square (Following m) from changes = record { note = refl; entry = refl; after = refl; sends = tt }
  report-square (Leading epoch pending) from changes = record { note = refl; entry = refl; after = refl; sends = tt }
  report-square Left from changes = record { note = refl; entry = refl; after = refl; sends = tt }

  -- what is for members of an epoch tells the leader nothing
  pub untold-square : (epoch : ℕ) (pending : List Change) (given : ℕ)
      → SquareAt world c own (Leading epoch pending) (quiet (Leading epoch pending) (untold epoch given))
      (effects_of_leader (leader_untold (leader_for c own epoch pending) given))
  untold-square epoch pending given = go (nat_le given epoch)
    where
      go : (b : Bool)
          → SquareAt world c own (Leading epoch pending)
          (quiet (Leading epoch pending) (cond b (notes.Stale epoch given) (notes.Early epoch given)))
          (effects_of_leader (leader_only (cond b (lead_notes.Stale epoch given) (lead_notes.Early epoch given))))
      go true = quiet-leader world c own (Leading epoch pending) (lead_notes.Stale epoch given)
      go false = quiet-leader world c own (Leading epoch pending) (lead_notes.Early epoch given)

module _ (world : World) (c : Contents) (own : Own) (epoch from : ℕ) (given known : List ℕ)
    (takes_it : taken own.id own.mode (view_at c epoch given) ≡ Ok (view_at c epoch known)) where
  -- the snapshot, and what the node takes from it
  abbrev comes : Picture
  comes = view_at c epoch given

  abbrev view : Picture
  view = view_at c epoch known

  -- a node that goes by it
  jump-square : (state : State) (pending : List Change) (seq : ℕ)
      → SquareAt world c own state (jumps epoch known pending seq) (effects_of_follower (jump own pending seq view))
  jump-square state pending seq = record { note = refl; entry = refl; after = refl; sends = tt }

  -- a member takes it, unless that tells nothing new
  member-square : (m : Membership) → knows (view_at c m.epoch m.known).rolls view.rolls ≡ list_all (is_among m.known) known
      → SquareAt world c own (Following m) (snapshot_step (Following m) epoch known)
      (on_body (node_for c own (Following m)) from (bodies.Snap comes))
  member-square m same =
      subst (λ (p : Plan). SquareAt world c own (Following m) (snapshot_step (Following m) epoch known) (effects_of_follower p))
      (sym (ap (λ (r : Result Picture ViewFault). cond (nat_lt epoch m.epoch) (only (follow_notes.Stale m.epoch epoch))
      (or_unfit (unfit_by unfit.View r >>= λ v. Ok (taken_view own (member_for c m) v)))) takes_it
      ∙ ap (at_known m) same))
      (go (nat_lt epoch m.epoch) ((epoch == m.epoch) && list_all (is_among m.known) known))
    where
      at_known : Membership → Bool → Plan
      at_known n all =
          cond (nat_lt epoch n.epoch) (only (follow_notes.Stale n.epoch epoch))
          (cond ((epoch == n.epoch) && all) (only (follow_notes.Stale n.epoch epoch)) (jump own n.pending n.seq view))

      go : (old all : Bool)
          → SquareAt world c own (Following m)
          (cond (old || all) (quiet (Following m) (notes.Stale m.epoch epoch)) (jumps epoch known m.pending m.seq))
          (effects_of_follower (cond old (only (follow_notes.Stale m.epoch epoch))
          (cond all (only (follow_notes.Stale m.epoch epoch)) (jump own m.pending m.seq view))))
      go true all = quiet-follower world c own (Following m) (follow_notes.Stale m.epoch epoch)
      go false true = quiet-follower world c own (Following m) (follow_notes.Stale m.epoch epoch)
      go false false = jump-square (Following m) m.pending m.seq

  -- a snapshot
  pub snapshot-square : (state : State)
      → ((m : Membership) → state ≡ Following m → knows (view_at c m.epoch m.known).rolls view.rolls ≡ list_all (is_among m.known) known)
      → SquareAt world c own state (snapshot_step state epoch known) (on_body (node_for c own state) from (bodies.Snap comes))
  snapshot-square Joining same =
      subst (λ (p : Plan). SquareAt world c own Joining (jumps epoch known [] 0) (effects_of_follower p))
      (sym (ap (λ (r : Result Picture ViewFault). or_unfit (unfit_by unfit.View r >>= λ v. Ok (jump own [] 0 v))) takes_it))
      (jump-square Joining [] 0)
  snapshot-square (Following m) same = member-square m (same m refl)
  snapshot-square (Leading have pending) same = untold-square world c own have pending epoch
  snapshot-square Left same = record { note = refl; entry = refl; after = refl; sends = tt }
