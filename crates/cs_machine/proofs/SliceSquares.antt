-- The square of a slice that comes to a member.
use Rattle.std.proofs.Common.{◌≡◌, ◌==◌, ℕ, ◌+◌, nat_le, nat_lt, Bool, true, false, not, cond, length, map, refl, sym, subst}
use Rattle.cs_core.specs.Node.{lists}
use Rattle.cs_core.specs.Pieces.{next_slice_plan}
use Rattle.cs_core.specs.Plans.{early as early_plan, only, or_unfit, stale as stale_plan, unlisted}
use Rattle.cs_core.specs.Taking.{Gain as Gained, gain_of_slice as gain_values, gain_plan}
use Rattle.cs_core.specs.declared.plan.FollowNote.TheVariants as follow_notes
use Rattle.cs_core.specs.declared.plan.Plan.{Plan}
use Rattle.cs_hold.specs.Held.{of_region}
use Rattle.cs_node.specs.Effects.{effects_of_follower}
use Rattle.cs_packet.specs.declared.own.Own.{Own}
use Rattle.cs_packet.specs.declared.packet.Body.TheVariants as bodies
use Rattle.cs_tree.specs.Route.{route}
use Rattle.cs_machine.specs.Contents.{Contents, slice_at, view_at}
use Rattle.cs_machine.specs.Held.{gain_of_slice, is_whole}
use Rattle.cs_machine.specs.Names.{Following, Membership, World}
use Rattle.cs_machine.specs.Pieces.{already, early, next_slice, slice_step, stale}
use Rattle.cs_machine.specs.Progress.{gain_step}
use Rattle.cs_machine.specs.Values.{held_for, member_for, node_for}
use Rattle.cs_machine.proofs.CloseSquares.{AreStarted}
use Rattle.cs_machine.proofs.PieceSquares.{gained_for}
use Rattle.cs_machine.proofs.ProgressSquares.{GainStands, Steps, gain-square}
use Rattle.cs_machine.proofs.SquareParts.{SquareAt, on_body, quiet-follower}

-- a slice of the next epoch fits what the member has
pub record FitsSlice (c : Contents) (own : Own) (m : Membership) (given region : ℕ) : Type 0 where
  pub listed : lists (view_at c m.epoch m.known) region ≡ true
  pub whole : (length (of_region region (map (held_for c (m.epoch + 1)) m.held)) == 4) ≡ is_whole m.held region
  pub taken : is_whole m.held region ≡ false
      → gain_values (member_for c m) (slice_at c given region) ≡ gained_for c m (gain_of_slice m region)
  pub stands : GainStands c m (gain_of_slice m region)
  pub steps : Steps c own m

module _ (world : World) (c : Contents) (own : Own) (m : Membership)
    (targets : (region colour : ℕ)
    → AreStarted world (route own.id (view_at c m.epoch m.known).summaries (view_at c m.epoch m.known).rolls region colour))
    (from given region : ℕ) where
  -- a slice of the next epoch
  next-square : FitsSlice c own m given region
      → SquareAt world c own (Following m) (next_slice c own m region)
      (effects_of_follower (next_slice_plan own (member_for c m) (slice_at c given region)))
  next-square fits =
      subst (λ b. SquareAt world c own (Following m) (next_slice c own m region)
      (effects_of_follower (cond (not b) (unlisted region)
      (cond (length (of_region region (map (held_for c (m.epoch + 1)) m.held)) == 4) (only follow_notes.Already) takes))))
      (sym fits.listed)
      (subst (λ b. SquareAt world c own (Following m) (next_slice c own m region)
      (effects_of_follower (cond b (only follow_notes.Already) takes))) (sym fits.whole) (go (is_whole m.held region) refl))
    where
      takes : Plan
      takes = or_unfit (gain_plan own (member_for c m) (gain_values (member_for c m) (slice_at c given region)))

      go : (b : Bool) → is_whole m.held region ≡ b
          → SquareAt world c own (Following m) (cond b (already m) (gain_step c own m (gain_of_slice m region)))
          (effects_of_follower (cond b (only follow_notes.Already) takes))
      go true is = quiet-follower world c own (Following m) follow_notes.Already
      go false is =
          subst (λ (gain : Gained). SquareAt world c own (Following m) (gain_step c own m (gain_of_slice m region))
          (effects_of_follower (or_unfit (gain_plan own (member_for c m) gain)))) (sym (fits.taken is))
          (gain-square world c own m targets (gain_of_slice m region) fits.stands fits.steps)

  -- a slice
  pub slice-square : (nat_le given m.epoch ≡ false → nat_lt (m.epoch + 1) given ≡ false → FitsSlice c own m given region)
      → SquareAt world c own (Following m) (slice_step c own m given region)
      (on_body (node_for c own (Following m)) from (bodies.Slice (slice_at c given region)))
  slice-square next = go (nat_le given m.epoch) (nat_lt (m.epoch + 1) given) refl refl
    where
      go : (old above : Bool) → nat_le given m.epoch ≡ old → nat_lt (m.epoch + 1) given ≡ above
          → SquareAt world c own (Following m)
          (cond old (stale m given) (cond above (early m given) (next_slice c own m region)))
          (effects_of_follower (cond old (stale_plan (member_for c m) given)
          (cond above (early_plan (member_for c m) given) (next_slice_plan own (member_for c m) (slice_at c given region)))))
      go true above is1 is2 = quiet-follower world c own (Following m) (follow_notes.Stale m.epoch given)
      go false true is1 is2 = quiet-follower world c own (Following m) (follow_notes.Early m.epoch given)
      go false false is1 is2 = next-square (next is1 is2)
