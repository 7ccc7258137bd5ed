-- The square of a piece that comes to a member.
use Rattle.std.proofs.Common.{◌≡◌, ◌==◌, ℕ, ◌+◌, ◌-◌, nat_lt, Bool, true, false, not, cond, map, Option, Some, None, Result, Ok}
use Rattle.std.proofs.Common.{refl, sym, subst, is_some}
use Rattle.std.specs.Option.{option_map}
use Rattle.cs_core.specs.Node.{has_pair, lists}
use Rattle.cs_core.specs.Pieces.{late_plan, next_piece_plan, pass_plan}
use Rattle.cs_core.specs.Plans.{early as early_plan, only, or_unfit, stale as stale_plan, unlisted, ◌>>=◌}
use Rattle.cs_core.specs.Taking.{Gain as Gained, gain_of_piece as gain_values, gain_plan}
use Rattle.cs_core.specs.declared.plan.FollowNote.TheVariants as follow_notes
use Rattle.cs_core.specs.declared.plan.Plan.{Plan}
use Rattle.cs_core.specs.declared.plan.Unfit.{Unfit}
use Rattle.cs_hold.specs.Held.{piece_in}
use Rattle.cs_node.specs.Effects.{effects_of_follower}
use Rattle.cs_packet.specs.NamedPiece.{NamedPiece}
use Rattle.cs_packet.specs.declared.own.Own.{Own}
use Rattle.cs_packet.specs.declared.packet.Body.TheVariants as bodies
use Rattle.cs_tree.specs.Route.{route}
use Rattle.cs_machine.specs.Contents.{Contents, piece_at, view_at}
use Rattle.cs_machine.specs.Held.{Gain, gain_of_piece}
use Rattle.cs_machine.specs.Names.{Following, Membership, Past, World}
use Rattle.cs_machine.specs.Progress.{gain_step}
use Rattle.cs_machine.specs.Pieces.{already, early, late_piece, next_piece, passes, piece_step, stale}
use Rattle.cs_machine.specs.Values.{held_for, member_for, node_for, past_for}
use Rattle.cs_machine.proofs.CloseSquares.{AreStarted}
use Rattle.cs_machine.proofs.ProgressSquares.{GainStands, Steps, gain-square, routed-stands}
use Rattle.cs_machine.proofs.SquareParts.{SquareAt, on_body, quiet-follower}

-- whom a member passes pieces on to are nodes, by what it knows and by what it knew before
pub record RoutesToNodes (world : World) (c : Contents) (own : Own) (m : Membership) : Type 0 where
  pub now : (region colour : ℕ)
      → AreStarted world (route own.id (view_at c m.epoch m.known).summaries (view_at c m.epoch m.known).rolls region colour)
  pub before : (past : Past) → m.past ≡ Some past → (region colour : ℕ)
      → AreStarted world (route own.id (view_at c (m.epoch - 1) past.known).summaries (view_at c (m.epoch - 1) past.known).rolls region colour)

-- what a member gained, in values
abbrev pub gained_for : Contents → Membership → Gain → Gained
gained_for c m gain = record { region = gain.region; held = map (held_for c (m.epoch + 1)) gain.held; colours = gain.colours }

-- a piece of the next epoch fits what the member has
pub record FitsNext (c : Contents) (own : Own) (m : Membership) (given region colour : ℕ) : Type 0 where
  pub listed : lists (view_at c m.epoch m.known) region ≡ true
  pub there : is_some (piece_in region colour (map (held_for c (m.epoch + 1)) m.held)) ≡ has_pair m.held region colour
  pub taken : has_pair m.held region colour ≡ false
      → gain_values (member_for c m) region colour (piece_at c given region colour)
      ≡ (let wanted : Result Gained Unfit = Ok (gained_for c m (gain_of_piece m region colour)) in wanted)
  pub stands : has_pair m.held region colour ≡ false → GainStands c m (gain_of_piece m region colour)
  pub steps : Steps c own m

module _ (world : World) (c : Contents) (own : Own) (m : Membership) (routes : RoutesToNodes world c own m) (from given region colour : ℕ) where
  -- the piece that comes
  abbrev comes : NamedPiece
  comes = record { epoch = given; region = region; colour = colour; bytes = piece_at c given region colour }

  -- a piece of the member's own epoch
  late-square : (o : Option Past) → m.past ≡ o
      → ((past : Past) → o ≡ Some past → lists (view_at c (m.epoch - 1) past.known) region ≡ true)
      → SquareAt world c own (Following m) (late_piece c own m given region colour o)
      (effects_of_follower (late_plan own (member_for c m) comes (option_map (past_for c m.epoch) o)))
  late-square None is listed = quiet-follower world c own (Following m) (follow_notes.Stale m.epoch given)
  late-square (Some past) is listed =
      subst (λ b. SquareAt world c own (Following m) (late_piece c own m given region colour (Some past))
      (effects_of_follower (cond (not b) (unlisted region)
      (cond (has_pair past.had region colour) (only follow_notes.Already) (pass_plan own (member_for c m) (past_for c m.epoch past) comes)))))
      (sym (listed past refl)) (go (has_pair past.had region colour))
    where
      go : (b : Bool)
          → SquareAt world c own (Following m) (cond b (already m) (passes c own m past given region colour))
          (effects_of_follower (cond b (only follow_notes.Already) (pass_plan own (member_for c m) (past_for c m.epoch past) comes)))
      go true = quiet-follower world c own (Following m) follow_notes.Already
      go false = record {
        note = refl;
        entry = refl;
        after = refl;
        sends = routed-stands world c own.id (m.epoch - 1) past.known given region colour (piece_at c given region colour)
            (routes.before past is region colour) refl;
      }

  -- a piece of the next epoch
  next-square : FitsNext c own m given region colour
      → SquareAt world c own (Following m) (next_piece c own m region colour) (effects_of_follower (next_piece_plan own (member_for c m) comes))
  next-square fits =
      subst (λ b. SquareAt world c own (Following m) (next_piece c own m region colour)
      (effects_of_follower (cond (not b) (unlisted region)
      (cond (is_some (piece_in region colour (map (held_for c (m.epoch + 1)) m.held))) (only follow_notes.Already) takes))))
      (sym fits.listed)
      (subst (λ b. SquareAt world c own (Following m) (next_piece c own m region colour)
      (effects_of_follower (cond b (only follow_notes.Already) takes))) (sym fits.there) (go (has_pair m.held region colour) refl))
    where
      takes : Plan
      takes = or_unfit (gain_values (member_for c m) region colour (piece_at c given region colour) >>= gain_plan own (member_for c m))

      go : (b : Bool) → has_pair m.held region colour ≡ b
          → SquareAt world c own (Following m) (cond b (already m) (gain_step c own m (gain_of_piece m region colour)))
          (effects_of_follower (cond b (only follow_notes.Already) takes))
      go true is = quiet-follower world c own (Following m) follow_notes.Already
      go false is =
          subst (λ (r : Result Gained Unfit). SquareAt world c own (Following m) (gain_step c own m (gain_of_piece m region colour))
          (effects_of_follower (or_unfit (r >>= gain_plan own (member_for c m))))) (sym (fits.taken is))
          (gain-square world c own m routes.now (gain_of_piece m region colour) (fits.stands is) fits.steps)

  -- a piece
  pub piece-square : ((given == m.epoch) ≡ true → (past : Past) → m.past ≡ Some past → lists (view_at c (m.epoch - 1) past.known) region ≡ true)
      → (nat_lt given m.epoch ≡ false → (given == m.epoch) ≡ false → nat_lt (m.epoch + 1) given ≡ false → FitsNext c own m given region colour)
      → SquareAt world c own (Following m) (piece_step c own m given region colour)
      (on_body (node_for c own (Following m)) from (bodies.Piece given region colour (piece_at c given region colour)))
  piece-square late next = go (nat_lt given m.epoch) (given == m.epoch) (nat_lt (m.epoch + 1) given) refl refl refl
    where
      go : (below same above : Bool) → nat_lt given m.epoch ≡ below → (given == m.epoch) ≡ same → nat_lt (m.epoch + 1) given ≡ above
          → SquareAt world c own (Following m)
          (cond below (stale m given) (cond same (late_piece c own m given region colour m.past)
          (cond above (early m given) (next_piece c own m region colour))))
          (effects_of_follower (cond below (stale_plan (member_for c m) given)
          (cond same (late_plan own (member_for c m) comes (option_map (past_for c m.epoch) m.past))
          (cond above (early_plan (member_for c m) given) (next_piece_plan own (member_for c m) comes)))))
      go true same above is1 is2 is3 = quiet-follower world c own (Following m) (follow_notes.Stale m.epoch given)
      go false true above is1 is2 is3 = late-square m.past refl (late is2)
      go false false true is1 is2 is3 = quiet-follower world c own (Following m) (follow_notes.Early m.epoch given)
      go false false false is1 is2 is3 = next-square (next is1 is2 is3)
