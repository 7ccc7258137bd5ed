-- Each reason why a piece or a slice that came isn't taken can be told.
use Rattle.std.proofs.Common.{◌≡◌, ◌≢◌, ◌+◌, ◌<◌, ℕ, List, Option, Some, None, Result, Ok, Err, refl, ap, subst, not, length, IsTrue}
use Rattle.std.specs.List.{find}
use Rattle.std.specs.Option.{option_map}
use Rattle.std.specs.Result.{result_ok}
use Rattle.std.proofs.lemmas.Option.{none-some, same_Some}
use Rattle.cs_base.specs.Limits.{colours}
use Rattle.cs_base.specs.Ranges.{IsRegion}
use Rattle.cs_fields.specs.Fields.{IsLaterEpoch}
use Rattle.cs_hold.specs.Held.{Held, IsHold, of_region, piece_in}
use Rattle.cs_item.specs.SliceField.{IsSlice}
use Rattle.cs_item.specs.declared.picture.Picture.{Picture}
use Rattle.cs_item.specs.declared.slice.Slice.{Slice}
use Rattle.cs_packet.specs.PieceField.{IsPieceText}
use Rattle.cs_packet.specs.declared.own.Own.{Own}
use Rattle.cs_view.specs.Causes.{HasParts, IsStepFault}
use Rattle.cs_view.specs.Faults.{step}
use Rattle.cs_view.specs.declared.fault.ViewFault.{ViewFault}
use Rattle.cs_view.specs.declared.fault.ViewFault.TheVariants as faults
use Rattle.cs_view.specs.declared.next.Next.{Next}
use Rattle.cs_view.proofs.Causes.{IsStepFault-comes}
use Rattle.cs_core.specs.Gained.{IsGain}
use Rattle.cs_core.specs.Heads.{is_same_head}
use Rattle.cs_core.specs.Holding.{held_with_piece, least_slice}
use Rattle.cs_core.specs.Kept.{IsFollowing, IsHeldFor}
use Rattle.cs_core.specs.Node.{Following, lists}
use Rattle.cs_core.specs.Plans.{unfit_by, unless_unfit, ◌>>=◌}
use Rattle.cs_core.specs.Refused.{HasReason}
use Rattle.cs_packet.specs.NamedPiece.{NamedPiece}
use Rattle.cs_core.specs.Sound.{IsReason, IsTellable}
use Rattle.cs_core.specs.Taking.{came_first, new_colours, Gain, gain_of_piece, gain_of_slice, gain_plan, heads_fault, parts_of, piece_gained, plan_by}
use Rattle.cs_core.specs.Taking.{progress, progress_from, progress_with, step_with, used_with}
use Rattle.cs_core.specs.declared.plan.Plan.{Plan}
use Rattle.cs_core.specs.declared.plan.Unfit.{Unfit}
use Rattle.cs_core.specs.declared.plan.Unfit.TheVariants as unfit
use Rattle.cs_core.proofs.Gains.{gain_of_piece-is, gain_of_slice-is}
use Rattle.cs_core.proofs.HeldReasons.{held-reason}
use Rattle.cs_core.proofs.Made.{AreThere-used, IsLeast-slice}
use Rattle.cs_core.proofs.Needed.{HasParts-needed}

-- ---- how reasons go on
-- what fits has none
pub HasReason-ok : {A : Type 0} (x : A) → HasReason (Ok x)
HasReason-ok x reason e = absurd (cc)

-- a rule that goes on has those of its parts
pub HasReason-then : {A B : Type 0} (r : Result A Unfit) (f : A → Result B Unfit) → HasReason r
    → ((x : A) → r ≡ Ok x → HasReason (f x)) → HasReason (r >>= f)
HasReason-then (Ok x) f first rest reason e = rest x refl reason e
HasReason-then (Err fault) f first rest reason e =
    let same : fault ≡ reason = cc in
    subst IsReason same (first fault refl)

-- a fault of a view can be told where it is none of three
tellable : (fault : ViewFault) → fault ≢ faults.Memory → ((have given : ℕ) → fault ≢ faults.Epoch have given)
    → ((region : ℕ) → fault ≢ faults.Missing region) → IsTellable fault
tellable (faults.Epoch have given) memory epoch missing = absurd (epoch have given refl)
tellable (faults.Region region) memory epoch missing = tt
tellable (faults.Missing region) memory epoch missing = absurd (missing region refl)
tellable (faults.Part region) memory epoch missing = tt
tellable (faults.Roll region) memory epoch missing = tt
tellable faults.Size memory epoch missing = tt
tellable faults.Absent memory epoch missing = tt
tellable faults.Memory memory epoch missing = absurd (memory refl)

-- what fits is as it was
unless-same : {T : Type 0} (o : Option Unfit) (x y : T) → unless_unfit o x ≡ Ok y → x ≡ y
unless-same None x y e = same_Some x y (ap result_ok e)
unless-same (Some fault) x y e = absurd (none-some y (ap result_ok e))

-- other heads can be told
reasons-heads : (w : Slice) (used : List Slice) → HasReason (unless_unfit (heads_fault w used) used)
reasons-heads w used = by_found (find (λ (s : Slice). not (is_same_head s.head w.head)) used)
  where
    by_found : (o : Option Slice) → HasReason (unless_unfit (option_map (λ (s : Slice). unfit.Heads s.part.region) o) used)
    by_found None reason e = HasReason-ok used reason e
    by_found (Some s) reason e = let same : unfit.Heads s.part.region ≡ reason = cc in subst IsReason same tt

-- ---- the reasons of a step
module _ (own : Own) (view : Picture) (held : List Held) (for : IsHeldFor (view.epoch + 1) view held) where
  -- the view has no fault of an epoch or of a missing part
  reasons-view : (w : Slice) (used : List Slice) → least_slice held ≡ Some w → used_with view held w ≡ Some used
      → HasReason (unfit_by unfit.View (step own.id own.mode view w.head (parts_of used)))
  reasons-view w used least there = by_step (step own.id own.mode view w.head (parts_of used)) refl
    where
      by_step : (r : Result Next ViewFault) → step own.id own.mode view w.head (parts_of used) ≡ r → HasReason (unfit_by unfit.View r)
      by_step (Ok x) is reason e = HasReason-ok x reason e
      by_step (Err fault) is reason e =
          let are = AreThere-used view held w used there in
          let full : HasParts view w.head (parts_of used) =
          subst (λ (ss : List Slice). HasParts view w.head (parts_of ss)) are.slices
          (HasParts-needed (view.epoch + 1) held for.whole view w are.whole) in
          let caused : IsStepFault view w.head (parts_of used) fault =
          IsStepFault-comes view w.head (parts_of used) own.id own.mode fault is in
          let first = IsLeast-slice (view.epoch + 1) view held w for least in
          let same : unfit.View fault ≡ reason = cc in
          subst IsReason same (tellable fault caused.memory (caused.epoch first.epoch) (caused.missing full))

  -- so each fault of a step can be told
  reasons-step : (w : Slice) (used : List Slice) → least_slice held ≡ Some w → used_with view held w ≡ Some used
      → HasReason (step_with own view w used)
  reasons-step w used least there =
      HasReason-then (unless_unfit (heads_fault w used) used) (λ all. unfit_by unfit.View (step own.id own.mode view w.head (parts_of all)))
      (reasons-heads w used)
      (λ all is. subst (λ (ss : List Slice). HasReason (unfit_by unfit.View (step own.id own.mode view w.head (parts_of ss))))
      (unless-same (heads_fault w used) used all is) (reasons-view w used least there))

  -- and each fault of what the held pieces make possible
  reasons-progress : HasReason (progress own view held)
  reasons-progress = by_least (least_slice held) refl
    where
      by_used : (w : Slice) → least_slice held ≡ Some w → (o : Option (List Slice)) → used_with view held w ≡ o
          → HasReason (progress_with own view w o)
      by_used w least None there = HasReason-ok {A = Option (List Slice × Next)} None
      by_used w least (Some used) there =
          HasReason-then (step_with own view w used) (λ after. Ok (Some (used, after))) (reasons-step w used least there)
          (λ after is. HasReason-ok (Some (used, after)))

      by_least : (o : Option Slice) → least_slice held ≡ o → HasReason (progress_from own view held o)
      by_least None least = HasReason-ok {A = Option (List Slice × Next)} None
      by_least (Some w) least = by_used w least (used_with view held w) refl

-- what a member gained
pub reasons-gain : (own : Own) (m : Following) (gain : Gain) → IsGain m gain → HasReason (gain_plan own m gain)
reasons-gain own m gain is =
    HasReason-then (progress own m.view gain.held) (λ made. Ok (plan_by own m gain made)) (reasons-progress own m.view gain.held is.held)
    (λ made there. HasReason-ok (plan_by own m gain made))

-- what is gained by a piece
reasons-gained : (m : Following) (region colour : ℕ) (bytes : List ℕ) → IsHold m.held → colour < colours
    → HasReason (gain_of_piece m region colour bytes)
reasons-gained m region colour bytes hold small =
    HasReason-then {B = Gain} (held_with_piece (m.view.epoch + 1) region colour bytes m.held)
    (λ held. Ok (record { region = region; held = held; colours = came_first colour (new_colours region m.held held) }))
    (λ reason e. held-reason (m.view.epoch + 1) region colour bytes m.held reason hold small e)
    (λ held there. HasReason-ok {A = Gain} _)

-- a piece that came
pub reasons-piece : (own : Own) (m : Following) (piece : NamedPiece) → IsFollowing m → piece.colour < colours
    → IsLaterEpoch (m.view.epoch + 1) → IsRegion piece.region → IsTrue (lists m.view piece.region) → IsPieceText piece.bytes
    → piece_in piece.region piece.colour m.held ≡ None → HasReason (piece_gained own m piece)
reasons-piece own m piece is colour epoch region listed text absent =
    HasReason-then (gain_of_piece m piece.region piece.colour piece.bytes) (gain_plan own m)
    (reasons-gained m piece.region piece.colour piece.bytes is.held.hold colour)
    (λ gain there. reasons-gain own m gain
    (gain_of_piece-is m piece.region piece.colour piece.bytes gain is epoch region listed colour text absent there))

-- a slice that came
pub reasons-slice : (own : Own) (m : Following) (s : Slice) → IsFollowing m → IsLaterEpoch (m.view.epoch + 1) → IsSlice s
    → s.head.epoch ≡ m.view.epoch + 1 → IsTrue (lists m.view s.part.region) → length (of_region s.part.region m.held) ≢ 4
    → HasReason (gain_plan own m (gain_of_slice m s))
reasons-slice own m s is epoch is_s named listed absent =
    reasons-gain own m (gain_of_slice m s) (gain_of_slice-is m s is epoch is_s named listed absent)
