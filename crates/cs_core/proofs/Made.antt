-- What a step of a member makes: it used few slices of the next epoch, and what it gives is good.
use Rattle.std.proofs.Common.{◌≡◌, ◌+◌, ◌≤◌, ℕ, Bool, true, List, length, map, Option, Some, None, Result, Ok, Err, refl, sym, subst, arith}
use Rattle.std.specs.List.{AllByRecursion, find}
use Rattle.std.specs.Result.{result_ok}
use Rattle.std.proofs.Common.{ap, ◌<◌}
use Rattle.std.proofs.lemmas.Option.{cond_some, none-some, option_and_then_some, same_Some}
use Rattle.cs_base.specs.Ascending.{IsAscendingBy}
use Rattle.cs_base.proofs.Elements.{All-changed, All-find}
use Rattle.cs_hold.specs.Held.{Held}
use Rattle.cs_hold.specs.Whole.{is_whole_in, least_whole}
use Rattle.cs_item.specs.SliceField.{IsPart, IsSlice}
use Rattle.cs_item.specs.declared.part.Part.{Part}
use Rattle.cs_item.specs.declared.picture.Picture.{Picture}
use Rattle.cs_item.specs.declared.slice.Slice.{Slice}
use Rattle.cs_packet.specs.declared.own.Own.{Own}
use Rattle.cs_view.specs.Faults.{step}
use Rattle.cs_view.specs.declared.fault.ViewFault.{ViewFault}
use Rattle.cs_view.specs.declared.next.Next.{Next}
use Rattle.cs_view.specs.declared.next.Next.TheVariants.{Member, Departed}
use Rattle.cs_view.proofs.Outcomes.{IsView-next, next_epoch}
use Rattle.cs_view.proofs.WellFormed.{IsPicture-next}
use Rattle.cs_core.specs.Gained.{IsGoodNext, IsMade}
use Rattle.cs_core.specs.Holding.{least_slice, slice_in, slice_region}
use Rattle.cs_core.specs.Kept.{AreUsed, IsGoodView, IsHeldFor}
use Rattle.cs_core.specs.Node.{lists}
use Rattle.cs_core.specs.Plans.{unfit_by, unless_unfit, ◌>>=◌}
use Rattle.cs_core.specs.Taking.{are_whole, heads_fault, needed, parts_of, slices_in, step_with, used_with}
use Rattle.cs_core.specs.declared.plan.Unfit.{Unfit}
use Rattle.cs_core.specs.declared.plan.Unfit.TheVariants as unfit
use Rattle.cs_core.proofs.Needed.{few-used, IsAscending-needed, listed-needed, some-needed}
use Rattle.cs_core.proofs.Used.{All-slices_in, epochs-in, IsAscendingBy-slices_in, IsSliceOf-in, named-whole, some-slices_in}

-- the slice of the least whole region is that of the epoch and of a listed region
pub record IsLeast (e : ℕ) (view : Picture) (w : Slice) : Type 0 where
  pub epoch : w.head.epoch ≡ e
  pub listed : lists view w.part.region ≡ true

pub IsLeast-slice : (epoch : ℕ) (view : Picture) (held : List Held) (w : Slice) → IsHeldFor epoch view held → least_slice held ≡ Some w
    → IsLeast epoch view w
IsLeast-slice epoch view held w for is =
    option_and_then_some (λ region. slice_in region held) (least_whole held) w is (λ region least there.
    let of = IsSliceOf-in epoch region held w (for.whole region) there in
    let listed : lists view region ≡ true =
    All-find (λ r. lists view r ≡ true) (is_whole_in held) (map (λ (h : Held). h.region) held) region
    (All-changed (λ (h : Held). lists view h.region ≡ true) (λ r. lists view r ≡ true) (λ (h : Held). h.region) (λ h l. l) held for.listed)
    least in
    record { epoch = of.epoch; listed = subst (λ r. lists view r ≡ true) (sym of.region) listed })

-- the used slices are those of the needed regions, which are all there
pub record AreThere (view : Picture) (held : List Held) (w : Slice) (used : List Slice) : Type 0 where
  pub whole : are_whole held (needed view w) ≡ true
  pub slices : slices_in held (needed view w) ≡ used

pub AreThere-used : (view : Picture) (held : List Held) (w : Slice) (used : List Slice) → used_with view held w ≡ Some used
    → AreThere view held w used
AreThere-used view held w used is =
    let both = cond_some (are_whole held (needed view w)) (slices_in held (needed view w)) used is in
    record { whole = both.0; slices = both.1 }

-- a step with an outcome is one of the view
pub step-is : (own : Own) (view : Picture) (w : Slice) (used : List Slice) (after : Next) → step_with own view w used ≡ Ok after
    → step own.id own.mode view w.head (parts_of used) ≡ Ok after
step-is own view w used after is = by_heads (heads_fault w used) is
  where
    by_step : (r : Result Next ViewFault) → unfit_by unfit.View r ≡ Ok after → r ≡ Ok after
    by_step (Ok x) e = let same : x ≡ after = same_Some x after (ap result_ok e) in ap Ok same
    by_step (Err fault) e = absurd (none-some after (ap result_ok e))

    by_heads : (o : Option Unfit)
        → (unless_unfit o used >>= λ all. unfit_by unfit.View (step own.id own.mode view w.head (parts_of all))) ≡ Ok after
        → step own.id own.mode view w.head (parts_of used) ≡ Ok after
    by_heads None e = by_step (step own.id own.mode view w.head (parts_of used)) e
    by_heads (Some fault) e = absurd (none-some after (ap result_ok e))

-- what the view becomes is good
good-next : (own : Own) (view : Picture) (w : Slice) (used : List Slice) (after : Next) → IsGoodView view → IsSlice w
    → AllByRecursion IsSlice used → step own.id own.mode view w.head (parts_of used) ≡ Ok after → IsGoodNext (view.epoch + 1) after
good-next own view w used Departed good is_w all is = tt
good-next own view w used (Member next) good is_w all is =
    let parts : AllByRecursion IsPart (parts_of used) = All-changed IsSlice IsPart (λ (s : Slice). s.part) (λ s is_s. is_s.part) used all in (
      record {
        picture = IsPicture-next own.id own.mode view w.head (parts_of used) next good.picture is_w.head parts is;
        view = IsView-next own.id own.mode view w.head (parts_of used) next is;
      },
      next_epoch own.id own.mode view w.head (parts_of used) next is,
    )

-- so what a step makes by the slices that it needs is good
pub IsMade-step : (own : Own) (view : Picture) (held : List Held) (w : Slice) (used : List Slice) (after : Next) → IsGoodView view
    → IsHeldFor (view.epoch + 1) view held → least_slice held ≡ Some w → used_with view held w ≡ Some used → IsSlice w
    → AllByRecursion IsSlice used → step_with own view w used ≡ Ok after → IsMade (view.epoch + 1) used after
IsMade-step own view held w used after good for least there is_w all is =
    let epoch : ℕ = view.epoch + 1 in
    let regions : List ℕ = needed view w in
    let first = IsLeast-slice epoch view held w for least in
    let are = AreThere-used view held w used there in
    let named = named-whole epoch held for.whole in
    let up : IsAscendingBy slice_region used =
    subst (IsAscendingBy slice_region) are.slices
    (IsAscendingBy-slices_in held named regions (IsAscending-needed view w is_w.head.lists.touched.ascending)) in
    let listed : AllByRecursion (λ (s : Slice). lists view s.part.region ≡ true) used =
    subst (AllByRecursion (λ (s : Slice). lists view s.part.region ≡ true)) are.slices
    (All-slices_in held named (λ r. lists view r ≡ true) regions (listed-needed view w good.view first.listed)) in
    let epochs : AllByRecursion (λ (s : Slice). s.head.epoch ≡ epoch) used =
    subst (AllByRecursion (λ (s : Slice). s.head.epoch ≡ epoch)) are.slices (epochs-in epoch held for.whole regions) in
    record {
      used = record {
        few = omega (arith, few-used view used up listed, good.view.size.few);
        ascending = up;
        slices = all;
        epoch = epochs;
      };
      some = subst (λ (ss : List Slice). 0 < length ss) are.slices (some-slices_in held regions are.whole (some-needed view w));
      next = good-next own view w used after good is_w all (step-is own view w used after is);
    }
