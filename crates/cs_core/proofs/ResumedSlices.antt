-- A member that is brought back by slices of its log.
use Rattle.std.proofs.Common.{◌≡◌, ◌∙◌, List, [], ◌∷◌, Some, None, Ok, refl, sym, ap}
use Rattle.std.specs.List.{AllByRecursion, slice_get}
use Rattle.std.proofs.lemmas.Option.{none-some, same_Some}
use Rattle.cs_base.proofs.Elements.{All-changed, All-get, All-weaker}
use Rattle.cs_item.specs.SliceField.{IsHead, IsPart, IsSlice}
use Rattle.cs_item.specs.declared.head.Head.{Head}
use Rattle.cs_item.specs.declared.part.Part.{Part}
use Rattle.cs_item.specs.declared.picture.Picture.{Picture}
use Rattle.cs_item.specs.declared.slice.Slice.{Slice}
use Rattle.cs_packet.specs.SlicesField.{AreSlices}
use Rattle.cs_packet.specs.declared.own.Own.{Own}
use Rattle.cs_view.specs.declared.next.Next.TheVariants as next
use Rattle.cs_view.proofs.Outcomes.{IsView-next, head_epoch, next_epoch}
use Rattle.cs_view.proofs.WellFormed.{IsPicture-next}
use Rattle.cs_core.specs.Kept.{AreUsed, IsGoodView}
use Rattle.cs_core.specs.Node.{Following}
use Rattle.cs_core.specs.Resume.{as_stepped, by_slices}
use Rattle.cs_core.specs.Taking.{parts_of, step_with}
use Rattle.cs_core.specs.declared.plan.Resumed.TheVariants as resumed
use Rattle.cs_core.proofs.Made.{step-is}
use Rattle.cs_core.proofs.StepParts.{one_head, same_each}

-- the slices go by the first one
pub by_first : (own : Own) (m : Following) (used : List Slice) (s : Slice) → slice_get used 0 ≡ Some s
    → by_slices own m used ≡ as_stepped own m used (step_with own m.view s used)
by_first own m [] s first = absurd (none-some s first)
by_first own m (t ∷ rest) s first =
    ap (λ (x : Slice). as_stepped own m (t ∷ rest) (step_with own m.view x (t ∷ rest))) (same_Some t s first)

-- and where there is none, the log breaks
pub by_none : (own : Own) (m : Following) (used : List Slice) → slice_get used 0 ≡ None → by_slices own m used ≡ resumed.Breaks
by_none own m [] none = refl
by_none own m (t ∷ rest) none = absurd (none-some t (sym none))

module _ (own : Own) (view : Picture) (s : Slice) (used : List Slice) (after : Picture) (are : AreSlices used)
    (is : step_with own view s used ≡ Ok (next.Member after)) where
  -- the slices are those of the epoch of the view that they give
  pub used-again : AreUsed after.epoch used
  used-again =
      let steps = step-is own view s used (next.Member after) is in
      let parts : List Part = parts_of used in
      let epoch : s.head.epoch ≡ after.epoch =
      head_epoch own.id own.mode view s.head parts (next.Member after) steps ∙ sym (next_epoch own.id own.mode view s.head parts after steps) in
      record {
        few = are.few;
        ascending = are.ascending;
        slices = are.allowed;
        epoch = All-weaker (λ (t : Slice). t.head ≡ s.head) (λ (t : Slice). t.head.epoch ≡ after.epoch)
            (λ t same. ap (λ (h : Head). h.epoch) same ∙ epoch) used
            (same_each s.head used (one_head own view s used (next.Member after) is));
      }

  -- and that view is good where the one before was
  pub good-again : IsGoodView view → slice_get used 0 ≡ Some s → IsGoodView after
  good-again good first =
      let steps = step-is own view s used (next.Member after) is in
      let head : IsHead s.head = (All-get IsSlice used 0 s are.allowed first).head in
      let parts : AllByRecursion IsPart (parts_of used) =
      All-changed IsSlice IsPart (λ (t : Slice). t.part) (λ t is_t. is_t.part) used are.allowed in
      record {
        picture = IsPicture-next own.id own.mode view s.head (parts_of used) after good.picture head parts steps;
        view = IsView-next own.id own.mode view s.head (parts_of used) after steps;
      }
