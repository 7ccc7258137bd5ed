-- A step by the slices that are used: they have one head, which is all that the step takes of the least one.
use Rattle.std.proofs.Common.{◌≡◌, ◌∙◌, ◌<◌, not, Bool, true, false, cond, List, [], ◌∷◌, length, Option, Some, None, Result, Ok, Err, refl, sym, ap, subst}
use Rattle.std.specs.List.{AllByRecursion, find}
use Rattle.std.specs.Option.{option_map}
use Rattle.std.proofs.lemmas.Option.{none-some}
use Rattle.cs_hold.specs.Held.{Held}
use Rattle.cs_item.specs.declared.head.Head.{Head}
use Rattle.cs_item.specs.declared.picture.Picture.{Picture}
use Rattle.cs_item.specs.declared.slice.Slice.{Slice}
use Rattle.cs_packet.specs.declared.own.Own.{Own}
use Rattle.cs_view.specs.Faults.{step}
use Rattle.cs_view.specs.declared.next.Next.{Next}
use Rattle.cs_core.specs.Heads.{is_same_head}
use Rattle.cs_core.specs.Plans.{unfit_by, unless_unfit, ◌>>=◌}
use Rattle.cs_core.specs.Taking.{heads_fault, needed, parts_of, step_with, used_with}
use Rattle.cs_core.specs.declared.plan.Unfit.{Unfit}
use Rattle.cs_core.specs.declared.plan.Unfit.TheVariants as unfit
use Rattle.cs_core.proofs.Made.{AreThere-used}
use Rattle.cs_core.proofs.Needed.{some-needed}
use Rattle.cs_core.proofs.SameHeads.{same_heads}
use Rattle.cs_core.proofs.Used.{some-slices_in}

-- the reason of a slice whose head differs from this one
abbrev differs : Head → List Slice → Option Unfit
differs h used = option_map (λ (s : Slice). unfit.Heads s.part.region) (find (λ (s : Slice). not (is_same_head s.head h)) used)

-- where slices make a step they have one head
pub one_head : (own : Own) (view : Picture) (w : Slice) (used : List Slice) (after : Next) → step_with own view w used ≡ Ok after
    → heads_fault w used ≡ None
one_head own view w used after is = by_heads (heads_fault w used) is
  where
    by_heads : (o : Option Unfit)
        → (unless_unfit o used >>= λ all. unfit_by unfit.View (step own.id own.mode view w.head (parts_of all))) ≡ Ok after → o ≡ None
    by_heads None e = refl
    by_heads (Some reason) e = absurd (cc)

-- so each of them has it
pub same_each : (h : Head) (used : List Slice) → differs h used ≡ None → AllByRecursion (λ (s : Slice). s.head ≡ h) used
same_each h [] none = tt
same_each h (s ∷ rest) none = by_head (same_each h rest) (is_same_head s.head h) refl none
  where
    by_head : (differs h rest ≡ None → AllByRecursion (λ (t : Slice). t.head ≡ h) rest) → (b : Bool) → is_same_head s.head h ≡ b
        → option_map (λ (t : Slice). unfit.Heads t.part.region) (cond (not b) (Some s) (find (λ (t : Slice). not (is_same_head t.head h)) rest)) ≡ None
        → AllByRecursion (λ (t : Slice). t.head ≡ h) (s ∷ rest)
    by_head later true same e = (same_heads s.head h same, later e)
    by_head later false same e = absurd (none-some (unfit.Heads s.part.region) (sym e))

-- and the step by the first one is the same
pub step_by_first : (own : Own) (view : Picture) (w s : Slice) (rest : List Slice) (after : Next) → step_with own view w (s ∷ rest) ≡ Ok after
    → step_with own view s (s ∷ rest) ≡ Ok after
step_by_first own view w s rest after is =
    let by : Head → Result Next Unfit = λ h.
    unless_unfit (differs h (s ∷ rest)) (s ∷ rest) >>= λ all. unfit_by unfit.View (step own.id own.mode view h (parts_of all)) in
    ap by (same_each w.head (s ∷ rest) (one_head own view w (s ∷ rest) after is)).0 ∙ is

-- there are slices where all are there that are needed
pub some_used : (view : Picture) (held : List Held) (w : Slice) (used : List Slice) → used_with view held w ≡ Some used → 0 < length used
some_used view held w used there =
    let are = AreThere-used view held w used there in
    subst (λ (ss : List Slice). 0 < length ss) are.slices (some-slices_in held (needed view w) are.whole (some-needed view w))

-- a step comes where the heads are the same and the view has it
pub steps_with : (own : Own) (view : Picture) (w : Slice) (used : List Slice) (after : Next) → heads_fault w used ≡ None
    → step own.id own.mode view w.head (parts_of used) ≡ Ok after → step_with own view w used ≡ Ok after
steps_with own view w used after none is =
    ap (λ (o : Option Unfit). unless_unfit o used >>= λ all. unfit_by unfit.View (step own.id own.mode view w.head (parts_of all))) none
    ∙ ap (unfit_by unfit.View) is
