use Rattle.std.proofs.Common.{◌≡◌, ◌∙◌, List, Some, Ok, sym, ap, subst}
use Rattle.std.specs.List.{slice_get}
use Rattle.std.specs.Option.{option_copied}
use Rattle.cs_item.specs.declared.picture.Picture.{Picture}
use Rattle.cs_item.specs.declared.slice.Slice.{Slice}
use Rattle.cs_view.specs.declared.next.Next.TheVariants as next
use Rattle.cs_core.specs.Kept.{AreUsed}
use Rattle.cs_core.specs.Taking.{step_with}
use Rattle.cs_core.proofs.ResumedSlices.{good-again, used-again}
use Rattle.cs_core.proofs.resume.by_slices.Goals as goal

-- the view steps to it by the slices, with the head of the first one
pub at_step-requires-clause-view : goal.at_step-requires-clause-view
at_step-requires-clause-view c =
    let own = c.args.own.now in
    let m = c.args.member.now in
    let used = c.args.slices.now in
    let s = c.in-Some.first.now in
    let is : step_with own m.view s used ≡ Ok (next.Member c.in-Ok-Member.view) =
    ap (λ (v : Picture). step_with own v s used) (sym c.view.ensures.value) ∙ (c.in-Ok-Member.ensures.ok ∙ ap Ok c.in-Ok-Member.field-0-is) in
    let first : slice_get used 0 ≡ Some s =
    ap (λ (ss : List Slice). slice_get ss 0) (sym c.as_slice.ensures.value) ∙ (sym c.first.ensures.value ∙ ap option_copied c.in-Some.is) in
    good-again own m.view s used c.in-Ok-Member.view c.requires is c.view.ensures.keeps.view first

-- which have that head
pub at_step-requires-clause-used : goal.at_step-requires-clause-used
at_step-requires-clause-used c =
    let own = c.args.own.now in
    let m = c.args.member.now in
    let used = c.args.slices.now in
    let s = c.in-Some.first.now in
    let is : step_with own m.view s used ≡ Ok (next.Member c.in-Ok-Member.view) =
    ap (λ (v : Picture). step_with own v s used) (sym c.view.ensures.value) ∙ (c.in-Ok-Member.ensures.ok ∙ ap Ok c.in-Ok-Member.field-0-is) in
    subst (AreUsed c.in-Ok-Member.view.epoch) (sym c.in_ok-copy-in-Ok-Member.ensures)
    (used-again own m.view s used c.in-Ok-Member.view c.requires is)
