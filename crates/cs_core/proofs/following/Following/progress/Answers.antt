use Rattle.std.proofs.Common.{◌≡◌, List, Some, Ok, sym, ap, ◌∙◌}
use Rattle.std.specs.List.{AllByRecursion}
use Rattle.cs_hold.specs.Held.{Held}
use Rattle.cs_item.specs.SliceField.{IsSlice}
use Rattle.cs_item.specs.declared.picture.Picture.{Picture}
use Rattle.cs_item.specs.declared.slice.Slice.{Slice}
use Rattle.cs_packet.specs.declared.own.Own.{Own}
use Rattle.cs_core.specs.Taking.{step_with, used_with}
use Rattle.cs_core.proofs.Made.{IsMade-step}
use Rattle.cs_core.proofs.following.Following.progress.Goals as goal

-- what a step makes is good
pub returns-clause-good : goal.returns-clause-good
returns-clause-good c =
    let own : Own = c.args.own.now in
    let view : Picture = c.args.self.now.view in
    let held : List Held = c.args.held.now in
    let w : Slice = c.in-Some.least.now in
    let used : List Slice = c.in-Some-2.used in
    let there : used_with view held w ≡ Some used =
    ap (λ (v : Picture). used_with v held w) (sym c.view.ensures.value) ∙ sym c.in_ok-used.ensures.value ∙ c.in-Some-2.is in
    let all : AllByRecursion IsSlice used = rw c.in-Some-2.is at c.in_ok-used.ensures.allowed in
    let made : step_with own view w used ≡ Ok c.in_ok-next.next =
    ap (λ (v : Picture). step_with own v w used) (sym c.view-2.ensures.value) ∙ c.in_ok-next.ensures.ok in
    IsMade-step own view held w used c.in_ok-next.next c.view.ensures.keeps.view c.requires (sym c.in-Some.ensures.value) there
    c.in-Some.ensures.allowed all made
