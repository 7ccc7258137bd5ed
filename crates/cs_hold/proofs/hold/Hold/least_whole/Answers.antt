use Rattle.std.proofs.Common.{Some, length, sym, ap, subst, ◌∙◌}
use Rattle.std.specs.List.{find}
use Rattle.std.specs.Option.{option_copied, option_map}
use Rattle.cs_hold.specs.Held.{region_of}
use Rattle.cs_hold.proofs.Whole.{first_is_least, is_whole, IsLeast, least_whole-shelves, none_whole, of_region-view}
use Rattle.cs_hold.proofs.hold.Hold.least_whole.Goals as goal

least : (c : goal.After-region) → IsLeast c.self.inside.shelves c.region.result
least c =
    let found = ap (find is_whole) (sym c.as_slice.ensures.value) ∙ sym c.first_whole.ensures ∙ ap option_copied c.in-Some.is in
    subst (IsLeast c.self.inside.shelves) (sym c.region.ensures) (first_is_least c.self.inside.shelves c.as_slice.ensures.ascending c.in-Some.shelf.now found)

pub returns-in-Some-clause-whole : goal.returns-in-Some-clause-whole
returns-in-Some-clause-whole c =
    ap length (of_region-view c.self.inside.shelves c.args.self.now c.self.view_is c.as_slice.ensures.ascending c.region.result) ∙ (least c).whole

pub returns-in-Some-clause-least : goal.returns-in-Some-clause-least
returns-in-Some-clause-least c region lt four =
    (least c).lower region lt (sym (ap length (of_region-view c.self.inside.shelves c.args.self.now c.self.view_is c.as_slice.ensures.ascending region)) ∙ four)

pub returns-in-None-clause-none : goal.returns-in-None-clause-none
returns-in-None-clause-none c region four =
    let none = ap (find is_whole) (sym c.as_slice.ensures.value) ∙ sym c.first_whole.ensures ∙ ap option_copied c.in-None.is in
    none_whole c.self.inside.shelves none region (sym (ap length
    (of_region-view c.self.inside.shelves c.args.self.now c.self.view_is c.as_slice.ensures.ascending region)) ∙ four)

pub returns-in-Some-clause-value : goal.returns-in-Some-clause-value
returns-in-Some-clause-value c =
    let found = ap (find is_whole) (sym c.as_slice.ensures.value) ∙ sym c.first_whole.ensures ∙ ap option_copied c.in-Some.is in
    let look = least_whole-shelves c.self.inside.shelves c.args.self.now c.self.view_is c.as_slice.ensures.ascending in
    ap (λ region. Some region) c.region.ensures ∙ sym (look ∙ ap (option_map region_of) found)

pub returns-in-None-clause-value : goal.returns-in-None-clause-value
returns-in-None-clause-value c =
    let none = ap (find is_whole) (sym c.as_slice.ensures.value) ∙ sym c.first_whole.ensures ∙ ap option_copied c.in-None.is in
    let look = least_whole-shelves c.self.inside.shelves c.args.self.now c.self.view_is c.as_slice.ensures.ascending in
    sym (look ∙ ap (option_map region_of) none)
