use Rattle.std.proofs.Common.{ℕ, List, Option, Some, None, Ok, Err, get_or, rules, sym, subst, ap, ◌∙◌}
use Rattle.std.proofs.lemmas.List.Sorted.{answers_always}
use Rattle.cs_base.specs.Ascending.{IsAscendingBy}
use Rattle.cs_base.proofs.Ascending.{find-at, find-gap, searched}
use Rattle.cs_tree.specs.Standing.{NodesByRegion}
use Rattle.cs_tree.proofs.Represented.{stands-found}
use Rattle.cs_tree.proofs.standing.StandingsHasStandings.stands_for.Goals as goal

abbrev region_of : ℕ × List (Option ℕ) → ℕ
region_of pair = pair.0

-- the region at the place that was found is the one
pub returns-in-Ok : goal.returns-in-Ok
returns-in-Ok c =
    let list = c.deref.result.now in
    let here = c.index.result.now in
    let up = subst (IsAscendingBy region_of) (sym (c.deref.ensures.value ∙ c.self.view_is)) c.requires.ascending in
    let by_region = c.in-Ok.ensures.position region_of (answers_always _ _ _ (λ f a r h called. search rules)) in
    let at = (searched region_of c.get.result list (Ok c.in-Ok.place) up c.in-Ok.ensures.bound by_region).found in
    let read = ap (λ (l : NodesByRegion). get_or l c.in-Ok.place here) c.deref.ensures.value ∙ sym c.index.ensures in
    let found = find-at region_of c.get.result list c.in-Ok.place here up at ∙ ap Some read in
    c.is_of.ensures
    ∙ stands-found c.args.me c.args.colour c.args.region c.get.result list c.args.self.now (Some here) (c.deref.ensures.value ∙ c.self.view_is)
    c.get.ensures.value found

-- it isn't there
pub returns-in-Err : goal.returns-in-Err
returns-in-Err c =
    let list = c.deref.result.now in
    let up = subst (IsAscendingBy region_of) (sym (c.deref.ensures.value ∙ c.self.view_is)) c.requires.ascending in
    let by_region = c.in-Err.ensures.position region_of (answers_always _ _ _ (λ f a r h called. search rules)) in
    let gap = (searched region_of c.get.result list (Err c.in-Err.field-0) up c.in-Err.ensures.bound by_region).absent in
    stands-found c.args.me c.args.colour c.args.region c.get.result list c.args.self.now None (c.deref.ensures.value ∙ c.self.view_is)
    c.get.ensures.value (find-gap region_of c.get.result list c.in-Err.field-0 gap)
