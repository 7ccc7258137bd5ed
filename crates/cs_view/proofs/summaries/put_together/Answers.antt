use Rattle.std.proofs.Common.{◌≡◌, ℕ, Bool, IfOk, List, not, ap, subst, ◌∙◌}
use Rattle.std.specs.List.{filter}
use Rattle.cs_base.proofs.Ascending.{IsAscendingBy-filter}
use Rattle.cs_roll.specs.Summary.{RegionSummary}
use Rattle.cs_view.specs.Step.{is_among, placed_each}
use Rattle.cs_view.proofs.summaries.put_together.Goals as goal

-- those that aren't dropped ascend
pub place_each-requires : goal.place_each-requires
place_each-requires c =
    let stays : ℕ × RegionSummary → Bool = λ p. not (is_among c.args.head.now.dropped p.0) in
    rw (c.in_ok-next.ensures, c.as_slice.ensures.value)
    (IsAscendingBy-filter (λ (p : ℕ × RegionSummary). p.0) stays c.args.summaries.now c.as_slice.ensures.ascending)

-- what is listed is what was put together
pub returns : goal.returns
returns c =
    let stays : ℕ × RegionSummary → Bool = λ p. not (is_among c.args.head.now.dropped p.0) in
    let into : List (ℕ × RegionSummary) → List (ℕ × RegionSummary) = placed_each c.args.head.now.summaries in
    let put = c.from_vec.ensures
    ∙ (c.in_ok-place_each.ensures.placed
    ∙ (ap (λ more. placed_each more c.in_ok-next.next.items) c.as_slice-2.ensures.value
    ∙ ap into (c.in_ok-next.ensures ∙ ap (filter stays) c.as_slice.ensures.value))) in
    subst (λ list. IfOk c.shared.result (λ next. next ≡ list)) put c.shared.ensures
