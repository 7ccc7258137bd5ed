use Rattle.std.proofs.Common.{◌≡◌, ℕ, ◌<◌, Vec, Global, Option, get_or, length, ap, sym, ◌∙◌, arith}
use Rattle.std.proofs.lemmas.Option.{get_or_from_slice_get}
use Rattle.cs_roll.specs.Summary.{RegionSummary}
use Rattle.cs_tree.specs.Route.{Target, passed_below}
use Rattle.cs_tree.proofs.Offers.{filter_map-none, filter_map-some}
use Rattle.cs_tree.proofs.Seen.{slice_get-within}
use Rattle.cs_tree.proofs.routes.append_regions.Goals as goal
use Rattle.cs_tree.proofs.routes.append_regions.Goals.{in-Some+in_ok-push, in_default}

-- one more region offers a target, or none
pub loop-i-preserved : goal.loop-i-preserved
loop-i-preserved g c =
    let summaries = g.V.Sight.summaries c.args.sight.now in
    let i = c.loop-i.i in
    let offer : ℕ × RegionSummary → Option Target = passed_below c.args.me summaries c.args.tree.now.edges c.args.region c.args.colour in
    let lt : i < length summaries = omega arith in
    let at = slice_get-within summaries i lt in
    let gives : offer (get_or summaries i at.0) ≡ c.passed_below.result =
    ap offer (get_or_from_slice_get summaries i at.0 at.0 at.1) ∙ sym (c.passed_below.ensures at.0 at.1) in
    elim c.match-passed_below.branch [
      | in-Some+in_ok-push w ↦
          let pushed = ap (λ (v : Vec Target Global). v.items) w.offered-is ∙ w.in_ok-push.ensures.items in
          filter_map-some offer summaries i at.0 w.in-Some.target c.args.offered.now.items c.loop-i.offered.items c.match-passed_below.offered.items
          lt (gives ∙ w.in-Some.is) c.loop-i.invariant pushed
      | in_default w ↦
          let same = ap (λ (v : Vec Target Global). v.items) w.offered-is in
          filter_map-none offer summaries i at.0 c.args.offered.now.items c.match-passed_below.offered.items lt (gives ∙ w.in_default.is)
          (same ∙ c.loop-i.invariant)
    ]
