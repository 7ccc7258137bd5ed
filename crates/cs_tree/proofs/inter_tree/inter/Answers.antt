use Rattle.std.proofs.Common.{◌≡◌, ◌+◌, length, ℕ, ap, sym, ◌∙◌, arith}
use Rattle.std.proofs.lemmas.List.{length-map}
use Rattle.cs_roll.specs.Summary.{RegionSummary}
use Rattle.cs_tree.proofs.Counts.{AreDistinct-ascending, count, count-map}
use Rattle.cs_tree.proofs.GoodInter.{inter-there, regions-points}
use Rattle.cs_tree.proofs.RegionPoints.{apart-points, region_of}
use Rattle.cs_tree.specs.Building.{number_of_keys_in}
use Rattle.cs_tree.specs.Inter.{inter_tree, region_points}
use Rattle.cs_tree.specs.Skeleton.{skeleton}
use Rattle.cs_tree.specs.declared.region_point.RegionPoint.{RegionPoint}
use Rattle.cs_tree.proofs.inter_tree.inter.Goals as goal

-- each region has one point, and there are few regions
pub tree_of-requires : goal.tree_of-requires
tree_of-requires g c =
    let colour = c.args.colour in
    let summaries = g.V.Sight.summaries c.args.sight.now in
    let sight = c.in_ok-points.ensures.sight in
    let points : c.deref_mut.result.now ≡ region_points colour summaries = c.deref_mut.ensures.value ∙ c.in_ok-points.ensures.points in
    let regions = ap length (regions-points colour summaries sight.summaries_allowed) in
    let each = length-map (region_points colour summaries) region_of in
    let all = length-map summaries (λ (pair : ℕ × RegionSummary). pair.0) in
    rw points (record {
      few = omega (arith, regions, each, all, sight.few);
      own_distinct = apart-points colour summaries sight.summaries_ascend;
      others_distinct = λ t u has has' same. absurd (omega (arith, has.1));
      once = λ k. omega (
        arith,
        ap (count k) (regions-points colour summaries sight.summaries_allowed),
        count-map (λ (pair : ℕ × RegionSummary). pair.0) k summaries,
        AreDistinct-ascending (λ (pair : ℕ × RegionSummary). pair.0) summaries sight.summaries_ascend k,
      );
    })

-- so there is a tree
pub unwrap-requires : goal.unwrap-requires
unwrap-requires g c =
    let colour = c.args.colour in
    let summaries = g.V.Sight.summaries c.args.sight.now in
    let points : c.deref_mut.result.now ≡ region_points colour summaries = c.deref_mut.ensures.value ∙ c.in_ok-points.ensures.points in
    let tree : c.in_ok-tree.tree ≡ inter_tree colour summaries =
    c.in_ok-tree.ensures.value ∙ ap (skeleton region_of (λ (r : RegionPoint). r.at)) points in
    rw tree (inter-there colour summaries (g.V.Sight.rolls c.args.sight.now) c.in_ok-points.ensures.sight c.requires.some)

pub returns-clause-value : goal.returns-clause-value
returns-clause-value g c =
    let colour = c.args.colour in
    let summaries = g.V.Sight.summaries c.args.sight.now in
    let points : c.deref_mut.result.now ≡ region_points colour summaries = c.deref_mut.ensures.value ∙ c.in_ok-points.ensures.points in
    let tree : c.in_ok-tree.tree ≡ inter_tree colour summaries =
    c.in_ok-tree.ensures.value ∙ ap (skeleton region_of (λ (r : RegionPoint). r.at)) points in
    sym tree ∙ c.unwrap.ensures

-- each key of it took a step
pub returns-clause-steps : goal.returns-clause-steps
returns-clause-steps g c = c.in_ok-tree.ensures.steps ∙ ap (λ tree. c.args.steps.now + number_of_keys_in tree) c.unwrap.ensures

-- and each region one at most
pub returns-clause-most : goal.returns-clause-most
returns-clause-most g c =
    let colour = c.args.colour in
    let summaries = g.V.Sight.summaries c.args.sight.now in
    let sight = c.in_ok-points.ensures.sight in
    let points : c.deref_mut.result.now ≡ region_points colour summaries = c.deref_mut.ensures.value ∙ c.in_ok-points.ensures.points in
    let regions = ap length (regions-points colour summaries sight.summaries_allowed) in
    let each = length-map (region_points colour summaries) region_of in
    let all = length-map summaries (λ (pair : ℕ × RegionSummary). pair.0) in
    omega (arith, c.tree_of.ensures.most, ap length points, regions, each, all)

pub returns-in_err-tree-clause-most : goal.returns-in_err-tree-clause-most
returns-in_err-tree-clause-most g c =
    let colour = c.args.colour in
    let summaries = g.V.Sight.summaries c.args.sight.now in
    let sight = c.in_ok-points.ensures.sight in
    let points : c.deref_mut.result.now ≡ region_points colour summaries = c.deref_mut.ensures.value ∙ c.in_ok-points.ensures.points in
    let regions = ap length (regions-points colour summaries sight.summaries_allowed) in
    let each = length-map (region_points colour summaries) region_of in
    let all = length-map summaries (λ (pair : ℕ × RegionSummary). pair.0) in
    omega (arith, c.tree_of.ensures.most, ap length points, regions, each, all)
