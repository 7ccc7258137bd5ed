-- The inter-region trees of what is seen of a group are good.
use Rattle.std.proofs.Common.{◌≡◌, ℕ, ◌+◌, ◌%◌, ◌<◌, ◌≤◌, List, [], ◌∷◌, length, map, IsSome, Some}
use Rattle.std.proofs.Common.{refl, ap, arith}
use Rattle.std.specs.List.{AllByRecursion}
use Rattle.std.proofs.lemmas.List.{length-map}
use Rattle.cs_base.specs.Axes.{Axes}
use Rattle.cs_base.specs.Limits.{most_region_children}
use Rattle.cs_base.specs.declared.member.Member.{Member}
use Rattle.cs_roll.specs.Sight.{IsSight, Rolls, Summaries}
use Rattle.cs_roll.specs.Summary.{IsSummary, RegionSummary}
use Rattle.cs_tree.specs.Colour.{representative, trees_of}
use Rattle.cs_tree.specs.Good.{IsTreeOver}
use Rattle.cs_tree.specs.Inter.{inter_tree, region_points}
use Rattle.cs_tree.specs.Skeleton.{Part}
use Rattle.cs_tree.specs.Tree.{RootedTree}
use Rattle.cs_tree.specs.declared.region_point.RegionPoint.{RegionPoint}
use Rattle.cs_tree.proofs.Counts.{count, count_of, count-map, AreDistinct-ascending}
use Rattle.cs_tree.proofs.GoodTrees.{IsGoodPart-tree}
use Rattle.cs_tree.proofs.Seen.{slice_get-within}
use Rattle.cs_tree.proofs.Growing.{root-some}

-- each region has a representative
pub representative-there : (colour : ℕ) (summary : RegionSummary) → IsSummary summary → (m : Member) × (representative colour summary ≡ Some m)
representative-there colour summary is =
    let place = colour % trees_of summary.size in
    let low : place < length summary.globals = omega (arith, is.some, is.globals) in
    slice_get-within summary.globals place low

-- so each stands among the regions with points
pub regions-points : (colour : ℕ) (summaries : Summaries) → AllByRecursion (λ (pair : ℕ × RegionSummary). IsSummary pair.1) summaries
    → map (λ (r : RegionPoint). r.region) (region_points colour summaries) ≡ map (λ (pair : ℕ × RegionSummary). pair.0) summaries
regions-points colour [] allowed = refl
regions-points colour (pair ∷ pairs) allowed =
    let stands = representative-there colour pair.1 allowed.0 in
    rw stands.1 (ap (λ rs. pair.0 ∷ rs) (regions-points colour pairs allowed.1))

-- a tree of the regions is good
pub IsTreeOver-inter : (colour : ℕ) (summaries : Summaries) (rolls : Rolls) (tree : RootedTree) → IsSight summaries rolls
    → inter_tree colour summaries ≡ Some tree → IsTreeOver most_region_children (map (λ (pair : ℕ × RegionSummary). pair.0) summaries) tree
IsTreeOver-inter colour summaries rolls tree sight made =
    let region : RegionPoint → ℕ = λ r. r.region in
    let point : RegionPoint → Axes = λ r. r.at in
    let points = region_points colour summaries in
    let part : Part RegionPoint = record { own = points; others = [] } in
    let regions : List ℕ = map (λ (pair : ℕ × RegionSummary). pair.0) summaries in
    let distinct : (k : ℕ) → count k regions ≤ 1 = λ k. omega (
      arith,
      count-map (λ (pair : ℕ × RegionSummary). pair.0) k summaries,
      AreDistinct-ascending (λ (pair : ℕ × RegionSummary). pair.0) summaries sight.summaries_ascend k,
    ) in
    let all : (k : ℕ) → count k regions ≡ count_of region k points + count_of region k [] = λ k. omega (
      arith,
      count-map region k points,
      ap (count k) (regions-points colour summaries sight.summaries_allowed),
    ) in
    (IsGoodPart-tree region point 0 part regions distinct all (λ some. omega arith) tree made).over

-- and there is one, where there is a region
pub inter-there : (colour : ℕ) (summaries : Summaries) (rolls : Rolls) → IsSight summaries rolls → 0 < length summaries
    → IsSome (inter_tree colour summaries)
inter-there colour summaries rolls sight some =
    let points = region_points colour summaries in
    let regions = regions-points colour summaries sight.summaries_allowed in
    let root = root-some (λ (r : RegionPoint). r.region) (λ (r : RegionPoint). r.at) points
    (omega (arith, ap length regions, length-map points (λ (r : RegionPoint). r.region), length-map summaries (λ (pair : ℕ × RegionSummary). pair.0))) in
    rw root.1 refl
