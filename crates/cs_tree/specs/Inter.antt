-- The inter-region tree of a colour: the skeleton of the regions, each at the point of its representative.
--
--     regions 0, 1, 2 with representatives at x = 0, 10, 20          1
--                                                                   / \
--                                                                  0   2
use Rattle.std.specs.Prelude.{ℕ, List, Option}
use Rattle.std.specs.List.{filter_map}
use Rattle.std.specs.Option.{option_map}
use Rattle.cs_base.specs.declared.member.Member.{Member}
use Rattle.cs_roll.specs.Sight.{Summaries}
use Rattle.cs_roll.specs.Summary.{RegionSummary}
use Rattle.cs_tree.specs.Colour.{representative}
use Rattle.cs_tree.specs.Skeleton.{skeleton}
use Rattle.cs_tree.specs.Tree.{RootedTree}
use Rattle.cs_tree.specs.declared.region_point.RegionPoint.{RegionPoint}

-- a region at the point of its representative
abbrev pub region_point : ℕ → ℕ × RegionSummary → Option RegionPoint
region_point colour pair =
    option_map (λ (m : Member). record { region = pair.0; at = m.at }) (representative colour pair.1)

abbrev pub region_points : ℕ → Summaries → List RegionPoint
region_points colour summaries = filter_map (region_point colour) summaries

abbrev pub inter_tree : ℕ → Summaries → Option RootedTree
inter_tree colour summaries =
    skeleton (λ (r : RegionPoint). r.region) (λ (r : RegionPoint). r.at) (region_points colour summaries)
