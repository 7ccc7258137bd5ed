-- Standings: which node represents each region, by colour.
--
--     region 7 with three members 3, 5, 8     3 stands for region 7 in the trees of the colours 0 and 3, 5 in those
--                                             of colour 1, and 8 in those of colour 2
use Rattle.std.specs.Prelude.{ℕ, ◌==◌, Bool, false, List, map, Option, slice_get}
use Rattle.std.specs.List.{range_with_len}
use Rattle.std.specs.Option.{option_and_then, option_map, option_map_or}
use Rattle.cs_base.specs.Limits.{colours}
use Rattle.cs_roll.specs.Roll.{member_id}
use Rattle.cs_roll.specs.Sight.{Summaries}
use Rattle.cs_roll.specs.Summary.{RegionSummary}
use Rattle.cs_tree.specs.Colour.{representative}

-- the nodes that represent a region, by ascending colour
abbrev pub nodes_of : RegionSummary → List (Option ℕ)
nodes_of summary = map (λ colour. option_map member_id (representative colour summary)) (range_with_len 0 colours)

-- pairs of a region and these nodes
abbrev pub NodesByRegion : Type 0
NodesByRegion = List (ℕ × List (Option ℕ))

-- those of each region
abbrev pub standings : Summaries → NodesByRegion
standings summaries = map (λ (pair : ℕ × RegionSummary). (pair.0, nodes_of pair.1)) summaries

-- whether a node is the one of the colour among them
abbrev pub stands : ℕ → ℕ → List (Option ℕ) → Bool
stands me colour nodes =
    option_map_or (λ node. node == me) (option_and_then (λ (node : Option ℕ). node) (slice_get nodes colour)) false
