use Rattle.std.proofs.Common.{◌≡◌, ℕ, ◌++◌, take}
use Rattle.std.specs.List.{flat_map}
use Rattle.std.specs.String.{string_bytes}
use Rattle.cs_roll.specs.Summary.{RegionSummary}
use Rattle.cs_show.specs.Block.{edges_text}
use Rattle.cs_show.proofs.trees.put_region_edges.Given as goal

abbrev pub invariant-loop-place : goal.invariant-loop-place
invariant-loop-place l =
    string_bytes l.out
    ≡ string_bytes l.initial.out
    ++ flat_map (λ (pair : ℕ × RegionSummary). edges_text l.tree.edges pair.0) (take l.place l.view.summaries)
