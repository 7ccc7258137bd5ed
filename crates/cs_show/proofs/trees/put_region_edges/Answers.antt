use Rattle.std.proofs.Common.{ℕ, ◌++◌, take, Some, sym, ap, ◌∙◌, append_assoc}
use Rattle.std.specs.List.{flat_map}
use Rattle.std.specs.String.{string_bytes}
use Rattle.cs_roll.specs.Summary.{RegionSummary}
use Rattle.cs_show.specs.Block.{edges_text}
use Rattle.cs_show.proofs.TreeLines.{first_parts_more}
use Rattle.cs_show.proofs.trees.put_region_edges.Goals as goal

pub loop-place-preserved : goal.loop-place-preserved
loop-place-preserved c =
    let edges = c.args.tree.now.edges in
    let all = c.args.view.now.summaries in
    let place = c.loop-place.place in
    let region = c.get.result in
    let start = string_bytes c.args.out.now in
    let front = flat_map (λ (pair : ℕ × RegionSummary). edges_text edges pair.0) (take place all) in
    let more = first_parts_more (edges_text edges) all place region (c.region.ensures ∙ ap (λ r. Some r) (sym c.get.ensures.value)) in
    c.in_ok-put_edges.ensures
    ∙ (ap (λ was. was ++ edges_text edges region) c.loop-place.invariant
    ∙ (append_assoc start front (edges_text edges region) ∙ ap (λ rest. start ++ rest) (sym more)))
