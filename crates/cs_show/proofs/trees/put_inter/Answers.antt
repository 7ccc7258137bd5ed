use Rattle.std.proofs.Common.{ℕ, ◌++◌, decimal, sym, ap, ◌∙◌}
use Rattle.std.specs.Option.{option_map, option_to_list}
use Rattle.std.specs.String.{string_bytes}
use Rattle.std.proofs.lemmas.Result.{IfOk-equal}
use Rattle.cs_base.specs.Limits.{most_region_children}
use Rattle.cs_roll.specs.Summary.{RegionSummary}
use Rattle.cs_tree.specs.Inter.{region_points}
use Rattle.cs_tree.specs.Tree.{RootedTree}
use Rattle.cs_show.specs.Block.{inter_line, tree_text}
use Rattle.cs_show.specs.Text.{text_of}
use Rattle.cs_show.proofs.Edges.{Pairwise-skeleton, edges_of_tree}
use Rattle.cs_show.proofs.TreeLines.{inter_put, tree_put}
use Rattle.cs_show.proofs.trees.put_inter.Goals as goal

pub returns : goal.returns
returns c =
    let start = string_bytes c.args.out.now in
    let view = c.args.view.now in
    let colour = c.args.colour in
    let tree : RootedTree = c.args.tree.now in
    let is = c.requires.tree in
    let good = c.inter_trees_are_good.ensures.tree view.summaries view.rolls colour tree c.requires.sight is in
    let pairs = Pairwise-skeleton (region_points colour view.summaries) (λ r. r.region) (λ r. r.at) tree is in
    let edges = edges_of_tree (λ (pair : ℕ × RegionSummary). pair.0) most_region_children tree view.summaries c.requires.sight.summaries_ascend pairs good in
    IfOk-equal _ _ _ _ c.writeln.ensures.bytes
    (inter_put start (decimal colour) (decimal c.root-root.result) _ (tree_text tree) _ _
    c.in_ok-write.ensures.bytes c.in_ok-put_region_edges.ensures (tree_put c.root-root.result tree _ c.root-root.ensures edges)
    ∙ ap (λ t. start ++ text_of (option_to_list (option_map (inter_line colour) t))) (sym is))
