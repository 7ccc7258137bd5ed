use Rattle.std.proofs.Common.{ℕ, ◌++◌, sym, ap, ◌∙◌, slice_get}
use Rattle.std.specs.Option.{option_map, option_to_list}
use Rattle.std.specs.String.{string_bytes}
use Rattle.cs_tree.specs.Inter.{inter_tree}
use Rattle.cs_tree.specs.Kept.{KeptTrees}
use Rattle.cs_show.specs.Block.{inter_line}
use Rattle.cs_show.specs.Text.{text_of}
use Rattle.cs_show.proofs.TreeLines.{colours_more}
use Rattle.cs_show.proofs.trees.put_kept_inters.Goals as goal

-- the tree that is kept for the colour is that of the regions
pub put_inter-requires-clause-tree : goal.put_inter-requires-clause-tree
put_inter-requires-clause-tree c =
    let view = c.args.view.now in
    let colour = c.loop-colour.colour in
    sym (c.kept_trees_are_the_trees.ensures.between view.summaries view.rolls colour c.count-count.ensures.sight
    c.known-known.ensures.keeps.size.some c.loop-colour-test.true)
    ∙ (ap (λ (kept : KeptTrees). slice_get kept.between colour) (sym c.requires) ∙ c.inter_tree.ensures)

pub loop-colour-preserved : goal.loop-colour-preserved
loop-colour-preserved c =
    let line = λ (colour : ℕ). option_map (inter_line colour) (inter_tree colour c.args.view.now.summaries) in
    c.in_ok-put_inter.ensures
    ∙ (ap (λ was. was ++ text_of (option_to_list (line c.loop-colour.colour))) c.loop-colour.invariant
    ∙ colours_more line (string_bytes c.args.out.now) c.loop-colour.colour)
