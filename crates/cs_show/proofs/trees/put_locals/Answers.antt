use Rattle.std.proofs.Common.{ap, ◌∙◌}
use Rattle.cs_tree.specs.Kept.{KeptTrees, kept_local}
use Rattle.cs_show.proofs.Rolls.{found_at}
use Rattle.cs_show.proofs.trees.put_locals.Goals as goal

pub put_region_locals-requires : goal.put_region_locals-requires
put_region_locals-requires c =
    let view = c.args.view.now in
    let pair = c.loop-region-item.result in
    let found = found_at _ view.rolls c.loop-region.region-index pair c.known-region-items.ensures.value
    c.known-region-items.ensures.ascending c.loop-region-test.true c.loop-region-item.is in
    λ colour small.
    ap (λ (kept : KeptTrees). kept_local pair.0 colour kept) c.requires
    ∙ c.kept_trees_are_the_trees.ensures.within view.summaries view.rolls pair.0 colour pair.1 found small
