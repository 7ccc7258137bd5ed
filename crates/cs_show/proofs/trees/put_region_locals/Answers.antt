use Rattle.std.proofs.Common.{ℕ, ◌++◌, ap, ◌∙◌}
use Rattle.std.specs.Option.{option_map, option_to_list}
use Rattle.std.specs.String.{string_bytes}
use Rattle.cs_tree.specs.Local.{local_tree}
use Rattle.cs_show.specs.Block.{local_line}
use Rattle.cs_show.specs.Text.{text_of}
use Rattle.cs_show.proofs.TreeLines.{colours_more}
use Rattle.cs_show.proofs.trees.put_region_locals.Goals as goal

pub loop-colour-preserved : goal.loop-colour-preserved
loop-colour-preserved c =
    let line = λ (colour : ℕ). option_map (local_line c.args.region colour) (local_tree colour c.args.roll.now) in
    c.in_ok-put_local.ensures
    ∙ (ap (λ was. was ++ text_of (option_to_list (line c.loop-colour.colour))) c.loop-colour.invariant
    ∙ colours_more line (string_bytes c.args.out.now) c.loop-colour.colour)
