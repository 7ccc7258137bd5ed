use Rattle.std.proofs.Common.{◌≡◌, ℕ, ◌++◌}
use Rattle.std.specs.List.{filter_map, range_with_len}
use Rattle.std.specs.Option.{option_map}
use Rattle.std.specs.String.{string_bytes}
use Rattle.cs_tree.specs.Inter.{inter_tree}
use Rattle.cs_show.specs.Block.{inter_line}
use Rattle.cs_show.specs.Text.{text_of}
use Rattle.cs_show.proofs.trees.put_kept_inters.Given as goal

abbrev pub invariant-loop-colour : goal.invariant-loop-colour
invariant-loop-colour l =
    string_bytes l.out
    ≡ string_bytes l.initial.out
    ++ text_of (filter_map (λ (colour : ℕ). option_map (inter_line colour) (inter_tree colour l.view.summaries)) (range_with_len 0 l.colour))
