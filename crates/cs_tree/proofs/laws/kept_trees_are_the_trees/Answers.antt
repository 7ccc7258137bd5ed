use Rattle.std.proofs.Common.{ap, ◌∙◌}
use Rattle.std.specs.Option.{option_map}
use Rattle.cs_tree.specs.Kept.{kept_trees}
use Rattle.cs_tree.specs.Local.{local_trees}
use Rattle.cs_tree.proofs.KeptTrees.{inter-at, kept-local-at, trees-at}
use Rattle.cs_tree.proofs.laws.kept_trees_are_the_trees.Goals as goal

pub returns-clause-between : goal.returns-clause-between
returns-clause-between c = λ summaries rolls colour. inter-at colour summaries rolls

-- the trees beside a region are those of its roll
pub returns-clause-within : goal.returns-clause-within
returns-clause-within c = λ summaries rolls region colour roll at. (
    kept-local-at region colour (kept_trees summaries rolls) roll (trees-at region rolls ∙ ap (option_map local_trees) at)
    )
