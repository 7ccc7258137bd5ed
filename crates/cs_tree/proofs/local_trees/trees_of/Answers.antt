use Rattle.std.proofs.Common.{◌≡◌, ◌<◌, ◌≤◌, length, Some, ◌∙◌, sym, arith}
use Rattle.cs_tree.specs.Colour.{trees_of}
use Rattle.cs_tree.specs.Local.{local_tree}
use Rattle.cs_tree.proofs.KeptTrees.{tree-more, trees-all}
use Rattle.cs_tree.proofs.local_trees.trees_of.Goals as goal

-- there is a tree of each colour that a member has
pub loop-colour-preserved : goal.loop-colour-preserved
loop-colour-preserved g c =
    let roll = c.args.roll.now in
    let i = c.loop-colour.colour in
    let lt : i < trees_of (length roll) = omega (arith, c.loop-colour-test.true, c.min-colour-end.ensures, c.len.ensures) in
    let found : local_tree i roll ≡ Some c.unwrap.result = sym c.in_ok-tree.ensures.value ∙ c.unwrap.ensures in
    record {
      trees = tree-more roll i c.unwrap.result c.loop-colour.trees.items c.push.new.self.items lt found c.loop-colour.invariant.trees
          c.in_ok-push.ensures.items;
      steps = omega (arith, c.local.ensures.most, c.loop-colour.invariant.steps);
    }

-- and none of another
pub returns-clause-value : goal.returns-clause-value
returns-clause-value g c =
    let roll = c.args.roll.now in
    let le : trees_of (length roll) ≤ c.loop-colour.colour = omega (arith, c.min-colour-end.ensures, c.len.ensures) in
    trees-all roll c.loop-colour.colour c.loop-colour.trees.items le c.loop-colour.invariant.trees
