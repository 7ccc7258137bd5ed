use Rattle.std.proofs.Common.{◌≡◌, ◌++◌, List, Some, decimal, sym, ap, ◌∙◌}
use Rattle.std.specs.List.{flat_map}
use Rattle.std.specs.Option.{option_map, option_to_list}
use Rattle.std.specs.String.{string_bytes}
use Rattle.std.proofs.lemmas.Result.{IfOk-equal}
use Rattle.cs_base.specs.Limits.{most_children}
use Rattle.cs_base.specs.declared.member.Member.{Member}
use Rattle.cs_roll.specs.Roll.{member_id}
use Rattle.cs_tree.specs.Local.{local_tree, member_point, part_of_colour}
use Rattle.cs_tree.specs.Tree.{RootedTree}
use Rattle.cs_show.specs.Block.{edges_text, local_line, tree_text}
use Rattle.cs_show.specs.Text.{text_of}
use Rattle.cs_show.proofs.Edges.{Pairwise-tree, edges_of_tree}
use Rattle.cs_show.proofs.TreeLines.{local_put, tree_put}
use Rattle.cs_show.proofs.trees.put_local.Goals as goal

pub returns : goal.returns
returns c =
    let start = string_bytes c.args.out.now in
    let roll = c.args.roll.now in
    let colour = c.args.colour in
    let tree : RootedTree = c.in-Some.tree.now in
    let is : local_tree colour roll ≡ Some tree = sym c.requires ∙ sym c.in-Some.ensures in
    let is_roll = c.as_slice.ensures.roll in
    let good = c.local_trees_are_good.ensures.tree roll colour tree is_roll is in
    let pairs = Pairwise-tree member_id member_point (part_of_colour colour roll) tree is in
    let edges = ap (λ (members : List Member). flat_map (λ (m : Member). edges_text tree.edges m.id) members) c.as_slice.ensures.value
    ∙ edges_of_tree member_id most_children tree roll is_roll.ascending pairs good in
    IfOk-equal _ _ _ _ c.writeln.ensures.bytes
    (local_put start (decimal c.args.region) (decimal colour) (decimal c.root-root.result) _ (tree_text tree) _ _
    c.in_ok-write.ensures.bytes c.in_ok-put_member_edges.ensures (tree_put c.root-root.result tree _ c.root-root.ensures edges)
    ∙ ap (λ t. start ++ text_of (option_to_list (option_map (local_line c.args.region colour) t))) (sym is))
