use Rattle.std.proofs.Common.{◌≡◌, ◌++◌, ◌%◌, ◌<◌, None, Some, length, ap, sym, ◌∙◌, append-nil, arith}
use Rattle.std.specs.Option.{option_copied}
use Rattle.cs_tree.specs.Colour.{trees_of}
use Rattle.cs_tree.specs.Kept.{kept_local}
use Rattle.cs_tree.specs.Local.{local_tree}
use Rattle.cs_tree.specs.Route.{members_with, to_children, to_members}
use Rattle.cs_tree.specs.Tree.{children_of}
use Rattle.cs_tree.proofs.KeptTrees.{kept-local-at}
use Rattle.cs_tree.proofs.Offers.{members-both}
use Rattle.cs_tree.proofs.kept_routes.append_known.Goals as goal

-- the root, where it is offered, and then the children
pub returns-in_ok-append_members : goal.returns-in_ok-append_members
returns-in_ok-append_members c =
    let roll = c.args.roll.now in
    let colour = c.args.colour % trees_of (length roll) in
    let place = c.from.result % c.min-trees.result in
    let tree = c.in-Some.tree.now in
    let trees_is : trees_of (length roll) ≡ c.min-trees.result = omega (arith, c.len.ensures, c.min-trees.ensures) in
    let lt : place < trees_of (length roll) = omega (arith, c.requires.some, c.len.ensures, c.min-trees.ensures) in
    let place_is : local_tree colour roll ≡ local_tree place roll =
    ap (λ trees. local_tree (c.args.colour % trees) roll) trees_is ∙ ap (λ n. local_tree (n % c.min-trees.result) roll) (sym c.from.ensures) in
    let kept : kept_local c.args.region place c.args.kept.now ≡ local_tree place roll =
    kept-local-at c.args.region place c.args.kept.now roll c.requires.kept lt in
    let known : local_tree colour roll ≡ Some tree = place_is ∙ (sym kept ∙ sym c.in-Some.ensures) in
    let root = c.in_ok-append_root.ensures in
    let children : c.append_members.new.offered.items ≡ c.append_root.new.offered.items ++ members_with roll (to_children c.args.me tree) =
    c.in_ok-append_members.ensures
    ∙ ap (λ ids. c.append_root.new.offered.items ++ members_with roll ids)
    (c.children.ensures.value ∙ ap (λ key. children_of key tree.edges) c.get.ensures.value) in
    members-both c.args.me c.args.is_representative roll tree (local_tree colour roll) c.args.offered.now.items c.append_root.new.offered.items
    c.append_members.new.offered.items known root children

-- nothing, where there is no tree
pub returns-in_default : goal.returns-in_default
returns-in_default c =
    let roll = c.args.roll.now in
    let colour = c.args.colour % trees_of (length roll) in
    let place = c.from.result % c.min-trees.result in
    let trees_is : trees_of (length roll) ≡ c.min-trees.result = omega (arith, c.len.ensures, c.min-trees.ensures) in
    let lt : place < trees_of (length roll) = omega (arith, c.requires.some, c.len.ensures, c.min-trees.ensures) in
    let place_is : local_tree colour roll ≡ local_tree place roll =
    ap (λ trees. local_tree (c.args.colour % trees) roll) trees_is ∙ ap (λ n. local_tree (n % c.min-trees.result) roll) (sym c.from.ensures) in
    let kept : kept_local c.args.region place c.args.kept.now ≡ local_tree place roll =
    kept-local-at c.args.region place c.args.kept.now roll c.requires.kept lt in
    let none : local_tree colour roll ≡ None = place_is ∙ (sym kept ∙ (sym c.local_tree.ensures ∙ ap (λ o. option_copied o) c.in_default.is)) in
    sym (append-nil c.args.offered.now.items)
    ∙ ap (λ known. c.args.offered.now.items ++ to_members c.args.me c.args.is_representative roll known) (sym none)
