use Rattle.std.proofs.Common.{◌≡◌, ◌++◌, ◌%◌, false, Some, length, ap, sym, ◌∙◌, append-nil, arith}
use Rattle.cs_tree.specs.Colour.{members_of_colour, trees_of}
use Rattle.cs_tree.specs.Local.{local_tree}
use Rattle.cs_tree.specs.Route.{members_with, to_children}
use Rattle.cs_tree.specs.Tree.{children_of}
use Rattle.cs_tree.proofs.Offers.{members-both}
use Rattle.cs_tree.proofs.Unoffered.{has_id, members-none}
use Rattle.cs_tree.proofs.routes.append_known.Goals as goal

-- nothing, where the node is no representative and has another colour
pub returns-then-not-is_inside : goal.returns-then-not-is_inside
returns-then-not-is_inside c =
    let roll = c.args.roll.now in
    let colour = c.args.colour % trees_of (length roll) in
    let trees_is : trees_of (length roll) ≡ c.min-trees.result = omega (arith, c.len.ensures, c.min-trees.ensures) in
    let outside : has_id c.args.me (members_of_colour colour roll) ≡ false =
    ap (λ id. has_id id (members_of_colour colour roll)) (sym c.get.ensures.value)
    ∙ (ap (λ trees. has_id c.get.result (members_of_colour (c.args.colour % trees) roll)) trees_is
    ∙ (ap (λ n. has_id c.get.result (members_of_colour (n % c.min-trees.result) roll)) (sym c.from.ensures)
    ∙ (sym c.is_inside.ensures.value ∙ c.if-not-is_inside.true))) in
    let nothing = members-none c.args.me colour roll c.is_inside.ensures.roll outside in
    rw (c.if-not-is_representative.true, nothing) (sym (append-nil c.args.offered.now.items))

-- the root, where it is offered, and then the children
pub returns-in_ok-append_members : goal.returns-in_ok-append_members
returns-in_ok-append_members c =
    let roll = c.args.roll.now in
    let colour = c.args.colour % trees_of (length roll) in
    let trees_is : trees_of (length roll) ≡ c.min-trees.result = omega (arith, c.len.ensures, c.min-trees.ensures) in
    let known : local_tree colour roll ≡ Some c.in-Some.tree =
    ap (λ trees. local_tree (c.args.colour % trees) roll) trees_is
    ∙ (ap (λ n. local_tree (n % c.min-trees.result) roll) (sym c.from.ensures) ∙ (sym c.in_ok-tree.ensures.value ∙ c.in-Some.is)) in
    let root = c.in_ok-append_root.ensures in
    let children : c.append_members.new.offered.items ≡ c.append_root.new.offered.items ++ members_with roll (to_children c.args.me c.in-Some.tree) =
    c.in_ok-append_members.ensures
    ∙ ap (λ ids. c.append_root.new.offered.items ++ members_with roll ids)
    (c.children.ensures.value ∙ ap (λ key. children_of key c.in-Some.tree.edges) c.get-in-Some.ensures.value) in
    members-both c.args.me c.args.is_representative roll c.in-Some.tree (local_tree colour roll) c.args.offered.now.items c.append_root.new.offered.items
    c.append_members.new.offered.items known root children
