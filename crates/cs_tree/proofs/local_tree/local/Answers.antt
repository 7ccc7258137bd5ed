use Rattle.std.proofs.Common.{◌≡◌, ◌≤◌, ◌↔◌, length, Option, IsNone, ap, ◌∙◌, arith}
use Rattle.std.proofs.lemmas.Result.{IfOk-weaker}
use Rattle.cs_tree.proofs.Coloured.{apart-of_colour, apart-of_others, no-local}
use Rattle.cs_tree.proofs.Colours.{count-coloured, length-both}
use Rattle.cs_tree.proofs.Counts.{count-map}
use Rattle.cs_tree.proofs.GoodLocals.{distinct-ids}
use Rattle.cs_roll.specs.Roll.{member_id}
use Rattle.cs_tree.specs.Colour.{members_of_colour, members_of_others, trees_of}
use Rattle.cs_tree.specs.Local.{local_tree}
use Rattle.cs_tree.specs.Tree.{RootedTree}
use Rattle.cs_tree.proofs.local_tree.local.Goals as goal

-- ids tell the members of a roll apart
pub tree_of-requires : goal.tree_of-requires
tree_of-requires g c =
    let roll = c.args.roll.now in
    let colour = c.args.colour in
    let own : c.deref_mut.result.now ≡ members_of_colour colour roll =
    c.deref_mut.ensures.value ∙ (c.in_ok-own.ensures ∙ ap (members_of_colour colour) c.as_slice.ensures.value) in
    let others : c.deref_mut-2.result.now ≡ members_of_others colour roll =
    c.deref_mut-2.ensures.value ∙ (c.in_ok-others.ensures ∙ ap (members_of_others colour) c.as_slice-2.ensures.value) in
    let up = c.as_slice.ensures.roll.ascending in
    rw (own, others) (record {
      few = omega (arith, length-both colour roll, c.requires);
      own_distinct = apart-of_colour colour roll up;
      others_distinct = apart-of_others colour roll up;
      once = λ k. omega (
        arith,
        distinct-ids roll c.as_slice.ensures.roll k,
        count-map member_id k roll,
        count-coloured k colour roll,
        count-map member_id k (members_of_colour colour roll),
        count-map member_id k (members_of_others colour roll),
      );
    })

-- the tree is that of the definition
pub returns-clause-value : goal.returns-clause-value
returns-clause-value g c =
    let roll = c.args.roll.now in
    let colour = c.args.colour in
    let own : c.deref_mut.result.now ≡ members_of_colour colour roll =
    c.deref_mut.ensures.value ∙ (c.in_ok-own.ensures ∙ ap (members_of_colour colour) c.as_slice.ensures.value) in
    let others : c.deref_mut-2.result.now ≡ members_of_others colour roll =
    c.deref_mut-2.ensures.value ∙ (c.in_ok-others.ensures ∙ ap (members_of_others colour) c.as_slice-2.ensures.value) in
    rw (own, others) at c.tree_of.ensures.value

pub returns-clause-none : goal.returns-clause-none
returns-clause-none g c =
    let roll = c.args.roll.now in
    let colour = c.args.colour in
    let known : Option RootedTree → Type 0 = λ tree. tree ≡ local_tree colour roll in
    let wanted : Option RootedTree → Type 0 = λ tree. IsNone tree ↔ (trees_of (length roll) ≤ colour) in
    IfOk-weaker c.tree_of.result known wanted (λ tree is. rw is (no-local colour roll)) (returns-clause-value g c)

-- each member takes a step at most
pub returns-clause-most : goal.returns-clause-most
returns-clause-most g c =
    let roll = c.args.roll.now in
    let colour = c.args.colour in
    let own : c.deref_mut.result.now ≡ members_of_colour colour roll =
    c.deref_mut.ensures.value ∙ (c.in_ok-own.ensures ∙ ap (members_of_colour colour) c.as_slice.ensures.value) in
    let others : c.deref_mut-2.result.now ≡ members_of_others colour roll =
    c.deref_mut-2.ensures.value ∙ (c.in_ok-others.ensures ∙ ap (members_of_others colour) c.as_slice-2.ensures.value) in
    omega (arith, c.tree_of.ensures.most, ap length own, ap length others, length-both colour roll)
