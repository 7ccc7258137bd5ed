use Rattle.std.proofs.Common.{option_to_list, ◌++◌, arith}
use Rattle.std.proofs.lemmas.Result.{on_ok_weaker}
use Rattle.cs_tree.proofs.Placing.{below, below-three, length-three, room-first, room-second, room-third, still-there, three-placed}
use Rattle.cs_tree.proofs.grow.place_children.Goals as goal

-- there is room for the root on the left, then for that on the right, and then for the leaves
pub place_root-requires-clause-new : goal.place_root-requires-clause-new
place_root-requires-clause-new g c =
    room-first g.P.Keyed.key_of (option_to_list c.args.left) (option_to_list c.args.right) c.args.leaves.now c.args.builder.now c.requires.new

pub place_root-requires-2-clause-parent : goal.place_root-requires-2-clause-parent
place_root-requires-2-clause-parent g c =
    still-there g.P.Keyed.key_of c.args.parent c.args.parent c.args.builder.now c.place_root.new.builder (option_to_list c.args.left)
    c.in_ok-place_root.ensures.placed c.requires.parent

pub place_root-requires-2-clause-new : goal.place_root-requires-2-clause-new
place_root-requires-2-clause-new g c =
    room-second g.P.Keyed.key_of (option_to_list c.args.left) (option_to_list c.args.right) c.args.leaves.now c.args.builder.now c.requires.new
    c.args.parent c.place_root.new.builder c.in_ok-place_root.ensures.placed

pub place_leaves-requires-clause-parent : goal.place_leaves-requires-clause-parent
place_leaves-requires-clause-parent g c =
    let key = g.P.Keyed.key_of in
    let one = c.place_root.new.builder in
    let first = still-there key c.args.parent c.args.parent c.args.builder.now one (option_to_list c.args.left) c.in_ok-place_root.ensures.placed
    c.requires.parent in
    still-there key c.args.parent c.args.parent one c.place_root-2.new.builder (option_to_list c.args.right) c.in_ok-place_root-2.ensures.placed first

pub place_leaves-requires-clause-new : goal.place_leaves-requires-clause-new
place_leaves-requires-clause-new g c =
    room-third g.P.Keyed.key_of (option_to_list c.args.left) (option_to_list c.args.right) c.args.leaves.now c.args.builder.now c.requires.new
    c.args.parent c.place_root.new.builder c.in_ok-place_root.ensures.placed c.place_root-2.new.builder c.in_ok-place_root-2.ensures.placed

-- all of them stand below the parent
pub returns-clause-placed : goal.returns-clause-placed
returns-clause-placed g c =
    let key = g.P.Keyed.key_of in
    let parent = c.args.parent in
    let left = option_to_list c.args.left in
    let right = option_to_list c.args.right in
    let leaves = c.args.leaves.now in
    on_ok_weaker c.place_leaves.result
    (λ last. three-placed (below key parent left) (below key parent right) (below key parent leaves) (below key parent (left ++ right ++ leaves))
    c.args.builder.now c.place_root.new.builder c.place_root-2.new.builder c.place_leaves.new.builder c.in_ok-place_root.ensures.placed
    c.in_ok-place_root-2.ensures.placed last (below-three key left right leaves parent))
    c.place_leaves.ensures.placed

-- and they are no more than all
pub returns-clause-most : goal.returns-clause-most
returns-clause-most g c =
    let many = length-three g.P.Keyed.key_of (option_to_list c.args.left) (option_to_list c.args.right) c.args.leaves.now in
    omega (arith, many, c.place_root.ensures.most, c.place_root-2.ensures.most, c.place_leaves.ensures.most)
