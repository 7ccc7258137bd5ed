use Rattle.std.proofs.Common.{◌≡◌, ◌-◌, ◌++◌, Some, suc, length, option_to_list, refl, sym, ap, ◌∙◌, arith}
use Rattle.std.proofs.lemmas.Result.{on_ok_weaker}
use Rattle.cs_tree.specs.Skeleton.{edges_down, root_of}
use Rattle.cs_tree.proofs.Forking.{edges-fork}
use Rattle.cs_tree.proofs.Growing.{root-in}
use Rattle.cs_tree.proofs.Placing.{below, three-placed}
use Rattle.cs_tree.proofs.Rooms.{
  IsParted-fork,
  IsSide-on_left,
  IsSide-on_right,
  length-children,
  room-children,
  room-left,
  room-right,
  root-placed,
  root-short,
  side-lengths,
}
use Rattle.cs_tree.proofs.grow.+place_below.Goals as goal

-- the root is one of the elements
pub new-left-requires-clause-root : goal.new-left-requires-clause-root
new-left-requires-clause-root g t c =
    root-in g.P.Keyed.key_of g.P.HasPoint.point_of c.args.own.now c.in-Some.root (sym c.requires.root ∙ c.in-Some.is)

-- and no key stands there twice
pub new-left-requires-clause-once : goal.new-left-requires-clause-once
new-left-requires-clause-once g t c k = omega (arith, c.requires.room.there k, c.requires.room.once k)

-- the roots of both sides are chosen from few
pub root_of-left_root-requires : goal.root_of-left_root-requires
root_of-left_root-requires g t c =
    let key = g.P.Keyed.key_of in
    let point = g.P.HasPoint.point_of in
    let own = c.args.own.now in
    let others = c.args.others.now in
    let root = c.in-Some.root in
    let found : root_of key point own ≡ Some root = sym c.requires.root ∙ c.in-Some.is in
    let sides = c.new-left.result in
    let parts = c.new-left.ensures in
    let parted = IsParted-fork key point own others root c.args.builder.now found (rw c.in-Some.is at c.requires.room)
    sides.left.now sides.right.now sides.left_others.now sides.leaves.now sides.right_others.now parts.left parts.right parts.left_others parts.leaves parts.right_others in
    omega (arith, (IsSide-on_left key point parted c.requires.few c.requires.own_distinct c.requires.others_distinct).few)

pub root_of-right_root-requires : goal.root_of-right_root-requires
root_of-right_root-requires g t c =
    let key = g.P.Keyed.key_of in
    let point = g.P.HasPoint.point_of in
    let own = c.args.own.now in
    let others = c.args.others.now in
    let root = c.in-Some.root in
    let found : root_of key point own ≡ Some root = sym c.requires.root ∙ c.in-Some.is in
    let sides = c.new-left.result in
    let parts = c.new-left.ensures in
    let parted = IsParted-fork key point own others root c.args.builder.now found (rw c.in-Some.is at c.requires.room)
    sides.left.now sides.right.now sides.left_others.now sides.leaves.now sides.right_others.now parts.left parts.right parts.left_others parts.leaves parts.right_others in
    omega (arith, (IsSide-on_right key point parted c.requires.few c.requires.own_distinct c.requires.others_distinct).few)

-- the root is there, and there is room for its children
pub place_children-requires-clause-parent : goal.place_children-requires-clause-parent
place_children-requires-clause-parent g t c =
    let key = g.P.Keyed.key_of in
    let point = g.P.HasPoint.point_of in
    let own = c.args.own.now in
    let others = c.args.others.now in
    let root = c.in-Some.root in
    let found : root_of key point own ≡ Some root = sym c.requires.root ∙ c.in-Some.is in
    let sides = c.new-left.result in
    let parts = c.new-left.ensures in
    let parted = IsParted-fork key point own others root c.args.builder.now found (rw c.in-Some.is at c.requires.room)
    sides.left.now sides.right.now sides.left_others.now sides.leaves.now sides.right_others.now parts.left parts.right parts.left_others parts.leaves parts.right_others in
    rw c.key.ensures.value (root-placed key point parted)

pub place_children-requires-clause-new : goal.place_children-requires-clause-new
place_children-requires-clause-new g t c =
    let key = g.P.Keyed.key_of in
    let point = g.P.HasPoint.point_of in
    let own = c.args.own.now in
    let others = c.args.others.now in
    let root = c.in-Some.root in
    let found : root_of key point own ≡ Some root = sym c.requires.root ∙ c.in-Some.is in
    let sides = c.new-left.result in
    let parts = c.new-left.ensures in
    let parted = IsParted-fork key point own others root c.args.builder.now found (rw c.in-Some.is at c.requires.room)
    sides.left.now sides.right.now sides.left_others.now sides.leaves.now sides.right_others.now parts.left parts.right parts.left_others parts.leaves parts.right_others in
    let left_found : root_of key point sides.left.now ≡ c.root_of-left_root.result = sym c.root_of-left_root.ensures in
    let right_found : root_of key point sides.right.now ≡ c.root_of-right_root.result = sym c.root_of-right_root.ensures in
    let children = option_to_list c.root_of-left_root.result ++ option_to_list c.root_of-right_root.result ++ sides.leaves.now in
    room-children key point parted c.root_of-left_root.result c.root_of-right_root.result left_found right_found children refl

-- what was placed is no more than all
pub returns-in_err-place_children-clause-most : goal.returns-in_err-place_children-clause-most
returns-in_err-place_children-clause-most g t c =
    let key = g.P.Keyed.key_of in
    let point = g.P.HasPoint.point_of in
    let own = c.args.own.now in
    let others = c.args.others.now in
    let root = c.in-Some.root in
    let found : root_of key point own ≡ Some root = sym c.requires.root ∙ c.in-Some.is in
    let sides = c.new-left.result in
    let parts = c.new-left.ensures in
    let parted = IsParted-fork key point own others root c.args.builder.now found (rw c.in-Some.is at c.requires.room)
    sides.left.now sides.right.now sides.left_others.now sides.leaves.now sides.right_others.now parts.left parts.right parts.left_others parts.leaves parts.right_others in
    let left_found : root_of key point sides.left.now ≡ c.root_of-left_root.result = sym c.root_of-left_root.ensures in
    let right_found : root_of key point sides.right.now ≡ c.root_of-right_root.result = sym c.root_of-right_root.ensures in
    let one : length (option_to_list c.args.root) ≡ 1 = ap (λ r. length (option_to_list r)) c.in-Some.is in
    let lengths = side-lengths key point parted in
    let left_short = root-short key point sides.left.now c.root_of-left_root.result left_found in
    let right_short = root-short key point sides.right.now c.root_of-right_root.result right_found in
    let children = option_to_list c.root_of-left_root.result ++ option_to_list c.root_of-right_root.result ++ sides.leaves.now in
    let many = length-children key point parted c.root_of-left_root.result c.root_of-right_root.result left_found right_found children refl in
    omega (arith, one, lengths.0, lengths.1, left_short, right_short, many, c.place_children.ensures.most)

pub returns-in_err-place_below-clause-most : goal.returns-in_err-place_below-clause-most
returns-in_err-place_below-clause-most g t c =
    let key = g.P.Keyed.key_of in
    let point = g.P.HasPoint.point_of in
    let own = c.args.own.now in
    let others = c.args.others.now in
    let root = c.in-Some.root in
    let found : root_of key point own ≡ Some root = sym c.requires.root ∙ c.in-Some.is in
    let sides = c.new-left.result in
    let parts = c.new-left.ensures in
    let parted = IsParted-fork key point own others root c.args.builder.now found (rw c.in-Some.is at c.requires.room)
    sides.left.now sides.right.now sides.left_others.now sides.leaves.now sides.right_others.now parts.left parts.right parts.left_others parts.leaves parts.right_others in
    let left_found : root_of key point sides.left.now ≡ c.root_of-left_root.result = sym c.root_of-left_root.ensures in
    let right_found : root_of key point sides.right.now ≡ c.root_of-right_root.result = sym c.root_of-right_root.ensures in
    let one : length (option_to_list c.args.root) ≡ 1 = ap (λ r. length (option_to_list r)) c.in-Some.is in
    let lengths = side-lengths key point parted in
    let left_short = root-short key point sides.left.now c.root_of-left_root.result left_found in
    let right_short = root-short key point sides.right.now c.root_of-right_root.result right_found in
    let children = option_to_list c.root_of-left_root.result ++ option_to_list c.root_of-right_root.result ++ sides.leaves.now in
    let many = length-children key point parted c.root_of-left_root.result c.root_of-right_root.result left_found right_found children refl in
    omega (
      arith,
      one,
      lengths.0,
      lengths.1,
      left_short,
      right_short,
      many,
      c.place_children.ensures.most,
      c.place_below.ensures.most,
    )

pub returns-clause-most : goal.returns-clause-most
returns-clause-most g t c =
    let key = g.P.Keyed.key_of in
    let point = g.P.HasPoint.point_of in
    let own = c.args.own.now in
    let others = c.args.others.now in
    let root = c.in-Some.root in
    let found : root_of key point own ≡ Some root = sym c.requires.root ∙ c.in-Some.is in
    let sides = c.new-left.result in
    let parts = c.new-left.ensures in
    let parted = IsParted-fork key point own others root c.args.builder.now found (rw c.in-Some.is at c.requires.room)
    sides.left.now sides.right.now sides.left_others.now sides.leaves.now sides.right_others.now parts.left parts.right parts.left_others parts.leaves parts.right_others in
    let left_found : root_of key point sides.left.now ≡ c.root_of-left_root.result = sym c.root_of-left_root.ensures in
    let right_found : root_of key point sides.right.now ≡ c.root_of-right_root.result = sym c.root_of-right_root.ensures in
    let one : length (option_to_list c.args.root) ≡ 1 = ap (λ r. length (option_to_list r)) c.in-Some.is in
    let lengths = side-lengths key point parted in
    let left_short = root-short key point sides.left.now c.root_of-left_root.result left_found in
    let right_short = root-short key point sides.right.now c.root_of-right_root.result right_found in
    let children = option_to_list c.root_of-left_root.result ++ option_to_list c.root_of-right_root.result ++ sides.leaves.now in
    let many = length-children key point parted c.root_of-left_root.result c.root_of-right_root.result left_found right_found children refl in
    omega (
      arith,
      one,
      lengths.0,
      lengths.1,
      left_short,
      right_short,
      many,
      c.place_children.ensures.most,
      c.place_below.ensures.most,
      c.place_below-2.ensures.most,
    )

-- the left side is smaller, and there is room for it
pub place_below-requires : goal.place_below-requires
place_below-requires g t c κs within =
    let key = g.P.Keyed.key_of in
    let point = g.P.HasPoint.point_of in
    let own = c.args.own.now in
    let others = c.args.others.now in
    let root = c.in-Some.root in
    let found : root_of key point own ≡ Some root = sym c.requires.root ∙ c.in-Some.is in
    let sides = c.new-left.result in
    let parts = c.new-left.ensures in
    let parted = IsParted-fork key point own others root c.args.builder.now found (rw c.in-Some.is at c.requires.room)
    sides.left.now sides.right.now sides.left_others.now sides.leaves.now sides.right_others.now parts.left parts.right parts.left_others parts.leaves parts.right_others in
    let left_found : root_of key point sides.left.now ≡ c.root_of-left_root.result = sym c.root_of-left_root.ensures in
    let right_found : root_of key point sides.right.now ≡ c.root_of-right_root.result = sym c.root_of-right_root.ensures in
    let children = option_to_list c.root_of-left_root.result ++ option_to_list c.root_of-right_root.result ++ sides.leaves.now in
    let first = rw c.key.ensures.value at c.in_ok-place_children.ensures.placed in
    let side = IsSide-on_left key point parted c.requires.few c.requires.own_distinct c.requires.others_distinct in
    let room = room-left key point parted c.root_of-left_root.result c.root_of-right_root.result left_found right_found
    children refl c.place_children.new.builder first in (
      omega (arith, side.fewer, c.decreases),
      (within.0, (within.1, (c.root_of-left_root.ensures, (side.few, (side.own_apart, (side.others_apart, room)))))),
    )

-- and so is the right one
pub place_below-requires-2 : goal.place_below-requires-2
place_below-requires-2 g t c κs within =
    let key = g.P.Keyed.key_of in
    let point = g.P.HasPoint.point_of in
    let own = c.args.own.now in
    let others = c.args.others.now in
    let root = c.in-Some.root in
    let found : root_of key point own ≡ Some root = sym c.requires.root ∙ c.in-Some.is in
    let sides = c.new-left.result in
    let parts = c.new-left.ensures in
    let parted = IsParted-fork key point own others root c.args.builder.now found (rw c.in-Some.is at c.requires.room)
    sides.left.now sides.right.now sides.left_others.now sides.leaves.now sides.right_others.now parts.left parts.right parts.left_others parts.leaves parts.right_others in
    let left_found : root_of key point sides.left.now ≡ c.root_of-left_root.result = sym c.root_of-left_root.ensures in
    let right_found : root_of key point sides.right.now ≡ c.root_of-right_root.result = sym c.root_of-right_root.ensures in
    let children = option_to_list c.root_of-left_root.result ++ option_to_list c.root_of-right_root.result ++ sides.leaves.now in
    let first = rw c.key.ensures.value at c.in_ok-place_children.ensures.placed in
    let side = IsSide-on_right key point parted c.requires.few c.requires.own_distinct c.requires.others_distinct in
    let second = c.in_ok-place_below.ensures.placed (length sides.left.now) (omega arith) in
    let room = room-right key point parted c.root_of-left_root.result c.root_of-right_root.result left_found right_found
    children refl c.place_children.new.builder first
    (length sides.left.now) c.place_below.new.builder (omega arith) second in (
      omega (arith, side.fewer, c.decreases),
      (within.0, (within.1, (c.root_of-right_root.ensures, (side.few, (side.own_apart, (side.others_apart, room)))))),
    )

-- the edges are those of the definition
pub returns-clause-placed : goal.returns-clause-placed
returns-clause-placed g t c = λ depth le. (
    let key = g.P.Keyed.key_of in
    let point = g.P.HasPoint.point_of in
    let own = c.args.own.now in
    let others = c.args.others.now in
    let root = c.in-Some.root in
    let found : root_of key point own ≡ Some root = sym c.requires.root ∙ c.in-Some.is in
    let sides = c.new-left.result in
    let parts = c.new-left.ensures in
    let parted = IsParted-fork key point own others root c.args.builder.now found (rw c.in-Some.is at c.requires.room)
    sides.left.now sides.right.now sides.left_others.now sides.leaves.now sides.right_others.now parts.left parts.right parts.left_others parts.leaves parts.right_others in
    let left_found : root_of key point sides.left.now ≡ c.root_of-left_root.result = sym c.root_of-left_root.ensures in
    let right_found : root_of key point sides.right.now ≡ c.root_of-right_root.result = sym c.root_of-right_root.ensures in
    let children = option_to_list c.root_of-left_root.result ++ option_to_list c.root_of-right_root.result ++ sides.leaves.now in
    let first = rw c.key.ensures.value at c.in_ok-place_children.ensures.placed in
    let on_left = IsSide-on_left key point parted c.requires.few c.requires.own_distinct c.requires.others_distinct in
    let on_right = IsSide-on_right key point parted c.requires.few c.requires.own_distinct c.requires.others_distinct in
    let d = depth - 1 in
    let left = sides.left.now in
    let right = sides.right.now in
    let left_others = sides.left_others.now in
    let right_others = sides.right_others.now in
    let second = c.in_ok-place_below.ensures.placed d (omega (arith, on_left.fewer)) in
    let children_are : children ≡ option_to_list (root_of key point left) ++ option_to_list (root_of key point right) ++ sides.leaves.now =
    rw (c.root_of-left_root.ensures, c.root_of-right_root.ensures) refl in
    let x1 = below key (key root) children in
    let x2 = edges_down key point d (record { own = left; others = left_others }) in
    let x3 = edges_down key point d (record { own = right; others = right_others }) in
    let all : x1 ++ x2 ++ x3 ≡ edges_down key point (suc d) (record { own = own; others = others }) =
    edges-fork key point own others root found left left_others right sides.leaves.now right_others parts.left parts.left_others parts.right parts.leaves
    parts.right_others children children_are d in
    let whole : suc d ≡ depth = omega (arith, on_left.fewer, le) in
    on_ok_weaker c.place_below-2.result
    (λ last. rw (← whole) (three-placed x1 x2 x3 (edges_down key point (suc d) (record { own = own; others = others }))
    c.args.builder.now c.place_children.new.builder c.place_below.new.builder c.place_below-2.new.builder first second (last) all))
    (c.place_below-2.ensures.placed d (omega (arith, on_right.fewer)))
    )
