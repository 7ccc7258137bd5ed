-- Room for both sides of a root: what is placed first leaves room for what comes later.
use Rattle.std.proofs.Common.{◌≡◌, ℕ, ◌+◌, ◌*◌, ◌<◌, ◌≤◌, ◌==◌, List, [], ◌++◌, length, map, take, drop, Contains}
use Rattle.std.proofs.Common.{Option, Some, None, refl, ap, ◌∙◌, inl, inr, arith}
use Rattle.std.specs.Int.{div_ceil}
use Rattle.std.specs.Option.{option_to_list}
use Rattle.std.proofs.Math.Nat.{mul-le-mul_left}
use Rattle.std.proofs.lemmas.Bool.{cases_eq, eq-eqb, ne_eqb}
use Rattle.std.proofs.lemmas.List.{length-append, length-drop, length-take}
use Rattle.std.proofs.lemmas.List.Sorted.{length_permutation}
use Rattle.std.proofs.lemmas.List.Sums.{sum_by-append, sum_by-cons, sum_by-take-drop}
use Rattle.cs_base.specs.Ascending.{without_key}
use Rattle.cs_base.specs.Axes.{Axes}
use Rattle.cs_base.specs.Limits.{most_summed}
use Rattle.cs_near.specs.Widest.{widest_axis}
use Rattle.cs_tree.specs.Building.{HasRoom, Placement, placed_keys, placements_of}
use Rattle.cs_tree.specs.Skeleton.{edges_down, fork_at, ordered_on, root_of}
use Rattle.cs_tree.proofs.Counts.{AreDistinct, Contains-count, count, count_of, count_of-parted, count-map, counted-Contains, here, length-parted}
use Rattle.cs_tree.proofs.Forking.{IsLined, IsSide, IsSide-left, IsSide-right}
use Rattle.cs_tree.proofs.Growing.{IsRoomy, IsShape-part, count-ordered, edges-none, root-in}
use Rattle.cs_tree.proofs.Parting.{AreApart}
use Rattle.cs_tree.proofs.Placing.{below, count-below, count-one_key, count-placed, root_keys}
use Rattle.cs_tree.proofs.Shapes.{parents}
use Rattle.cs_tree.proofs.Sorting.{IsPermutation-sorted}

module _ {T : Type 0} (key : T → ℕ) (point : T → Axes) where
  -- a root stands among its elements
  pub root-counted : (own : List T) (root : Option T) → root_of key point own ≡ root → (k : ℕ) → count k (root_keys key root) ≤ count k (map key own)
  root-counted own None found k = omega arith
  root-counted own (Some root) found k = elim (cases_eq (key root) k) [
    | inl same ↦
        let some = counted-Contains (λ t. key t == k) own root (root-in key point own root found) (eq-eqb (key root) k same) in
        let one : here (key root) k ≡ 1 = rw (eq-eqb (key root) k same) refl in
        omega (arith, some, one, count-map key k own, sum_by-cons (λ n. here n k) (key root) [])
    | inr other ↦
        let not_here : here (key root) k ≡ 0 = rw (ne_eqb (key root) k other) refl in
        omega (arith, not_here, sum_by-cons (λ n. here n k) (key root) [])
  ]

  -- so there are elements, where there is a root
  pub root-short : (own : List T) (root : Option T) → root_of key point own ≡ root → length (option_to_list root) ≤ length own
  root-short own None found = omega arith
  root-short own (Some root) found = (let some = (root-in key point own root found).1 in omega (arith, some))

  -- no key is placed below a root that isn't one of these elements
  pub below-counted : (depth : ℕ) (own others : List T) (root : Option T) → root_of key point own ≡ root → length own ≤ depth → AreDistinct key own
      → (k : ℕ) → count k (root_keys key root) + parents k (edges_down key point depth (record { own = own; others = others }))
      ≤ count k (map key own) + count k (map key others)
  below-counted depth own others None found shallow distinct k =
      let none = edges-none key point depth (record { own = own; others = others }) found in
      omega (arith, ap (parents k) none)
  below-counted depth own others (Some root) found shallow distinct k =
      let some = (root-in key point own root found).1 in
      let few : length others * 1 ≤ length others * length own = mul-le-mul_left (length others) (omega (arith, some)) in
      let roomy : IsRoomy key point (length others) depth (record { own = own; others = others }) = record {
        shallow = shallow;
        distinct = distinct;
        few = omega (arith, few);
      } in
      let shape = IsShape-part key point (length others) depth (record { own = own; others = others }) root roomy found in
      omega (arith, shape.placed k, sum_by-cons (λ n. here n k) (key root) [])

  -- elements for which there is room are distinct
  AreDistinct-room : (placed roots others : List ℕ) (own : List T) → HasRoom placed roots (map key own) others → AreDistinct key own
  AreDistinct-room placed roots others own room k = omega (arith, room.there k, room.once k, count-map key k own)

  -- what is taken apart below a root that stands in the tree: the elements on both sides, and the leaves between them
  pub record IsParted (own others : List T) (root : T) (placed : List Placement) (left right left_others leaves right_others : List T) : Type 0 where
    pub line : List T
    pub behind : List T
    pub half : ℕ
    pub middle : ℕ
    pub each : ℕ
    pub lined : IsLined key point own others root line behind
    pub room : HasRoom (placed_keys placed) (root_keys key (Some root)) (map key own) (map key others)
    pub left_is : left ≡ take half line
    pub right_is : right ≡ drop half line
    pub left_others_is : left_others ≡ take middle behind
    pub leaves_is : leaves ≡ take each (drop middle behind)
    pub right_others_is : right_others ≡ drop each (drop middle behind)

  -- a fork takes them apart
  pub IsParted-fork : (own others : List T) (root : T) (placed : List Placement) → root_of key point own ≡ Some root
      → HasRoom (placed_keys placed) (root_keys key (Some root)) (map key own) (map key others) → (left right left_others leaves right_others : List T)
      → let f = fork_at key point (record { own = own; others = others }) root in
      left ≡ f.left.own → right ≡ f.right.own → left_others ≡ f.left.others → leaves ≡ f.leaves → right_others ≡ f.right.others
      → IsParted own others root placed left right left_others leaves right_others
  IsParted-fork own others root placed found room left right left_others leaves right_others left_is right_is left_others_is leaves_is right_others_is =
      let rest = without_key key (key root) own in
      let axis = widest_axis point rest in
      let line = ordered_on key point axis rest in
      let behind = ordered_on key point axis others in
      let each = div_ceil (length behind) (length own) in
      record {
        line = line;
        behind = behind;
        half = div_ceil (length line) 2;
        middle = each * div_ceil (length line) 2;
        each = each;
        lined = record { found = found; own_line = refl; others_line = refl };
        room = room;
        left_is = left_is;
        right_is = right_is;
        left_others_is = left_others_is;
        leaves_is = leaves_is;
        right_others_is = right_others_is;
      }

  module _ {own others : List T} {root : T} {placed : List Placement} {left right left_others leaves right_others : List T}
      (parted : IsParted own others root placed left right left_others leaves right_others) where
    distinct-own : AreDistinct key own
    distinct-own = AreDistinct-room (placed_keys placed) (root_keys key (Some root)) (map key others) own parted.room

    module _ (few : length own + length others ≤ most_summed) (apart : AreApart key own) (others_apart : AreApart key others) where
      -- both sides are smaller, and keys tell their elements apart
      pub IsSide-on_left : IsSide key point (length own) left left_others
      IsSide-on_left =
          IsSide-left key point own others root parted.line parted.behind parted.lined few apart others_apart parted.half parted.middle left left_others
          parted.left_is parted.left_others_is

      pub IsSide-on_right : IsSide key point (length own) right right_others
      IsSide-on_right =
          IsSide-right key point own others root parted.line parted.behind parted.lined few apart others_apart parted.half parted.middle parted.each
          right right_others parted.right_is parted.right_others_is

    -- own elements are the root and those on both sides
    parted-own : (k : ℕ) → count k (map key own) ≡ here (key root) k + count k (map key left) + count k (map key right)
    parted-own k =
        let at_root = count_of-parted key root own distinct-own (root-in key point own root parted.lined.found) k in
        let rest = without_key key (key root) own in
        let same : count_of key k parted.line ≡ count_of key k rest =
        ap (count_of key k) parted.lined.own_line ∙ count-ordered key point (widest_axis point rest) rest k in
        let sides = sum_by-take-drop (λ t. here (key t) k) parted.line parted.half in
        omega (
          arith,
          at_root,
          same,
          sides,
          count-map key k own,
          count-map key k left,
          count-map key k right,
          ap (count_of key k) parted.left_is,
          ap (count_of key k) parted.right_is,
        )

    -- others are those on both sides and the leaves
    parted-others : (k : ℕ) → count k (map key others) ≡ count k (map key left_others) + count k (map key leaves) + count k (map key right_others)
    parted-others k =
        let axis = widest_axis point (without_key key (key root) own) in
        let same : count_of key k parted.behind ≡ count_of key k others =
        ap (count_of key k) parted.lined.others_line ∙ count-ordered key point axis others k in
        let first = sum_by-take-drop (λ t. here (key t) k) parted.behind parted.middle in
        let next = sum_by-take-drop (λ t. here (key t) k) (drop parted.middle parted.behind) parted.each in
        omega (
          arith,
          same,
          first,
          next,
          count-map key k others,
          count-map key k left_others,
          count-map key k leaves,
          count-map key k right_others,
          ap (count_of key k) parted.left_others_is,
          ap (count_of key k) parted.leaves_is,
          ap (count_of key k) parted.right_others_is,
        )

    -- so many are they
    pub side-lengths : (length left + length right + 1 ≤ length own) × (length left_others + length leaves + length right_others ≡ length others)
    side-lengths =
        let rest = without_key key (key root) own in
        let axis = widest_axis point rest in
        let fewer = length-parted key root own distinct-own (root-in key point own root parted.lined.found) in
        let as_many = length_permutation rest (ordered_on key point axis rest) (IsPermutation-sorted _ rest) in
        let others_as_many = length_permutation others (ordered_on key point axis others) (IsPermutation-sorted _ others) in (
          omega (
            arith,
            fewer,
            as_many,
            ap length parted.lined.own_line,
            ap length parted.left_is,
            ap length parted.right_is,
            length-take parted.half parted.line,
            length-drop parted.half parted.line,
          ),
          omega (
            arith,
            others_as_many,
            ap length parted.lined.others_line,
            ap length parted.left_others_is,
            ap length parted.leaves_is,
            ap length parted.right_others_is,
            length-take parted.middle parted.behind,
            length-drop parted.middle parted.behind,
            length-take parted.each (drop parted.middle parted.behind),
            length-drop parted.each (drop parted.middle parted.behind),
          ),
        )

    -- all but the root are new, each once
    all-once : (k : ℕ) → count k (placed_keys placed) + count k (map key left) + count k (map key right) + count k (map key left_others)
        + count k (map key leaves) + count k (map key right_others) ≤ 1
    all-once k = omega (arith, parted.room.once k, parted-own k, parted-others k, sum_by-cons (λ n. here n k) (key root) [])

    -- the root is there
    root-here : 0 < count (key root) (placed_keys placed)
    root-here = omega (arith, parted.room.there (key root), count-one_key (key root))

    pub root-placed : Contains (placed_keys placed) (key root)
    root-placed = Contains-count (key root) (placed_keys placed) root-here

    module _ (left_root right_root : Option T) (left_found : root_of key point left ≡ left_root) (right_found : root_of key point right ≡ right_root)
        (children : List T) (children_are : children ≡ option_to_list left_root ++ option_to_list right_root ++ leaves) where
      -- the children are the roots of both sides and the leaves
      count-children : (k : ℕ) → count k (map key children) ≡ count k (root_keys key left_root) + count k (root_keys key right_root) + count k (map key leaves)
      count-children k =
          let here_in : T → ℕ = λ t. here (key t) k in
          let roots = sum_by-append here_in (option_to_list left_root) (option_to_list right_root) in
          let all = sum_by-append here_in (option_to_list left_root ++ option_to_list right_root) leaves in
          omega (
            arith,
            roots,
            all,
            ap (count_of key k) children_are,
            count-map key k children,
            count-map key k (option_to_list left_root),
            count-map key k (option_to_list right_root),
            count-map key k leaves,
          )

      -- so many are they
      pub length-children : length children ≡ length (option_to_list left_root) + length (option_to_list right_root) + length leaves
      length-children =
          let roots = length-append (option_to_list left_root) (option_to_list right_root) in
          omega (arith, ap length children_are, roots, length-append (option_to_list left_root ++ option_to_list right_root) leaves)

      -- there is room for them
      pub room-children : (k : ℕ) → count k (placed_keys placed) + count k (map key children) ≤ 1
      room-children k =
          omega (arith, all-once k, count-children k, root-counted left left_root left_found k, root-counted right right_root right_found k)

      module _ (one : List Placement) (first : one ≡ placed ++ placements_of (below key (key root) children)) where
        count-one : (k : ℕ) → count k (placed_keys one)
            ≡ count k (placed_keys placed) + count k (root_keys key left_root) + count k (root_keys key right_root) + count k (map key leaves)
        count-one k = omega (arith, count-children k, count-below key k (key root) placed one children first)

        -- then for what hangs on the left
        pub room-left : HasRoom (placed_keys one) (root_keys key left_root) (map key left) (map key left_others)
        room-left = record {
          there = λ k. omega (arith, count-one k);
          once = λ k. omega (arith, all-once k, count-one k, root-counted right right_root right_found k);
        }

        -- and then for what hangs on the right
        pub room-right : (depth : ℕ) (two : List Placement) → length left ≤ depth
            → two ≡ one ++ placements_of (edges_down key point depth (record { own = left; others = left_others }))
            → HasRoom (placed_keys two) (root_keys key right_root) (map key right) (map key right_others)
        room-right depth two shallow second =
            let distinct = AreDistinct-room (placed_keys one) (root_keys key left_root) (map key left_others) left room-left in
            let edges = edges_down key point depth (record { own = left; others = left_others }) in
            record {
              there = λ k. omega (arith, count-one k, count-placed k one two edges second);
              once = λ k. omega (
                arith,
                all-once k,
                count-one k,
                count-placed k one two edges second,
                below-counted depth left left_others left_root left_found shallow distinct k,
              );
            }
