-- A part is taken apart: both sides are smaller, and the edges are those of the definition.
use Rattle.std.proofs.Common.{◌≡◌, ℕ, suc, ◌+◌, ◌<◌, ◌≤◌, List, ◌++◌, length, map, take, drop, Contains, Some, option_to_list}
use Rattle.std.proofs.Common.{sym, ap, ◌∙◌, arith}
use Rattle.std.specs.List.{AllByRecursion}
use Rattle.std.proofs.lemmas.List.{length-drop, length-take}
use Rattle.std.proofs.lemmas.List.Sorted.{length_permutation}
use Rattle.cs_base.proofs.Ascending.{All-without}
use Rattle.cs_base.proofs.Elements.{All-drop, All-take}
use Rattle.cs_base.specs.Ascending.{without_key}
use Rattle.cs_base.specs.Axes.{Axes}
use Rattle.cs_base.specs.Limits.{most_summed}
use Rattle.cs_near.specs.Widest.{widest_axis}
use Rattle.cs_tree.proofs.Growing.{root-in}
use Rattle.cs_tree.proofs.Parting.{AreApart, AreApart-part, all-in, all-in-ordered, fewer-without}
use Rattle.cs_tree.proofs.Sorting.{IsPermutation-sorted}
use Rattle.std.specs.Option.{option_map}
use Rattle.cs_tree.specs.Skeleton.{Part, children_at, edges_down, edges_from, fork_at, ordered_on, root_of}
use Rattle.cs_tree.specs.Tree.{Edge}

module _ {T : Type 0} (key : T → ℕ) (point : T → Axes) where
  -- own elements without their root, and others, both in order
  pub record IsLined (own others : List T) (root : T) (line behind : List T) : Type 0 where
    pub found : root_of key point own ≡ Some root
    pub own_line : line ≡ ordered_on key point (widest_axis point (without_key key (key root) own)) (without_key key (key root) own)
    pub others_line : behind ≡ ordered_on key point (widest_axis point (without_key key (key root) own)) others

  -- what a side is: smaller, few enough, and of elements that their keys tell apart
  pub record IsSide (size : ℕ) (own others : List T) : Type 0 where
    pub fewer : length own < size
    pub few : length own + length others ≤ most_summed
    pub own_apart : AreApart key own
    pub others_apart : AreApart key others

  module _ (own others : List T) (root : T) (line behind : List T) (lined : IsLined own others root line behind)
      (few : length own + length others ≤ most_summed) (apart : AreApart key own) (others_apart : AreApart key others) where
    -- one fewer stands in order, and all of the others
    fewer-line : length line < length own
    fewer-line =
        let rest = without_key key (key root) own in
        let ordered = ordered_on key point (widest_axis point rest) rest in
        let as_many : length ordered ≡ length rest = length_permutation rest ordered (IsPermutation-sorted _ rest) in
        let fewer : length rest < length own = fewer-without key root own (root-in key point own root lined.found) in
        omega (arith, ap length lined.own_line)

    as_many-behind : length behind ≡ length others
    as_many-behind =
        let ordered = ordered_on key point (widest_axis point (without_key key (key root) own)) others in
        ap length lined.others_line ∙ length_permutation others ordered (IsPermutation-sorted _ others)

    all-line : AllByRecursion (Contains own) line
    all-line =
        rw lined.own_line (all-in-ordered key point _ (Contains own) (without_key key (key root) own)
        (All-without key (Contains own) (key root) own (all-in own)))

    all-behind : AllByRecursion (Contains others) behind
    all-behind = rw lined.others_line (all-in-ordered key point _ (Contains others) others (all-in others))

    -- so a part of each is a side
    IsSide-of : (some rest : List T) → length some ≤ length line → AllByRecursion (Contains own) some
        → length rest ≤ length behind → AllByRecursion (Contains others) rest → IsSide (length own) some rest
    IsSide-of some rest short all short' all' = record {
      fewer = omega (arith, fewer-line);
      few = omega (arith, fewer-line, as_many-behind, few);
      own_apart = AreApart-part key own some apart all;
      others_apart = AreApart-part key others rest others_apart all';
    }

    pub IsSide-left : (n m : ℕ) (left left_others : List T) → left ≡ take n line → left_others ≡ take m behind → IsSide (length own) left left_others
    IsSide-left n m left left_others is others_is =
        rw (is, others_is) (IsSide-of (take n line) (take m behind) (omega (arith, length-take n line)) (All-take (Contains own) n line all-line)
        (omega (arith, length-take m behind)) (All-take (Contains others) m behind all-behind))

    pub IsSide-right : (n m k : ℕ) (right right_others : List T) → right ≡ drop n line → right_others ≡ drop k (drop m behind)
        → IsSide (length own) right right_others
    IsSide-right n m k right right_others is others_is =
        rw (is, others_is) (IsSide-of (drop n line) (drop k (drop m behind)) (omega (arith, length-drop n line)) (All-drop (Contains own) n line all-line)
        (omega (arith, length-drop m behind, length-drop k (drop m behind)))
        (All-drop (Contains others) k (drop m behind) (All-drop (Contains others) m behind all-behind)))

  -- an edge to a child
  abbrev pub edge_to : ℕ → T → Edge
  edge_to parent c = record { parent = parent; child = key c }

  -- the edges to the children, and then those of both sides, are the edges of the whole
  pub edges-fork : (own others : List T) (root : T) → root_of key point own ≡ Some root → (left left_others right leaves right_others : List T)
      → let f = fork_at key point (record { own = own; others = others }) root in
      left ≡ f.left.own → left_others ≡ f.left.others → right ≡ f.right.own → leaves ≡ f.leaves → right_others ≡ f.right.others
      → (children : List T) → children ≡ option_to_list (root_of key point left) ++ option_to_list (root_of key point right) ++ leaves → (depth : ℕ)
      → map (edge_to (key root)) children ++ edges_down key point depth (record { own = left; others = left_others })
      ++ edges_down key point depth (record { own = right; others = right_others })
      ≡ edges_down key point (suc depth) (record { own = own; others = others })
  edges-fork own others root found left left_others right leaves right_others l lo r ls ro children children_is depth =
      let part : Part T = record { own = own; others = others } in
      let f = fork_at key point part root in
      let c : children ≡ children_at key point f =
      children_is ∙ λ i. option_to_list (root_of key point (l i)) ++ option_to_list (root_of key point (r i)) ++ ls i in
      let whole : edges_down key point (suc depth) part ≡ edges_from key point (edges_down key point depth) (Some f) =
      ap (λ o. edges_from key point (edges_down key point depth) (option_map (fork_at key point part) o)) found in
      (λ i. map (edge_to (key root)) (c i) ++ edges_down key point depth (record { own = l i; others = lo i })
      ++ edges_down key point depth (record { own = r i; others = ro i }))
      ∙ sym whole
