-- The local trees of a roll are good, and no member has children in two of them.
use Rattle.std.specs.List.{cons_option, filter_map, range_with_len}
use Rattle.std.proofs.lemmas.List.{length-map}
use Rattle.std.proofs.Common.{◌≡◌, ℕ, zero, suc, get_or, ◌+◌, ◌<◌, ◌≤◌, List, ◌∷◌, length, map, IsSome, IsTrue, Option, Some, None}
use Rattle.std.proofs.Common.{refl, ◌∙◌, inl, inr, arith}
use Rattle.std.proofs.lemmas.Bool.{cases_eq}
use Rattle.cs_base.specs.Limits.{most_children}
use Rattle.cs_base.specs.declared.member.Member.{Member}
use Rattle.cs_roll.specs.Roll.{IsRoll, member_id}
use Rattle.cs_tree.specs.Colour.{trees_of}
use Rattle.cs_tree.specs.Good.{AreGood, IsTreeOver}
use Rattle.cs_tree.specs.Local.{local_tree, local_trees, member_point, part_of_colour}
use Rattle.cs_tree.specs.Tree.{RootedTree, has_children}
use Rattle.cs_tree.proofs.Colours.{count-coloured, few-others, one-colour, some-coloured}
use Rattle.cs_tree.proofs.Counts.{count, count-map, AreDistinct-ascending}
use Rattle.cs_tree.proofs.GoodTrees.{IsGoodPart, IsGoodPart-tree}
use Rattle.cs_tree.proofs.Growing.{root-some}

-- the ids of a roll are distinct
pub distinct-ids : (roll : List Member) → IsRoll roll → (k : ℕ) → count k (map member_id roll) ≤ 1
distinct-ids roll is k = omega (arith, count-map member_id k roll, AreDistinct-ascending member_id roll is.ascending k)

-- a tree of a roll, with what holds of it
pub good-part : (colour : ℕ) (roll : List Member) (tree : RootedTree) (is : IsRoll roll) → local_tree colour roll ≡ Some tree
    → IsGoodPart member_id member_point 6 (part_of_colour colour roll) (map member_id roll) (distinct-ids roll is)
    (λ k. count-map member_id k roll ∙ count-coloured k colour roll) (few-others colour roll) tree
good-part colour roll tree is made =
    IsGoodPart-tree member_id member_point 6 (part_of_colour colour roll) (map member_id roll) (distinct-ids roll is)
    (λ k. count-map member_id k roll ∙ count-coloured k colour roll) (few-others colour roll) tree made

-- it is a tree over the ids
pub IsTreeOver-local : (colour : ℕ) (roll : List Member) (tree : RootedTree) → IsRoll roll → local_tree colour roll ≡ Some tree
    → IsTreeOver most_children (map member_id roll) tree
IsTreeOver-local colour roll tree is made = (good-part colour roll tree is made).over

-- there is one for each colour that a member has
pub local-there : (colour : ℕ) (roll : List Member) → colour < trees_of (length roll) → IsSome (local_tree colour roll)
local-there colour roll lt =
    let own = (part_of_colour colour roll).own in
    let root = root-some member_id member_point own (some-coloured colour roll lt) in
    rw root.1 refl

-- a member has children in the tree of one colour alone
pub same-colour : (c d : ℕ) (roll : List Member) (one other : RootedTree) → IsRoll roll
    → local_tree c roll ≡ Some one → local_tree d roll ≡ Some other
    → (id : ℕ) → IsTrue (has_children id one.edges) → IsTrue (has_children id other.edges) → c ≡ d
same-colour c d roll one other is made_one made_other id in_one in_other = elim (cases_eq c d) [
  | inl same ↦ same
  | inr differ ↦
      let one_colour = (good-part c roll one is made_one).inner id in_one in
      let other_colour = (good-part d roll other is made_other).inner id in_other in
      absurd (omega (arith, one-colour id c d differ roll, distinct-ids roll is id, count-map member_id id roll))
]

-- values that are there for each number stand in a list by their numbers
pub filter_map-range : {T : Type 0} (f : ℕ → Option T) (from n : ℕ) → ((j : ℕ) → from ≤ j → j < from + n → IsSome (f j))
    → (length (filter_map f (range_with_len from n)) ≡ n)
    × ((i j : ℕ) (d : T) → i < n → from + i ≡ j → f j ≡ Some (get_or (filter_map f (range_with_len from n)) i d))
filter_map-range f from zero there = (refl, λ i j d lt is. absurd (omega arith))
filter_map-range {T} f from (suc n) there =
    first (f from) refl (there from (omega arith) (omega arith)) (filter_map-range f (from + 1) n (λ j le lt. there j (omega arith) (omega arith)))
  where
    rest : List T
    rest = filter_map f (range_with_len (from + 1) n)

    place : (t : T) → f from ≡ Some t → ((i j : ℕ) (d : T) → i < n → from + 1 + i ≡ j → f j ≡ Some (get_or rest i d))
        → (i j : ℕ) (d : T) → i < suc n → from + i ≡ j → f j ≡ Some (get_or (t ∷ rest) i d)
    place t e later zero j d lt is = (let same : j ≡ from = omega arith in rw same e)
    place t e later (suc i) j d lt is = later i j d (omega arith) (omega arith)

    first : (o : Option T) → f from ≡ o → IsSome o
        → (length rest ≡ n) × ((i j : ℕ) (d : T) → i < n → from + 1 + i ≡ j → f j ≡ Some (get_or rest i d))
        → (length (cons_option o rest) ≡ suc n) × ((i j : ℕ) (d : T) → i < suc n → from + i ≡ j → f j ≡ Some (get_or (cons_option o rest) i d))
    first None e some later = absurd (cc)
    first (Some t) e some later = (omega (arith, later.0), place t e later.1)

-- together they are good
pub AreGood-locals : (roll : List Member) → IsRoll roll → AreGood (map member_id roll) (local_trees roll)
AreGood-locals roll is =
    let trees = local_trees roll in
    let in_order = filter_map-range (λ colour. local_tree colour roll) 0 (trees_of (length roll)) (λ j le lt. local-there j roll (omega arith)) in
    let at : (i : ℕ) (d : RootedTree) → i < length trees → local_tree i roll ≡ Some (get_or trees i d) =
    λ i d lt. in_order.1 i i d (omega (arith, in_order.0)) (omega arith) in
    record {
      for_colours = rw (length-map roll member_id) in_order.0;
      each = λ i d lt. IsTreeOver-local i roll (get_or trees i d) is (at i d lt);
      disjoint = λ i j d lt within id in_one in_other.
          absurd (omega (arith, same-colour i j roll (get_or trees i d) (get_or trees j d) is (at i d (omega arith)) (at j d within) id in_one in_other));
    }
