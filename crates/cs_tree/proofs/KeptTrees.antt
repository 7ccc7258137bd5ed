-- Kept trees: which they are, and where each stands.
use Rattle.std.proofs.Common.{◌≡◌, ℕ, ◌+◌, ◌*◌, ◌<◌, ◌≤◌, ◌==◌, Bool, true, false, cond, List, [], ◌∷◌, ◌++◌, length, get_or, map, take}
use Rattle.std.proofs.Common.{Bor, Option, None, Some, IfSome, slice_get}
use Rattle.std.proofs.Common.{refl, sym, ap, ◌∙◌, arith}
use Rattle.std.specs.List.{filter_map, find, range_with_len}
use Rattle.std.specs.Option.{is_some, option_and_then, option_copied, option_map, option_map_or}
use Rattle.std.proofs.Math.Nat.{mul-le-mul_right}
use Rattle.std.proofs.lemmas.Bool.{eqb-true}
use Rattle.std.proofs.lemmas.List.{take_all}
use Rattle.std.proofs.lemmas.List.FromFn.{get_or-range_with_len, length-range_with_len}
use Rattle.std.proofs.lemmas.Option.{none-some, same_Some, slice_get-get_or}
use Rattle.cs_base.specs.declared.member.Member.{Member}
use Rattle.cs_roll.specs.Same.{are_same_members}
use Rattle.cs_roll.specs.Sight.{IsSight, Rolls, Summaries, at_region}
use Rattle.cs_tree.specs.Colour.{trees_of}
use Rattle.cs_tree.specs.Inter.{inter_tree, region_points}
use Rattle.cs_tree.specs.Kept.{KeptTrees, inter_trees, kept_local, known_trees}
use Rattle.cs_tree.specs.Local.{local_tree, local_trees}
use Rattle.cs_tree.specs.Renewal.{was_known}
use Rattle.cs_tree.specs.Skeleton.{skeleton}
use Rattle.cs_tree.specs.Tree.{RootedTree}
use Rattle.cs_tree.specs.declared.region_point.RegionPoint.{RegionPoint}
use Rattle.cs_tree.proofs.GoodInter.{inter-there}
use Rattle.cs_tree.proofs.GoodLocals.{filter_map-range, local-there}
use Rattle.cs_tree.proofs.Offers.{filter_map-some}

-- the inter-region tree of a colour among all, where there is a region
pub inter-at : (colour : ℕ) (summaries : Summaries) (rolls : Rolls) → IsSight summaries rolls → 0 < length summaries → colour < 4
    → slice_get (inter_trees summaries) colour ≡ inter_tree colour summaries
inter-at colour summaries rolls sight some lt =
    let d : RootedTree = record { root = 0; edges = [] } in
    let in_order = filter_map-range (λ n. inter_tree n summaries) 0 4 (λ j le within. inter-there j summaries rolls sight some) in
    slice_get-get_or (inter_trees summaries) colour d (omega (arith, in_order.0)) ∙ sym (in_order.1 colour colour d lt (omega arith))

-- the local trees beside a region
abbrev pub with_trees : ℕ × List Member → ℕ × List RootedTree
with_trees pair = (pair.0, local_trees pair.1)

-- what is made of what stands beside a region
pub beside-at : {S T : Type 0} (f : S → T) (region : ℕ) (pairs : List (ℕ × S))
    → at_region region (map (λ (p : ℕ × S). (p.0, f p.1)) pairs) ≡ option_map f (at_region region pairs)
beside-at f region [] = refl
beside-at {S} {T} f region (pair ∷ pairs) = go (pair.0 == region) (beside-at f region pairs)
  where
    others : List (ℕ × T)
    others = map (λ (p : ℕ × S). (p.0, f p.1)) pairs

    go : (b : Bool) → at_region region others ≡ option_map f (at_region region pairs)
        → option_map (λ (p : ℕ × T). p.1) (cond b (Some (pair.0, f pair.1)) (find (λ (p : ℕ × T). p.0 == region) others))
        ≡ option_map f (option_map (λ (p : ℕ × S). p.1) (cond b (Some pair) (find (λ (p : ℕ × S). p.0 == region) pairs)))
    go true rest = refl
    go false rest = rest

-- the local trees of a region
pub trees-at : (region : ℕ) (rolls : Rolls) → at_region region (known_trees rolls) ≡ option_map local_trees (at_region region rolls)
trees-at region rolls = beside-at local_trees region rolls

-- the tree of a colour among them
pub local-at : (colour : ℕ) (roll : List Member) → colour < trees_of (length roll) → slice_get (local_trees roll) colour ≡ local_tree colour roll
local-at colour roll lt =
    let d : RootedTree = record { root = 0; edges = [] } in
    let in_order = filter_map-range (λ n. local_tree n roll) 0 (trees_of (length roll)) (λ j le within. local-there j roll (omega arith)) in
    slice_get-get_or (local_trees roll) colour d (omega (arith, in_order.0)) ∙ sym (in_order.1 colour colour d lt (omega arith))

-- the kept tree of a known region and a colour
pub kept-local-at : (region colour : ℕ) (kept : KeptTrees) (roll : List Member) → at_region region kept.within ≡ Some (local_trees roll)
    → colour < trees_of (length roll) → kept_local region colour kept ≡ local_tree colour roll
kept-local-at region colour kept roll at lt =
    ap (option_and_then (λ (trees : List RootedTree). slice_get trees colour)) at ∙ local-at colour roll lt

-- the same regions at the same points have the same tree
pub same-inter : (colour : ℕ) (before now : Summaries) → region_points colour before ≡ region_points colour now
    → inter_tree colour before ≡ inter_tree colour now
same-inter colour before now same = ap (skeleton (λ (r : RegionPoint). r.region) (λ (r : RegionPoint). r.at)) same

-- whether a region was known with the same roll, where it was known
pub known-before : (region : ℕ) (rolls : Rolls) (before roll : List Member) (same : Bool) → at_region region rolls ≡ Some before
    → same ≡ are_same_members before roll → same ≡ was_known rolls (region, roll)
known-before region rolls before roll same at same_is =
    same_is ∙ sym (ap (λ o. option_map_or (λ (r : List Member). are_same_members r roll) o false) at)

-- and where it wasn't
pub unknown-before : (region : ℕ) (rolls : Rolls) (roll : List Member) → at_region region rolls ≡ None → false ≡ was_known rolls (region, roll)
unknown-before region rolls roll at = sym (ap (λ o. option_map_or (λ (r : List Member). are_same_members r roll) o false) at)

-- the pair of a known region
found-region : (region : ℕ) (rolls : Rolls) (roll : List Member) → at_region region rolls ≡ Some roll
    → find (λ (p : ℕ × List Member). p.0 == region) rolls ≡ Some (region, roll)
found-region region [] roll at = absurd (none-some roll at)
found-region region (pair ∷ pairs) roll at = go (pair.0 == region) refl at (found-region region pairs roll)
  where
    rest : Option (ℕ × List Member)
    rest = find (λ (p : ℕ × List Member). p.0 == region) pairs

    go : (b : Bool) → (pair.0 == region) ≡ b → option_map (λ (p : ℕ × List Member). p.1) (cond b (Some pair) rest) ≡ Some roll
        → (at_region region pairs ≡ Some roll → rest ≡ Some (region, roll)) → cond b (Some pair) rest ≡ Some (region, roll)
    go true is at later =
        let key : pair.0 ≡ region = eqb-true pair.0 region is in
        let value : pair.1 ≡ roll = same_Some _ _ at in
        λ i. Some (key i, value i)
    go false is at later = later at

-- its trees stand beside it
trees-found : (region : ℕ) (rolls : Rolls)
    → find (λ (p : ℕ × List RootedTree). p.0 == region) (known_trees rolls) ≡ option_map with_trees (find (λ (p : ℕ × List Member). p.0 == region) rolls)
trees-found region [] = refl
trees-found region (pair ∷ pairs) = go (pair.0 == region) (trees-found region pairs)
  where
    go : (b : Bool) → find (λ (p : ℕ × List RootedTree). p.0 == region) (known_trees pairs)
        ≡ option_map with_trees (find (λ (p : ℕ × List Member). p.0 == region) pairs)
        → cond b (Some (with_trees pair)) (find (λ (p : ℕ × List RootedTree). p.0 == region) (known_trees pairs))
        ≡ option_map with_trees (cond b (Some pair) (find (λ (p : ℕ × List Member). p.0 == region) pairs))
    go true rest = refl
    go false rest = rest

pub known-found : (region : ℕ) (rolls : Rolls) (roll : List Member) (within : List (ℕ × List RootedTree)) → within ≡ known_trees rolls
    → at_region region rolls ≡ Some roll → find (λ (p : ℕ × List RootedTree). p.0 == region) within ≡ Some (region, local_trees roll)
known-found region rolls roll within is at =
    ap (find (λ (p : ℕ × List RootedTree). p.0 == region)) is
    ∙ (trees-found region rolls ∙ ap (option_map with_trees) (found-region region rolls roll at))

-- the trees of one colour more
pub tree-more : (roll : List Member) (colour : ℕ) (tree : RootedTree) (before after : List RootedTree) → colour < trees_of (length roll)
    → local_tree colour roll ≡ Some tree
    → before ≡ filter_map (λ n. local_tree n roll) (take colour (range_with_len 0 (trees_of (length roll)))) → after ≡ before ++ tree ∷ []
    → after ≡ filter_map (λ n. local_tree n roll) (take (colour + 1) (range_with_len 0 (trees_of (length roll))))
tree-more roll colour tree before after lt found so_far pushed =
    let n = trees_of (length roll) in
    let f : ℕ → Option RootedTree = λ m. local_tree m roll in
    let at : get_or (range_with_len 0 n) colour 0 ≡ colour = omega (arith, get_or-range_with_len 0 n colour 0 lt) in
    filter_map-some f (range_with_len 0 n) colour 0 tree [] before after (omega (arith, lt, length-range_with_len 0 n)) (ap f at ∙ found) so_far pushed

-- and of all
pub trees-all : (roll : List Member) (colour : ℕ) (trees : List RootedTree) → trees_of (length roll) ≤ colour
    → trees ≡ filter_map (λ n. local_tree n roll) (take colour (range_with_len 0 (trees_of (length roll)))) → trees ≡ local_trees roll
trees-all roll colour trees le so_far =
    let n = trees_of (length roll) in
    so_far ∙ ap (filter_map (λ m. local_tree m roll)) (take_all colour (range_with_len 0 n) (omega (arith, le, length-range_with_len 0 n)))

-- so many keys for a colour more fit
pub colour-fits : (colour n size : ℕ) → colour < n → colour * size + size ≤ n * size
colour-fits colour n size lt = (let all : (colour + 1) * size ≤ n * size = mul-le-mul_right size (omega (arith, lt)) in omega (arith, all))

pub colours-fit : (colour n size : ℕ) → colour ≤ n → colour * size ≤ n * size
colours-fit colour n size le = mul-le-mul_right size le

-- what is read where something is there
pub read-some : {X : Type 0} (read : Option (Bor X)) (x : X) → option_copied read ≡ Some x → (is_some read ≡ true) × IfSome read (λ r. r.now ≡ x)
read-some None x is = absurd (none-some x is)
read-some (Some r) x is = (refl, same_Some _ _ is)
