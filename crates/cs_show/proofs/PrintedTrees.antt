-- The lines of a block from which the trees of a region are read, and that these trees are good.
use Rattle.std.proofs.Common.{◌≡◌, ℕ, zero, suc, ◌+◌, ◌<◌, ◌≤◌, false, List, [], ◌∷◌, map, length, get_or, codes, decimal}
use Rattle.std.proofs.Common.{Contains, IsSome, Option, Some, None, refl, sym, ap, subst, ◌∙◌, arith}
use Rattle.std.specs.List.{AllByRecursion, cons_option, filter, filter_map, flat_map, range_with_len}
use Rattle.std.specs.Option.{option_map}
use Rattle.std.proofs.lemmas.List.Elements.{All-from_recursion, recursion_from_All}
use Rattle.cs_base.specs.Limits.{most_children}
use Rattle.cs_base.specs.Ranges.{IsMember, IsRegion}
use Rattle.cs_base.specs.declared.member.Member.{Member}
use Rattle.cs_base.proofs.Elements.{All-changed, All-weaker}
use Rattle.cs_item.specs.declared.picture.Picture.{Picture}
use Rattle.cs_roll.specs.Roll.{IsRoll, member_id}
use Rattle.cs_roll.specs.Sight.{IsSight}
use Rattle.cs_tree.specs.Colour.{trees_of}
use Rattle.cs_tree.specs.Good.{AreGood, IsTreeOver}
use Rattle.cs_tree.specs.Local.{local_tree, local_trees}
use Rattle.cs_tree.specs.Tree.{RootedTree}
use Rattle.cs_tree.specs.declared.edge.Edge.{Edge}
use Rattle.cs_tree.proofs.GoodLocals.{AreGood-locals, IsTreeOver-local, local-there}
use Rattle.cs_tree.proofs.Seen.{All-at_region}
use Rattle.cs_show.specs.Agreement.{Block}
use Rattle.cs_show.specs.Block.{block_lines, digest_line, digest_of, inter_lines, local_line, local_lines, member_line}
use Rattle.cs_show.specs.Block.{roll_lines, shared_lines}
use Rattle.cs_show.specs.PrintedTrees.{HasGoodTrees, TreesAreGood, ids_in, lines_with, number_at, tree_in, word_at}
use Rattle.cs_show.specs.Text.{Line, all_but_last}
use Rattle.cs_show.proofs.BlockLines.{body, body-block, All-inters, All-locals, All-rolls, All-shared}
use Rattle.cs_show.proofs.FiveLists.{filter-fourth, filter-second}
use Rattle.cs_show.proofs.KnownRolls.{IsTold}
use Rattle.cs_show.proofs.RegionLines.{is_local, is_member, known-told, tells-locals, tells-members}
use Rattle.cs_show.proofs.Words.{IsShort, IsShortEdge, id-read, tree-read, words-local}

-- the lines of trees, where there is one for each colour
module _ (line : ℕ → RootedTree → Line) (tree : ℕ → Option RootedTree) where
  -- the line of a colour
  abbrev at : ℕ → Option Line
  at n = option_map (line n) (tree n)

  -- the words that say the colours
  coloured : ((n : ℕ) (t : RootedTree) → word_at 2 (line n t) ≡ decimal n) → (from count : ℕ)
      → ((n : ℕ) → from ≤ n → n < from + count → IsSome (tree n))
      → map (word_at 2) (filter_map at (range_with_len from count)) ≡ map decimal (range_with_len from count)
  coloured says from zero there = refl
  coloured says from (suc count) there =
      first (tree from) (there from (omega arith) (omega arith))
      (coloured says (from + 1) count (λ n low high. there n (omega arith) (omega arith)))
    where
      -- the first line, and those behind it
      first : (o : Option RootedTree) → IsSome o
          → map (word_at 2) (filter_map at (range_with_len (from + 1) count)) ≡ map decimal (range_with_len (from + 1) count)
          → map (word_at 2) (cons_option (option_map (line from) o) (filter_map at (range_with_len (from + 1) count)))
          ≡ decimal from ∷ map decimal (range_with_len (from + 1) count)
      first None some rest = absurd (cc)
      first (Some t) some rest =
          ap (λ w. w ∷ map (word_at 2) (filter_map at (range_with_len (from + 1) count))) (says from t) ∙ ap (λ ws. decimal from ∷ ws) rest

  -- how many lines there are
  counted : (from count : ℕ) → ((n : ℕ) → from ≤ n → n < from + count → IsSome (tree n))
      → length (filter_map at (range_with_len from count)) ≡ count
  counted from zero there = refl
  counted from (suc count) there =
      first (tree from) (there from (omega arith) (omega arith)) (counted (from + 1) count (λ n low high. there n (omega arith) (omega arith)))
    where
      -- the first line, and those behind it
      first : (o : Option RootedTree) → IsSome o → length (filter_map at (range_with_len (from + 1) count)) ≡ count
          → length (cons_option (option_map (line from) o) (filter_map at (range_with_len (from + 1) count))) ≡ suc count
      first None some rest = absurd (cc)
      first (Some t) some rest = omega (arith, rest)

  -- the trees that the lines say
  trees-read : ((n : ℕ) (t : RootedTree) → tree n ≡ Some t → tree_in (line n t) ≡ t) → (ns : List ℕ)
      → map tree_in (filter_map at ns) ≡ filter_map tree ns
  trees-read reads [] = refl
  trees-read reads (n ∷ ns) = first (tree n) refl (trees-read reads ns)
    where
      -- the first line, and those behind it
      first : (o : Option RootedTree) → tree n ≡ o → map tree_in (filter_map at ns) ≡ filter_map tree ns
          → map tree_in (cons_option (option_map (line n) o) (filter_map at ns)) ≡ cons_option o (filter_map tree ns)
      first None is rest = rest
      first (Some t) is rest = ap (λ x. x ∷ map tree_in (filter_map at ns)) (reads n t is) ∙ ap (λ ts. t ∷ ts) rest

-- what holds of all numbers holds of one of them
Contains-holds : (P : ℕ → Type 0) (ks : List ℕ) (k : ℕ) → AllByRecursion P ks → Contains ks k → P k
Contains-holds P ks k all has = subst P has.2 (All-from_recursion P ks all has.0 k has.1)

-- the ids of a roll are short
ids-short : (members : List Member) → IsRoll members → AllByRecursion IsShort (map member_id members)
ids-short members roll =
    All-changed IsMember IsShort member_id (λ (m : Member) (is : IsMember m). omega (arith, is.id.1)) members roll.allowed

-- a tree of a roll is read back from its line
local-read : (region : ℕ) (members : List Member) → IsRoll members → (colour : ℕ) (tree : RootedTree) → local_tree colour members ≡ Some tree
    → tree_in (local_line region colour tree) ≡ tree
local-read region members roll colour tree made =
    let keys = map member_id members in
    let short = ids-short members roll in
    let over : IsTreeOver most_children keys tree = IsTreeOver-local colour members tree roll made in
    let ends : (e : Edge) → Contains keys e.parent × Contains keys e.child → IsShortEdge e =
    λ e both. (Contains-holds IsShort keys e.parent short both.0, Contains-holds IsShort keys e.child short both.1) in
    tree-read region colour tree (Contains-holds IsShort keys tree.root short over.root)
    (All-weaker (λ (e : Edge). Contains keys e.parent × Contains keys e.child) IsShortEdge ends tree.edges
    (recursion_from_All (λ (e : Edge). Contains keys e.parent × Contains keys e.child) tree.edges over.within))

-- the ids of members' lines are those of the members
ids-read : (region : ℕ) (members : List Member) → AllByRecursion IsShort (map member_id members)
    → map (number_at 2) (map (member_line (codes "member") region) members) ≡ map member_id members
ids-read region [] short = refl
ids-read region (m ∷ members) short =
    ap (λ n. n ∷ map (number_at 2) (map (member_line (codes "member") region) members)) (id-read region m short.0)
    ∙ ap (λ ns. m.id ∷ ns) (ids-read region members short.1)

module _ (region : List ℕ) where
  -- the lines of members of the region are among those of the rolls
  members-body : (p : Picture) → filter (is_member region) (body p) ≡ filter (is_member region) (flat_map roll_lines p.rolls)
  members-body p =
      let P : Line → Type 0 = λ line. is_member region line ≡ false in
      filter-second (is_member region) (shared_lines p) (flat_map roll_lines p.rolls) (inter_lines p.summaries) (flat_map local_lines p.rolls)
      (digest_line (digest_of p) ∷ [])
      (All-shared P p (λ epoch. refl) (λ number s. refl) (λ number m. refl)) (All-inters P p (λ colour tree. refl))
      (All-locals P p (λ number colour tree. refl)) (refl, tt)

  -- and the local lines among those of the known regions
  locals-body : (p : Picture) → filter (is_local region) (body p) ≡ filter (is_local region) (flat_map local_lines p.rolls)
  locals-body p =
      let P : Line → Type 0 = λ line. is_local region line ≡ false in
      filter-fourth (is_local region) (shared_lines p) (flat_map roll_lines p.rolls) (inter_lines p.summaries) (flat_map local_lines p.rolls)
      (digest_line (digest_of p) ∷ [])
      (All-shared P p (λ epoch. refl) (λ number s. refl) (λ number m. refl)) (All-rolls P p (λ number m. refl))
      (All-inters P p (λ colour tree. refl)) (refl, tt)

  -- what is read of the region in its block is good
  good-told : (p : Picture) (call : Option Line) → AllByRecursion (λ (pair : ℕ × List Member). IsRoll pair.1) p.rolls → IsTold region p.rolls
      → HasGoodTrees region (record { call = call; lines = body p })
  good-told p call rolls found =
      let block : Block = record { call = call; lines = body p } in
      let number = found.number in
      let members = found.members in
      let roll : IsRoll members = All-at_region IsRoll number p.rolls members rolls found.there in
      let tree : ℕ → Option RootedTree = λ colour. local_tree colour members in
      let count = trees_of (length members) in
      let of_members : lines_with (codes "member") region block ≡ roll_lines (number, members) =
      members-body p ∙ found.lines (is_member region) roll_lines (tells-members region (is_member region) (λ number m. refl)) in
      let of_trees : lines_with (codes "local") region block ≡ local_lines (number, members) =
      locals-body p ∙ found.lines (is_local region) local_lines (tells-locals region (is_local region) (λ number colour tree. refl)) in
      let there : (colour : ℕ) → 0 ≤ colour → colour < 0 + count → IsSome (tree colour) =
      λ colour low high. local-there colour members (omega arith) in
      let says : (colour : ℕ) (t : RootedTree) → word_at 2 (local_line number colour t) ≡ decimal colour =
      λ colour t. ap (λ words. get_or words 2 []) (words-local number colour t) in
      let colours_read : map (word_at 2) (local_lines (number, members)) ≡ map decimal (range_with_len 0 (length (local_lines (number, members)))) =
      coloured (local_line number) tree says 0 count there
      ∙ ap (λ n. map decimal (range_with_len 0 n)) (sym (counted (local_line number) tree 0 count there)) in
      let ids : ids_in region block ≡ map member_id members =
      ap (λ lines. map (number_at 2) lines) of_members ∙ ids-read number members (ids-short members roll) in
      let trees : map tree_in (lines_with (codes "local") region block) ≡ local_trees members =
      ap (λ lines. map tree_in lines) of_trees
      ∙ trees-read (local_line number) tree (local-read number members roll) (range_with_len 0 count) in
      record {
        coloured = subst (λ lines. map (word_at 2) lines ≡ map decimal (range_with_len 0 (length lines))) (sym of_trees) colours_read;
        good = subst (λ is. AreGood is (map tree_in (lines_with (codes "local") region block))) (sym ids)
            (subst (λ ts. AreGood (map member_id members) ts) (sym trees) (AreGood-locals members roll));
      }

-- the trees that the block of a view says are good
pub good-printed : (p : Picture) (call : Option Line) → IsSight p.summaries p.rolls
    → AllByRecursion (λ (pair : ℕ × List Member). IsRegion pair.0) p.rolls
    → TreesAreGood (record { call = call; lines = all_but_last (block_lines p) })
good-printed p call sight regions =
    subst (λ (lines : List Line). TreesAreGood (record { call = call; lines = lines })) (sym (body-block p))
    (λ region is_known. good-told region p call sight.rolls_allowed (known-told region p sight.rolls_ascend regions is_known))
