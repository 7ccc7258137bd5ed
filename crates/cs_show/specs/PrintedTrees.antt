-- Good local trees in a printed block, as a reader checks them word by word.
--
--     member 0 1 ..  member 0 2 ..          region 0 has two members, so it has two local lines, of colours 0 and 1,
--     local 0 0 1 1>2                       and the trees that their words say are good trees over 1 and 2
--     local 0 1 2 2>1
use Rattle.std.specs.Prelude.{◌≡◌, ℕ, ◌==◌, true, ◌&&◌, List, [], length, map, drop, decimal, codes, slice_index_or}
use Rattle.std.specs.List.{after_first, before_first, filter, range_with_len}
use Rattle.std.specs.Str.Parse.{digits_value}
use Rattle.cs_tree.specs.Good.{AreGood}
use Rattle.cs_tree.specs.Tree.{RootedTree}
use Rattle.cs_tree.specs.declared.edge.Edge.{Edge}
use Rattle.cs_show.specs.Agreement.{Block, begins_with, has_word, knows}
use Rattle.cs_show.specs.Text.{Line, words_of}

-- the word at a place of a line, from 0
abbrev pub word_at : ℕ → Line → List ℕ
word_at place line = slice_index_or (words_of line) place []

-- the number at a place of a line
abbrev pub number_at : ℕ → Line → ℕ
number_at place line = digits_value 10 (word_at place line)

-- the lines of a region that begin with the word
abbrev pub lines_with : List ℕ → List ℕ → Block → List Line
lines_with word region block = filter (λ line. begins_with word line && has_word 1 region line) block.lines

-- the edge that a word `P>Q` says
abbrev pub edge_in : List ℕ → Edge
edge_in word = record {
  parent = digits_value 10 (before_first (λ b. b == 62) word);
  child = digits_value 10 (after_first (λ b. b == 62) word);
}

-- the tree that a line `local R C ROOT P>Q ..` says
abbrev pub tree_in : Line → RootedTree
tree_in line = record { root = number_at 3 line; edges = map edge_in (drop 4 (words_of line)) }

-- the ids of a region's members, from lines `member R ID ..`
abbrev pub ids_in : List ℕ → Block → List ℕ
ids_in region block = map (number_at 2) (lines_with (codes "member") region block)

-- the region's local lines have the colours 0, 1 and so on, and say good trees over its members, one for each colour
-- that a member has
pub record HasGoodTrees (region : List ℕ) (block : Block) : Type 0 where
  pub coloured : map (word_at 2) (lines_with (codes "local") region block)
      ≡ map decimal (range_with_len 0 (length (lines_with (codes "local") region block)))
  pub good : AreGood (ids_in region block) (map tree_in (lines_with (codes "local") region block))

-- so has each region that has members in the block
abbrev pub TreesAreGood : Block → Type 0
TreesAreGood block = (region : List ℕ) → knows region block ≡ true → HasGoodTrees region block
