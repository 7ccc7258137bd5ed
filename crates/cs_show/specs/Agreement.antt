-- The blocks in a text and when two of them agree, as a reader checks it line by line.
use Rattle.std.specs.Prelude.{◌≡◌, ℕ, ◌≤◌, Bool, true, ◌&&◌, ◌||◌, nat_lt, List, [], length, take, drop}
use Rattle.std.specs.Prelude.{slice_index_or, Option, Some, None, codes, if◌then◌else◌}
use Rattle.std.specs.List.{AllPairs, filter, filter_map, last_or, list_any, position_or_len, slice_split}
use Rattle.std.specs.Str.{bytes_eq}
use Rattle.std.specs.Str.Parse.{digits_value}
use Rattle.cs_show.specs.Text.{Line, parts, all_but_last, words_of}

-- the word of the line at this place, from 0
abbrev pub has_word : ℕ → List ℕ → Line → Bool
has_word place word line = bytes_eq (slice_index_or (words_of line) place []) word

-- the first word of the line
abbrev pub begins_with : List ℕ → Line → Bool
begins_with word line = has_word 0 word line

-- a block: the line before it, if there is one, and its lines up to `end`
pub record Block : Type 0 where
  pub call : Option Line
  pub lines : List Line

-- the block in lines without `end`: it begins at the first line whose first word is `epoch`
abbrev pub block_in : List Line → Option Block
block_in lines =
    let start = position_or_len (begins_with (codes "epoch")) lines in
    if nat_lt start (length lines)
    then Some (record { call = last_or None (take start lines); lines = drop start lines })
    else None

-- the whole blocks in lines: each ends at a line `end`
abbrev pub blocks_in : List Line → List Block
blocks_in lines = filter_map block_in (all_but_last (slice_split (λ line. bytes_eq line (codes "end")) lines))

-- the whole blocks of a text
abbrev pub blocks_of : List ℕ → List Block
blocks_of text = blocks_in (all_but_last (parts text))

-- the number in the block's first line, `epoch E`
abbrev pub epoch_of : Block → ℕ
epoch_of block = digits_value 10 (slice_index_or (words_of (slice_index_or block.lines 0 [])) 1 [])

-- what all blocks of an epoch share: the regions, their globals, the trees between regions, and the digest
abbrev pub is_shared : Line → Bool
is_shared line =
    begins_with (codes "region") line || (begins_with (codes "global") line
    || (begins_with (codes "inter") line || begins_with (codes "digest") line))

-- what stands inside this region: its members and its local trees
abbrev pub is_inside : List ℕ → Line → Bool
is_inside region line =
    (begins_with (codes "member") line || begins_with (codes "local") line) && has_word 1 region line

-- the block has members of this region
abbrev pub knows : List ℕ → Block → Bool
knows region block = list_any (λ line. begins_with (codes "member") line && has_word 1 region line) block.lines

-- the shared lines are equal, and so are those of each region that both blocks know
pub record Agree (a b : Block) : Type 0 where
  pub shared : filter is_shared a.lines ≡ filter is_shared b.lines
  pub inside : (region : List ℕ) → knows region a ≡ true → knows region b ≡ true
      → filter (is_inside region) a.lines ≡ filter (is_inside region) b.lines

-- any two whole blocks of one epoch agree
abbrev pub BlocksAgree : List ℕ → Type 0
BlocksAgree text = AllPairs (λ a b. epoch_of a ≡ epoch_of b → Agree a b) (blocks_of text)

-- behind equal lines, as `> print 1`, a later block has no lower epoch
abbrev pub EpochsNeverFall : List ℕ → Type 0
EpochsNeverFall text = AllPairs (λ a b. a.call ≡ b.call → epoch_of a ≤ epoch_of b) (blocks_of text)
