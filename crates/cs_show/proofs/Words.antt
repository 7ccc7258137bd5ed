-- The words of a printed line, and what they say.
use Rattle.std.proofs.Common.{◌≡◌, ℕ, zero, suc, ◌+◌, ◌%◌, ◌/◌, ◌<◌, ◌≤◌, ◌^◌, ◌==◌, false, List, [], ◌∷◌, ◌++◌, map, length, get_or, take, drop}
use Rattle.std.proofs.Common.{codes, decimal, refl, ap, ◌∙◌, ◌⊎◌, inl, inr, ⊎_elim, append_assoc, append-nil, arith, ltb, ltb-false, ne_eqb}
use Rattle.std.specs.Fmt.{digits, digits_onto, digit_glyph}
use Rattle.std.specs.List.{AllByRecursion, after_first, before_first, flat_map, position_or_len}
use Rattle.std.specs.Str.Parse.{digits_value}
use Rattle.std.proofs.Math.ListN.{get_or-append}
use Rattle.std.proofs.Math.Seq.{take-append_seam, drop-append-add, get_or-append_seam}
use Rattle.std.proofs.lemmas.Bool.{cond_both}
use Rattle.std.proofs.lemmas.Fmt.{decimal_is_IsNumeral}
use Rattle.std.proofs.lemmas.List.{length-append}
use Rattle.std.proofs.lemmas.List.Elements.{All-from_recursion}
use Rattle.std.proofs.lemmas.List.Splits.{slice_split_at, slice_split_none}
use Rattle.std.proofs.lemmas.List.Sums.{position_or_len_is}
use Rattle.cs_base.specs.Axes.{axes_text}
use Rattle.cs_base.specs.Canonical.{address_text}
use Rattle.cs_base.specs.declared.member.Member.{Member}
use Rattle.cs_base.proofs.Elements.{All-append, All-weaker}
use Rattle.cs_tree.specs.Tree.{RootedTree}
use Rattle.cs_tree.specs.declared.edge.Edge.{Edge}
use Rattle.cs_show.specs.Block.{local_line, member_line, tree_text}
use Rattle.cs_show.specs.PrintedTrees.{edge_in, number_at, tree_in}
use Rattle.cs_show.specs.Text.{words_of}
use Rattle.cs_show.proofs.Edges.{text}

-- the byte isn't in the text
abbrev pub Lacks : ℕ → List ℕ → Type 0
Lacks byte text = AllByRecursion (λ b. (b == byte) ≡ false) text

-- from `0` to `9`
abbrev IsDigit : ℕ → Type 0
IsDigit b = (48 ≤ b) × (b ≤ 57)

-- the glyph of a number below 10 is a digit
IsDigit-glyph : (d : ℕ) → d < 10 → IsDigit (digit_glyph false d)
IsDigit-glyph d small =
    cond_both (ltb d 10) (48 + d) (87 + d) IsDigit (λ below. omega arith)
    (λ above. absurd (omega (arith, ltb-false d 10 above)))

-- digits before digits
digits_onto-digits : (fuel n : ℕ) (behind : List ℕ) → AllByRecursion IsDigit behind → AllByRecursion IsDigit (digits_onto fuel 10 false n behind)
digits_onto-digits zero n behind all = all
digits_onto-digits (suc fuel) n behind all =
    let text = digit_glyph false (n % 10) ∷ behind in
    let more : AllByRecursion IsDigit text = (IsDigit-glyph (n % 10) (omega arith), all) in
    cond_both (n / 10 == 0) text (digits_onto fuel 10 false (n / 10) text) (AllByRecursion IsDigit) (λ last. more)
    (λ before. digits_onto-digits fuel (n / 10) text more)

-- a number is written in digits
decimal_is_digits : (n : ℕ) → AllByRecursion (λ b. (48 ≤ b) × (b ≤ 57)) (decimal n)
unfolding digits
decimal_is_digits n = digits_onto-digits 64 n [] tt

-- so no byte but these stands in it
pub Lacks-decimal : (byte n : ℕ) → (byte < 48) ⊎ (57 < byte) → Lacks byte (decimal n)
Lacks-decimal byte n other =
    All-weaker IsDigit (λ b. (b == byte) ≡ false)
    (λ b digit. ne_eqb b byte (λ e. ⊎_elim (λ low. omega arith) (λ high. omega arith) other)) (decimal n) (decimal_is_digits n)

-- no space stands in a number
no_space : (n : ℕ) → Lacks 32 (decimal n)
no_space n = Lacks-decimal 32 n (inl (omega arith))

-- and no `>`
no_arrow : (n : ℕ) → Lacks 62 (decimal n)
no_arrow n = Lacks-decimal 62 n (inr (omega arith))

-- a number, a space and other words
words-number : (n : ℕ) (rest : List ℕ) → words_of (decimal n ++ 32 ∷ rest) ≡ decimal n ∷ words_of rest
words-number n rest =
    slice_split_at (λ b. b == 32) (decimal n) 32 rest (All-from_recursion (λ b. (b == 32) ≡ false) (decimal n) (no_space n)) refl

-- an edge without the space before it
abbrev edge_word : Edge → List ℕ
edge_word e = decimal e.parent ++ codes ">" ++ decimal e.child

-- it is a word
one_word : (e : Edge) → Lacks 32 (edge_word e)
one_word e =
    All-append (λ b. (b == 32) ≡ false) (decimal e.parent ++ codes ">") (decimal e.child)
    (All-append (λ b. (b == 32) ≡ false) (decimal e.parent) (codes ">") (no_space e.parent) (refl, tt)) (no_space e.child)

-- a word and edges behind it are the word, and a word for each edge
words-edges : (es : List Edge) (word : List ℕ) → Lacks 32 word → words_of (word ++ flat_map text es) ≡ word ∷ map edge_word es
words-edges [] word is =
    ap words_of (append-nil word) ∙ slice_split_none (λ b. b == 32) word (All-from_recursion (λ b. (b == 32) ≡ false) word is)
words-edges (e ∷ es) word is =
    slice_split_at (λ b. b == 32) word 32 (edge_word e ++ flat_map text es) (All-from_recursion (λ b. (b == 32) ≡ false) word is) refl
    ∙ ap (λ words. word ∷ words) (words-edges es (edge_word e) (one_word e))

-- two ways to group three words
three_words : (a b c : List ℕ) → a ++ codes " " ++ b ++ codes " " ++ c ≡ a ++ 32 ∷ (b ++ 32 ∷ c)
three_words a b c = simp append_assoc

-- and four words
four_words : (a b c d : List ℕ) → a ++ codes " " ++ b ++ codes " " ++ c ++ codes " " ++ d ≡ a ++ 32 ∷ (b ++ 32 ∷ (c ++ codes " " ++ d))
four_words a b c d = simp append_assoc

-- the words of a local tree's line
pub words-local : (region colour : ℕ) (tree : RootedTree)
    → words_of (local_line region colour tree) ≡ codes "local" ∷ decimal region ∷ decimal colour ∷ decimal tree.root ∷ map edge_word tree.edges
words-local region colour tree =
    ap (λ line. words_of (codes "local " ++ line)) (three_words (decimal region) (decimal colour) (tree_text tree))
    ∙ ap (λ words. codes "local" ∷ words) (words-number region (decimal colour ++ 32 ∷ tree_text tree)
    ∙ ap (λ words. decimal region ∷ words) (words-number colour (tree_text tree)
    ∙ ap (λ words. decimal colour ∷ words) (words-edges tree.edges (decimal tree.root) (no_space tree.root))))

-- the first words of a member's line
pub words-member : (region : ℕ) (m : Member) → words_of (member_line (codes "member") region m)
    ≡ codes "member" ∷ decimal region ∷ decimal m.id ∷ words_of (address_text m.addr ++ codes " " ++ axes_text m.at)
words-member region m =
    let rest = address_text m.addr ++ codes " " ++ axes_text m.at in
    ap (λ line. words_of (codes "member " ++ line)) (four_words (decimal region) (decimal m.id) (address_text m.addr) (axes_text m.at))
    ∙ ap (λ words. codes "member" ∷ words) (words-number region (decimal m.id ++ 32 ∷ rest)
    ∙ ap (λ words. decimal region ∷ words) (words-number m.id rest))

-- the number is read back
abbrev pub IsShort : ℕ → Type 0
IsShort n = n < 2 ^ 64

-- so it is
value : (n : ℕ) → IsShort n → digits_value 10 (decimal n) ≡ n
value n short = (decimal_is_IsNumeral n short).1

-- the number of an epoch's line
pub epoch-read : (n : ℕ) → IsShort n → number_at 1 (codes "epoch " ++ decimal n) ≡ n
epoch-read n short =
    let one : words_of (decimal n) ≡ decimal n ∷ [] =
    slice_split_none (λ b. b == 32) (decimal n) (All-from_recursion (λ b. (b == 32) ≡ false) (decimal n) (no_space n)) in
    ap (λ words. digits_value 10 (get_or words 0 [])) one ∙ value n short

-- the id of a member's line
pub id-read : (region : ℕ) (m : Member) → IsShort m.id → number_at 2 (member_line (codes "member") region m) ≡ m.id
id-read region m short = ap (λ words. digits_value 10 (get_or words 2 [])) (words-member region m) ∙ value m.id short

-- where the first `>` stands
arrow_at : (front behind : List ℕ) → Lacks 62 front → position_or_len (λ b. b == 62) (front ++ 62 ∷ behind) ≡ length front
arrow_at front behind none =
    let whole = front ++ 62 ∷ behind in
    let long : length whole ≡ length front + suc (length behind) = length-append front (62 ∷ behind) in
    position_or_len_is (λ b. b == 62) whole (length front) 0 (omega arith)
    (λ k lt. ap (λ b. b == 62) (get_or-append front (62 ∷ behind) 0 k lt) ∙ All-from_recursion (λ b. (b == 62) ≡ false) front none k 0 lt)
    (λ lt. ap (λ b. b == 62) (get_or-append_seam front 62 behind 0))

-- both ends of an edge are read back
abbrev pub IsShortEdge : Edge → Type 0
IsShortEdge e = IsShort e.parent × IsShort e.child

-- an edge from its ends
abbrev edge : ℕ → ℕ → Edge
edge parent child = record { parent = parent; child = child }

-- the edge of its word
edge-read : (e : Edge) → IsShortEdge e → edge_in (edge_word e) ≡ e
edge-read e short =
    let word = decimal e.parent ++ 62 ∷ decimal e.child in
    let at = arrow_at (decimal e.parent) (decimal e.child) (no_arrow e.parent) in
    let front : before_first (λ b. b == 62) word ≡ decimal e.parent =
    ap (λ n. take n word) at ∙ take-append_seam (decimal e.parent) (62 ∷ decimal e.child) in
    let behind : after_first (λ b. b == 62) word ≡ decimal e.child =
    ap (λ n. drop (n + 1) word) at ∙ drop-append-add (decimal e.parent) (62 ∷ decimal e.child) 1 in
    ap edge_in (append_assoc (decimal e.parent) (codes ">") (decimal e.child))
    ∙ (ap (λ n. edge n (digits_value 10 (after_first (λ b. b == 62) word))) (ap (λ w. digits_value 10 w) front ∙ value e.parent short.0)
    ∙ ap (λ n. edge e.parent n) (ap (λ w. digits_value 10 w) behind ∙ value e.child short.1))

-- the edges of their words
edges-read : (es : List Edge) → AllByRecursion IsShortEdge es → map edge_in (map edge_word es) ≡ es
edges-read [] short = refl
edges-read (e ∷ es) short =
    ap (λ d. d ∷ map edge_in (map edge_word es)) (edge-read e short.0) ∙ ap (λ ds. e ∷ ds) (edges-read es short.1)

-- a tree from its root and its edges
abbrev tree_from : ℕ → List Edge → RootedTree
tree_from root edges = record { root = root; edges = edges }

-- the tree of its line
pub tree-read : (region colour : ℕ) (tree : RootedTree) → IsShort tree.root → AllByRecursion IsShortEdge tree.edges
    → tree_in (local_line region colour tree) ≡ tree
tree-read region colour tree short edges =
    ap (λ words. tree_from (digits_value 10 (get_or words 3 [])) (map edge_in (drop 4 words))) (words-local region colour tree)
    ∙ (ap (λ n. tree_from n (map edge_in (map edge_word tree.edges))) (value tree.root short)
    ∙ ap (λ es. tree_from tree.root es) (edges-read tree.edges edges))
