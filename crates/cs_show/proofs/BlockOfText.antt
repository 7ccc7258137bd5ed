-- No line of a block has an LF, so the block is found in its text.
use Rattle.std.proofs.Common.{◌≡◌, ℕ, zero, suc, ◌/◌, ◌%◌, ◌==◌, false, List, [], ◌∷◌, ◌++◌, map, get_or, codes, decimal, ℤ, pos, negsuc}
use Rattle.std.proofs.Common.{None, refl, ap, sym, ◌∙◌, inl, append_assoc, arith}
use Rattle.std.specs.Fmt.{signed_decimal}
use Rattle.std.specs.List.{AllByRecursion, flat_map, join_with_byte, list_any}
use Rattle.std.proofs.lemmas.Bool.{or_parts}
use Rattle.std.proofs.lemmas.List.Elements.{All-from_recursion}
use Rattle.std.proofs.lemmas.List.Splits.{slice_split_at}
use Rattle.cs_base.specs.Address.{Address}
use Rattle.cs_base.specs.Axes.{Axes, axes_text}
use Rattle.cs_base.specs.Canonical.{address_text}
use Rattle.cs_base.specs.declared.member.Member.{Member}
use Rattle.cs_base.proofs.Elements.{All-append, All-flat_map}
use Rattle.cs_item.specs.declared.picture.Picture.{Picture}
use Rattle.cs_roll.specs.Summary.{RegionSummary}
use Rattle.cs_tree.specs.Tree.{RootedTree}
use Rattle.cs_tree.specs.declared.edge.Edge.{Edge}
use Rattle.hex.specs.Hex.{encode_lower, encode_with, lower_digits}
use Rattle.cs_show.specs.Agreement.{blocks_in, blocks_of}
use Rattle.cs_show.specs.Block.{block_lines, digest_line, inter_line, local_line, member_line, region_line, tree_text}
use Rattle.cs_show.specs.Text.{Line, all_but_last, parts, text_of}
use Rattle.cs_show.proofs.BlockLines.{All-body, all_but_last-push, body, whole-block}
use Rattle.cs_show.proofs.BlocksInLines.{block-found}
use Rattle.cs_show.proofs.Edges.{text}
use Rattle.cs_show.proofs.Words.{Lacks, Lacks-decimal}

-- no LF is in the line
abbrev pub IsLine : Line → Type 0
IsLine line = Lacks 10 line

-- a text in which no LF is found
IsLine-tested : (line : List ℕ) → list_any (λ b. b == 10) line ≡ false → IsLine line
IsLine-tested [] none = tt
IsLine-tested (b ∷ line) none =
    let both = or_parts (b == 10) (list_any (λ b. b == 10) line) none in (both.0, IsLine-tested line both.1)

-- two texts in a row
IsLine-append : (a b : List ℕ) → IsLine a → IsLine b → IsLine (a ++ b)
IsLine-append a b front behind = All-append (λ b. (b == 10) ≡ false) a b front behind

-- two texts with a space between
IsLine-spaced : (a b : List ℕ) → IsLine a → IsLine b → IsLine (a ++ codes " " ++ b)
IsLine-spaced a b front behind = IsLine-append (a ++ codes " ") b (IsLine-append a (codes " ") front (refl, tt)) behind

-- a number
IsLine-decimal : (n : ℕ) → IsLine (decimal n)
IsLine-decimal n = Lacks-decimal 10 n (inl (omega arith))

-- a number with a sign
IsLine-signed : (z : ℤ) → IsLine (signed_decimal z)
IsLine-signed (pos n) = IsLine-decimal n
IsLine-signed (negsuc n) = (refl, IsLine-decimal (suc n))

-- three of them
IsLine-axes : (p : Axes) → IsLine (axes_text p)
IsLine-axes p =
    IsLine-spaced _ _ (IsLine-spaced _ _ (IsLine-signed p.x) (IsLine-signed p.y)) (IsLine-signed p.z)

-- numbers with a `.` between two
IsLine-dotted : (numbers : List ℕ) → IsLine (join_with_byte 46 (map decimal numbers))
IsLine-dotted [] = tt
IsLine-dotted (n ∷ []) = IsLine-decimal n
IsLine-dotted (n ∷ next ∷ more) =
    IsLine-append (decimal n) (46 ∷ join_with_byte 46 (map decimal (next ∷ more))) (IsLine-decimal n) (refl, IsLine-dotted (next ∷ more))

-- an address
IsLine-address : (a : Address) → IsLine (address_text a)
IsLine-address a =
    IsLine-append (join_with_byte 46 (map decimal a.ip)) (58 ∷ decimal a.port) (IsLine-dotted a.ip) (refl, IsLine-decimal a.port)

-- the line of an epoch
IsLine-epoch : (epoch : ℕ) → IsLine (codes "epoch " ++ decimal epoch)
IsLine-epoch epoch = IsLine-append (codes "epoch ") (decimal epoch) (IsLine-tested (codes "epoch ") refl) (IsLine-decimal epoch)

-- that of a member
IsLine-member : (word : List ℕ) (region : ℕ) (m : Member) → IsLine word → IsLine (member_line word region m)
IsLine-member word region m is =
    IsLine-spaced _ _ (IsLine-spaced _ _ (IsLine-spaced _ _ (IsLine-spaced _ _ is (IsLine-decimal region)) (IsLine-decimal m.id))
    (IsLine-address m.addr)) (IsLine-axes m.at)

-- a region's summary behind other words
IsLine-summary : (front : List ℕ) (s : RegionSummary) → IsLine front
    → IsLine (front ++ codes " " ++ decimal s.size ++ codes " " ++ axes_text s.sum ++ codes " " ++ axes_text s.low ++ codes " " ++ axes_text s.high)
IsLine-summary front s is =
    IsLine-spaced _ _ (IsLine-spaced _ _ (IsLine-spaced _ _ (IsLine-spaced _ _ is (IsLine-decimal s.size)) (IsLine-axes s.sum))
    (IsLine-axes s.low)) (IsLine-axes s.high)

-- the line of a region
IsLine-region : (region : ℕ) (s : RegionSummary) → IsLine (region_line region s)
IsLine-region region s =
    IsLine-summary (codes "region " ++ decimal region) s
    (IsLine-append (codes "region ") (decimal region) (IsLine-tested (codes "region ") refl) (IsLine-decimal region))

-- an edge
IsLine-edge : (e : Edge) → IsLine (text e)
IsLine-edge e =
    IsLine-append (codes " " ++ decimal e.parent ++ codes ">") (decimal e.child)
    (IsLine-append (codes " " ++ decimal e.parent) (codes ">") (refl, IsLine-decimal e.parent) (refl, tt)) (IsLine-decimal e.child)

-- a tree
IsLine-tree : (tree : RootedTree) → IsLine (tree_text tree)
IsLine-tree tree =
    IsLine-append (decimal tree.root) (flat_map text tree.edges) (IsLine-decimal tree.root)
    (All-flat_map (λ b. (b == 10) ≡ false) text IsLine-edge tree.edges)

-- the line of a tree of the regions
IsLine-inter : (colour : ℕ) (tree : RootedTree) → IsLine (inter_line colour tree)
IsLine-inter colour tree =
    IsLine-spaced (codes "inter " ++ decimal colour) (tree_text tree)
    (IsLine-append (codes "inter ") (decimal colour) (IsLine-tested (codes "inter ") refl) (IsLine-decimal colour)) (IsLine-tree tree)

-- that of a local tree
IsLine-local : (region colour : ℕ) (tree : RootedTree) → IsLine (local_line region colour tree)
IsLine-local region colour tree =
    IsLine-spaced (codes "local " ++ decimal region ++ codes " " ++ decimal colour) (tree_text tree)
    (IsLine-spaced (codes "local " ++ decimal region) (decimal colour)
    (IsLine-append (codes "local ") (decimal region) (IsLine-tested (codes "local ") refl) (IsLine-decimal region)) (IsLine-decimal colour))
    (IsLine-tree tree)

-- what holds of each element and of the default holds of what is read
read-holds : (P : ℕ → Type 0) (d : ℕ) → P d → (xs : List ℕ) → AllByRecursion P xs → (i : ℕ) → P (get_or xs i d)
read-holds P d is [] all i = is
read-holds P d is (x ∷ xs) all zero = all.0
read-holds P d is (x ∷ xs) all (suc i) = read-holds P d is xs all.1 i

-- hexadecimal digits
IsLine-hex : (bytes : List ℕ) → IsLine (encode_lower bytes)
unfolding encode_with
IsLine-hex [] = tt
IsLine-hex (b ∷ bytes) =
    let digit = read-holds (λ b. (b == 10) ≡ false) 0 refl lower_digits (IsLine-tested lower_digits refl) in
    (digit (b / 16), (digit (b % 16), IsLine-hex bytes))

-- the line of a digest
IsLine-digest : (digest : List ℕ) → IsLine (digest_line digest)
IsLine-digest digest = IsLine-append (codes "digest ") (encode_lower digest) (IsLine-tested (codes "digest ") refl) (IsLine-hex digest)

-- no line of a block has an LF
pub IsLine-block : (p : Picture) → AllByRecursion IsLine (body p ++ codes "end" ∷ [])
IsLine-block p =
    All-append IsLine (body p) (codes "end" ∷ [])
    (All-body IsLine p IsLine-epoch IsLine-region (λ region m. IsLine-member (codes "global") region m (IsLine-tested (codes "global") refl))
    (λ region m. IsLine-member (codes "member") region m (IsLine-tested (codes "member") refl)) IsLine-inter IsLine-local IsLine-digest)
    (IsLine-tested (codes "end") refl, tt)

-- the parts of a text of lines are these lines, and what stands behind the last LF
parts-lines : (lines : List Line) → AllByRecursion IsLine lines → parts (text_of lines) ≡ lines ++ [] ∷ []
parts-lines [] are = refl
parts-lines (line ∷ lines) are =
    ap parts (append_assoc line (10 ∷ []) (text_of lines))
    ∙ (slice_split_at (λ b. b == 10) line 10 (text_of lines) (All-from_recursion (λ b. (b == 10) ≡ false) line are.0) refl
    ∙ ap (λ more. line ∷ more) (parts-lines lines are.1))

-- the block that is found in the text of a view
pub block-of-text : (p : Picture) → blocks_of (text_of (block_lines p)) ≡ record { call = None; lines = all_but_last (block_lines p) } ∷ []
block-of-text p =
    let lines = body p ++ codes "end" ∷ [] in
    ap (λ ls. blocks_of (text_of ls)) (whole-block p)
    ∙ (ap (λ found. blocks_in (all_but_last found)) (parts-lines lines (IsLine-block p))
    ∙ (ap blocks_in (all_but_last-push lines [])
    ∙ (ap blocks_in (sym (whole-block p)) ∙ block-found p)))
