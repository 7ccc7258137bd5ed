-- The printed block of a view, as a list of lines:
--
--     epoch 1                                     the shared lines: the epoch, and for each region
--     region 0 2 10 0 0 0 0 0 10 0 0              its size, the sum and the bounds of its points,
--     global 0 1 127.0.0.1:9001 0 0 0             and its first members
--     global 0 2 127.0.0.1:9002 10 0 0
--     member 0 1 127.0.0.1:9001 0 0 0             the members of each known region
--     member 0 2 127.0.0.1:9002 10 0 0
--     inter 0 0                                   the tree of the regions for each colour
--     inter 1 0
--     inter 2 0
--     inter 3 0
--     local 0 0 1 1>2                             the local trees of each known region
--     local 0 1 2 2>1
--     digest ..                                   the digest of the shared lines and the inter lines
--     end
use Rattle.std.specs.Prelude.{◌≡◌, ℕ, List, [], ◌∷◌, ◌++◌, length, map, decimal, codes}
use Rattle.std.specs.List.{filter_map, flat_map, range_with_len}
use Rattle.std.specs.Option.{option_map}
use Rattle.cs_base.specs.Axes.{axes_text}
use Rattle.cs_base.specs.Canonical.{address_text}
use Rattle.cs_base.specs.Limits.{colours}
use Rattle.cs_base.specs.declared.member.Member.{Member}
use Rattle.cs_item.specs.declared.picture.Picture.{Picture}
use Rattle.cs_roll.specs.Sight.{Summaries}
use Rattle.cs_roll.specs.Summary.{RegionSummary}
use Rattle.cs_tree.specs.Colour.{trees_of}
use Rattle.cs_tree.specs.Inter.{inter_tree}
use Rattle.cs_tree.specs.Local.{local_tree}
use Rattle.cs_tree.specs.Tree.{RootedTree, children_of}
use Rattle.cs_tree.specs.declared.edge.Edge.{Edge}
use Rattle.hex.specs.Hex.{encode_lower}
use Rattle.sha2.specs.Sha256.{sha256}
use Rattle.cs_show.specs.Text.{text_of}

-- a member of a region, after the word `member` or `global`
abbrev pub member_line : List ℕ → ℕ → Member → List ℕ
member_line word region m =
    word ++ codes " " ++ decimal region ++ codes " " ++ decimal m.id
    ++ codes " " ++ address_text m.addr ++ codes " " ++ axes_text m.at

-- a region: how many members it has, their sum, and the box around them
abbrev pub region_line : ℕ → RegionSummary → List ℕ
region_line region s =
    codes "region " ++ decimal region ++ codes " " ++ decimal s.size ++ codes " " ++ axes_text s.sum
    ++ codes " " ++ axes_text s.low ++ codes " " ++ axes_text s.high

-- a region's line and those of its globals
abbrev pub region_lines : ℕ × RegionSummary → List (List ℕ)
region_lines (region, s) = region_line region s ∷ map (member_line (codes "global") region) s.globals

-- the lines of a known region's members
abbrev pub roll_lines : ℕ × List Member → List (List ℕ)
roll_lines (region, members) = map (member_line (codes "member") region) members

-- an edge from a parent to a child, after a space
abbrev pub edge_text : ℕ → ℕ → List ℕ
edge_text parent child = codes " " ++ decimal parent ++ codes ">" ++ decimal child

-- the edges from one parent
abbrev pub edges_text : List Edge → ℕ → List ℕ
edges_text edges parent = flat_map (edge_text parent) (children_of parent edges)

-- a tree: its root, and its edges in ascending order
abbrev pub tree_text : RootedTree → List ℕ
tree_text tree = decimal tree.root ++ flat_map (λ (e : Edge). edge_text e.parent e.child) tree.edges

-- the tree of the regions for a colour
abbrev pub inter_line : ℕ → RootedTree → List ℕ
inter_line colour tree = codes "inter " ++ decimal colour ++ codes " " ++ tree_text tree

-- the trees of the regions, by ascending colour
abbrev pub inter_lines : Summaries → List (List ℕ)
inter_lines summaries =
    filter_map (λ colour. option_map (inter_line colour) (inter_tree colour summaries)) (range_with_len 0 colours)

-- the tree of a known region for a colour
abbrev pub local_line : ℕ → ℕ → RootedTree → List ℕ
local_line region colour tree =
    codes "local " ++ decimal region ++ codes " " ++ decimal colour ++ codes " " ++ tree_text tree

-- the trees of a known region, by ascending colour
abbrev pub local_lines : ℕ × List Member → List (List ℕ)
local_lines (region, members) =
    filter_map (λ colour. option_map (local_line region colour) (local_tree colour members))
    (range_with_len 0 (trees_of (length members)))

-- the epoch, and each region with its globals
abbrev pub shared_lines : Picture → List (List ℕ)
shared_lines p = (codes "epoch " ++ decimal p.epoch) ∷ flat_map region_lines p.summaries

-- the digest of what all blocks of one epoch share: all that doesn't depend on which regions are known
abbrev pub digest_of : Picture → List ℕ
digest_of p = sha256 (text_of (shared_lines p) ++ text_of (inter_lines p.summaries))

-- the digest in hexadecimal digits of lower case
abbrev pub digest_line : List ℕ → List ℕ
digest_line digest = codes "digest " ++ encode_lower digest

-- the whole block of a view
abbrev pub block_lines : Picture → List (List ℕ)
block_lines p =
    shared_lines p ++ flat_map roll_lines p.rolls ++ inter_lines p.summaries ++ flat_map local_lines p.rolls
    ++ digest_line (digest_of p) ∷ codes "end" ∷ []

-- what the blocks of an epoch have in common, of a view: the shared lines, the inter lines, and their digest
abbrev pub IsCommonOf : Picture → (shared inters digest : List ℕ) → Type 0
IsCommonOf p shared inters digest =
    (shared ≡ text_of (shared_lines p)) × (inters ≡ text_of (inter_lines p.summaries)) × (digest ≡ digest_of p)
