-- The route of a piece of a region and a colour: whom a node passes it on to, by what the node sees.
--
--     regions 0, 1, 2 with representatives 10, 20, 30       1        node 20 passes a piece of region 2 on to 30, by
--     for the colour, and members 30, 31, 32 in region 2   / \       the first rule. Node 30 passes it on to 31, by
--     with the local tree 31>30 31>32                     0   2      the second, and 31 to 30 and 32, by the third
use Rattle.std.specs.Prelude.{ℕ, zero, suc, ◌%◌, ◌==◌, ◌&&◌, not, if◌then◌else◌, Bool, false}
use Rattle.std.specs.Prelude.{List, [], ◌∷◌, ◌++◌, length, Option, None, Some}
use Rattle.std.specs.List.{filter_map, find}
use Rattle.std.specs.Option.{option_and_then, option_map, option_map_or}
use Rattle.cs_base.specs.Address.{Address, IsAddress}
use Rattle.cs_base.specs.Ascending.{placed_by}
use Rattle.cs_base.specs.Ranges.{IsId}
use Rattle.cs_base.specs.declared.member.Member.{Member}
use Rattle.cs_roll.specs.Roll.{member_of}
use Rattle.cs_roll.specs.Sight.{Rolls, Summaries, at_region}
use Rattle.cs_roll.specs.Summary.{RegionSummary}
use Rattle.cs_tree.specs.Colour.{representative, trees_of}
use Rattle.cs_tree.specs.Inter.{inter_tree}
use Rattle.cs_tree.specs.Local.{local_tree}
use Rattle.cs_tree.specs.Tree.{Edge, RootedTree, children_of, parent_of}

-- whom a piece is passed on to: a node and its address
abbrev pub Target : Type 0
Target = ℕ × Address

-- its numbers are in their ranges
abbrev pub IsTarget : Target → Type 0
IsTarget target = IsId target.0 × IsAddress target.1

abbrev pub target_of : Member → Target
target_of member = (member.id, member.addr)

abbrev pub target_id : Target → ℕ
target_id target = target.0

-- the representative of a region
abbrev pub representative_at : ℕ → Summaries → ℕ → Option Member
representative_at colour summaries region = option_and_then (representative colour) (at_region region summaries)

-- whether a member, if there is one, is the node
abbrev pub is_node : ℕ → Option Member → Bool
is_node me member = option_map_or (λ (m : Member). m.id == me) member false

-- the way up from a key: the key, its parent, and so on, up to so many
abbrev pub way_up : ℕ → List Edge → Option ℕ → List ℕ
way_up zero edges key = []
way_up (suc more) edges None = []
way_up (suc more) edges (Some key) = key ∷ way_up more edges (parent_of key edges)

-- whether one key is the parent of another
abbrev pub is_parent : List Edge → ℕ → ℕ → Bool
is_parent edges above key = option_map_or (λ parent. parent == above) (parent_of key edges) false

-- the child of a region on the way up to it from another: the child below or at which the other stands. No way is
-- longer than there are regions
abbrev pub child_towards : Summaries → List Edge → ℕ → ℕ → Option ℕ
child_towards summaries edges above region =
    find (is_parent edges above) (way_up (length summaries) edges (Some region))

-- what a node that represents one region passes on below it, towards the region of the piece
abbrev pub passed_below : ℕ → Summaries → List Edge → ℕ → ℕ → ℕ × RegionSummary → Option Target
passed_below me summaries edges region colour above =
    if is_node me (representative colour above.1)
    then option_map target_of
    (option_and_then (representative_at colour summaries) (child_towards summaries edges above.0 region))
    else None

-- first rule: where a node represents a region above that of the piece, the representative of the next region down
abbrev pub to_regions : ℕ → Summaries → ℕ → ℕ → Option RootedTree → List Target
to_regions me summaries region colour None = []
to_regions me summaries region colour (Some tree) =
    filter_map (passed_below me summaries tree.edges region colour) summaries

-- second rule: where a node represents the region of the piece, the root of its local tree, unless that is the node
abbrev pub to_root : ℕ → Bool → RootedTree → List ℕ
to_root me is_representative tree = if is_representative && not (tree.root == me) then tree.root ∷ [] else []

-- third rule: the children of a node in the local tree. Only members of the region have some
abbrev pub to_children : ℕ → RootedTree → List ℕ
to_children me tree = children_of me tree.edges

-- the targets that are the members with these ids
abbrev pub members_with : List Member → List ℕ → List Target
members_with roll ids = filter_map (λ id. option_map target_of (member_of id roll)) ids

-- by the second and third rule
abbrev pub to_members : ℕ → Bool → List Member → Option RootedTree → List Target
to_members me is_representative roll None = []
to_members me is_representative roll (Some tree) =
    members_with roll (to_root me is_representative tree ++ to_children me tree)

-- these two rules are for a region whose roll is known
abbrev pub to_known : ℕ → Bool → ℕ → Option (List Member) → List Target
to_known me is_representative colour None = []
to_known me is_representative colour (Some roll) =
    to_members me is_representative roll (local_tree (colour % trees_of (length roll)) roll)

-- the targets ascending by id, each id once: the first of those that it has stays
abbrev pub each_once : List Target → List Target
each_once [] = []
each_once (target ∷ targets) = placed_by target_id target (each_once targets)

-- whom a node passes a piece on to: the rules in their order, and within the first rule by region
abbrev pub route : ℕ → Summaries → Rolls → ℕ → ℕ → List Target
route me summaries rolls region colour =
    let is_representative = is_node me (representative_at colour summaries region) in
    each_once (
    to_regions me summaries region colour (inter_tree colour summaries)
    ++ to_known me is_representative colour (at_region region rolls))
