-- The representative of the root, before the targets of a route.
use Rattle.std.proofs.Common.{◌≡◌, ◌==◌, ℕ, true, false, List, [], ◌∷◌, ◌++◌, Option, None, Some, refl, sym, ap, ◌∙◌}
use Rattle.std.specs.Option.{option_and_then, option_to_list}
use Rattle.cs_base.specs.Ascending.{placed_by}
use Rattle.cs_base.specs.declared.member.Member.{Member}
use Rattle.cs_roll.specs.Sight.{Summaries}
use Rattle.cs_tree.specs.Inter.{inter_tree}
use Rattle.cs_tree.specs.Route.{Target, each_once, representative_at, target_id, target_of}
use Rattle.cs_tree.specs.Start.{root_representative, to_inter_root}
use Rattle.cs_tree.specs.Tree.{RootedTree}

-- the representative that is read of the tree that was made
pub root-read : (colour : ℕ) (summaries : Summaries) (tree : RootedTree) (root : ℕ) (read : Option Member)
    → inter_tree colour summaries ≡ Some tree → root ≡ tree.root → read ≡ representative_at colour summaries root
    → read ≡ root_representative colour summaries
root-read colour summaries tree root read made is found =
    found
    ∙ (ap (representative_at colour summaries) is
    ∙ ap (option_and_then (λ (t : RootedTree). representative_at colour summaries t.root)) (sym made))

-- where it is the node itself, there is no target
pub to_inter_root-self : (me : ℕ) (member : Member) → (member.id == me) ≡ true → to_inter_root me (Some member) ≡ []
to_inter_root-self me member is = rw is refl

-- and where it is another one, that one is it
pub to_inter_root-other : (me : ℕ) (member : Member) → (member.id == me) ≡ false → to_inter_root me (Some member) ≡ target_of member ∷ []
to_inter_root-other me member isnt = rw isnt refl

-- a target put among those of a route comes before them
pub each_once-put : (first : Option Target) (t : Target) (root along now : List Target) → option_to_list first ≡ root → first ≡ Some t
    → each_once along ≡ along → now ≡ placed_by target_id t along → now ≡ each_once (root ++ along)
each_once-put first t root along now is some once put =
    let one : t ∷ [] ≡ root = ap option_to_list (sym some) ∙ is in
    put ∙ (ap (placed_by target_id t) (sym once) ∙ ap (λ (ts : List Target). each_once (ts ++ along)) one)

-- and with none those of the route are left
pub each_once-none : (first : Option Target) (root along now : List Target) → option_to_list first ≡ root → first ≡ None
    → each_once along ≡ along → now ≡ along → now ≡ each_once (root ++ along)
each_once-none first root along now is none once same =
    let empty : [] ≡ root = ap option_to_list (sym none) ∙ is in
    same ∙ (sym once ∙ ap (λ (ts : List Target). each_once (ts ++ along)) empty)
