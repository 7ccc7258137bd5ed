-- What is offered by the elements of a list, one after another.
use Rattle.std.proofs.Common.{◌≡◌, ℕ, ◌+◌, ◌<◌, List, [], ◌∷◌, ◌++◌, length, get_or, take, Option, Some, None, refl, ap, ◌∙◌, append_assoc, append-nil}
use Rattle.std.proofs.Common.{Bool}
use Rattle.std.specs.List.{filter_map}
use Rattle.std.specs.Option.{option_map}
use Rattle.std.proofs.lemmas.List.{take_more}
use Rattle.std.proofs.lemmas.List.Elements.{filter_map-append}
use Rattle.cs_base.specs.declared.member.Member.{Member}
use Rattle.cs_roll.specs.Roll.{member_of}
use Rattle.cs_tree.specs.Route.{Target, members_with, target_of, to_children, to_members, to_root}
use Rattle.cs_tree.specs.Tree.{RootedTree}

-- an element more that offers something
pub filter_map-some : {S T : Type 0} (f : S → Option T) (ss : List S) (i : ℕ) (d : S) (t : T) (before offered now : List T) → i < length ss
    → f (get_or ss i d) ≡ Some t → offered ≡ before ++ filter_map f (take i ss) → now ≡ offered ++ t ∷ []
    → now ≡ before ++ filter_map f (take (i + 1) ss)
filter_map-some f ss i d t before offered now lt gives so_far pushed =
    let more : filter_map f (take (i + 1) ss) ≡ filter_map f (take i ss) ++ t ∷ [] =
    ap (filter_map f) (take_more ss i d lt) ∙ (filter_map-append f (take i ss) (get_or ss i d ∷ []) ∙ rw gives refl) in
    rw (more, pushed, so_far) (append_assoc before (filter_map f (take i ss)) (t ∷ []))

-- and one that offers nothing
pub filter_map-none : {S T : Type 0} (f : S → Option T) (ss : List S) (i : ℕ) (d : S) (before offered : List T) → i < length ss
    → f (get_or ss i d) ≡ None → offered ≡ before ++ filter_map f (take i ss) → offered ≡ before ++ filter_map f (take (i + 1) ss)
filter_map-none f ss i d before offered lt gives so_far =
    let more : filter_map f (take (i + 1) ss) ≡ filter_map f (take i ss) =
    ap (filter_map f) (take_more ss i d lt) ∙ (filter_map-append f (take i ss) (get_or ss i d ∷ []) ∙ rw gives (append-nil (filter_map f (take i ss)))) in
    rw more so_far

-- by the second and the third rule a tree offers its root, and then the children
pub members-both : (me : ℕ) (is_representative : Bool) (roll : List Member) (tree : RootedTree) (known : Option RootedTree)
    (before with_root now : List Target) → known ≡ Some tree → with_root ≡ before ++ members_with roll (to_root me is_representative tree)
    → now ≡ with_root ++ members_with roll (to_children me tree) → now ≡ before ++ to_members me is_representative roll known
members-both me is_representative roll tree known before with_root now is root children =
    let both = filter_map-append (λ id. option_map target_of (member_of id roll)) (to_root me is_representative tree) (to_children me tree) in
    rw (is, children, root, both) (append_assoc before (members_with roll (to_root me is_representative tree)) (members_with roll (to_children me tree)))
