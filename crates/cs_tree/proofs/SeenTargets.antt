-- Targets of routes and of starts are members that are seen.
use Rattle.std.proofs.Common.{◌≡◌, ◌==◌, ◌++◌, ◌%◌, ℕ, Bool, true, false, if◌then◌else◌, List, [], ◌∷◌, length, Option, None, Some, IfSome, Contains}
use Rattle.std.proofs.Common.{refl, inl, inr}
use Rattle.std.specs.List.{AllByRecursion, cons_option, filter_map}
use Rattle.std.specs.Option.{option_and_then, option_map}
use Rattle.cs_base.specs.declared.member.Member.{Member}
use Rattle.cs_base.proofs.Elements.{All-append, All-find, All-get}
use Rattle.cs_roll.specs.Roll.{member_of}
use Rattle.cs_roll.specs.Sight.{Rolls, Summaries, at_region}
use Rattle.cs_roll.specs.Summary.{RegionSummary}
use Rattle.cs_tree.specs.Colour.{representative, trees_of}
use Rattle.cs_tree.specs.Inter.{inter_tree}
use Rattle.cs_tree.specs.Local.{local_tree}
use Rattle.cs_tree.specs.Route.{child_towards, is_node, members_with, passed_below, representative_at, route, target_of, to_children, to_known, to_members}
use Rattle.cs_tree.specs.Route.{to_regions, to_root}
use Rattle.cs_tree.specs.Seen.{IsGlobal, IsSeen}
use Rattle.cs_tree.specs.Start.{root_representative, start, to_inter_root}
use Rattle.cs_tree.specs.Tree.{RootedTree}
use Rattle.cs_tree.proofs.EachOnce.{All-each_once}
use Rattle.cs_tree.proofs.Parting.{all-in}

-- what holds of each value that is given holds of all of them
All-filter_map : {X Y : Type 0} (P : Y → Type 0) (f : X → Option Y) → ((x : X) → IfSome (f x) P) → (xs : List X) → AllByRecursion P (filter_map f xs)
All-filter_map P f each [] = tt
All-filter_map {X} {Y} P f each (x ∷ xs) = one_more (f x) (filter_map f xs) (each x) (All-filter_map P f each xs)
  where
    one_more : (o : Option Y) (ys : List Y) → IfSome o P → AllByRecursion P ys → AllByRecursion P (cons_option o ys)
    one_more None ys here rest = rest
    one_more (Some y) ys here rest = (here, rest)

module _ (summaries : Summaries) (rolls : Rolls) where
  -- the representative of a region is one of its globals
  IsGlobal-representative : (colour region : ℕ) → IfSome (representative_at colour summaries region) (IsGlobal summaries)
  IsGlobal-representative colour region = listed (at_region region summaries) refl
    where
      listed : (o : Option RegionSummary) → at_region region summaries ≡ o → IfSome (option_and_then (representative colour) o) (IsGlobal summaries)
      listed None is = tt
      listed (Some summary) is = found (representative colour summary) refl
        where
          found : (o : Option Member) → representative colour summary ≡ o → IfSome o (IsGlobal summaries)
          found None stands = tt
          found (Some member) stands = record {
            region = region;
            summary = summary;
            listed = is;
            global = All-get (Contains summary.globals) summary.globals (colour % trees_of summary.size) member (all-in summary.globals) stands;
          }

  -- so it is seen
  IsSeen-global : (o : Option Member) → IfSome o (IsGlobal summaries) → IfSome (option_map target_of o) (IsSeen summaries rolls)
  IsSeen-global None global = tt
  IsSeen-global (Some member) global = record { member = member; is = refl; seen = inl global }

  -- as is the next one below a region that the node represents
  IsSeen-below : (b : Bool) (colour : ℕ) (child : Option ℕ)
      → IfSome (if b then option_map target_of (option_and_then (representative_at colour summaries) child) else None) (IsSeen summaries rolls)
  IsSeen-below false colour child = tt
  IsSeen-below true colour None = tt
  IsSeen-below true colour (Some child) = IsSeen-global (representative_at colour summaries child) (IsGlobal-representative colour child)

  seen-regions : (me region colour : ℕ) (tree : Option RootedTree) → AllByRecursion (IsSeen summaries rolls) (to_regions me summaries region colour tree)
  seen-regions me region colour None = tt
  seen-regions me region colour (Some tree) =
      All-filter_map (IsSeen summaries rolls) (passed_below me summaries tree.edges region colour)
      (λ above. IsSeen-below (is_node me (representative colour above.1)) colour (child_towards summaries tree.edges above.0 region)) summaries

  -- and as are members of a known roll
  seen-members : (region : ℕ) (roll : List Member) → at_region region rolls ≡ Some roll → (ids : List ℕ)
      → AllByRecursion (IsSeen summaries rolls) (members_with roll ids)
  seen-members region roll known =
      All-filter_map (IsSeen summaries rolls) (λ id. option_map target_of (member_of id roll)) (λ id. found id (member_of id roll) refl)
    where
      found : (id : ℕ) (o : Option Member) → member_of id roll ≡ o → IfSome (option_map target_of o) (IsSeen summaries rolls)
      found id None is = tt
      found id (Some member) is = record {
        member = member;
        is = refl;
        seen = inr (record {
          region = region;
          roll = roll;
          known = known;
          stands = All-find (Contains roll) (λ (m : Member). m.id == id) roll member (all-in roll) is;
        });
      }

  seen-known : (me : ℕ) (is_representative : Bool) (region colour : ℕ) (known : Option (List Member)) → at_region region rolls ≡ known
      → AllByRecursion (IsSeen summaries rolls) (to_known me is_representative colour known)
  seen-known me is_representative region colour None is = tt
  seen-known me is_representative region colour (Some roll) is = by_tree (local_tree (colour % trees_of (length roll)) roll)
    where
      by_tree : (o : Option RootedTree) → AllByRecursion (IsSeen summaries rolls) (to_members me is_representative roll o)
      by_tree None = tt
      by_tree (Some tree) = seen-members region roll is (to_root me is_representative tree ++ to_children me tree)

  -- so each target of a route is seen
  pub seen-route : (me region colour : ℕ) → AllByRecursion (IsSeen summaries rolls) (route me summaries rolls region colour)
  seen-route me region colour =
      let stands = is_node me (representative_at colour summaries region) in
      let above = to_regions me summaries region colour (inter_tree colour summaries) in
      let within = to_known me stands colour (at_region region rolls) in
      All-each_once (IsSeen summaries rolls) (above ++ within)
      (All-append (IsSeen summaries rolls) above within (seen-regions me region colour (inter_tree colour summaries))
      (seen-known me stands region colour (at_region region rolls) refl))

  -- the representative of the root is a global too
  IsGlobal-root : (colour : ℕ) (tree : Option RootedTree)
      → IfSome (option_and_then (λ (t : RootedTree). representative_at colour summaries t.root) tree) (IsGlobal summaries)
  IsGlobal-root colour None = tt
  IsGlobal-root colour (Some tree) = IsGlobal-representative colour tree.root

  seen-root : (me : ℕ) (root : Option Member) → IfSome root (IsGlobal summaries) → AllByRecursion (IsSeen summaries rolls) (to_inter_root me root)
  seen-root me None global = tt
  seen-root me (Some member) global = by_id (member.id == me)
    where
      by_id : (b : Bool) → AllByRecursion (IsSeen summaries rolls) (if b then [] else target_of member ∷ [])
      by_id true = tt
      by_id false = (record { member = member; is = refl; seen = inl global }, tt)

  -- and so is each target of a start
  pub seen-start : (me region colour : ℕ) → AllByRecursion (IsSeen summaries rolls) (start me summaries rolls region colour)
  seen-start me region colour =
      let root = root_representative colour summaries in
      let along = route me summaries rolls region colour in
      All-each_once (IsSeen summaries rolls) (to_inter_root me root ++ along)
      (All-append (IsSeen summaries rolls) (to_inter_root me root) along (seen-root me root (IsGlobal-root colour (inter_tree colour summaries)))
      (seen-route me region colour))
