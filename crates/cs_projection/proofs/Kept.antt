-- The rolls that a node keeps of those that its regions gave: those of the image.
use Rattle.std.proofs.Common.{◌≡◌, ◌≢◌, ◌==◌, ◌&&◌, ◌<◌, ℕ, Bool, true, false, cond, List, [], ◌∷◌, map, Option, Some, None}
use Rattle.std.proofs.Common.{refl, sym, ap, subst, ◌∙◌, arith}
use Rattle.std.specs.List.{AllByRecursion, filter, find}
use Rattle.std.specs.Option.{is_some, option_map, option_to_list}
use Rattle.std.proofs.lemmas.Bool.{and_from, and_parts, eqb-true, false≢true, ne_eqb}
use Rattle.std.proofs.lemmas.Option.{same_Some}
use Rattle.cs_base.specs.Ascending.{IsAscending}
use Rattle.cs_base.specs.declared.change.Mode.{Mode}
use Rattle.cs_base.specs.declared.change.Mode.TheVariants.{Partial, Full}
use Rattle.cs_base.specs.declared.member.Member.{Member}
use Rattle.cs_base.proofs.Ascending.{IsAscendingBy-filter}
use Rattle.cs_group.specs.Group.{is_among}
use Rattle.cs_group.specs.Rows.{HasDistinctIds, members_in, regions, row_of}
use Rattle.cs_group.specs.declared.row.Row.{Row}
use Rattle.cs_group.proofs.Regions.{IsAscending-regions}
use Rattle.cs_roll.specs.Roll.{member_of}
use Rattle.cs_slicer.specs.Projection.{known_by, rolls_of}
use Rattle.cs_slicer.proofs.Beside.{among-filter, beside}
use Rattle.cs_slicer.proofs.Cutting.{members-here, members-later}
use Rattle.cs_view.specs.View.{kept}
use Rattle.cs_slicer.proofs.Numbers.{same_among}
use Rattle.cs_projection.proofs.Numbers.{same_tests}

-- where all ids are others, a member isn't found
not_there : (id n : ℕ) (rows : List Row) → AllByRecursion (λ (r : Row). id ≢ r.member.id) rows → is_some (member_of id (members_in n rows)) ≡ true → ⊥
not_there id n [] other some = false≢true some
not_there id n (r ∷ rs) other some = go (r.region == n) refl (not_there id n rs other.1)
  where
    go : (b : Bool) → (r.region == n) ≡ b → (is_some (member_of id (members_in n rs)) ≡ true → ⊥) → ⊥
    go true e rest =
        let differs : (r.member.id == id) ≡ false = ne_eqb r.member.id id (λ same. other.0 (sym same)) in
        let later : member_of id (r.member ∷ members_in n rs) ≡ member_of id (members_in n rs) = rw differs refl in
        rest (sym (ap (λ ms. is_some (member_of id ms)) (members-here n r rs e) ∙ ap (λ o. is_some o) later) ∙ some)
    go false e rest = rest (sym (ap (λ ms. is_some (member_of id ms)) (members-later n r rs e)) ∙ some)

-- a member is found in the region of its row alone
region_of : (id n : ℕ) (rows : List Row) → HasDistinctIds rows → is_some (member_of id (members_in n rows)) ≡ true
    → option_map (λ (r : Row). r.region) (row_of id rows) ≡ Some n
region_of id n [] distinct some = absurd (false≢true some)
region_of id n (r ∷ rs) distinct some = go (r.member.id == id) refl (r.region == n) refl (region_of id n rs distinct.1)
  where
    first : (r.member.id == id) ≡ true → option_map (λ (s : Row). s.region) (row_of id (r ∷ rs)) ≡ Some r.region
    first e = rw e refl

    rest_of : (r.member.id == id) ≡ false
        → option_map (λ (s : Row). s.region) (row_of id (r ∷ rs)) ≡ option_map (λ (s : Row). s.region) (row_of id rs)
    rest_of e = rw e refl

    go : (b : Bool) → (r.member.id == id) ≡ b → (c : Bool) → (r.region == n) ≡ c
        → (is_some (member_of id (members_in n rs)) ≡ true → option_map (λ (s : Row). s.region) (row_of id rs) ≡ Some n)
        → option_map (λ (s : Row). s.region) (row_of id (r ∷ rs)) ≡ Some n
    go true e true f later = first e ∙ ap (λ m. Some m) (eqb-true r.region n f)
    go true e false f later =
        absurd (not_there id n rs (subst (λ m. AllByRecursion (λ (s : Row). m ≢ s.member.id) rs) (eqb-true r.member.id id e) distinct.0)
        (sym (ap (λ ms. is_some (member_of id ms)) (members-later n r rs f)) ∙ some))
    go false e true f later =
        let step : member_of id (r.member ∷ members_in n rs) ≡ member_of id (members_in n rs) = rw e refl in
        rest_of e ∙ later (sym (ap (λ ms. is_some (member_of id ms)) (members-here n r rs f) ∙ ap (λ o. is_some o) step) ∙ some)
    go false e false f later = rest_of e ∙ later (sym (ap (λ ms. is_some (member_of id ms)) (members-later n r rs f)) ∙ some)

-- so it is in one region at most
one_region : (id m n : ℕ) (rows : List Row) → HasDistinctIds rows → is_some (member_of id (members_in m rows)) ≡ true
    → is_some (member_of id (members_in n rows)) ≡ true → m ≡ n
one_region id m n rows distinct in_m in_n = same_Some m n (sym (region_of id m rows distinct in_m) ∙ region_of id n rows distinct in_n)

module _ (has : ℕ → Bool) where
  -- behind the one that passes none does
  filter-none : (n : ℕ) (ns : List ℕ) → ((m : ℕ) → has m ≡ true → n ≡ m) → AllByRecursion (λ m. n < m) ns → filter has ns ≡ []
  filter-none n [] only above = refl
  filter-none n (m ∷ ms) only above = go (has m) refl (filter-none n ms only above.1)
    where
      go : (b : Bool) → has m ≡ b → filter has ms ≡ [] → filter has (m ∷ ms) ≡ []
      go true e rest = absurd (let same = only m e in let lt = above.0 in omega (arith, same, lt))
      go false e rest = rw e rest

  -- of ascending numbers at most one of which passes, that one is kept
  filter-one : (ns : List ℕ) → IsAscending ns → ((m n : ℕ) → has m ≡ true → has n ≡ true → m ≡ n) → filter has ns ≡ option_to_list (find has ns)
  filter-one [] up one = refl
  filter-one (n ∷ ns) up one = go (has n) refl (filter-one ns up.1 one)
    where
      go : (b : Bool) → has n ≡ b → filter has ns ≡ option_to_list (find has ns) → filter has (n ∷ ns) ≡ option_to_list (find has (n ∷ ns))
      go true e rest = rw e (ap (λ ms. n ∷ ms) (filter-none n ns (λ m passes. one n m e passes) up.0))
      go false e rest = rw e rest

-- what is found among images is the image of what is found
pub find-map : {S T : Type 0} (p : T → Bool) (g : S → T) (xs : List S) → find p (map g xs) ≡ option_map g (find (λ x. p (g x)) xs)
find-map p g [] = refl
find-map {S} {T} p g (x ∷ xs) =
    let P : Bool → Type 0 = λ b. cond b (Some (g x)) (find p (map g xs)) ≡ option_map g (cond b (Some x) (find (λ y. p (g y)) xs)) in
    elim (p (g x)) as P [ true ↦ refl | false ↦ find-map p g xs ]

-- and so it is as a list
list-map : {S T : Type 0} (g : S → T) (o : Option S) → option_to_list (option_map g o) ≡ map g (option_to_list o)
list-map g None = refl
list-map g (Some x) = refl

module _ (rows : List Row) where
  -- the roll of a region
  abbrev roll : ℕ → List Member
  roll n = members_in n rows

  -- the rolls of some regions of the rows
  rolls_of-regions : (ns : List ℕ) → IsAscending ns → ((k : ℕ) → is_among ns k ≡ true → is_among (regions rows) k ≡ true)
      → rolls_of ns rows ≡ map (beside roll) ns
  rolls_of-regions ns up within =
      ap (map (beside roll))
      (same_among (filter (λ n. is_among ns n) (regions rows)) ns
      (IsAscendingBy-filter (λ n. n) (λ n. is_among ns n) (regions rows) (IsAscending-regions rows)) up
      (λ k. among-filter (λ n. is_among ns n) k (regions rows)
      ∙ same_tests (is_among (regions rows) k && is_among ns k) (is_among ns k) (λ both. (and_parts (is_among (regions rows) k) (is_among ns k) both).1)
      (λ there. and_from (is_among (regions rows) k) (is_among ns k) (within k there) there)))

  -- of some regions, a node keeps the rolls of those that it knows
  pub kept-known : (me : ℕ) (mode : Mode) (q : ℕ → Bool) → HasDistinctIds rows
      → kept me mode (map (beside (λ n. members_in n rows)) (filter q (regions rows))) ≡ rolls_of (known_by me mode rows (filter q (regions rows))) rows
  kept-known me Full q distinct =
      sym (rolls_of-regions (filter q (regions rows)) (IsAscendingBy-filter (λ n. n) q (regions rows) (IsAscending-regions rows))
      (λ k there. (and_parts (is_among (regions rows) k) (q k) (sym (among-filter q k (regions rows)) ∙ there)).0))
  kept-known me Partial q distinct =
      let ns = filter q (regions rows) in
      let has : ℕ → Bool = λ n. is_some (member_of me (members_in n rows)) in
      let up = IsAscendingBy-filter (λ n. n) q (regions rows) (IsAscending-regions rows) in
      ap (λ o. option_to_list o) (find-map (λ (pair : ℕ × List Member). is_some (member_of me pair.1)) (beside roll) ns)
      ∙ (list-map (beside roll) (find has ns)
      ∙ (ap (map (beside roll)) (sym (filter-one has ns up (λ m n in_m in_n. one_region me m n rows distinct in_m in_n)))
      ∙ sym (rolls_of-regions (filter has ns) (IsAscendingBy-filter (λ n. n) has ns up)
      (λ k there.
      let listed = (and_parts (is_among ns k) (has k) (sym (among-filter has k ns) ∙ there)).0 in
      (and_parts (is_among (regions rows) k) (q k) (sym (among-filter q k (regions rows)) ∙ listed)).0))))
