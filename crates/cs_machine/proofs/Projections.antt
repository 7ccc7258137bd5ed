-- The rolls of a projection are those of the known regions, where these are regions of the group: what a follower knows by it,
-- and what it shows to one that asks.
use Rattle.std.proofs.Common.{◌≡◌, ◌&&◌, ℕ, Bool, true, cond, List, [], ◌∷◌, map, Option, Some, None}
use Rattle.std.proofs.Common.{refl, sym, ap, ◌∙◌, if◌then◌else◌}
use Rattle.std.specs.List.{filter, find, list_all}
use Rattle.std.specs.Option.{is_some, option_map, option_to_list}
use Rattle.std.proofs.lemmas.Bool.{and_from, and_parts}
use Rattle.cs_base.specs.Ascending.{at_key}
use Rattle.cs_base.specs.declared.change.Mode.{Mode}
use Rattle.cs_base.specs.declared.change.Mode.TheVariants.{Partial, Full}
use Rattle.cs_base.specs.declared.member.Member.{Member}
use Rattle.cs_base.proofs.Ascending.{IsAscendingBy-filter}
use Rattle.cs_base.proofs.Elements.{All-find}
use Rattle.cs_core.specs.Snapshots.{knows}
use Rattle.cs_group.specs.Group.{GroupState, is_among}
use Rattle.cs_group.specs.Rows.{HasDistinctIds, members_in, regions}
use Rattle.cs_group.proofs.Known.{among-holds}
use Rattle.cs_group.proofs.Regions.{IsAscending-regions}
use Rattle.cs_item.specs.declared.picture.Picture.{Picture}
use Rattle.cs_roll.specs.Roll.{member_of}
use Rattle.cs_roll.specs.Sight.{Rolls}
use Rattle.cs_slicer.specs.Projection.{known_by, projection, rolls_of}
use Rattle.cs_slicer.specs.Turn.{summaries_of}
use Rattle.cs_slicer.proofs.Beside.{among-filter, at_key-beside, beside}
use Rattle.cs_slicer.proofs.Numbers.{same_among}
use Rattle.cs_projection.proofs.Kept.{find-map, kept-known}
use Rattle.cs_projection.proofs.Numbers.{same_tests}
use Rattle.cs_projection.proofs.Reached.{each-among, known-beside}
use Rattle.cs_view.specs.Snapshot.{rolls_for, shown_to}
use Rattle.cs_view.specs.Step.{is_known}
use Rattle.cs_view.specs.View.{holder, kept, shown}
use Rattle.cs_view.proofs.Finding.{is_some-find}
use Rattle.cs_machine.specs.Answers.{has_node}
use Rattle.cs_machine.specs.Reached.{AreRegionsOf}

module _ (f : ℕ → List Member) where
  -- a test of the numbers of all pairs
  list_all-beside : (p : ℕ → Bool) (ns : List ℕ) → list_all (λ (pair : ℕ × List Member). p pair.0) (map (beside f) ns) ≡ list_all p ns
  list_all-beside p [] = refl
  list_all-beside p (n ∷ ns) = ap (λ b. p n && b) (list_all-beside p ns)

module _ (g : GroupState) (known : List ℕ) (are : AreRegionsOf g known) where
  -- the known ones of all regions are those that are known
  same-known : filter (λ region. is_among known region) (regions g.rows) ≡ known
  same-known =
      same_among (filter (λ region. is_among known region) (regions g.rows)) known
      (IsAscendingBy-filter (λ n. n) (λ region. is_among known region) (regions g.rows) (IsAscending-regions g.rows)) are.ascending
      (λ k. among-filter (λ region. is_among known region) k (regions g.rows)
      ∙ same_tests (is_among (regions g.rows) k && is_among known k) (is_among known k)
      (λ both. (and_parts (is_among (regions g.rows) k) (is_among known k) both).1)
      (λ here. and_from (is_among (regions g.rows) k) (is_among known k)
      (among-holds (λ region. is_among (regions g.rows) region ≡ true) k known are.there here) here))

  -- so the rolls are theirs
  rolls-known : rolls_of known g.rows ≡ map (beside (λ region. members_in region g.rows)) known
  rolls-known = ap (map (beside (λ region. members_in region g.rows))) same-known

  -- a region has a roll where it is known
  known-there : (n : ℕ) → is_known (rolls_of known g.rows) n ≡ is_among known n
  known-there n =
      ap (λ (rolls : List (ℕ × List Member)). is_known rolls n) rolls-known
      ∙ known-beside (λ region. members_in region g.rows) n known

-- a node knows the rolls of a projection where it knows their regions
pub knows-known : (g h : GroupState) (known given : List ℕ) → AreRegionsOf g known → AreRegionsOf h given
    → knows (rolls_of known g.rows) (rolls_of given h.rows) ≡ list_all (is_among known) given
knows-known g h known given are are_given =
    (λ i. list_all (λ (pair : ℕ × List Member). known-there g known are pair.0 i) (rolls_of given h.rows))
    ∙ ap (list_all (λ (pair : ℕ × List Member). is_among known pair.0)) (rolls-known h given are_given)
    ∙ list_all-beside (λ region. members_in region h.rows) (is_among known) given

-- ---- what a projection shows

module _ (g : GroupState) (epoch : ℕ) (known : List ℕ) (are : AreRegionsOf g known) (distinct : HasDistinctIds g.rows) (asker : ℕ) where
  -- the members of a region
  abbrev roll : ℕ → List Member
  roll region = members_in region g.rows

  -- whether the asker is in the region
  abbrev has : ℕ → Bool
  has region = is_some (member_of asker (members_in region g.rows))

  -- the projection on the regions that the asker is to know
  abbrev answer : Mode → Picture
  answer mode = projection epoch (known_by asker mode g.rows known) g

  -- the roll that has the asker is that of the first known region which does
  holder-known : holder asker (rolls_of known g.rows) ≡ option_map (beside roll) (find has known)
  holder-known =
      ap (holder asker) (rolls-known g known are)
      ∙ find-map (λ (pair : ℕ × List Member). is_some (member_of asker pair.1)) (beside roll) known

  -- what the asker keeps of the rolls are those of the regions that it is to know
  kept-rolls : (mode : Mode) → kept asker mode (rolls_of known g.rows) ≡ rolls_of (known_by asker mode g.rows known) g.rows
  kept-rolls mode =
      kept-known g.rows asker mode (λ region. is_among known region) distinct
      ∙ ap (λ ns. rolls_of (known_by asker mode g.rows ns) g.rows) (same-known g known are)

  -- so it is shown these, by the region that has it
  shown-there : (mode : Mode) (region : ℕ) → find has known ≡ Some region → shown (rolls_for mode region) (projection epoch known g) ≡ answer mode
  shown-there Full region found = refl
  shown-there Partial region found =
      let P : ℕ → Type 0 = λ n. is_among known n ≡ true in
      let there : is_among known region ≡ true = All-find P has known region (each-among P known (λ n is. is)) found in
      let its : at_key (λ (pair : ℕ × List Member). pair.0) region (rolls_of known g.rows) ≡ Some (beside roll region) =
      ap (at_key (λ (pair : ℕ × List Member). pair.0) region) (rolls-known g known are)
      ∙ (at_key-beside roll region known ∙ ap (λ b. cond b (Some (beside roll region)) None) there) in
      let holds : holder asker (rolls_of known g.rows) ≡ Some (beside roll region) = holder-known ∙ ap (option_map (beside roll)) found in
      let picture : Rolls → Picture = λ rolls. record { epoch = epoch; summaries = summaries_of g.rows; rolls = rolls } in
      ap picture (ap (λ o. option_to_list o) (its ∙ sym holds) ∙ kept-rolls Partial)

  -- where a known region has it, and nothing where none does
  pub shown-known : (mode : Mode) → shown_to asker mode (projection epoch known g) ≡ (if has_node g asker known then Some (answer mode) else None)
  shown-known mode = go (find has known) refl
    where
      shows : ℕ × List Member → Picture
      shows pair = shown (rolls_for mode pair.0) (projection epoch known g)

      told : Bool → Option Picture
      told b = cond b (Some (answer mode)) None

      given : (o : Option ℕ) → find has known ≡ o → told (has_node g asker known) ≡ told (is_some o)
      given o is = ap told (sym (is_some-find has known) ∙ ap (λ (p : Option ℕ). is_some p) is)

      go : (o : Option ℕ) → find has known ≡ o → shown_to asker mode (projection epoch known g) ≡ told (has_node g asker known)
      go None is = ap (option_map shows) (holder-known ∙ ap (option_map (beside roll)) is) ∙ sym (given None is)
      go (Some region) is =
          ap (option_map shows) (holder-known ∙ ap (option_map (beside roll)) is)
          ∙ (ap (λ p. Some p) (shown-there mode region is) ∙ sym (given (Some region) is))
