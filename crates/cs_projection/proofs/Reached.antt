-- The rolls that the known regions give are those of the reached regions after the turn.
use Rattle.std.proofs.Common.{◌≡◌, ◌==◌, ◌&&◌, ◌||◌, ◌<◌, ℕ, Bool, true, false, not, if◌then◌else◌, List, [], ◌∷◌, length, map, Option, Some, None}
use Rattle.std.proofs.Common.{refl, sym, ap, subst, ◌∙◌, ◌⊎◌, inl, inr}
use Rattle.std.proofs.Math.Bool.{or-false}
use Rattle.std.specs.List.{AllByRecursion, filter, flat_map}
use Rattle.std.proofs.lemmas.Bool.{and_from, and_parts, cond-true, cond-false, eqb-true, eq-eqb, false≢true, or_cases, or_left, or_right}
use Rattle.std.proofs.lemmas.Option.{none-some, same_Some}
use Rattle.cs_base.specs.declared.member.Member.{Member}
use Rattle.cs_base.specs.declared.split.Cut.{Cut}
use Rattle.cs_base.proofs.Ascending.{IsAscendingBy-filter}
use Rattle.cs_group.specs.Group.{GroupState, IsGroup, is_among}
use Rattle.cs_group.specs.Rows.{members_in, regions}
use Rattle.cs_group.specs.declared.next.Turn.{Turn}
use Rattle.cs_group.specs.declared.row.Row.{Row}
use Rattle.cs_group.proofs.Known.{among-holds}
use Rattle.cs_group.proofs.Lists.{ByRecursion-both, ByRecursion-passes, ByRecursion-weaken}
use Rattle.cs_group.proofs.Regions.{IsAscending-regions}
use Rattle.cs_base.proofs.Ascending.{All-of_filter}
use Rattle.cs_item.specs.declared.part.Part.{Part}
use Rattle.cs_roll.specs.Sight.{Rolls}
use Rattle.cs_slicer.specs.Head.{head_in}
use Rattle.cs_slicer.specs.Projection.{heir_of, heirs, is_cut_from, reached, rolls_of}
use Rattle.cs_slicer.specs.Turn.{IsTurnOf, cut_of, middle_rows, taken_in_by}
use Rattle.cs_slicer.proofs.Beside.{IsAscendingBy-placed_each, among-filter, beside, placed_each}
use Rattle.cs_slicer.proofs.Cutting.{cut-known, members-lower_after, members-upper_after}
use Rattle.cs_slicer.proofs.Middle.{merge-known}
use Rattle.cs_slicer.proofs.Regions.{among-some, members-some}
use Rattle.cs_slicer.proofs.Summaries.{regions-listed}
use Rattle.cs_view.specs.Step.{cut_in_two, given, is_known, next_rolls}
use Rattle.cs_projection.specs.Law.{ArePartsFor}
use Rattle.cs_projection.proofs.Given.{given-is, given_by_heir, members-uncut, pieces, taken-merge}
use Rattle.cs_slicer.proofs.Numbers.{among-placed_each, same_among}
use Rattle.cs_projection.proofs.Numbers.{flat_map-images, given-by, gives, image-of, is_image, placed_each-beside, same_tests}

-- the roll of a known region is that of a number among them
pub known-beside : (f : ℕ → List Member) (n : ℕ) (ns : List ℕ) → is_known (map (beside f) ns) n ≡ is_among ns n
known-beside f n [] = refl
known-beside f n (m ∷ ms) = ap (λ b. (m == n) || b) (known-beside f n ms)

-- what all numbers have that are among them
pub each-among : (P : ℕ → Type 0) (ns : List ℕ) → ((n : ℕ) → is_among ns n ≡ true → P n) → AllByRecursion P ns
each-among P [] has = tt
each-among P (n ∷ ns) has =
    (has n (or_left (n == n) (is_among ns n) (eq-eqb n n refl)), each-among P ns (λ m there. has m (or_right (n == m) (is_among ns m) there)))

module _ (before : GroupState) (turn : Turn) (is : IsGroup before) (of : IsTurnOf before turn) where
  -- the rows before the cut
  abbrev middle : List Row
  middle = middle_rows before turn

  -- the rows after the turn
  abbrev after : List Row
  after = turn.group.rows

  -- the regions of the pieces
  abbrev piece_regions : ℕ → Option Cut → List ℕ
  piece_regions n None = n ∷ []
  piece_regions n (Some cut) = n ∷ cut.upper ∷ []

  -- a cut of a region is the turn's
  cut-is : (c : Option (ℕ × Cut)) (n : ℕ) (cut : Cut) → cut_of c n ≡ Some cut → c ≡ Some (n, cut)
  cut-is None n cut e = absurd (none-some cut e)
  cut-is (Some c) n cut e = go (c.0 == n) refl
    where
      go : (b : Bool) → (c.0 == n) ≡ b → Some c ≡ Some (n, cut)
      go true same =
          let region : c.0 ≡ n = eqb-true c.0 n same in
          let is_cut : c.1 ≡ cut = same_Some c.1 cut (sym (cond-true (c.0 == n) (Some c.1) None same) ∙ e) in
          λ i. Some (region i, is_cut i)
      go false other = absurd (none-some cut (sym (cond-false (c.0 == n) (Some c.1) None other) ∙ e))

  -- each piece has the members that its region has after the turn
  pieces-are : (n : ℕ) → is_among (regions middle) n ≡ true
      → pieces before turn is of n ≡ map (beside (λ m. members_in m after)) (piece_regions n (cut_of turn.cut n))
  pieces-are n there = go (cut_of turn.cut n) refl
    where
      roll : ℕ → List Member
      roll m = members_in m after

      go : (o : Option Cut) → cut_of turn.cut n ≡ o → cut_in_two n (members_in n middle) o ≡ map (beside roll) (piece_regions n o)
      go None e = ap (λ ms. (n, ms) ∷ []) (sym (members-uncut before turn is of n there e))
      go (Some cut) e =
          let cut_here = cut-is turn.cut n cut e in
          let lower = sym (members-lower_after before turn is of n cut cut_here) in
          let upper = sym (members-upper_after before turn is of n cut cut_here) in
          λ i. (n, lower i) ∷ (cut.upper, upper i) ∷ []

  -- a region of a piece is the region itself or the new one
  piece-cases : (n k : ℕ) (o : Option Cut) → is_among (piece_regions n o) k ≡ true → (n ≡ k) ⊎ ((cut : Cut) × (o ≡ Some cut) × (cut.upper ≡ k))
  piece-cases n k None there = elim (or_cases (n == k) false there) [
    | inl same ↦ inl (eqb-true n k same)
    | inr none ↦ absurd (false≢true none)
  ]
  piece-cases n k (Some cut) there = elim (or_cases (n == k) ((cut.upper == k) || false) there) [
    | inl same ↦ inl (eqb-true n k same)
    | inr upper ↦ inr (cut, refl, eqb-true cut.upper k (sym (or-false (cut.upper == k)) ∙ upper))
  ]

  -- the first is the region itself
  piece-first : (n : ℕ) (o : Option Cut) → is_among (piece_regions n o) n ≡ true
  piece-first n None = or_left (n == n) false (eq-eqb n n refl)
  piece-first n (Some cut) = or_left (n == n) ((cut.upper == n) || false) (eq-eqb n n refl)

  -- the second the new one
  piece-upper : (n : ℕ) (cut : Cut) → is_among (piece_regions n (Some cut)) cut.upper ≡ true
  piece-upper n cut =
      or_right (n == cut.upper) ((cut.upper == cut.upper) || false) (or_left (cut.upper == cut.upper) false (eq-eqb cut.upper cut.upper refl))

  -- the region of each piece is one after the turn
  piece-there : (n k : ℕ) → is_among (regions middle) n ≡ true → is_among (piece_regions n (cut_of turn.cut n)) k ≡ true
      → is_among (regions after) k ≡ true
  piece-there n k there of_piece = go (cut_of turn.cut n) refl (piece-cases n k (cut_of turn.cut n) of_piece)
    where
      go : (o : Option Cut) → cut_of turn.cut n ≡ o → (n ≡ k) ⊎ ((cut : Cut) × (o ≡ Some cut) × (cut.upper ≡ k)) → is_among (regions after) k ≡ true
      go None e (inl same) =
          let some : 0 < length (members_in n after) =
          subst (λ ms. 0 < length ms) (sym (members-uncut before turn is of n there e)) (members-some n middle there) in
          ap (is_among (regions after)) (sym same) ∙ among-some n after some
      go None e (inr upper) = absurd (none-some upper.0 upper.1)
      go (Some cut) e (inl same) =
          let cut_here = cut-is turn.cut n cut e in
          let some : 0 < length (members_in n after) =
          subst (λ ms. 0 < length ms) (sym (members-lower_after before turn is of n cut cut_here)) (cut-known before turn is of n cut cut_here).some_lower in
          ap (is_among (regions after)) (sym same) ∙ among-some n after some
      go (Some cut) e (inr upper) =
          let cut_here = cut-is turn.cut n cut e in
          let some : 0 < length (members_in cut.upper after) =
          subst (λ ms. 0 < length ms) (sym (members-upper_after before turn is of n cut cut_here)) (cut-known before turn is of n cut cut_here).some_upper in
          let is_upper : cut.upper ≡ k = ap (λ (c : Cut). c.upper) (same_Some cut upper.0 upper.1) ∙ upper.2 in
          ap (is_among (regions after)) (sym is_upper) ∙ among-some cut.upper after some

  -- an heir is there before the cut
  heir-there : (n h : ℕ) → heir_of before turn n ≡ Some h → is_among (regions middle) h ≡ true
  heir-there n h e = go (is_among (regions middle) n) refl
    where
      go : (b : Bool) → is_among (regions middle) n ≡ b → is_among (regions middle) h ≡ true
      go true there =
          let same : n ≡ h = same_Some n h (sym (cond-true (is_among (regions middle) n) (Some n) (taken_in_by turn.merged n) there) ∙ e) in
          ap (is_among (regions middle)) (sym same) ∙ there
      go false lost =
          let taken : taken_in_by turn.merged n ≡ Some h =
          sym (cond-false (is_among (regions middle) n) (Some n) (taken_in_by turn.merged n) lost) ∙ e in
          (merge-known before turn is of n h (taken-merge before turn is of turn.merged n h taken)).into_there

  -- a region that is there is its own heir
  heir-itself : (h : ℕ) → is_among (regions middle) h ≡ true → heir_of before turn h ≡ Some h
  heir-itself h there = cond-true (is_among (regions middle) h) (Some h) (taken_in_by turn.merged h) there

  module _ (epoch : ℕ) (known : List ℕ) (parts : List Part)
      (old : AllByRecursion (λ r. is_among (regions before.rows) r ≡ true) known) (fits : ArePartsFor before turn known parts) where
    -- the known rolls
    abbrev rolls : Rolls
    rolls = rolls_of known before.rows

    -- the known regions, ascending
    abbrev known_regions : List ℕ
    known_regions = filter (λ region. is_among known region) (regions before.rows)

    -- the regions whose rolls a region gives by its heir
    abbrev regions_by_heir : ℕ → Option ℕ → List ℕ
    regions_by_heir n None = []
    regions_by_heir n (Some h) = if not (h == n) && is_known rolls h then [] else piece_regions h (cut_of turn.cut h)

    -- the regions whose rolls a region gives
    abbrev given_regions : ℕ → List ℕ
    given_regions n = regions_by_heir n (heir_of before turn n)

    -- the roll of a region after the turn
    abbrev roll_after : ℕ → List Member
    roll_after m = members_in m after

    -- their rolls are those that it gives
    given-regions : (n : ℕ) (o : Option ℕ) → heir_of before turn n ≡ o
        → given_by_heir before turn is of (is_known rolls) n o ≡ map (beside roll_after) (regions_by_heir n o)
    given-regions n None e = refl
    given-regions n (Some h) e =
        let P : Bool → Type 0 =
        λ b. (if b then [] else pieces before turn is of h) ≡ map (beside roll_after) (if b then [] else piece_regions h (cut_of turn.cut h)) in
        elim (not (h == n) && is_known rolls h) as P [ true ↦ refl | false ↦ pieces-are h (heir-there n h e) ]

    -- each known region gives the rolls after the turn of some regions
    each-given : AllByRecursion
        (λ n. given rolls (head_in before turn epoch) parts (n, members_in n before.rows) ≡ map (beside roll_after) (given_regions n)) known_regions
    each-given =
        ByRecursion-weaken (λ n. (is_among (regions before.rows) n ≡ true) × (is_among known n ≡ true))
        (λ n. given rolls (head_in before turn epoch) parts (n, members_in n before.rows) ≡ map (beside roll_after) (given_regions n))
        (λ n both. given-is before turn is of epoch known parts fits n both.0 both.1 ∙ given-regions n (heir_of before turn n) refl) known_regions
        (ByRecursion-both (λ n. is_among (regions before.rows) n ≡ true) (λ n. is_among known n ≡ true) known_regions
        (All-of_filter (λ n. is_among (regions before.rows) n ≡ true) (λ region. is_among known region) (regions before.rows) (regions-listed before.rows))
        (ByRecursion-passes (λ region. is_among known region) (regions before.rows)))

    -- the regions of all these, ascending
    abbrev stepped : List ℕ
    stepped = placed_each (λ n. n) [] (flat_map given_regions known_regions)

    -- the rolls of the next view are theirs
    next_rolls-are : next_rolls rolls (head_in before turn epoch) parts ≡ map (beside roll_after) stepped
    next_rolls-are =
        ap (placed_each (λ (p : ℕ × List Member). p.0) [])
        (flat_map-images (given rolls (head_in before turn epoch) parts) (beside (λ n. members_in n before.rows)) (beside roll_after) given_regions
        known_regions each-given)
        ∙ placed_each-beside roll_after [] (flat_map given_regions known_regions)

    -- a region is among them where it was given
    among-stepped : (k : ℕ) → is_among stepped k ≡ is_among (flat_map given_regions known_regions) k
    among-stepped k = among-placed_each k [] (flat_map given_regions known_regions) ∙ or-false (is_among (flat_map given_regions known_regions) k)

    -- the heirs of the known regions
    abbrev there : List ℕ
    there = heirs before turn known

    -- whether a region is an heir, or cut from one
    abbrev is_reached : ℕ → Bool
    is_reached k = is_among there k || is_cut_from turn.cut there k

    -- a known region is an old one that is known
    known-is : (n : ℕ) → is_among known n ≡ true → is_among known_regions n ≡ true
    known-is n knows =
        let is_old : is_among (regions before.rows) n ≡ true = among-holds (λ r. is_among (regions before.rows) r ≡ true) n known old knows in
        among-filter (λ region. is_among known region) n (regions before.rows)
        ∙ and_from (is_among (regions before.rows) n) (is_among known n) is_old knows

    -- and the other way round
    is-known : (n : ℕ) → is_among known_regions n ≡ true → is_among known n ≡ true
    is-known n listed =
        (and_parts (is_among (regions before.rows) n) (is_among known n)
        (sym (among-filter (λ region. is_among known region) n (regions before.rows)) ∙ listed)).1

    -- a piece of an heir is given, by the region that has it or by the heir itself
    piece-given : (n h k : ℕ) → is_among known n ≡ true → heir_of before turn n ≡ Some h → is_among (piece_regions h (cut_of turn.cut h)) k ≡ true
        → is_among (flat_map given_regions known_regions) k ≡ true
    piece-given n h k knows e of_piece = go (not (h == n) && is_known rolls h) refl
      where
        go : (b : Bool) → (not (h == n) && is_known rolls h) ≡ b → is_among (flat_map given_regions known_regions) k ≡ true
        go false gives_it =
            let all : given_regions n ≡ piece_regions h (cut_of turn.cut h) =
            ap (regions_by_heir n) e ∙ cond-false (not (h == n) && is_known rolls h) [] (piece_regions h (cut_of turn.cut h)) gives_it in
            gives given_regions k known_regions n (known-is n knows) (ap (λ ns. is_among ns k) all ∙ of_piece)
        go true leaves_it =
            let knows_heir : is_among known_regions h ≡ true =
            sym (known-beside (λ m. members_in m before.rows) h known_regions) ∙ (and_parts (not (h == n)) (is_known rolls h) leaves_it).1 in
            let itself : (not (h == h) && is_known rolls h) ≡ false = ap (λ b. not b && is_known rolls h) (eq-eqb h h refl) in
            let all : given_regions h ≡ piece_regions h (cut_of turn.cut h) =
            ap (regions_by_heir h) (heir-itself h (heir-there n h e))
            ∙ cond-false (not (h == h) && is_known rolls h) [] (piece_regions h (cut_of turn.cut h)) itself in
            gives given_regions k known_regions h knows_heir (ap (λ ns. is_among ns k) all ∙ of_piece)

    -- the cut of one of them
    cut_from-cases : (c : Option (ℕ × Cut)) (k : ℕ) → is_cut_from c there k ≡ true
        → (h : ℕ) × (cut : Cut) × (c ≡ Some (h, cut)) × (cut.upper ≡ k) × (is_among there h ≡ true)
    cut_from-cases None k e = absurd (false≢true e)
    cut_from-cases (Some c) k e =
        let tests = and_parts (c.1.upper == k) (is_among there c.0) e in
        (c.0, c.1, refl, eqb-true c.1.upper k tests.0, tests.1)

    -- and the other way round
    cut_from-is : (h k : ℕ) (cut : Cut) → turn.cut ≡ Some (h, cut) → cut.upper ≡ k → is_among there h ≡ true → is_cut_from turn.cut there k ≡ true
    cut_from-is h k cut e upper is_heir =
        ap (λ c. is_cut_from c there k) e ∙ and_from (cut.upper == k) (is_among there h) (eq-eqb cut.upper k upper) is_heir

    -- a given region is reached
    given-reached : (k : ℕ) → is_among (flat_map given_regions known_regions) k ≡ true → (is_among (regions after) k && is_reached k) ≡ true
    given-reached k e =
        let found = given-by given_regions k known_regions e in
        go found.0 (is-known found.0 found.1) (heir_of before turn found.0) refl found.2
      where
        by_piece : (n h : ℕ) → is_among known n ≡ true → heir_of before turn n ≡ Some h → is_among (piece_regions h (cut_of turn.cut h)) k ≡ true
            → (is_among (regions after) k && is_reached k) ≡ true
        by_piece n h knows some of_piece =
            let is_heir : is_among there h ≡ true = is_image (heir_of before turn) h known n knows some in
            and_from (is_among (regions after) k) (is_reached k) (piece-there h k (heir-there n h some) of_piece)
            (elim (piece-cases h k (cut_of turn.cut h) of_piece) [
              | inl same ↦ or_left (is_among there k) (is_cut_from turn.cut there k) (ap (is_among there) (sym same) ∙ is_heir)
              | inr upper ↦ or_right (is_among there k) (is_cut_from turn.cut there k)
                  (cut_from-is h k upper.0 (cut-is turn.cut h upper.0 upper.1) upper.2 is_heir)
            ])

        go : (n : ℕ) → is_among known n ≡ true → (o : Option ℕ) → heir_of before turn n ≡ o → is_among (regions_by_heir n o) k ≡ true
            → (is_among (regions after) k && is_reached k) ≡ true
        go n knows None none there_k = absurd (false≢true there_k)
        go n knows (Some h) some there_k = by_test (not (h == n) && is_known rolls h) refl
          where
            of_heir : List ℕ
            of_heir = piece_regions h (cut_of turn.cut h)

            by_test : (b : Bool) → (not (h == n) && is_known rolls h) ≡ b → (is_among (regions after) k && is_reached k) ≡ true
            by_test true nothing =
                absurd (false≢true (sym (ap (λ ns. is_among ns k) (cond-true (not (h == n) && is_known rolls h) [] of_heir nothing)) ∙ there_k))
            by_test false all =
                by_piece n h knows some (sym (ap (λ ns. is_among ns k) (cond-false (not (h == n) && is_known rolls h) [] of_heir all)) ∙ there_k)

    -- and a reached one is given
    reached-given : (k : ℕ) → is_reached k ≡ true → is_among (flat_map given_regions known_regions) k ≡ true
    reached-given k e = elim (or_cases (is_among there k) (is_cut_from turn.cut there k) e) [
      | inl heir ↦ (let found = image-of (heir_of before turn) k known heir in
          piece-given found.0 k k found.1 found.2 (piece-first k (cut_of turn.cut k)))
      | inr cut_off ↦ (let c = cut_from-cases turn.cut k cut_off in
          let found = image-of (heir_of before turn) c.0 known c.4 in
          let is_cut : cut_of turn.cut c.0 ≡ Some c.1 = ap (λ o. cut_of o c.0) c.2 ∙ cond-true (c.0 == c.0) (Some c.1) None (eq-eqb c.0 c.0 refl) in
          piece-given found.0 c.0 k found.1 found.2
          (ap (λ o. is_among (piece_regions c.0 o) k) is_cut ∙ (ap (is_among (piece_regions c.0 (Some c.1))) (sym c.3) ∙ piece-upper c.0 c.1)))
    ]

    -- the regions in which members of the known ones may be now
    abbrev reached_regions : List ℕ
    reached_regions = reached before turn known

    -- a region of the group is one of them where it is reached
    among-reached : (k : ℕ) → is_among reached_regions k ≡ (is_among (regions after) k && is_reached k)
    among-reached k = among-filter is_reached k (regions after)

    -- so the given regions are the reached ones
    stepped-are : stepped ≡ reached_regions
    stepped-are =
        same_among stepped reached_regions (IsAscendingBy-placed_each (λ n. n) [] (flat_map given_regions known_regions) tt)
        (IsAscendingBy-filter (λ n. n) is_reached (regions after) (IsAscending-regions after))
        (λ k. among-stepped k
        ∙ (same_tests (is_among (flat_map given_regions known_regions) k) (is_among (regions after) k && is_reached k) (given-reached k)
        (λ both. reached-given k (and_parts (is_among (regions after) k) (is_reached k) both).1)
        ∙ sym (among-reached k)))

    -- the rolls of the next view are those of the reached regions
    pub next_rolls-reached : next_rolls (rolls_of known before.rows) (head_in before turn epoch) parts
        ≡ map (beside (λ n. members_in n turn.group.rows)) (reached before turn known)
    next_rolls-reached = next_rolls-are ∙ ap (map (beside roll_after)) stepped-are
