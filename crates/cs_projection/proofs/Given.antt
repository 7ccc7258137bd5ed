-- What a known region gives: the rolls of its heir, which is where its members are before the cut.
use Rattle.std.proofs.Common.{◌≡◌, ◌≢◌, ◌==◌, ◌&&◌, ℕ, Bool, true, false, not, if◌then◌else◌, List, [], ◌∷◌, length, Option, Some, None}
use Rattle.std.proofs.Common.{refl, sym, ap, ◌∙◌, arith, nat_lt}
use Rattle.std.specs.Option.{is_some}
use Rattle.std.proofs.lemmas.Bool.{and_parts, cond-true, cond-false, eqb-true, eq-eqb, ne_eqb, false≢true, not-true, true≢false}
use Rattle.std.proofs.lemmas.Option.{same_Some}
use Rattle.cs_base.specs.declared.member.Member.{Member}
use Rattle.cs_base.specs.declared.split.Cut.{Cut}
use Rattle.cs_base.proofs.Elements.{All-find}
use Rattle.cs_group.specs.Group.{GroupState, IsGroup, is_among}
use Rattle.cs_group.specs.Rows.{members_in, regions}
use Rattle.cs_group.specs.declared.next.Turn.{Turn}
use Rattle.cs_group.specs.declared.row.Row.{Row}
use Rattle.cs_group.proofs.Known.{among-holds}
use Rattle.cs_item.specs.declared.head.Head.{Head}
use Rattle.cs_item.specs.declared.part.Part.{Part}
use Rattle.cs_item.specs.declared.part.PartKind.{PartKind}
use Rattle.cs_item.specs.declared.part.PartKind.TheVariants.{Same, Diff, Whole}
use Rattle.cs_roll.specs.Same.{are_same_members}
use Rattle.cs_roll.specs.Sight.{Rolls}
use Rattle.cs_roll.proofs.Same.{Decides-members}
use Rattle.cs_slicer.specs.Head.{dropped_in, head_in, is_same_kind, touched_in}
use Rattle.cs_slicer.specs.Part.{cut_of_target, diff_or_same, gone_from, kind_of, new_in, part_in, target_of}
use Rattle.cs_slicer.specs.Projection.{heir_of, rolls_of}
use Rattle.cs_slicer.specs.Turn.{IsTurnOf, cut_of, middle_rows, taken_in_by}
use Rattle.cs_slicer.proofs.Beside.{among-filter}
use Rattle.cs_slicer.proofs.Cutting.{cut-known, members-other_after, rows-uncut, upper-other}
use Rattle.cs_slicer.proofs.Middle.{IsById-before, IsById-middle, merge-known, old-numbered}
use Rattle.cs_slicer.proofs.Regions.{among-members, among-none, members-none}
use Rattle.cs_view.specs.Step.{cut_in_two, given, given_by_kind, given_by_part, is_known, part_of, unchanged}
use Rattle.cs_projection.specs.Law.{ArePartsFor}
use Rattle.cs_projection.proofs.Changed.{at_key-key, changed-is}

-- no cut of a region, where it isn't the cut one
cut_of-none : (cut : Option (ℕ × Cut)) (n region : ℕ) (c : Cut) → cut_of cut n ≡ None → cut ≡ Some (region, c) → region ≢ n
cut_of-none cut n region c none e same =
    let some : cut_of cut n ≡ Some c = ap (λ o. cut_of o n) e ∙ cond-true (region == n) (Some c) None (eq-eqb region n same) in
    cc

-- what isn't some is none
is_some-none : {T : Type 0} (o : Option T) → is_some o ≡ false → o ≡ None
is_some-none None e = refl
is_some-none (Some x) e = absurd (cc)

module _ (before : GroupState) (turn : Turn) (is : IsGroup before) (of : IsTurnOf before turn) where
  -- the rows before the cut
  abbrev middle : List Row
  middle = middle_rows before turn

  -- the rolls that stand for a region before the cut: its own, or those of its two parts
  abbrev pub pieces : ℕ → Rolls
  pieces n = cut_in_two n (members_in n (middle_rows before turn)) (cut_of turn.cut n)

  -- what a region gives by its heir: nothing where that is another known one
  abbrev pub given_by_heir : (ℕ → Bool) → ℕ → Option ℕ → Rolls
  given_by_heir knows region None = []
  given_by_heir knows region (Some heir) = if not (heir == region) && knows heir then [] else pieces heir

  -- an uncut region has the same members after the cut
  pub members-uncut : (n : ℕ) → is_among (regions (middle_rows before turn)) n ≡ true → cut_of turn.cut n ≡ None
      → members_in n turn.group.rows ≡ members_in n (middle_rows before turn)
  members-uncut n there none = go turn.cut refl
    where
      go : (c : Option (ℕ × Cut)) → turn.cut ≡ c → members_in n turn.group.rows ≡ members_in n middle
      go None e = ap (members_in n) (rows-uncut before turn is of e)
      go (Some cut) e =
          members-other_after before turn is of cut.0 cut.1 e n (cut_of-none turn.cut n cut.0 cut.1 none e)
          (upper-other before turn is of cut.0 cut.1 e n there)

  -- an old region that isn't there before the cut isn't there after it
  pub members-lost : (n : ℕ) → is_among (regions before.rows) n ≡ true → is_among (regions (middle_rows before turn)) n ≡ false
      → members_in n turn.group.rows ≡ []
  members-lost n old lost = go turn.cut refl
    where
      none : members_in n middle ≡ []
      none = members-none n middle lost

      go : (c : Option (ℕ × Cut)) → turn.cut ≡ c → members_in n turn.group.rows ≡ []
      go None e = ap (members_in n) (rows-uncut before turn is of e) ∙ none
      go (Some cut) e =
          let known = cut-known before turn is of cut.0 cut.1 e in
          let not_cut : cut.0 ≢ n = λ same. absurd (true≢false (sym known.there ∙ (ap (λ k. is_among (regions middle) k) same ∙ lost))) in
          let not_upper : cut.1.upper ≢ n = λ same. (let lt = old-numbered before turn is of n old in omega (arith, lt, known.upper_is, same)) in
          members-other_after before turn is of cut.0 cut.1 e n not_cut not_upper ∙ none

  -- a region that is there before the cut wasn't merged
  pub not_taken_in : (n : ℕ) → is_among (regions (middle_rows before turn)) n ≡ true → taken_in_by turn.merged n ≡ None
  not_taken_in n there = go turn.merged refl
    where
      go : (m : Option (ℕ × ℕ)) → turn.merged ≡ m → taken_in_by turn.merged n ≡ None
      go None e = ap (λ m. taken_in_by m n) e
      go (Some merge) e =
          let away = (merge-known before turn is of merge.0 merge.1 e).gone_away in
          let other : (merge.0 == n) ≡ false =
          ne_eqb merge.0 n (λ same. absurd (true≢false (sym there ∙ (ap (λ k. is_among (regions middle) k) (sym same) ∙ away)))) in
          ap (λ m. taken_in_by m n) e ∙ cond-false (merge.0 == n) (Some merge.1) None other

  -- one that was merged is the merge's
  pub taken-merge : (m : Option (ℕ × ℕ)) (n into : ℕ) → taken_in_by m n ≡ Some into → m ≡ Some (n, into)
  taken-merge None n into e = absurd (cc)
  taken-merge (Some merge) n into e = go (merge.0 == n) refl
    where
      go : (b : Bool) → (merge.0 == n) ≡ b → Some merge ≡ Some (n, into)
      go true same =
          let gone : merge.0 ≡ n = eqb-true merge.0 n same in
          let here : taken_in_by (Some merge) n ≡ Some merge.1 = rw same refl in
          let is_into : merge.1 ≡ into = same_Some merge.1 into (sym here ∙ e) in
          λ i. Some (gone i, is_into i)
      go false same = absurd (let none : taken_in_by (Some merge) n ≡ None = rw same refl in cc)

  module _ (epoch : ℕ) (known : List ℕ) (parts : List Part) (fits : ArePartsFor before turn known parts) where
    -- the known rolls
    abbrev rolls : Rolls
    rolls = rolls_of known before.rows

    -- the head of the turn
    abbrev head : Head
    head = head_in before turn epoch

    -- a region with its old roll
    abbrev pair : ℕ → ℕ × List Member
    pair n = (n, members_in n before.rows)

    module _ (n : ℕ) (old : is_among (regions before.rows) n ≡ true) where
      -- what becomes of its members
      abbrev kind : PartKind
      kind = kind_of before turn n (taken_in_by turn.merged n)

      -- an old region is touched where its kind isn't the same
      touched-is : is_among (touched_in before turn) n ≡ not (is_same_kind kind)
      touched-is =
          among-filter (λ region. not (is_same_kind (part_in before turn region).kind)) n (regions before.rows)
          ∙ ap (λ b. b && not (is_same_kind kind)) old

      -- where it isn't, the region gives its roll or nothing
      given-untouched : is_same_kind kind ≡ true → given rolls head parts (pair n) ≡ unchanged head (pair n)
      given-untouched same =
          cond-false (is_among (touched_in before turn) n) (given_by_part rolls head (pair n) (part_of n parts)) (unchanged head (pair n))
          (touched-is ∙ ap not same)

      -- a touched known region has its part
      part-is : is_among known n ≡ true → is_same_kind kind ≡ false → part_of n parts ≡ Some (part_in before turn n)
      part-is knows other = go (part_of n parts) refl
        where
          there : is_some (part_of n parts) ≡ true
          there = among-holds (λ r. is_among known r ≡ true → is_some (part_of r parts) ≡ true) n (touched_in before turn) fits.enough
              (touched-is ∙ ap not other) knows

          go : (o : Option Part) → part_of n parts ≡ o → part_of n parts ≡ Some (part_in before turn n)
          go None e = absurd (false≢true (sym (ap (λ o. is_some o) e) ∙ there))
          go (Some p) e =
              let exact = All-find (λ (q : Part). q ≡ part_in before turn q.region) (λ (q : Part). q.region == n) parts p fits.exact e in
              let id : p.region ≡ n = at_key-key (λ (q : Part). q.region) n parts p e in
              e ∙ ap (λ q. Some q) (exact ∙ ap (part_in before turn) id)

      -- where it is, it gives by the kind
      given-touched : is_among known n ≡ true → is_same_kind kind ≡ false
          → given rolls head parts (pair n) ≡ given_by_kind rolls head (pair n) (cut_of_target turn.cut (target_of n kind)) kind
      given-touched knows other =
          cond-true (is_among (touched_in before turn) n) (given_by_part rolls head (pair n) (part_of n parts)) (unchanged head (pair n))
          (touched-is ∙ ap not other)
          ∙ ap (given_by_part rolls head (pair n)) (part-is knows other)

      -- the dropped ones are those that aren't there
      dropped-is : is_among (dropped_in before.rows turn.group.rows) n ≡ not (is_among (regions turn.group.rows) n)
      dropped-is =
          among-filter (λ region. not (is_among (regions turn.group.rows) region)) n (regions before.rows)
          ∙ ap (λ b. b && not (is_among (regions turn.group.rows) n)) old

      -- where it is there before the cut
      given-there : is_among known n ≡ true → is_among (regions middle) n ≡ true → given rolls head parts (pair n) ≡ pieces n
      given-there knows there = go (are_same_members was now && not (is_some cut)) refl
        where
          was : List Member
          was = members_in n before.rows

          now : List Member
          now = members_in n middle

          cut : Option Cut
          cut = cut_of turn.cut n

          kind-is : kind ≡ diff_or_same was now (is_some cut)
          kind-is =
              ap (kind_of before turn n) (not_taken_in n there)
              ∙ cond-true (is_among (regions middle) n) (diff_or_same was now (is_some cut)) Same there

          go : (b : Bool) → (are_same_members was now && not (is_some cut)) ≡ b → given rolls head parts (pair n) ≡ pieces n
          go true e =
              let tests = and_parts (are_same_members was now) (not (is_some cut)) e in
              let same : was ≡ now = (Decides-members was now).0 tests.0 in
              let uncut : cut ≡ None = is_some-none cut (not-true (is_some cut) tests.1) in
              let is_kind : kind ≡ Same = kind-is ∙ cond-true _ Same (Diff (gone_from was now) (new_in was now)) e in
              let stays : is_among (regions turn.group.rows) n ≡ true =
              among-members n turn.group.rows ∙ (ap (λ ms. nat_lt 0 (length ms)) (members-uncut n there uncut) ∙ (sym (among-members n middle) ∙ there)) in
              given-untouched (ap is_same_kind is_kind)
              ∙ (cond-false (is_among (dropped_in before.rows turn.group.rows) n) [] (pair n ∷ []) (dropped-is ∙ ap not stays)
              ∙ (ap (λ ms. (n, ms) ∷ []) same ∙ ap (cut_in_two n now) (sym uncut)))
          go false e =
              let is_kind : kind ≡ Diff (gone_from was now) (new_in was now) =
              kind-is ∙ cond-false _ Same (Diff (gone_from was now) (new_in was now)) e in
              given-touched knows (ap is_same_kind is_kind)
              ∙ (ap (λ k. given_by_kind rolls head (pair n) (cut_of_target turn.cut (target_of n k)) k) is_kind
              ∙ ap (λ ms. cut_in_two n ms cut) (changed-is was now (IsById-before before turn is of n) (IsById-middle before turn is of n)))

      -- where it isn't, and was merged
      given-taken_in : is_among known n ≡ true → (into : ℕ) → taken_in_by turn.merged n ≡ Some into
          → given rolls head parts (pair n) ≡ (if is_known rolls into then [] else pieces into)
      given-taken_in knows into taken =
          let is_kind : kind ≡ Whole into (members_in into middle) = ap (kind_of before turn n) taken in
          given-touched knows (ap is_same_kind is_kind)
          ∙ ap (λ k. given_by_kind rolls head (pair n) (cut_of_target turn.cut (target_of n k)) k) is_kind

      -- and where it lost all members
      given-lost : is_among (regions middle) n ≡ false → taken_in_by turn.merged n ≡ None → given rolls head parts (pair n) ≡ []
      given-lost lost none =
          let is_kind : kind ≡ Same =
          ap (kind_of before turn n) none
          ∙ cond-false (is_among (regions middle) n) (diff_or_same (members_in n before.rows) (members_in n middle) (is_some (cut_of turn.cut n))) Same lost in
          let gone : is_among (regions turn.group.rows) n ≡ false = among-none n turn.group.rows (members-lost n old lost) in
          given-untouched (ap is_same_kind is_kind)
          ∙ cond-true (is_among (dropped_in before.rows turn.group.rows) n) [] (pair n ∷ []) (dropped-is ∙ ap not gone)

      -- a known region gives by its heir
      pub given-is : is_among known n ≡ true
          → given (rolls_of known before.rows) (head_in before turn epoch) parts (n, members_in n before.rows)
          ≡ given_by_heir (is_known (rolls_of known before.rows)) n (heir_of before turn n)
      given-is knows = go (is_among (regions middle) n) refl (taken_in_by turn.merged n) refl
        where
          go : (b : Bool) → is_among (regions middle) n ≡ b → (t : Option ℕ) → taken_in_by turn.merged n ≡ t
              → given rolls head parts (pair n) ≡ given_by_heir (is_known rolls) n (heir_of before turn n)
          go true there t taken =
              let heir : heir_of before turn n ≡ Some n = cond-true (is_among (regions middle) n) (Some n) (taken_in_by turn.merged n) there in
              let itself : (not (n == n) && is_known rolls n) ≡ false = ap (λ b. not b && is_known rolls n) (eq-eqb n n refl) in
              given-there knows there
              ∙ (sym (cond-false _ [] (pieces n) itself) ∙ ap (given_by_heir (is_known rolls) n) (sym heir))
          go false lost (Some into) taken =
              let heir : heir_of before turn n ≡ Some into =
              cond-false (is_among (regions middle) n) (Some n) (taken_in_by turn.merged n) lost ∙ taken in
              let merge = merge-known before turn is of n into (taken-merge turn.merged n into taken) in
              let other : (not (into == n) && is_known rolls into) ≡ is_known rolls into =
              ap (λ b. not b && is_known rolls into) (ne_eqb into n merge.other) in
              given-taken_in knows into taken
              ∙ (ap (λ b. if b then [] else pieces into) (sym other) ∙ ap (given_by_heir (is_known rolls) n) (sym heir))
          go false lost None taken =
              let heir : heir_of before turn n ≡ None =
              cond-false (is_among (regions middle) n) (Some n) (taken_in_by turn.merged n) lost ∙ taken in
              given-lost lost taken ∙ ap (given_by_heir (is_known rolls) n) (sym heir)
