-- The faults that a step by slices doesn't have: no part is missing or doesn't fit, each roll is listed, and there are few members.
use Rattle.std.proofs.Common.{◌≡◌, ◌≢◌, ◌==◌, ◌&&◌, ◌<◌, ◌≤◌, ◌+◌, ℕ, Bool, true, false, not, if◌then◌else◌, nat_lt, List, [], ◌∷◌, length, map}
use Rattle.std.proofs.Common.{Option, Some, None, refl, sym, ap, ◌∙◌, arith, le-leb, lt-ltb}
use Rattle.std.specs.List.{AllByRecursion, filter, find, list_all}
use Rattle.std.specs.Option.{is_some, option_map, option_map_or}
use Rattle.std.proofs.lemmas.Bool.{and_from, and_parts, cond-true, eqb-true}
use Rattle.std.proofs.lemmas.List.Filters.{length-filter_both}
use Rattle.std.proofs.lemmas.List.{length-map}
use Rattle.std.proofs.lemmas.List.Sums.{sum_by-cons}
use Rattle.cs_base.specs.Ascending.{IsAscending}
use Rattle.cs_base.specs.Limits.{most_members}
use Rattle.cs_base.specs.declared.member.Member.{Member}
use Rattle.cs_base.proofs.Ascending.{All-of_filter}
use Rattle.cs_base.proofs.Elements.{All-changed, All-find, All-map, All-weaker}
use Rattle.cs_group.specs.Group.{GroupState, is_among}
use Rattle.cs_group.specs.Rows.{members_in, regions, rows_in, rows_outside}
use Rattle.cs_group.specs.declared.next.Turn.{Turn}
use Rattle.cs_group.specs.declared.row.Row.{Row}
use Rattle.cs_group.proofs.ListTests.{all_pass}
use Rattle.cs_item.specs.Picture as pictures
use Rattle.cs_item.specs.declared.part.Part.{Part}
use Rattle.cs_item.specs.declared.part.PartKind.TheVariants.{Same, Diff}
use Rattle.cs_roll.specs.Roll.{member_id, member_of}
use Rattle.cs_roll.specs.Same.{are_same_members, is_same_summary}
use Rattle.cs_roll.specs.Sight.{at_region}
use Rattle.cs_roll.specs.Summary.{RegionSummary, summary_of}
use Rattle.cs_roll.proofs.Same.{Decides-summary}
use Rattle.cs_slicer.specs.Head.{head_in, touched_in}
use Rattle.cs_slicer.specs.Part.{diff_or_same, gone_from, kind_of, new_in, part_in}
use Rattle.cs_slicer.specs.Projection.{projection, rolls_of}
use Rattle.cs_slicer.specs.Turn.{cut_of, middle_rows, summaries_of, taken_in_by}
use Rattle.cs_slicer.proofs.Beside.{among-filter, beside}
use Rattle.cs_slicer.proofs.Counts.{find-itself}
use Rattle.cs_slicer.proofs.Cutting.{members-here, members-later}
use Rattle.cs_slicer.proofs.Regions.{members-some}
use Rattle.cs_slicer.proofs.Summaries.{at_region-summaries_of, summary_in}
use Rattle.cs_view.specs.Faults.{fits_part, has_gone, missing_fault, part_fault}
use Rattle.cs_view.specs.Step.{is_known, part_of}
use Rattle.cs_view.specs.Taking.{few_members, is_listed, roll_fault}
use Rattle.cs_view.specs.declared.fault.ViewFault.TheVariants as faults
use Rattle.cs_projection.specs.Law.{ArePartsFor}
use Rattle.cs_projection.proofs.Changed.{at_key-key}
use Rattle.cs_projection.proofs.Reached.{known-beside}
use Rattle.cs_projection.proofs.Summaries.{none_found}

-- where none passes, none is found
none_passing : {T : Type 0} (p : T → Bool) (xs : List T) → AllByRecursion (λ x. p x ≡ false) xs → find p xs ≡ None
none_passing p [] all = refl
none_passing p (x ∷ xs) all = (let rest = none_passing p xs all.1 in rw all.0 rest)

-- who goes out of a roll was in it
gone-there : (old new : List Member) → list_all (λ id. is_some (member_of id old)) (gone_from old new) ≡ true
gone-there old new =
    let goes : Member → Bool = λ m. not (is_some (member_of m.id new)) in
    all_pass (λ id. is_some (member_of id old)) (gone_from old new)
    (All-changed (λ (m : Member). is_some (member_of m.id old) ≡ true) (λ id. is_some (member_of id old) ≡ true) (λ (m : Member). m.id) (λ m some. some)
    (filter goes old) (All-of_filter (λ (m : Member). is_some (member_of m.id old) ≡ true) goes old (find-itself member_id old)))

module _ (before : GroupState) (turn : Turn) where
  -- so a part fits the roll of its region
  fits-kind : (n : ℕ) (taken : Option ℕ) → has_gone (members_in n before.rows) (kind_of before turn n taken) ≡ true
  fits-kind n (Some into) = refl
  fits-kind n None = go (is_among (regions (middle_rows before turn)) n)
    where
      was : List Member
      was = members_in n before.rows

      now : List Member
      now = members_in n (middle_rows before turn)

      by_same : (b : Bool) → has_gone was (if b then Same else Diff (gone_from was now) (new_in was now)) ≡ true
      by_same true = refl
      by_same false = gone-there was now

      go : (b : Bool) → has_gone was (if b then diff_or_same was now (is_some (cut_of turn.cut n)) else Same) ≡ true
      go true = by_same (are_same_members was now && not (is_some (cut_of turn.cut n)))
      go false = refl

  module _ (epoch next : ℕ) (known : List ℕ) (parts : List Part) (fits : ArePartsFor before turn known parts) where
    -- the known regions, ascending
    abbrev known_regions : List ℕ
    known_regions = filter (λ region. is_among known region) (regions before.rows)

    -- a known region is one of these
    is_known-known : (r : ℕ) → is_known (rolls_of known before.rows) r ≡ true → is_among known r ≡ true
    is_known-known r e =
        let listed = sym (known-beside (λ n. members_in n before.rows) r known_regions) ∙ e in
        (and_parts (is_among (regions before.rows) r) (is_among known r)
        (sym (among-filter (λ region. is_among known region) r (regions before.rows)) ∙ listed)).1

    -- no part of a touched known region is missing
    pub missing_fault-none : missing_fault (projection epoch known before) (head_in before turn next) parts ≡ None
    missing_fault-none =
        let rolls = rolls_of known before.rows in
        ap (option_map faults.Missing)
        (none_passing (λ r. is_known rolls r && not (is_some (part_of r parts))) (touched_in before turn)
        (All-weaker (λ r. is_among known r ≡ true → is_some (part_of r parts) ≡ true) (λ r. (is_known rolls r && not (is_some (part_of r parts))) ≡ false)
        (λ r enough. go r (is_known rolls r) refl (is_some (part_of r parts)) refl enough) (touched_in before turn) fits.enough))
      where
        go : (r : ℕ) (a : Bool) → is_known (rolls_of known before.rows) r ≡ a → (b : Bool) → is_some (part_of r parts) ≡ b
            → (is_among known r ≡ true → is_some (part_of r parts) ≡ true) → (a && not b) ≡ false
        go r false e b f enough = refl
        go r true e true f enough = refl
        go r true e false f enough = sym (sym f ∙ enough (is_known-known r e))

    -- and each part fits
    fits-each : (n : ℕ) → fits_part (head_in before turn next) parts (n, members_in n before.rows) ≡ true
    fits-each n = by_touched (is_among (touched_in before turn) n)
      where
        fits-part : (o : Option Part) → part_of n parts ≡ o → option_map_or (λ (p : Part). has_gone (members_in n before.rows) p.kind) o true ≡ true
        fits-part None e = refl
        fits-part (Some p) e =
            let exact = All-find (λ (q : Part). q ≡ part_in before turn q.region) (λ (q : Part). q.region == n) parts p fits.exact e in
            let id : p.region ≡ n = at_key-key (λ (q : Part). q.region) n parts p e in
            let is_part : p ≡ part_in before turn n = exact ∙ ap (part_in before turn) id in
            ap (λ (q : Part). has_gone (members_in n before.rows) q.kind) is_part ∙ fits-kind n (taken_in_by turn.merged n)

        by_touched : (b : Bool)
            → (if b then option_map_or (λ (p : Part). has_gone (members_in n before.rows) p.kind) (part_of n parts) true else true) ≡ true
        by_touched true = fits-part (part_of n parts) refl
        by_touched false = refl

    -- so no part is at fault
    pub part_fault-none : part_fault (projection epoch known before) (head_in before turn next) parts ≡ None
    part_fault-none =
        let head = head_in before turn next in
        ap (option_map (λ (pair : ℕ × List Member). faults.Part pair.0))
        (none_found (fits_part head parts) (rolls_of known before.rows)
        (All-map (λ (pair : ℕ × List Member). fits_part head parts pair ≡ true) (beside (λ n. members_in n before.rows)) fits-each known_regions))

module _ (rows : List Row) where
  -- the roll of a region
  abbrev roll : ℕ → List Member
  roll n = members_in n rows

  -- the roll of a region is listed
  listed-roll : (n : ℕ) → is_among (regions rows) n ≡ true → is_listed (summaries_of rows) (n, roll n) ≡ true
  listed-roll n there =
      let is_its : RegionSummary → Bool = λ s. is_same_summary (summary_of (roll n)) s in
      and_from (nat_lt 0 (length (roll n))) (option_map_or is_its (at_region n (summaries_of rows)) false)
      (lt-ltb 0 (length (roll n)) (members-some n rows there))
      (ap (λ o. option_map_or is_its o false)
      (at_region-summaries_of n rows ∙ cond-true (is_among (regions rows) n) (Some (summary_in rows n)) None there)
      ∙ (Decides-summary (summary_of (roll n)) (summary_of (roll n))).1 refl)

  -- so no roll of a region is at fault
  pub roll_fault-none : (ns : List ℕ) → AllByRecursion (λ n. is_among (regions rows) n ≡ true) ns
      → roll_fault (summaries_of rows) (map (beside (λ n. members_in n rows)) ns) ≡ None
  roll_fault-none ns there =
      ap (option_map (λ (pair : ℕ × List Member). faults.Roll pair.0))
      (none_found (is_listed (summaries_of rows)) (map (beside roll) ns)
      (All-changed (λ n. is_among (regions rows) n ≡ true) (λ (pair : ℕ × List Member). is_listed (summaries_of rows) pair ≡ true) (beside roll)
      listed-roll ns there))

-- the members of another region stay when one goes
members-outside : (n m : ℕ) → n ≢ m → (rows : List Row) → members_in m (rows_outside n rows) ≡ members_in m rows
members-outside n m other [] = refl
members-outside n m other (r ∷ rs) = go (r.region == n) refl (r.region == m) refl (members-outside n m other rs)
  where
    out : (r.region == n) ≡ true → rows_outside n (r ∷ rs) ≡ rows_outside n rs
    out e = rw e refl

    stays : (r.region == n) ≡ false → rows_outside n (r ∷ rs) ≡ r ∷ rows_outside n rs
    stays e = rw e refl

    go : (b : Bool) → (r.region == n) ≡ b → (c : Bool) → (r.region == m) ≡ c → members_in m (rows_outside n rs) ≡ members_in m rs
        → members_in m (rows_outside n (r ∷ rs)) ≡ members_in m (r ∷ rs)
    go true e true f rest = absurd (other (sym (eqb-true r.region n e) ∙ eqb-true r.region m f))
    go true e false f rest = ap (members_in m) (out e) ∙ (rest ∙ sym (members-later m r rs f))
    go false e true f rest =
        ap (members_in m) (stays e)
        ∙ (members-here m r (rows_outside n rs) f ∙ (ap (λ ms. r.member ∷ ms) rest ∙ sym (members-here m r rs f)))
    go false e false f rest = ap (members_in m) (stays e) ∙ (members-later m r (rows_outside n rs) f ∙ (rest ∙ sym (members-later m r rs f)))

-- the rolls of some regions
abbrev size_of : List Row → List ℕ → ℕ
size_of rows ns = pictures.members_in (map (beside (λ n. members_in n rows)) ns)

-- the size of the first, and of the others
size-cons : (rows : List Row) (n : ℕ) (ns : List ℕ) → size_of rows (n ∷ ns) ≡ length (members_in n rows) + size_of rows ns
size-cons rows n ns = sum_by-cons (λ (pair : ℕ × List Member). length pair.1) (n, members_in n rows) (map (beside (λ m. members_in m rows)) ns)

-- the sizes of greater regions stay when one goes
size-outside : (n : ℕ) (rows : List Row) (ns : List ℕ) → AllByRecursion (λ m. n < m) ns → size_of (rows_outside n rows) ns ≡ size_of rows ns
size-outside n rows [] above = refl
size-outside n rows (m ∷ ms) above =
    let lt = above.0 in
    let same = members-outside n m (λ e. omega (arith, e, lt)) rows in
    size-cons (rows_outside n rows) m ms
    ∙ (ap (λ k. length (members_in m (rows_outside n rows)) + k) (size-outside n rows ms above.1)
    ∙ (ap (λ ms'. length ms' + size_of rows ms) same ∙ sym (size-cons rows m ms)))

-- have together no more members than there are rows
size-le : (ns : List ℕ) (rows : List Row) → IsAscending ns → size_of rows ns ≤ length rows
size-le [] rows up = omega arith
size-le (n ∷ ns) rows up =
    let rest = size-le ns (rows_outside n rows) up.1 in
    let outside = size-outside n rows ns up.0 in
    let parts = length-filter_both (λ (r : Row). r.region == n) (λ (r : Row). not (r.region == n)) (λ r. refl) rows in
    omega (arith, rest, outside, parts, size-cons rows n ns, length-map (rows_in n rows) (λ (r : Row). r.member))

-- so they are few
pub few_members-regions : (rows : List Row) (ns : List ℕ) → length rows ≤ most_members → IsAscending ns
    → few_members (map (beside (λ n. members_in n rows)) ns) ≡ true
few_members-regions rows ns few up = le-leb (size_of rows ns) most_members (omega (arith, size-le ns rows up, few))
