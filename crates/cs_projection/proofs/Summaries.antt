-- The summaries of a view that steps by the head of a turn, and the faults that the step doesn't have.
use Rattle.std.proofs.Common.{◌≡◌, ℕ, ◌+◌, ◌&&◌, Bool, true, false, not, if◌then◌else◌, nat_lt, nat_le}
use Rattle.std.proofs.Common.{List, [], ◌∷◌, length, map, Option, Some, None, refl, sym, ap, ◌∙◌, arith, le-leb, lt-ltb}
use Rattle.std.specs.List.{AllByRecursion, filter, find}
use Rattle.std.specs.Option.{is_some, option_map, option_map_or, option_or}
use Rattle.std.proofs.lemmas.Bool.{and_from, eq-eqb}
use Rattle.std.proofs.lemmas.List.{length-map}
use Rattle.cs_base.specs.Ascending.{at_key}
use Rattle.cs_base.specs.Limits.{most_regions}
use Rattle.cs_base.proofs.Ascending.{All-of_filter, IsAscendingBy-filter, same_at_keys}
use Rattle.cs_base.proofs.Elements.{All-weaker}
use Rattle.cs_roll.specs.Same.{is_same_summary}
use Rattle.cs_roll.specs.Sight.{Summaries, at_region}
use Rattle.cs_roll.specs.Summary.{RegionSummary}
use Rattle.cs_roll.proofs.Same.{Decides-summary}
use Rattle.cs_group.specs.Group.{GroupState, IsGroup, is_among}
use Rattle.cs_group.specs.Rows.{regions}
use Rattle.cs_group.specs.declared.next.Turn.{Turn}
use Rattle.cs_group.specs.declared.row.Row.{Row}
use Rattle.cs_group.proofs.Regions.{IsAscending-regions}
use Rattle.cs_item.specs.declared.head.Head.{Head}
use Rattle.cs_slicer.specs.Head.{dropped_in, head_in, is_same_kind, summaries_in, touched_in}
use Rattle.cs_slicer.specs.Part.{part_in}
use Rattle.cs_slicer.specs.Projection.{projection}
use Rattle.cs_slicer.specs.Turn.{summaries_of}
use Rattle.cs_view.specs.Faults.{epoch_fault, region_fault}
use Rattle.cs_view.specs.Step.{next_summaries}
use Rattle.cs_view.specs.Taking.{few_regions, unless}
use Rattle.cs_view.specs.declared.fault.ViewFault.TheVariants as faults
use Rattle.cs_slicer.proofs.Beside.{All-placed_each, IsAscendingBy-beside, IsAscendingBy-placed_each, among-filter, at_key-beside}
use Rattle.cs_slicer.proofs.Beside.{at_key-placed_each, beside, filter-map, placed_each}
use Rattle.cs_slicer.proofs.Middle.{some_region}
use Rattle.cs_slicer.proofs.Summaries.{IsByRegion-summaries_of, at_region-summaries_of, regions-listed, summary_in}

module _ (old new : List Row) where
  -- whether the region was there with the same summary
  abbrev is_old : ℕ → Bool
  is_old region = option_map_or (is_same_summary (summary_in new region)) (at_region region (summaries_of old)) false

  -- which it was by these
  is_old-by : (region : ℕ) → is_old region ≡ (is_among (regions old) region && is_same_summary (summary_in new region) (summary_in old region))
  is_old-by region =
      ap (λ o. option_map_or (is_same_summary (summary_in new region)) o false) (at_region-summaries_of region old) ∙ by_there (is_among (regions old) region)
    where
      by_there : (b : Bool)
          → option_map_or (is_same_summary (summary_in new region)) (if b then Some (summary_in old region) else None) false
          ≡ (b && is_same_summary (summary_in new region) (summary_in old region))
      by_there true = refl
      by_there false = refl

  -- the head's summaries are those of the new regions that weren't
  summaries_in-beside : summaries_in old new ≡ map (beside (summary_in new)) (filter (λ region. not (is_old region)) (regions new))
  summaries_in-beside =
      filter-map (λ (p : ℕ × RegionSummary). not (option_map_or (is_same_summary p.1) (at_region p.0 (summaries_of old)) false))
      (beside (summary_in new)) (regions new)

  -- and the summaries that stay are those of the old regions that weren't dropped
  abbrev stays : ℕ → Bool
  stays region = not (is_among (dropped_in old new) region)

  -- they stand beside the regions that stay
  kept-beside : filter (λ (p : ℕ × RegionSummary). stays p.0) (summaries_of old) ≡ map (beside (summary_in old)) (filter stays (regions old))
  kept-beside = filter-map (λ (p : ℕ × RegionSummary). stays p.0) (beside (summary_in old)) (regions old)

  -- what is found by two tests
  abbrev found : (ℕ → RegionSummary) → ℕ → Bool → Option (ℕ × RegionSummary)
  found summary region there = if there then Some (beside summary region) else None

  -- of the regions in either group each has its new summary
  by_cases : (region : ℕ) (in_new in_old is_same : Bool)
      → (is_same ≡ true → summary_in new region ≡ summary_in old region)
      → option_or (found (summary_in new) region (in_new && not (in_old && is_same)))
      (found (summary_in old) region (in_old && not (in_old && not in_new)))
      ≡ found (summary_in new) region in_new
  by_cases region true true true same = ap (λ (s : RegionSummary). Some (region, s)) (sym (same refl))
  by_cases region true true false same = refl
  by_cases region true false is_same same = refl
  by_cases region false true is_same same = refl
  by_cases region false false is_same same = refl

  -- at each region stands what stands there in the new group
  at_each : (region : ℕ)
      → at_key (λ (p : ℕ × RegionSummary). p.0) region
      (placed_each (λ (p : ℕ × RegionSummary). p.0) (map (beside (summary_in old)) (filter stays (regions old)))
      (map (beside (summary_in new)) (filter (λ r. not (is_old r)) (regions new))))
      ≡ at_key (λ (p : ℕ × RegionSummary). p.0) region (summaries_of new)
  at_each region =
      let key = λ (p : ℕ × RegionSummary). p.0 in
      let came = filter (λ r. not (is_old r)) (regions new) in
      let stayed = filter stays (regions old) in
      let up = IsAscendingBy-beside (summary_in new) came (IsAscendingBy-filter (λ n. n) (λ r. not (is_old r)) (regions new) (IsAscending-regions new)) in
      let is_new = among-filter (λ r. not (is_old r)) region (regions new) ∙ ap (λ b. is_among (regions new) region && not b) (is_old-by region) in
      let dropped = among-filter (λ r. not (is_among (regions new) r)) region (regions old) in
      let is_kept = among-filter stays region (regions old) ∙ ap (λ b. is_among (regions old) region && not b) dropped in
      at_key-placed_each key region (map (beside (summary_in old)) stayed) (map (beside (summary_in new)) came) up
      ∙ (ap (λ o. option_or o (at_key key region (map (beside (summary_in old)) stayed)))
      (at_key-beside (summary_in new) region came ∙ ap (found (summary_in new) region) is_new)
      ∙ (ap (option_or (found (summary_in new) region _)) (at_key-beside (summary_in old) region stayed ∙ ap (found (summary_in old) region) is_kept)
      ∙ (by_cases region (is_among (regions new) region) (is_among (regions old) region)
      (is_same_summary (summary_in new region) (summary_in old region))
      ((Decides-summary (summary_in new region) (summary_in old region)).0)
      ∙ sym (at_key-beside (summary_in new) region (regions new)))))

  -- the summaries after a step by these
  abbrev stepped : List ℕ → Summaries → Summaries
  stepped dropped summaries =
      placed_each (λ (p : ℕ × RegionSummary). p.0) (filter (λ (p : ℕ × RegionSummary). not (is_among dropped p.0)) (summaries_of old)) summaries

  -- the summaries of the next epoch are those of the new group
  pub next_summaries-is : (head : Head) → head.dropped ≡ dropped_in old new → head.summaries ≡ summaries_in old new
      → next_summaries (summaries_of old) head ≡ summaries_of new
  next_summaries-is head dropped summaries =
      let key = λ (p : ℕ × RegionSummary). p.0 in
      let came = map (beside (summary_in new)) (filter (λ r. not (is_old r)) (regions new)) in
      let stayed = filter stays (regions old) in
      let up = IsAscendingBy-beside (summary_in old) stayed (IsAscendingBy-filter (λ n. n) stays (regions old) (IsAscending-regions old)) in
      ap (λ d. stepped d head.summaries) dropped
      ∙ (ap (stepped (dropped_in old new)) (summaries ∙ summaries_in-beside)
      ∙ (ap (λ kept. placed_each key kept came) kept-beside
      ∙ same_at_keys key (placed_each key (map (beside (summary_in old)) stayed) came) (summaries_of new)
      (IsAscendingBy-placed_each key (map (beside (summary_in old)) stayed) came up) (IsByRegion-summaries_of new) at_each))

-- where each passes, none is found that doesn't
pub none_found : {T : Type 0} (p : T → Bool) (xs : List T) → AllByRecursion (λ x. p x ≡ true) xs → find (λ x. not (p x)) xs ≡ None
none_found p [] all = refl
none_found p (x ∷ xs) all = rw all.0 (none_found p xs all.1)

-- a region of the rows is listed
is_listed : (rows : List Row) (region : ℕ) → is_among (regions rows) region ≡ true → is_some (at_region region (summaries_of rows)) ≡ true
is_listed rows region there =
    ap (λ o. is_some o) (at_region-summaries_of region rows) ∙ ap (λ b. is_some (if b then Some (summary_in rows region) else None)) there

-- dropped and touched regions are, so no fault is with them
pub region_fault-none : (epoch next : ℕ) (known : List ℕ) (before : GroupState) (turn : Turn)
    → region_fault (projection epoch known before) (head_in before turn next) ≡ None
region_fault-none epoch next known before turn =
    let rows = before.rows in
    let listed : ℕ → Bool = λ r. is_some (at_region r (summaries_of rows)) in
    let all = All-weaker (λ r. is_among (regions rows) r ≡ true) (λ r. listed r ≡ true) (is_listed rows) (regions rows) (regions-listed rows) in
    let dropped = All-of_filter (λ r. listed r ≡ true) (λ r. not (is_among (regions turn.group.rows) r)) (regions rows) all in
    let touched = All-of_filter (λ r. listed r ≡ true) (λ r. not (is_same_kind (part_in before turn r).kind)) (regions rows) all in
    let placed = placed_each (λ n. n) (dropped_in rows turn.group.rows) (touched_in before turn) in
    ap (option_map faults.Region)
    (none_found listed placed
    (All-placed_each (λ n. n) (λ r. listed r ≡ true) (dropped_in rows turn.group.rows) (touched_in before turn) dropped touched))

-- the head is that of the next epoch
pub epoch_fault-none : (epoch : ℕ) (known : List ℕ) (before : GroupState) (turn : Turn)
    → epoch_fault (projection epoch known before) (head_in before turn (epoch + 1)) ≡ None
epoch_fault-none epoch known before turn =
    ap (λ passes. unless passes (faults.Epoch epoch (epoch + 1))) (eq-eqb (epoch + 1) (epoch + 1) refl)

-- a group has some regions, and not too many
pub few_regions-group : (g : GroupState) → IsGroup g → few_regions (summaries_of g.rows) ≡ true
few_regions-group g is =
    let long = length-map (regions g.rows) (beside (summary_in g.rows)) in
    let some = some_region g.leader g.rows is.staffed.leader_there in
    and_from (nat_lt 0 (length (summaries_of g.rows))) (nat_le (length (summaries_of g.rows)) most_regions)
    (lt-ltb 0 (length (summaries_of g.rows)) (omega (arith, long, some)))
    (le-leb (length (summaries_of g.rows)) most_regions (omega (arith, long, is.few_regions)))
