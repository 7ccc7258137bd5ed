-- The turn to the next epoch steps what a member knows, by the slices that it needs.
use Rattle.std.proofs.Common.{◌≡◌, ◌∙◌, ◌==◌, ◌&&◌, ℕ, ◌+◌, ◌-◌, Bool, true, false, not, List, [], ◌∷◌, map}
use Rattle.std.proofs.Common.{refl, ap}
use Rattle.std.specs.List.{AllByRecursion, filter}
use Rattle.std.specs.Option.{is_some}
use Rattle.std.proofs.lemmas.Bool.{and_from, or_right}
use Rattle.cs_base.specs.Ascending.{IsAscending, placed_by}
use Rattle.cs_base.proofs.Ascending.{All-of_filter, All-placed, IsAscendingBy-filter, IsAscendingBy-placed}
use Rattle.cs_base.proofs.Elements.{All-changed, All-map, All-weaker}
use Rattle.cs_core.specs.Taking.{needed as needed_values, parts_of}
use Rattle.cs_core.proofs.SameHeads.{Decides-head}
use Rattle.cs_group.specs.Group.{GroupState, IsGroup, is_among}
use Rattle.cs_group.specs.Rows.{members_in, regions}
use Rattle.cs_group.specs.declared.next.Turn.{Turn}
use Rattle.cs_group.proofs.Regions.{IsAscending-regions}
use Rattle.cs_item.specs.declared.part.Part.{Part}
use Rattle.cs_packet.specs.declared.own.Own.{Own}
use Rattle.cs_projection.specs.Law.{ArePartsFor}
use Rattle.cs_projection.proofs.Reached.{each-among, known-beside}
use Rattle.cs_projection.proofs.Steps.{steps}
use Rattle.cs_slicer.specs.Head.{head_in, is_same_kind, touched_in}
use Rattle.cs_slicer.specs.Part.{part_in}
use Rattle.cs_slicer.specs.Projection.{rolls_of}
use Rattle.cs_slicer.specs.Slice.{slice_in}
use Rattle.cs_slicer.specs.Turn.{IsTurnOf}
use Rattle.cs_slicer.proofs.Beside.{among-filter}
use Rattle.cs_slicer.proofs.Lists.{IsAscendingBy-map}
use Rattle.cs_slicer.proofs.Regions.{among-placed}
use Rattle.cs_slicer.proofs.Summaries.{regions-listed}
use Rattle.cs_view.specs.Faults.{step}
use Rattle.cs_view.specs.Step.{is_known, part_of}
use Rattle.cs_machine.specs.Contents.{Contents, slice_at, view_at}
use Rattle.cs_machine.specs.Names.{Membership}
use Rattle.cs_machine.specs.Progress.{needed}
use Rattle.cs_machine.proofs.CloseSquares.{back}
use Rattle.cs_machine.proofs.ProgressSquares.{Steps}

-- two tests that agree on all elements keep the same ones
filter-same : (p q : ℕ → Bool) (ns : List ℕ) → AllByRecursion (λ n. p n ≡ q n) ns → filter p ns ≡ filter q ns
filter-same p q [] all = refl
filter-same p q (n ∷ ns) all = rw (all.0, filter-same p q ns all.1) refl

module _ (before : GroupState) (turn : Turn) (known : List ℕ) (w : ℕ) where
  -- a region among some has its part among theirs
  part-there : (region : ℕ) (ns : List ℕ) → is_some (part_of region (map (part_in before turn) ns)) ≡ is_among ns region
  part-there region [] = refl
  part-there region (n ∷ ns) = go (n == region) refl (part-there region ns)
    where
      go : (b : Bool) → (n == region) ≡ b → is_some (part_of region (map (part_in before turn) ns)) ≡ is_among ns region
          → is_some (part_of region (map (part_in before turn) (n ∷ ns))) ≡ is_among (n ∷ ns) region
      go true e rest = rw e refl
      go false e rest = rw e rest

  -- the regions whose slices are used
  abbrev used : List ℕ
  used = placed_by (λ region. region) w (filter (is_among known) (touched_in before turn))

  -- the touched regions are old ones
  touched-old : AllByRecursion (λ region. is_among (regions before.rows) region ≡ true) (touched_in before turn)
  touched-old =
      All-of_filter (λ region. is_among (regions before.rows) region ≡ true)
      (λ region. not (is_same_kind (part_in before turn region).kind)) (regions before.rows) (regions-listed before.rows)

  -- their parts are enough for the step
  used-fit : is_among (regions before.rows) w ≡ true → ArePartsFor before turn known (map (part_in before turn) used)
  used-fit there =
      let is_old : ℕ → Type 0 = λ region. is_among (regions before.rows) region ≡ true in
      let ascends : IsAscending used =
      IsAscendingBy-placed (λ n. n) w (filter (is_among known) (touched_in before turn))
      (IsAscendingBy-filter (λ n. n) (is_among known) (touched_in before turn)
      (IsAscendingBy-filter (λ n. n) (λ region. not (is_same_kind (part_in before turn region).kind)) (regions before.rows)
      (IsAscending-regions before.rows))) in
      record {
        ascending = IsAscendingBy-map (λ (p : Part). p.region) (part_in before turn) used ascends;
        old = All-changed is_old (λ (p : Part). is_old p.region) (part_in before turn) (λ region old. old) used
            (All-placed (λ n. n) is_old w (filter (is_among known) (touched_in before turn)) there
            (All-of_filter is_old (is_among known) (touched_in before turn) touched-old));
        exact = All-map (λ (p : Part). p ≡ part_in before turn p.region) (part_in before turn) (λ region. refl) used;
        enough = each-among (λ r. is_among known r ≡ true → is_some (part_of r (map (part_in before turn) used)) ≡ true)
            (touched_in before turn) (λ r is_touched knows. part-there r used
            ∙ (among-placed w r (filter (is_among known) (touched_in before turn))
            ∙ or_right (w == r) (is_among (filter (is_among known) (touched_in before turn)) r)
            (among-filter (is_among known) r (touched_in before turn) ∙ and_from (is_among (touched_in before turn) r) (is_among known r) is_touched knows)));
      }

  -- of the touched regions those are known whose roll a projection has
  known-touched : filter (is_known (rolls_of known before.rows)) (touched_in before turn) ≡ filter (is_among known) (touched_in before turn)
  known-touched =
      filter-same (is_known (rolls_of known before.rows)) (is_among known) (touched_in before turn)
      (All-weaker (λ region. is_among (regions before.rows) region ≡ true)
      (λ region. is_known (rolls_of known before.rows) region ≡ is_among known region)
      (λ region old. known-beside (λ r. members_in r before.rows) region (filter (λ r. is_among known r) (regions before.rows))
      ∙ (among-filter (λ r. is_among known r) region (regions before.rows) ∙ ap (λ b. b && is_among known region) old))
      (touched_in before turn) touched-old)

-- the parts of slices are those of their regions
parts-for : (g : GroupState) (turn : Turn) (epoch : ℕ) (rs : List ℕ) → parts_of (map (slice_in g turn epoch) rs) ≡ map (part_in g turn) rs
parts-for g turn epoch [] = refl
parts-for g turn epoch (r ∷ rs) = ap (λ (ps : List Part). part_in g turn r ∷ ps) (parts-for g turn epoch rs)

-- where the turn to the next epoch is one of the member's group, it steps what the member knows
pub Steps-turn : (c : Contents) (own : Own) (m : Membership) → IsGroup (c.group m.epoch) → IsGroup (c.turn (m.epoch + 1)).group
    → IsTurnOf (c.group m.epoch) (c.turn (m.epoch + 1)) → (c.turn (m.epoch + 1)).group ≡ c.group (m.epoch + 1)
    → AllByRecursion (λ region. is_among (regions (c.group m.epoch).rows) region ≡ true) m.known → Steps c own m
Steps-turn c own m is_group next_group is_turn same there =
    let before : GroupState = c.group m.epoch in
    let turn : Turn = c.turn (m.epoch + 1) in
    record {
      group = same;
      needs = λ w.
          ap (λ (g : GroupState). needed_values (view_at c m.epoch m.known) (slice_in g turn (m.epoch + 1) w)) (ap c.group (back m.epoch))
          ∙ ap (placed_by (λ region. region) w) (known-touched before turn m.known w);
      by_slices = λ w listed.
          ap (step own.id own.mode (view_at c m.epoch m.known) (slice_at c (m.epoch + 1) w).head)
          (parts-for (c.group (m.epoch + 1 - 1)) turn (m.epoch + 1) (needed c m w))
          ∙ (ap (λ (g : GroupState). step own.id own.mode (view_at c m.epoch m.known) (head_in g turn (m.epoch + 1))
          (map (part_in g turn) (needed c m w))) (ap c.group (back m.epoch))
          ∙ steps before turn m.epoch m.known own.id own.mode (map (part_in before turn) (needed c m w)) is_group next_group is_turn there
          (used-fit before turn m.known w listed));
      same_head = λ w. (Decides-head (slice_at c (m.epoch + 1) w).head (slice_at c (m.epoch + 1) w).head).1 refl;
    }
