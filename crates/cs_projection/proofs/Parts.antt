-- The parts of the known regions are enough for a step, and the image has regions of the next group alone.
use Rattle.std.proofs.Common.{◌≡◌, ◌==◌, ◌||◌, ℕ, Bool, true, false, not, List, [], ◌∷◌, map, refl, ◌∙◌}
use Rattle.std.specs.List.{AllByRecursion, filter}
use Rattle.std.specs.Option.{is_some}
use Rattle.std.proofs.lemmas.Bool.{and_from}
use Rattle.cs_base.specs.declared.change.Mode.{Mode}
use Rattle.cs_base.specs.declared.change.Mode.TheVariants.{Partial, Full}
use Rattle.cs_base.proofs.Ascending.{All-of_filter, IsAscendingBy-filter}
use Rattle.cs_base.proofs.Elements.{All-changed, All-map, All-weaker}
use Rattle.cs_group.specs.Group.{GroupState, is_among}
use Rattle.cs_group.specs.Rows.{members_in, regions}
use Rattle.cs_group.specs.declared.next.Turn.{Turn}
use Rattle.cs_group.proofs.Regions.{IsAscending-regions}
use Rattle.cs_item.specs.declared.part.Part.{Part}
use Rattle.cs_roll.specs.Roll.{member_of}
use Rattle.cs_slicer.specs.Head.{is_same_kind, touched_in}
use Rattle.cs_slicer.specs.Part.{part_in}
use Rattle.cs_slicer.specs.Projection.{heirs, image, is_cut_from, reached}
use Rattle.cs_slicer.proofs.Beside.{among-filter}
use Rattle.cs_slicer.proofs.Lists.{IsAscendingBy-map}
use Rattle.cs_slicer.proofs.Summaries.{regions-listed}
use Rattle.cs_view.specs.Step.{part_of}
use Rattle.cs_projection.specs.Law.{ArePartsFor, known_parts}

module _ (before : GroupState) (turn : Turn) where
  -- a region among some has its part among theirs
  part-there : (region : ℕ) (ns : List ℕ) → is_some (part_of region (map (part_in before turn) ns)) ≡ is_among ns region
  part-there region [] = refl
  part-there region (n ∷ ns) = go (n == region) refl (part-there region ns)
    where
      go : (b : Bool) → (n == region) ≡ b → is_some (part_of region (map (part_in before turn) ns)) ≡ is_among ns region
          → is_some (part_of region (map (part_in before turn) (n ∷ ns))) ≡ is_among (n ∷ ns) region
      go true e rest = rw e refl
      go false e rest = rw e rest

  -- so the parts of the known regions are enough
  pub known_parts-fit : (known : List ℕ) → ArePartsFor before turn known (known_parts before turn known)
  known_parts-fit known =
      let ns = filter (λ region. is_among known region) (regions before.rows) in
      let listed = regions-listed before.rows in
      let is_old : ℕ → Type 0 = λ region. is_among (regions before.rows) region ≡ true in
      record {
        ascending = IsAscendingBy-map (λ (p : Part). p.region) (part_in before turn) ns
            (IsAscendingBy-filter (λ n. n) (λ region. is_among known region) (regions before.rows) (IsAscending-regions before.rows));
        old = All-changed is_old (λ (p : Part). is_old p.region) (part_in before turn) (λ region old. old) ns
            (All-of_filter is_old (λ region. is_among known region) (regions before.rows) listed);
        exact = All-map (λ (p : Part). p ≡ part_in before turn p.region) (part_in before turn) (λ region. refl) ns;
        enough = All-weaker is_old (λ r. is_among known r ≡ true → is_some (part_of r (known_parts before turn known)) ≡ true)
            (λ r old knows. part-there r ns
            ∙ (among-filter (λ region. is_among known region) r (regions before.rows)
            ∙ and_from (is_among (regions before.rows) r) (is_among known r) old knows))
            (touched_in before turn)
            (All-of_filter is_old (λ region. not (is_same_kind (part_in before turn region).kind)) (regions before.rows) listed);
      }

  -- the image has regions of the next group alone
  pub image-regions : (known : List ℕ) (me : ℕ) (mode : Mode)
      → AllByRecursion (λ region. is_among (regions turn.group.rows) region ≡ true) (image before turn known me mode)
  image-regions known me mode = by_mode mode
    where
      is_new : ℕ → Type 0
      is_new region = is_among (regions turn.group.rows) region ≡ true

      in_reached : AllByRecursion is_new (reached before turn known)
      in_reached =
          All-of_filter is_new (λ region. is_among (heirs before turn known) region || is_cut_from turn.cut (heirs before turn known) region)
          (regions turn.group.rows) (regions-listed turn.group.rows)

      by_mode : (m : Mode) → AllByRecursion is_new (image before turn known me m)
      by_mode Full = in_reached
      by_mode Partial = All-of_filter is_new (λ region. is_some (member_of me (members_in region turn.group.rows))) (reached before turn known) in_reached
