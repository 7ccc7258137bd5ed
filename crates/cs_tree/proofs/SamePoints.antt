-- When the regions of two views stand at the same points: looked at one place after another.
use Rattle.std.proofs.Common.{◌≡◌, ◌≢◌, ℕ, ◌+◌, ◌≤◌, not, Bool, true, false, List, [], ◌∷◌, ◌++◌, length, take, drop}
use Rattle.std.proofs.Common.{refl, sym, ap, ◌∙◌, arith}
use Rattle.std.specs.List.{AllByRecursion}
use Rattle.std.proofs.lemmas.List.{length-map, take_all, take-append-drop}
use Rattle.std.proofs.lemmas.List.Elements.{filter_map-append}
use Rattle.std.proofs.lemmas.Slice.Eq.{slice_eq-Decides}
use Rattle.cs_roll.specs.Sight.{Summaries}
use Rattle.cs_roll.specs.Summary.{IsSummary, RegionSummary}
use Rattle.cs_tree.specs.Inter.{region_point, region_points}
use Rattle.cs_tree.specs.Renewal.{are_same_points, is_same_region_point}
use Rattle.cs_tree.specs.declared.region_point.RegionPoint.{RegionPoint}
use Rattle.cs_tree.proofs.GoodInter.{regions-points}
use Rattle.cs_tree.proofs.Quiet.{Decides-region_point}
use Rattle.cs_tree.proofs.RegionPoints.{region_of}

-- lists that go on with different elements differ
differ-next : {T : Type 0} (ts : List T) (p q : T) (us vs : List T) → p ≢ q → (ts ++ (p ∷ [])) ++ us ≢ (ts ++ (q ∷ [])) ++ vs
differ-next [] p q us vs other = λ same. (let first : p ≡ q = cc in other first)
differ-next (t ∷ ts) p q us vs other = λ same. (
    let rest : (ts ++ (p ∷ [])) ++ us ≡ (ts ++ (q ∷ [])) ++ vs = cc in
    differ-next ts p q us vs other rest
    )

-- points that the test tells apart
pub apart : (p q : RegionPoint) → not (is_same_region_point p q) ≡ true → p ≢ q
apart p q fails = λ same. (
    let passes : is_same_region_point p q ≡ true = (Decides-region_point p q).1 same in
    let wrong : not true ≡ true = rw passes at fails in
    cc
    )

module _ (colour : ℕ) where
  -- the points up to a place and those behind it
  parted : (n : ℕ) (pairs : Summaries) → region_points colour pairs ≡ region_points colour (take n pairs) ++ region_points colour (drop n pairs)
  parted n pairs =
      ap (region_points colour) (sym (take-append-drop n pairs)) ∙ filter_map-append (region_point colour) (take n pairs) (drop n pairs)

  -- each region has its point
  length-points : (summaries : Summaries) → AllByRecursion (λ (pair : ℕ × RegionSummary). IsSummary pair.1) summaries
      → length (region_points colour summaries) ≡ length summaries
  length-points summaries allowed =
      let regions = ap length (regions-points colour summaries allowed) in
      let each = length-map (region_points colour summaries) region_of in
      omega (arith, regions, each, length-map summaries (λ (pair : ℕ × RegionSummary). pair.0))

  module _ (before now : Summaries) where
    -- the test tells whether they are the same
    pub tested-same : region_points colour before ≡ region_points colour now → are_same_points colour before now ≡ true
    tested-same same =
        let decides = slice_eq-Decides Decides-region_point (region_points colour before) (region_points colour now) (are_same_points colour before now) refl in
        decides.1 same

    pub tested-other : region_points colour before ≢ region_points colour now → are_same_points colour before now ≡ false
    tested-other other = go (are_same_points colour before now) refl
      where
        go : (b : Bool) → are_same_points colour before now ≡ b → are_same_points colour before now ≡ false
        go true is = absurd (
            let decides = slice_eq-Decides Decides-region_point (region_points colour before) (region_points colour now)
            (are_same_points colour before now) refl in
            other (decides.0 is)
            )
        go false is = is

    -- views of more or of fewer regions differ
    pub other-many : AllByRecursion (λ (pair : ℕ × RegionSummary). IsSummary pair.1) before
        → AllByRecursion (λ (pair : ℕ × RegionSummary). IsSummary pair.1) now → length before ≢ length now
        → region_points colour before ≢ region_points colour now
    other-many allowed allowed' other = λ same. other (sym (length-points before allowed) ∙ (ap length same ∙ length-points now allowed'))

    -- where all places are looked at
    pub same-all : (i : ℕ) → length before ≤ i → length now ≤ i
        → region_points colour (take i before) ≡ region_points colour (take i now) → region_points colour before ≡ region_points colour now
    same-all i le le' same =
        ap (region_points colour) (sym (take_all i before le)) ∙ (same ∙ ap (region_points colour) (take_all i now le'))

    module _ (i : ℕ) (p q : RegionPoint) (so_far : region_points colour (take i before) ≡ region_points colour (take i now))
        (first : region_points colour (take (i + 1) before) ≡ region_points colour (take i before) ++ (p ∷ []))
        (second : region_points colour (take (i + 1) now) ≡ region_points colour (take i now) ++ (q ∷ [])) where
      -- where the next ones differ
      pub other-next : p ≢ q → region_points colour before ≢ region_points colour now
      other-next other = λ same. (
          let behind = region_points colour (drop (i + 1) before) in
          let later = region_points colour (drop (i + 1) now) in
          let old : region_points colour before ≡ (region_points colour (take i now) ++ (p ∷ [])) ++ behind =
          parted (i + 1) before ∙ ap (λ rs. rs ++ behind) (first ∙ ap (λ rs. rs ++ (p ∷ [])) so_far) in
          let new : region_points colour now ≡ (region_points colour (take i now) ++ (q ∷ [])) ++ later =
          parted (i + 1) now ∙ ap (λ rs. rs ++ later) second in
          differ-next (region_points colour (take i now)) p q behind later other (sym old ∙ (same ∙ new))
          )
