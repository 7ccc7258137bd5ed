-- What a renewal leaves takes no step.
use Rattle.std.proofs.Common.{◌≡◌, ℕ, zero, suc, ◌*◌, ◌<◌, ◌≤◌, Bool, true, false, List, [], ◌∷◌, length, Some, if◌then◌else◌}
use Rattle.std.proofs.Common.{refl, ap, ◌∙◌, arith}
use Rattle.std.specs.Bool.{Decides}
use Rattle.std.specs.List.{AllByRecursion, range_with_len, sum_by}
use Rattle.std.specs.Option.{option_map_or}
use Rattle.std.proofs.lemmas.Bool.Decides.{Decides-and, Decides-eqb, Decides-like}
use Rattle.std.proofs.lemmas.List.Sums.{sum_by-cons}
use Rattle.std.proofs.lemmas.Slice.Eq.{slice_eq-Decides}
use Rattle.cs_base.specs.declared.member.Member.{Member}
use Rattle.cs_roll.proofs.Same.{Decides-axes, Decides-members}
use Rattle.cs_roll.specs.Same.{are_same_members}
use Rattle.cs_roll.specs.Sight.{IsByRegion, IsSight, Rolls, Summaries, at_region}
use Rattle.cs_tree.specs.Colour.{trees_of}
use Rattle.cs_tree.specs.Inter.{region_points}
use Rattle.cs_tree.specs.Renewal.{are_same_points, is_same_region_point, steps_between, steps_of_renewal, steps_within, was_known}
use Rattle.cs_tree.specs.declared.region_point.RegionPoint.{RegionPoint}
use Rattle.cs_tree.proofs.Seen.{at_region-first, at_region-later}

-- the test tells whether regions with points are the same
pub Decides-region_point : (p q : RegionPoint) → Decides (is_same_region_point p q) (p ≡ q)
Decides-region_point p q =
    Decides-like _ (λ e. λ i. record { region = e.0 i; at = e.1 i })
    (λ (e : p ≡ q). (ap (λ (r : RegionPoint). r.region) e, ap (λ (r : RegionPoint). r.at) e))
    (Decides-and _ _ (Decides-eqb p.region q.region) (Decides-axes p.at q.at))

-- so where they are, no tree of theirs is built
pub none-between : (colour : ℕ) (before now : Summaries) → region_points colour before ≡ region_points colour now
    → steps_between before now colour ≡ 0
none-between colour before now same =
    let decides = slice_eq-Decides Decides-region_point (region_points colour before) (region_points colour now) (are_same_points colour before now) refl in
    ap (λ b. if b then 0 else length now) (decides.1 same)

-- of all four colours
pub none-of_four : (before now : Summaries) → ((colour : ℕ) → colour < 4 → region_points colour before ≡ region_points colour now)
    → sum_by (steps_between before now) (range_with_len 0 4) ≡ 0
none-of_four before now same =
    let f : ℕ → ℕ = steps_between before now in
    let zero : f 0 ≡ 0 = none-between 0 before now (same 0 (omega arith)) in
    let one : f 1 ≡ 0 = none-between 1 before now (same 1 (omega arith)) in
    let two : f 2 ≡ 0 = none-between 2 before now (same 2 (omega arith)) in
    let three : f 3 ≡ 0 = none-between 3 before now (same 3 (omega arith)) in
    omega (
      arith,
      zero,
      one,
      two,
      three,
      sum_by-cons f 0 (1 ∷ 2 ∷ 3 ∷ []),
      sum_by-cons f 1 (2 ∷ 3 ∷ []),
      sum_by-cons f 2 (3 ∷ []),
      sum_by-cons f 3 [],
    )

-- each pair is found by its region
own-found : {T : Type 0} (pairs : List (ℕ × T)) → IsByRegion pairs → AllByRecursion (λ (p : ℕ × T). at_region p.0 pairs ≡ Some p.1) pairs
own-found [] up = tt
own-found {T} (p ∷ ps) up = (at_region-first p.0 p ps refl, later ps up.0 (own-found ps up.1))
  where
    later : (qs : List (ℕ × T)) → AllByRecursion (λ (q : ℕ × T). p.0 < q.0) qs → AllByRecursion (λ (q : ℕ × T). at_region q.0 ps ≡ Some q.1) qs
        → AllByRecursion (λ (q : ℕ × T). at_region q.0 (p ∷ ps) ≡ Some q.1) qs
    later [] above found = tt
    later (q ∷ qs) above found = (at_region-later q.0 p ps (λ e. omega (arith, above.0)) ∙ found.0, later qs above.1 found.1)

-- and where it was known before, its trees aren't built
none-within : (before pairs : Rolls) → AllByRecursion (λ (p : ℕ × List Member). at_region p.0 before ≡ Some p.1) pairs
    → sum_by (steps_within before) pairs ≡ 0
none-within before [] found = refl
none-within before (p ∷ ps) found =
    let same : was_known before p ≡ true =
    ap (λ o. option_map_or (λ (roll : List Member). are_same_members roll p.1) o false) found.0 ∙ (Decides-members p.1 p.1).1 refl in
    let none : steps_within before p ≡ 0 = ap (λ b. if b then 0 else trees_of (length p.1) * length p.1) same in
    omega (arith, sum_by-cons (steps_within before) p ps, none, none-within before ps found.1)

-- so a renewal to the same view takes no step
pub none-at_all : (summaries : Summaries) (rolls : Rolls) → IsSight summaries rolls → steps_of_renewal summaries rolls summaries rolls ≡ 0
none-at_all summaries rolls sight =
    omega (arith, none-of_four summaries summaries (λ colour lt. refl), none-within rolls rolls (own-found rolls sight.rolls_ascend))

-- and one to a view of one known region, whose representatives stand where they stood, no more than its trees have keys
pub of-one_region : (before now : Summaries) (known : Rolls) (region : ℕ) (roll : List Member)
    → ((colour : ℕ) → colour < 4 → region_points colour before ≡ region_points colour now)
    → steps_of_renewal before known now ((region, roll) ∷ []) ≤ trees_of (length roll) * length roll
of-one_region before now known region roll same =
    let most : steps_within known (region, roll) ≤ trees_of (length roll) * length roll = at-most (was_known known (region, roll)) in
    omega (arith, none-of_four before now same, sum_by-cons (steps_within known) (region, roll) [], most)
  where
    at-most : (b : Bool) → (if b then 0 else trees_of (length roll) * length roll) ≤ trees_of (length roll) * length roll
    at-most true = omega arith
    at-most false = omega arith

-- what holds for each of four colours
pub each-of_four : (P : ℕ → Type 0) → P 0 → P 1 → P 2 → P 3 → (colour : ℕ) → colour < 4 → P colour
each-of_four P zero_is one_is two_is three_is zero lt = zero_is
each-of_four P zero_is one_is two_is three_is (suc zero) lt = one_is
each-of_four P zero_is one_is two_is three_is (suc (suc zero)) lt = two_is
each-of_four P zero_is one_is two_is three_is (suc (suc (suc zero))) lt = three_is
each-of_four P zero_is one_is two_is three_is (suc (suc (suc (suc n)))) lt = absurd (omega (arith, lt))
