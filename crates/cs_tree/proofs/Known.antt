-- The rolls of a sight, read off region by region.
use Rattle.std.proofs.Common.{◌≡◌, ℕ, ◌+◌, ◌<◌, ◌≤◌, List, [], ◌∷◌, ◌++◌, length, get_or, map, take}
use Rattle.std.proofs.Common.{Option, None, Some, IsSome, slice_get}
use Rattle.std.proofs.Common.{refl, sym, ap, ◌∙◌, inl, inr, arith}
use Rattle.std.specs.List.{AllByRecursion, cons_option, filter_map, sum_by}
use Rattle.std.specs.Option.{is_some, option_map, option_map_or}
use Rattle.std.proofs.lemmas.Bool.{cases_eq, cases_lt, false≢true}
use Rattle.std.proofs.lemmas.List.{take_all}
use Rattle.std.proofs.lemmas.List.Sums.{sum_by-cons, sum_by-take-drop, sum_by_more}
use Rattle.std.proofs.lemmas.Option.{same_Some, slice_get-get_or}
use Rattle.cs_base.specs.declared.member.Member.{Member}
use Rattle.cs_roll.specs.Sight.{IsByRegion, IsSight, Rolls, Summaries, at_region}
use Rattle.cs_roll.specs.Summary.{RegionSummary, summary_of}
use Rattle.cs_tree.proofs.Offers.{filter_map-none, filter_map-some}
use Rattle.cs_tree.proofs.Seen.{at_region-first, at_region-later, slice_get-within}

-- a region below all
at-none : {T : Type 0} (r : ℕ) (pairs : List (ℕ × T)) → AllByRecursion (λ (p : ℕ × T). r < p.0) pairs → at_region r pairs ≡ None
at-none r [] above = refl
at-none r (p ∷ pairs) above = at_region-later r p pairs (λ e. omega (arith, above.0)) ∙ at-none r pairs above.1

-- what is above a number is above a lower one
above-lower : {T : Type 0} (r q : ℕ) (pairs : List (ℕ × T)) → r < q → AllByRecursion (λ (p : ℕ × T). q < p.0) pairs
    → AllByRecursion (λ (p : ℕ × T). r < p.0) pairs
above-lower r q [] lt above = tt
above-lower r q (p ∷ pairs) lt above = (omega (arith, above.0), above-lower r q pairs lt above.1)

-- regions that are listed, and none of them first, are listed later
there-later : {S T : Type 0} (s : ℕ × S) (ss : List (ℕ × S)) (pairs : List (ℕ × T)) → AllByRecursion (λ (p : ℕ × T). s.0 < p.0) pairs
    → AllByRecursion (λ (p : ℕ × T). IsSome (at_region p.0 (s ∷ ss))) pairs → AllByRecursion (λ (p : ℕ × T). IsSome (at_region p.0 ss)) pairs
there-later s ss [] above there = tt
there-later s ss (p ∷ pairs) above there =
    let same : at_region p.0 (s ∷ ss) ≡ at_region p.0 ss = at_region-later p.0 s ss (λ e. omega (arith, above.0)) in
    (ap (λ o. is_some o) (sym same) ∙ there.0, there-later s ss pairs above.1 there.1)

module _ {S T : Type 0} where
  -- what stands beside a listed region, with the region
  abbrev pub beside : List (ℕ × T) → ℕ × S → Option (ℕ × T)
  beside pairs listed = option_map (λ (t : T). (listed.0, t)) (at_region listed.0 pairs)

  none-beside : (listed : List (ℕ × S)) → filter_map (beside []) listed ≡ []
  none-beside [] = refl
  none-beside (s ∷ ss) = none-beside ss

  -- later regions don't see the first pair
  skip-first : (p : ℕ × T) (pairs : List (ℕ × T)) (listed : List (ℕ × S)) → AllByRecursion (λ (s : ℕ × S). p.0 < s.0) listed
      → filter_map (beside (p ∷ pairs)) listed ≡ filter_map (beside pairs) listed
  skip-first p pairs [] above = refl
  skip-first p pairs (s ∷ ss) above =
      let other : at_region s.0 (p ∷ pairs) ≡ at_region s.0 pairs = at_region-later s.0 p pairs (λ e. omega (arith, above.0)) in
      let rest : filter_map (beside (p ∷ pairs)) ss ≡ filter_map (beside pairs) ss = skip-first p pairs ss above.1 in
      λ i. cons_option (option_map (λ (t : T). (s.0, t)) (other i)) (rest i)

  -- all that stands beside listed regions, where each pair is of one of them
  pub all-beside : (listed : List (ℕ × S)) (pairs : List (ℕ × T)) → IsByRegion listed → IsByRegion pairs
      → AllByRecursion (λ (p : ℕ × T). IsSome (at_region p.0 listed)) pairs → filter_map (beside pairs) listed ≡ pairs
  all-beside [] [] up up' there = refl
  all-beside [] (p ∷ pairs) up up' there = absurd (false≢true there.0)
  all-beside (s ∷ ss) [] up up' there = none-beside (s ∷ ss)
  all-beside (s ∷ ss) (p ∷ pairs) up up' there = elim (cases_lt s.0 p.0) [
    | inl before ↦
        let above : AllByRecursion (λ (q : ℕ × T). s.0 < q.0) (p ∷ pairs) = (before, above-lower s.0 p.0 pairs before up'.0) in
        let none : at_region s.0 (p ∷ pairs) ≡ None = at-none s.0 (p ∷ pairs) above in
        let rest : filter_map (beside (p ∷ pairs)) ss ≡ p ∷ pairs =
        all-beside ss (p ∷ pairs) up.1 up' (there-later s ss (p ∷ pairs) above there) in
        λ i. cons_option (option_map (λ (t : T). (s.0, t)) (none i)) (rest i)
    | inr le ↦ elim (cases_eq s.0 p.0) [
      | inl same ↦
          let first : at_region s.0 (p ∷ pairs) ≡ Some p.1 = at_region-first s.0 p pairs (sym same) in
          let above : AllByRecursion (λ (q : ℕ × T). s.0 < q.0) pairs = rw same up'.0 in
          let later : AllByRecursion (λ (t : ℕ × S). p.0 < t.0) ss = rw (← same) up.0 in
          let rest : filter_map (beside (p ∷ pairs)) ss ≡ pairs =
          skip-first p pairs ss later ∙ all-beside ss pairs up.1 up'.1 (there-later s ss pairs above there.1) in
          let whole : filter_map (beside (p ∷ pairs)) (s ∷ ss) ≡ (s.0, p.1) ∷ pairs =
          λ i. cons_option (option_map (λ (t : T). (s.0, t)) (first i)) (rest i) in
          whole ∙ ap (λ (r : ℕ). (r, p.1) ∷ pairs) same
      | inr other ↦
          let lower : p.0 < s.0 = omega arith in
          let none : at_region p.0 (s ∷ ss) ≡ None = at-none p.0 (s ∷ ss) (lower, above-lower p.0 s.0 ss lower up.0) in
          absurd (false≢true (ap (λ o. is_some o) (sym none) ∙ there.0))
    ]
  ]

-- each known region is listed
there-listed : (summaries : Summaries) (rolls : Rolls)
    → AllByRecursion (λ (pair : ℕ × List Member). at_region pair.0 summaries ≡ Some (summary_of pair.1)) rolls
    → AllByRecursion (λ (pair : ℕ × List Member). IsSome (at_region pair.0 summaries)) rolls
there-listed summaries [] listed = tt
there-listed summaries (pair ∷ pairs) listed = (ap (λ o. is_some o) listed.0, there-listed summaries pairs listed.1)

-- so the rolls are those that stand beside the listed regions
pub rolls-beside : (summaries : Summaries) (rolls : Rolls) → IsSight summaries rolls → filter_map (beside rolls) summaries ≡ rolls
rolls-beside summaries rolls sight =
    all-beside summaries rolls sight.summaries_ascend sight.rolls_ascend (there-listed summaries rolls sight.listed)

-- what is made of a pair beside a listed region
module _ {S T U : Type 0} (make : ℕ × T → U) (pairs : List (ℕ × T)) where
  abbrev pub made_beside : ℕ × S → Option U
  made_beside listed = option_map make (beside pairs listed)

  pub made-all : (listed : List (ℕ × S)) → filter_map made_beside listed ≡ map make (filter_map (beside pairs) listed)
  made-all [] = refl
  made-all (s ∷ ss) = go (beside pairs s) (made-all ss)
    where
      go : (o : Option (ℕ × T)) → filter_map made_beside ss ≡ map make (filter_map (beside pairs) ss)
          → cons_option (option_map make o) (filter_map made_beside ss) ≡ map make (cons_option o (filter_map (beside pairs) ss))
      go None rest = rest
      go (Some p) rest = ap (λ us. make p ∷ us) rest

-- and what it costs
module _ {S T : Type 0} (cost : ℕ × T → ℕ) (pairs : List (ℕ × T)) where
  abbrev pub cost_beside : ℕ × S → ℕ
  cost_beside listed = option_map_or cost (beside pairs listed) 0

  pub cost-all : (listed : List (ℕ × S)) → sum_by cost_beside listed ≡ sum_by cost (filter_map (beside pairs) listed)
  cost-all [] = refl
  cost-all (s ∷ ss) = sum_by-cons cost_beside s ss ∙ go (beside pairs s) (cost-all ss)
    where
      go : (o : Option (ℕ × T)) → sum_by cost_beside ss ≡ sum_by cost (filter_map (beside pairs) ss)
          → option_map_or cost o 0 + sum_by cost_beside ss ≡ sum_by cost (cons_option o (filter_map (beside pairs) ss))
      go None rest = omega (arith, rest)
      go (Some p) rest = ap (λ n. cost p + n) rest ∙ sym (sum_by-cons cost p (filter_map (beside pairs) ss))

-- what is read at a place
module _ {S T : Type 0} (pairs : List (ℕ × T)) (listed : List (ℕ × S)) (i : ℕ) (d : ℕ × S) (region : ℕ) (o : Option T) (lt : i < length listed)
    (read : option_map (λ (s : ℕ × S). s.0) (slice_get listed i) ≡ Some region) (at : at_region region pairs ≡ o) where
  region-at : (get_or listed i d).0 ≡ region
  region-at = same_Some _ _ (sym (ap (option_map (λ (s : ℕ × S). s.0)) (slice_get-get_or listed i d lt)) ∙ read)

  beside-at : beside pairs (get_or listed i d) ≡ option_map (λ (t : T). (region, t)) o
  beside-at =
      ap (λ r. option_map (λ (t : T). (r, t)) (at_region r pairs)) region-at ∙ ap (option_map (λ (t : T). (region, t))) at

  pub made-at : {U : Type 0} (make : ℕ × T → U) → made_beside make pairs (get_or listed i d) ≡ option_map make (option_map (λ (t : T). (region, t)) o)
  made-at make = ap (option_map make) beside-at

  pub cost-at : (cost : ℕ × T → ℕ)
      → cost_beside cost pairs (get_or listed i d) ≡ option_map_or cost (option_map (λ (t : T). (region, t)) o) 0
  cost-at cost = ap (λ b. option_map_or cost b 0) beside-at

-- a part costs no more than the whole
pub sum_by-part : {X : Type 0} (f : X → ℕ) (xs : List X) (i : ℕ) → sum_by f (take i xs) ≤ sum_by f xs
sum_by-part f xs i = omega (arith, sum_by-take-drop f xs i)

-- the known regions of a sight, one after another
module _ (summaries : Summaries) (rolls : Rolls) (sight : IsSight summaries rolls) where
  module _ (i region : ℕ) (o : Option (List Member)) (lt : i < length summaries)
      (read : option_map (λ (pair : ℕ × RegionSummary). pair.0) (slice_get summaries i) ≡ Some region) (at : at_region region rolls ≡ o) where
    first : ℕ × RegionSummary
    first = (slice_get-within summaries i lt).0

    -- one more costs what its roll does
    pub next-cost : (cost : ℕ × List Member → ℕ) → sum_by (cost_beside cost rolls) (take (i + 1) summaries)
        ≡ sum_by (cost_beside cost rolls) (take i summaries) + option_map_or cost (option_map (λ (roll : List Member). (region, roll)) o) 0
    next-cost cost =
        sum_by_more (cost_beside cost rolls) summaries i first lt
        ∙ ap (λ n. sum_by (cost_beside cost rolls) (take i summaries) + n) (cost-at rolls summaries i first region o lt read at cost)

    -- and one that isn't known gives nothing
    pub next-none : {U : Type 0} (make : ℕ × List Member → U) (made : List U) → o ≡ None
        → made ≡ filter_map (made_beside make rolls) (take i summaries) → made ≡ filter_map (made_beside make rolls) (take (i + 1) summaries)
    next-none make made none so_far =
        filter_map-none (made_beside make rolls) summaries i first [] made lt
        (made-at rolls summaries i first region o lt read at make ∙ ap (λ p. option_map make (option_map (λ (roll : List Member). (region, roll)) p)) none)
        so_far

    -- one that is known gives what is made of its roll
    pub next-made : {U : Type 0} (make : ℕ × List Member → U) (roll : List Member) (before after : List U) → o ≡ Some roll
        → before ≡ filter_map (made_beside make rolls) (take i summaries) → after ≡ before ++ make (region, roll) ∷ []
        → after ≡ filter_map (made_beside make rolls) (take (i + 1) summaries)
    next-made make roll before after some so_far pushed =
        filter_map-some (made_beside make rolls) summaries i first (make (region, roll)) [] before after lt
        (made-at rolls summaries i first region o lt read at make ∙ ap (λ p. option_map make (option_map (λ (r : List Member). (region, r)) p)) some)
        so_far pushed

  -- some of them cost no more than all
  pub part-cost : (cost : ℕ × List Member → ℕ) (i : ℕ) → sum_by (cost_beside cost rolls) (take i summaries) ≤ sum_by cost rolls
  part-cost cost i =
      let all : sum_by (cost_beside cost rolls) summaries ≡ sum_by cost rolls =
      cost-all cost rolls summaries ∙ ap (sum_by cost) (rolls-beside summaries rolls sight) in
      omega (arith, sum_by-part (cost_beside cost rolls) summaries i, all)

  -- and of all of them all is made
  pub all-made : {U : Type 0} (make : ℕ × List Member → U) (made : List U) (i : ℕ) → length summaries ≤ i
      → made ≡ filter_map (made_beside make rolls) (take i summaries) → made ≡ map make rolls
  all-made make made i le so_far =
      so_far
      ∙ (ap (filter_map (made_beside make rolls)) (take_all i summaries le)
      ∙ (made-all make rolls summaries ∙ ap (map make) (rolls-beside summaries rolls sight)))
