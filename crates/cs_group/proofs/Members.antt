-- The members of a region: how many there are, that their ids are distinct, and how many a region to be cut has.
use Rattle.std.proofs.Common.{◌≡◌, ◌≢◌, ℕ, zero, suc, ◌<◌, ◌≤◌, ◌==◌, Bool, true, false, cond, if◌then◌else◌, nat_lt, nat_le}
use Rattle.std.proofs.Common.{List, [], ◌∷◌, length, get_or, Option, Some, None}
use Rattle.std.proofs.Common.{refl, subst, arith}
use Rattle.std.specs.List.{AllByRecursion, filter, find, list_all}
use Rattle.std.specs.Option.{option_map}
use Rattle.std.proofs.lemmas.Bool.{and_parts, ltb-true}
use Rattle.std.proofs.lemmas.List.{length-map}
use Rattle.cs_base.specs.Limits.{cut_above, most_regions}
use Rattle.cs_base.specs.declared.member.Member.{Member}
use Rattle.cs_base.proofs.Ascending.{All-at}
use Rattle.cs_near.specs.declared.keyed.RegionSum.{RegionSum}
use Rattle.cs_base.specs.Ascending.{IsDistinctBy}
use Rattle.cs_near.proofs.Found.{find-holds}
use Rattle.cs_group.specs.declared.row.Row.{Row}
use Rattle.cs_group.specs.Cut.{is_largest, region_to_cut}
use Rattle.cs_group.specs.Place.{region_sums, sum_in}
use Rattle.cs_group.specs.Rows.{HasDistinctIds, IsPairwise, members_in, rows_in, regions}
use Rattle.cs_group.proofs.Lists.{ByRecursion-map, IsPairwise-filter, IsPairwise-map, distinct-from_pairwise, pairwise-from_distinct}

-- a filter keeps at most all
pub length-filter-le : {T : Type 0} (p : T → Bool) (xs : List T) → length (filter p xs) ≤ length xs
length-filter-le p [] = omega arith
length-filter-le p (x ∷ xs) =
    let rest = length-filter-le p xs in
    elim (p x) as (λ b. length (cond b (x ∷ filter p xs) (filter p xs)) ≤ suc (length xs)) [ true ↦ omega (arith, rest) | false ↦ omega (arith, rest) ]

-- a region has at most all members
pub length-members_in-le : (region : ℕ) (rows : List Row) → length (members_in region rows) ≤ length rows
length-members_in-le region rows =
    omega (arith, length-map (rows_in region rows) (λ (r : Row). r.member), length-filter-le (λ (r : Row). r.region == region) rows)

-- what holds of each two holds at each two places
pub AllPairs-from_pairwise : {T : Type 0} (R : T → T → Type 0) (xs : List T) → IsPairwise R xs
    → (i j : ℕ) (d : T) → i < j → j < length xs → R (get_or xs i d) (get_or xs j d)
AllPairs-from_pairwise R [] each i j d lt in_range = absurd (omega arith)
AllPairs-from_pairwise R (x ∷ xs) each i zero d lt in_range = absurd (omega arith)
AllPairs-from_pairwise R (x ∷ xs) each zero (suc j) d lt in_range = All-at (R x) xs each.0 j d (omega arith)
AllPairs-from_pairwise R (x ∷ xs) each (suc i) (suc j) d lt in_range = AllPairs-from_pairwise R xs each.1 i j d (omega arith) (omega arith)

-- ids in a region are distinct
pub IsDistinctBy-members_in : (region : ℕ) (rows : List Row) → HasDistinctIds rows → IsDistinctBy (λ (m : Member). m.id) (members_in region rows)
IsDistinctBy-members_in region rows distinct =
    distinct-from_pairwise (λ (m : Member). m.id) (members_in region rows)
    (IsPairwise-map (λ (r : Row). r.member) (λ (m : Member) k. m.id ≢ k.id) (rows_in region rows)
    (IsPairwise-filter (λ (r : Row) s. r.member.id ≢ s.member.id) (λ (r : Row). r.region == region) rows
    (pairwise-from_distinct (λ (r : Row). r.member.id) rows distinct)))

-- the sum beside a region counts its members
sums-count : (rows : List Row) → AllByRecursion (λ (t : RegionSum). t.sum.count ≡ length (members_in t.region rows)) (region_sums rows)
sums-count rows =
    ByRecursion-map (sum_in rows) (λ (t : RegionSum). t.sum.count ≡ length (members_in t.region rows)) (regions rows)
    (each (regions rows))
  where
    each : (ns : List ℕ) → AllByRecursion (λ n. length (members_in n rows) ≡ length (members_in n rows)) ns
    each [] = tt
    each (n ∷ ns) = (refl, each ns)

-- what a choice of a region chose
chosen : (b : Bool) (o : Option RegionSum) (region : ℕ) → (if b then option_map (λ (t : RegionSum). t.region) o else None) ≡ Some region
    → (t : RegionSum) × (o ≡ Some t) × (t.region ≡ region)
chosen true (Some t) region e = (t, refl, (cc))
chosen true None region e = absurd (cc)
chosen false o region e = absurd (cc)

-- a region that is to be cut has members enough for two
pub region_to_cut-many : (rows : List Row) (region : ℕ) → region_to_cut rows ≡ Some region → 2 ≤ length (members_in region rows)
region_to_cut-many rows region due =
    let sums = region_sums rows in
    let choice = chosen (nat_lt (length sums) most_regions) (find (is_largest sums) sums) region due in
    let t = choice.0 in
    let held = find-holds (λ (u : RegionSum). u.sum.count ≡ length (members_in u.region rows)) (is_largest sums) sums t (sums-count rows) choice.1 in
    let parts = and_parts (nat_lt cut_above t.sum.count) (list_all (λ (u : RegionSum). nat_le u.sum.count t.sum.count) sums) held.1 in
    let many = ltb-true cut_above t.sum.count parts.0 in
    let P : ℕ → Type 0 = λ n. 2 ≤ length (members_in n rows) in
    subst P choice.2 (omega (arith, held.0, many))
