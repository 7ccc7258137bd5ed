-- The regions of rows: what holds of each row's region, how many there can be, and that none is without members.
use Rattle.std.proofs.Common.{◌≡◌, ℕ, suc, ◌<◌, ◌≤◌, ◌==◌, true, false, if◌then◌else◌, List, [], ◌∷◌, length, map, nat_lt}
use Rattle.std.proofs.Common.{refl, arith}
use Rattle.std.specs.List.{AllByRecursion, fold}
use Rattle.std.proofs.lemmas.Bool.{cond_both, eq-eqb}
use Rattle.cs_base.specs.Ascending.{IsAscending, placed_by}
use Rattle.cs_base.proofs.Ascending.{IsAscendingBy-placed, All-placed}
use Rattle.cs_group.specs.declared.row.Row.{Row}
use Rattle.cs_group.specs.Rows.{members_in, rows_in, regions}
use Rattle.cs_group.proofs.Lists.{ByRecursion-weaken}

-- a placed number makes a list longer by at most one
pub length-placed_number : (n : ℕ) (ns : List ℕ) → length (placed_by (λ m. m) n ns) ≤ suc (length ns)
length-placed_number n [] = omega arith
length-placed_number n (m ∷ ms) =
    let rest = length-placed_number n ms in
    elim (nat_lt n m) as (λ b. length (if b then n ∷ m ∷ ms else (if n == m then n ∷ ms else m ∷ placed_by (λ k. k) n ms)) ≤ suc (suc (length ms))) [
      | true ↦ omega arith
      | false ↦ elim (n == m) as (λ b. length (if b then n ∷ ms else m ∷ placed_by (λ k. k) n ms) ≤ suc (suc (length ms))) [
        | true ↦ omega arith
        | false ↦ omega (arith, rest)
      ]
    ]

-- what holds of the region of each row holds of each region
regions-from : (P : ℕ → Type 0) (known : List ℕ) (rows : List Row) → AllByRecursion P known → AllByRecursion (λ (r : Row). P r.region) rows
    → AllByRecursion P (fold (λ ns (r : Row). placed_by (λ n. n) r.region ns) known rows)
regions-from P known [] before all = before
regions-from P known (r ∷ rs) before all =
    regions-from P (placed_by (λ n. n) r.region known) rs (All-placed (λ m. m) P r.region known all.0 before) all.1

pub ByRecursion-regions : (P : ℕ → Type 0) (rows : List Row) → AllByRecursion (λ (r : Row). P r.region) rows → AllByRecursion P (regions rows)
ByRecursion-regions P rows all = regions-from P [] rows tt all

-- the regions ascend
ascending-from : (known : List ℕ) (rows : List Row) → IsAscending known → IsAscending (fold (λ ns (r : Row). placed_by (λ n. n) r.region ns) known rows)
ascending-from known [] up = up
ascending-from known (r ∷ rs) up = ascending-from (placed_by (λ n. n) r.region known) rs (IsAscendingBy-placed (λ n. n) r.region known up)

pub IsAscending-regions : (rows : List Row) → IsAscending (regions rows)
IsAscending-regions rows = ascending-from [] rows tt

-- the region of each row has that row's member
no_region_empty-more : (n : ℕ) (r : Row) (rs : List Row) → 0 < length (members_in n rs) → 0 < length (members_in n (r ∷ rs))
no_region_empty-more n r rs some =
    cond_both (r.region == n) (r ∷ rows_in n rs) (rows_in n rs) (λ (kept : List Row). 0 < length (map (λ (t : Row). t.member) kept))
    (λ e. omega arith) (λ e. some)

pub no_region_empty-here : (r : Row) (rs : List Row) → 0 < length (members_in r.region (r ∷ rs))
no_region_empty-here r rs =
    let here : (r.region == r.region) ≡ true = eq-eqb r.region r.region refl in
    rw here (omega arith)

rows_have_members : (rows : List Row) → AllByRecursion (λ (r : Row). 0 < length (members_in r.region rows)) rows
rows_have_members [] = tt
rows_have_members (r ∷ rs) = (
  no_region_empty-here r rs,
  ByRecursion-weaken (λ (s : Row). 0 < length (members_in s.region rs)) (λ (s : Row). 0 < length (members_in s.region (r ∷ rs)))
      (λ s some. no_region_empty-more s.region r rs some) rs (rows_have_members rs),
)

-- so no region is without members
pub no_region_empty : (rows : List Row) → AllByRecursion (λ n. 0 < length (members_in n rows)) (regions rows)
no_region_empty rows = ByRecursion-regions (λ n. 0 < length (members_in n rows)) rows (rows_have_members rows)
