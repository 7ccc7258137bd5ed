-- The nearest of some keys with sums.
use Rattle.std.specs.Prelude.{ℕ, List, Option}
use Rattle.std.specs.declared.cmp.Ordering.{Ordering}
use Rattle.std.specs.List.{find, list_all}
use Rattle.std.specs.Ordering.{nat_cmp, ordering_then, is_le}
use Rattle.cs_base.specs.Total.{Total}
use Rattle.cs_near.specs.Distance.{distance_cmp}

-- of two the nearer one is below, and of two that are as near the one with the lower key
abbrev pub nearness_cmp : {T : Type 0} → (T → ℕ) → (T → Total) → Total → T → T → Ordering
nearness_cmp key sum from a b = ordering_then (distance_cmp from (sum a) (sum b)) (nat_cmp (key a) (key b))

-- the one that is below no other: it is at most as far away as each, and of those as near it has the least key
abbrev pub nearest : {T : Type 0} → (T → ℕ) → (T → Total) → Total → List T → Option T
nearest key sum from ts = find (λ t. list_all (λ u. is_le (nearness_cmp key sum from t u)) ts) ts
