-- What a search by region finds.
use Rattle.std.proofs.Common.{◌≡◌, ℕ, List, [], ◌∷◌, length, Result, Ok, Err, slice_get, sym, ap, ◌∙◌, arith}
use Rattle.std.specs.List.Sorted.{IsSearchInRange, IsBinarySearchResult}
use Rattle.std.specs.Option.{option_map, option_and_then}
use Rattle.std.specs.Ordering.{nat_cmp}
use Rattle.std.specs.Result.{result_ok}
use Rattle.std.proofs.lemmas.Option.{slice_get-get_or}
use Rattle.cs_roll.specs.Sight.{IsByRegion, at_region}
use Rattle.cs_base.proofs.Ascending.{IsAt, searched, find-at, find-gap}

-- what stands beside the region at its place
at_region-at : {T : Type 0} (region : ℕ) (pairs : List (ℕ × T)) (i : ℕ) → IsByRegion pairs → IsAt (λ (pair : ℕ × T). pair.0) region pairs i
    → option_map (λ (pair : ℕ × T). pair.1) (slice_get pairs i) ≡ at_region region pairs
at_region-at region [] i up at = absurd (omega (arith, at.in_range))
at_region-at {T} region (pair ∷ pairs) i up at =
    ap (option_map (λ (p : ℕ × T). p.1))
    (slice_get-get_or (pair ∷ pairs) i pair at.in_range ∙ sym (find-at (λ (p : ℕ × T). p.0) region (pair ∷ pairs) i pair up at))

-- the search's answer, as a place, leads to what stands beside the region
pub at_region-searched : {T : Type 0} (region : ℕ) (pairs : List (ℕ × T)) (r : Result ℕ ℕ) → IsByRegion pairs → IsSearchInRange r (length pairs)
    → IsBinarySearchResult (λ (pair : ℕ × T). nat_cmp pair.0 region) pairs r
    → option_and_then (λ place. option_map (λ (pair : ℕ × T). pair.1) (slice_get pairs place)) (result_ok r) ≡ at_region region pairs
at_region-searched {T} region pairs (Ok i) up in_range position =
    at_region-at region pairs i up (searched (λ (pair : ℕ × T). pair.0) region pairs (Ok i) up in_range position).found
at_region-searched {T} region pairs (Err i) up in_range position =
    let gap = (searched (λ (pair : ℕ × T). pair.0) region pairs (Err i) up in_range position).absent in
    sym (ap (option_map (λ (p : ℕ × T). p.1)) (find-gap (λ (pair : ℕ × T). pair.0) region pairs i gap))
