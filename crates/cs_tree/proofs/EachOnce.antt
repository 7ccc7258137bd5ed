-- Targets, each id once.
use Rattle.std.proofs.Common.{◌≡◌, ℕ, ◌<◌, List, [], ◌∷◌, ◌++◌, refl, ap, ◌∙◌, arith}
use Rattle.std.specs.List.{AllByRecursion}
use Rattle.std.proofs.lemmas.Bool.Decides.{nat_tests}
use Rattle.cs_base.specs.Ascending.{IsAscendingBy, placed_by}
use Rattle.cs_base.proofs.Ascending.{All-placed, IsAscendingBy-placed}
use Rattle.cs_roll.specs.Sight.{Rolls, Summaries, at_region}
use Rattle.cs_tree.specs.Inter.{inter_tree}
use Rattle.cs_tree.specs.Route.{Target, each_once, is_node, representative_at, route, target_id, to_known, to_regions}

-- what holds of all that are offered holds of those that stay
pub All-each_once : (P : Target → Type 0) (ts : List Target) → AllByRecursion P ts → AllByRecursion P (each_once ts)
All-each_once P [] all = tt
All-each_once P (t ∷ ts) all = All-placed target_id P t (each_once ts) all.0 (All-each_once P ts all.1)

-- they ascend
IsAscendingBy-each_once : (ts : List Target) → IsAscendingBy target_id (each_once ts)
IsAscendingBy-each_once [] = tt
IsAscendingBy-each_once (t ∷ ts) = IsAscendingBy-placed target_id t (each_once ts) (IsAscendingBy-each_once ts)

-- a target below all others is placed in front
placed-front : (t : Target) (ts : List Target) → AllByRecursion (λ u. target_id t < target_id u) ts → placed_by target_id t ts ≡ t ∷ ts
placed-front t [] below = refl
placed-front t (u ∷ us) below = grind (arith, nat_tests, below.0)

-- so those that ascend all stay
each_once-ascending : (ts : List Target) → IsAscendingBy target_id ts → each_once ts ≡ ts
each_once-ascending [] up = refl
each_once-ascending (t ∷ ts) up = ap (placed_by target_id t) (each_once-ascending ts up.1) ∙ placed-front t ts up.0

-- and those of a route
pub each_once-route : (me : ℕ) (summaries : Summaries) (rolls : Rolls) (region colour : ℕ)
    → each_once (route me summaries rolls region colour) ≡ route me summaries rolls region colour
each_once-route me summaries rolls region colour =
    let stands = is_node me (representative_at colour summaries region) in
    let offered = to_regions me summaries region colour (inter_tree colour summaries) ++ to_known me stands colour (at_region region rolls) in
    each_once-ascending (each_once offered) (IsAscendingBy-each_once offered)
