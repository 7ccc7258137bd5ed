-- A step by a head that changes nothing of what is seen.
use Rattle.std.proofs.Common.{◌≡◌, ◌∙◌, ℕ, ◌<◌, ◌&&◌, Bool, true, false, not, List, [], ◌∷◌, ◌++◌, refl, sym, ap, subst, arith}
use Rattle.std.specs.List.{AllByRecursion, filter, flat_map}
use Rattle.std.proofs.lemmas.Bool.{not-true}
use Rattle.std.proofs.lemmas.Bool.Decides.{nat_tests}
use Rattle.std.proofs.lemmas.List.{append-nil, append_assoc}
use Rattle.cs_base.specs.Ascending.{placed_by}
use Rattle.cs_item.specs.declared.head.Head.{Head}
use Rattle.cs_item.specs.declared.part.Part.{Part}
use Rattle.cs_roll.specs.Sight.{IsByRegion, Rolls, Summaries}
use Rattle.cs_view.specs.Step.{given, is_among, leaves_all, next_rolls, next_summaries, placed_each}

-- where nothing is dropped all pairs stay
none-dropped : {T : Type 0} (pairs : List (ℕ × T)) → filter (λ (pair : ℕ × T). not (is_among [] pair.0)) pairs ≡ pairs
none-dropped [] = refl
none-dropped (pair ∷ pairs) = ap (λ rest. pair ∷ rest) (none-dropped pairs)

-- and where none is put in either, the summaries are those from before
pub same-summaries : (summaries : Summaries) (head : Head) → head.dropped ≡ [] → head.summaries ≡ []
    → next_summaries summaries head ≡ summaries
same-summaries summaries head dropped put =
    ap (λ more. placed_each more (filter (λ pair. not (is_among head.dropped pair.0)) summaries)) put
    ∙ ap (λ ns. filter (λ pair. not (is_among ns pair.0)) summaries) dropped ∙ none-dropped summaries

-- what holds of all holds of the one in the middle
All-middle : {T : Type 0} (P : T → Type 0) (xs : List T) (y : T) (ys : List T) → AllByRecursion P (xs ++ y ∷ ys) → P y
All-middle P [] y ys all = all.0
All-middle P (x ∷ xs) y ys all = All-middle P xs y ys all.1

module _ {T : Type 0} where
  region_of : ℕ × T → ℕ
  region_of pair = pair.0

  -- those in front of a pair are of lower regions
  lower : (before : List (ℕ × T)) (pair : ℕ × T) (pairs : List (ℕ × T)) → IsByRegion (before ++ pair ∷ pairs)
      → AllByRecursion (λ (p : ℕ × T). p.0 < pair.0) before
  lower [] pair pairs up = tt
  lower (first ∷ before) pair pairs up =
      (All-middle (λ (p : ℕ × T). first.0 < p.0) before pair pairs up.0, lower before pair pairs up.1)

  -- a pair of a higher region is placed behind all
  placed-last : (before : List (ℕ × T)) (pair : ℕ × T) → AllByRecursion (λ (p : ℕ × T). p.0 < pair.0) before
      → placed_by (λ (p : ℕ × T). p.0) pair before ≡ before ++ pair ∷ []
  placed-last [] pair below = refl
  placed-last (first ∷ before) pair below = grind (arith, nat_tests, placed-last before pair below.1)

  -- so pairs that ascend behind others come behind them
  placed-each : (pairs before : List (ℕ × T)) → IsByRegion (before ++ pairs) → placed_each pairs before ≡ before ++ pairs
  placed-each [] before up = sym (append-nil before)
  placed-each (pair ∷ pairs) before up =
      let here : placed_by (λ (p : ℕ × T). p.0) pair before ≡ before ++ pair ∷ [] =
      placed-last before pair (lower before pair pairs up) in
      ap (placed_each pairs) here
      ∙ placed-each pairs (before ++ pair ∷ []) (subst IsByRegion (sym (append_assoc before (pair ∷ []) pairs)) up)
      ∙ append_assoc before (pair ∷ []) pairs

-- both sides of a conjunction that holds
both : (x y : Bool) → (x && y) ≡ true → (x ≡ true) × (y ≡ true)
both true y holds = (refl, holds)
both false y holds = absurd (cc)

-- where none of the known regions is touched or dropped, each gives its roll
each-given : (all rolls : Rolls) (head : Head) (parts : List Part) → leaves_all head rolls ≡ true
    → flat_map (given all head parts) rolls ≡ rolls
each-given all [] head parts left = refl
each-given all (pair ∷ rolls) head parts left =
    let first = both _ _ left in
    let stays = both _ _ first.0 in
    let touched : is_among head.touched pair.0 ≡ false = not-true (is_among head.touched pair.0) stays.0 in
    let dropped : is_among head.dropped pair.0 ≡ false = not-true (is_among head.dropped pair.0) stays.1 in
    let here : given all head parts pair ≡ pair ∷ [] = rw (touched, dropped) refl in
    ap (λ gives. gives ++ flat_map (given all head parts) rolls) here ∙ ap (λ rest. pair ∷ rest) (each-given all rolls head parts first.1)

-- and the rolls are those from before
pub same-rolls : (rolls : Rolls) (head : Head) (parts : List Part) → IsByRegion rolls → leaves_all head rolls ≡ true
    → next_rolls rolls head parts ≡ rolls
same-rolls rolls head parts up left =
    ap (λ gives. placed_each gives []) (each-given rolls rolls head parts left) ∙ placed-each rolls [] up
