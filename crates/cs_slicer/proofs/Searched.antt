-- Rows in order, and a region of them: its rows stand one behind the other.
use Rattle.std.proofs.Common.{◌≡◌, ℕ, ◌+◌, ◌<◌, ◌≤◌, ◌==◌, Bool, true, false, List, [], ◌∷◌, length, get_or, take, drop}
use Rattle.std.proofs.Common.{nat_lt, nat_le, refl, sym, ap, ◌∙◌, arith}
use Rattle.std.specs.List.{AllByRecursion, filter}
use Rattle.std.specs.List.Sorted.{IsNonDecreasingBy, IsPartitionPoint}
use Rattle.std.proofs.lemmas.Bool.{ne_eqb, eq-eqb, ltb-true, leb-true, ltb-false, leb-false}
use Rattle.std.proofs.Common.{append-nil}
use Rattle.std.proofs.lemmas.List.{take-append-drop, length-take, length-drop, get_or-take, get_or-drop}
use Rattle.std.proofs.lemmas.Bool.Decides.{nat_tests}
use Rattle.std.proofs.lemmas.List.Elements.{filter-append}
use Rattle.cs_base.proofs.Ascending.{All-from_places}
use Rattle.cs_group.specs.Rows.{IsInOrder, is_before, rows_in}
use Rattle.cs_group.specs.declared.row.Row.{Row}
use Rattle.cs_group.proofs.Members.{AllPairs-from_pairwise}

-- a filter that all pass keeps all
pub filter-all : {T : Type 0} (p : T → Bool) (xs : List T) → AllByRecursion (λ x. p x ≡ true) xs → filter p xs ≡ xs
filter-all p [] all = refl
filter-all p (x ∷ xs) all = rw all.0 (ap (λ ys. x ∷ ys) (filter-all p xs all.1))

-- and one that none passes keeps none
pub filter-none : {T : Type 0} (p : T → Bool) (xs : List T) → AllByRecursion (λ x. p x ≡ false) xs → filter p xs ≡ []
filter-none p [] all = refl
filter-none p (x ∷ xs) all = rw all.0 (filter-none p xs all.1)

-- of two rows the first is in no higher region
before-rises : (r s : Row) → is_before r s ≡ true → r.region ≤ s.region
before-rises r s e = grind (arith, nat_tests)

-- rows in order have regions that don't fall
pub regions-rise : (rows : List Row) → IsInOrder rows → IsNonDecreasingBy (λ (r : Row). r.region) rows
regions-rise rows up i j d le lt = by_place (nat_lt i j) refl
  where
    by_place : (b : Bool) → nat_lt i j ≡ b → (get_or rows i d).region ≤ (get_or rows j d).region
    by_place true e =
        let before : is_before (get_or rows i d) (get_or rows j d) ≡ true =
        AllPairs-from_pairwise (λ (r : Row) s. is_before r s ≡ true) rows up i j d (ltb-true i j e) lt in
        before-rises (get_or rows i d) (get_or rows j d) before
    by_place false e =
        let same : i ≡ j = omega (arith, le, ltb-false i j e) in
        rw same (omega arith)

module _ (region : ℕ) (rows : List Row) (start size : ℕ) where
  abbrev pub is_lower : Row → Bool
  is_lower r = nat_lt r.region region

  abbrev pub is_at_most : Row → Bool
  is_at_most r = nat_le r.region region

  abbrev is_there : Row → Bool
  is_there r = r.region == region

  abbrev rest : List Row
  rest = drop start rows

  module _ (first : IsPartitionPoint (λ r. is_lower r ≡ true) (λ r. is_lower r ≡ false) rows start) (start_in : start ≤ length rows)
      (second : IsPartitionPoint (λ r. is_at_most r ≡ true) (λ r. is_at_most r ≡ false) (drop start rows) size)
      (size_in : size ≤ length (drop start rows)) where
    none_before : filter is_there (take start rows) ≡ []
    none_before =
        filter-none is_there (take start rows) (All-from_places (λ r. is_there r ≡ false) (take start rows) (λ i d lt.
        let inside : i < start = omega (arith, length-take {A = Row} start rows) in
        let low : is_lower (get_or rows i d) ≡ true = first.0 i d (omega arith) inside in
        let below = ltb-true (get_or rows i d).region region low in
        rw (get_or-take start rows i d inside) (ne_eqb (get_or rows i d).region region (λ e. omega (arith, below, e)))))

    all_there : filter is_there (take size rest) ≡ take size rest
    all_there =
        filter-all is_there (take size rest) (All-from_places (λ r. is_there r ≡ true) (take size rest) (λ i d lt.
        let inside : i < size = omega (arith, length-take {A = Row} size rest) in
        let long : start + i < length rows = omega (arith, length-drop {A = Row} start rows, size_in, inside) in
        let high = second.0 i d (omega arith) inside in
        let low : is_lower (get_or rows (start + i) d) ≡ false = first.1 (start + i) d (omega arith) long in
        let at : get_or rest i d ≡ get_or rows (start + i) d = get_or-drop start rows i d in
        let most : (get_or rows (start + i) d).region ≤ region = leb-true (get_or rows (start + i) d).region region (rw at at high) in
        let least : region ≤ (get_or rows (start + i) d).region = ltb-false (get_or rows (start + i) d).region region low in
        rw (get_or-take size rest i d inside, at) (eq-eqb (get_or rows (start + i) d).region region (omega (arith, most, least)))))

    none_behind : filter is_there (drop size rest) ≡ []
    none_behind =
        filter-none is_there (drop size rest) (All-from_places (λ r. is_there r ≡ false) (drop size rest) (λ i d lt.
        let long : size + i < length rest = omega (arith, length-drop {A = Row} size rest, size_in) in
        let above : is_at_most (get_or rest (size + i) d) ≡ false = second.1 (size + i) d (omega arith) long in
        let more = leb-false (get_or rest (size + i) d).region region above in
        rw (get_or-drop size rest i d) (ne_eqb (get_or rest (size + i) d).region region (λ e. omega (arith, more, e)))))

    -- so the rows between are those of the region
    pub rows-between : take size (drop start rows) ≡ rows_in region rows
    rows-between =
        let behind : filter is_there rest ≡ take size rest =
        ap (filter is_there) (sym (take-append-drop size rest))
        ∙ (filter-append is_there (take size rest) (drop size rest) ∙ (rw (all_there, none_behind) (append-nil (take size rest)))) in
        sym (ap (filter is_there) (sym (take-append-drop start rows))
        ∙ (filter-append is_there (take start rows) rest ∙ rw none_before behind))
