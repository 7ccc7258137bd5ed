-- Which regions rows have: those with members.
use Rattle.std.proofs.Common.{◌≡◌, ℕ, ◌<◌, ◌==◌, ◌||◌, Bool, true, false, if◌then◌else◌, List, [], ◌∷◌, length, map, nat_lt, refl, sym, ap, ◌∙◌, arith}
use Rattle.std.proofs.Math.Bool.{or-false}
use Rattle.std.specs.List.{AllByRecursion, fold, list_any}
use Rattle.std.proofs.lemmas.Bool.{ltb-true, lt-ltb}
use Rattle.std.proofs.lemmas.Bool.Decides.{nat_tests}
use Rattle.cs_base.specs.Ascending.{placed_by}
use Rattle.cs_group.specs.declared.row.Row.{Row}
use Rattle.cs_group.specs.Group.{is_among}
use Rattle.cs_group.specs.Rows.{members_in, placed, regions, rows_in}

-- whether some row is of the region
abbrev pub has_row : ℕ → List Row → Bool
has_row n rows = list_any (λ (r : Row). r.region == n) rows

-- a number is among some and a placed one where it is that or one of them
pub among-placed : (m n : ℕ) (ns : List ℕ) → is_among (placed_by (λ k. k) m ns) n ≡ ((m == n) || is_among ns n)
among-placed m n [] = refl
among-placed m n (k ∷ ks) = (let rest = among-placed m n ks in grind (arith, nat_tests))

-- of three tests the second may come first
pub or-second : (a b c : Bool) → ((a || b) || c) ≡ (b || (a || c))
or-second true true c = refl
or-second true false c = refl
or-second false b c = refl

-- the regions of rows are added to those that are known
among-fold : (n : ℕ) (known : List ℕ) (rows : List Row)
    → is_among (fold (λ ns (r : Row). placed_by (λ k. k) r.region ns) known rows) n ≡ (has_row n rows || is_among known n)
among-fold n known [] = refl
among-fold n known (r ∷ rs) =
    among-fold n (placed_by (λ k. k) r.region known) rs
    ∙ (ap (λ b. has_row n rs || b) (among-placed r.region n known) ∙ sym (or-second (r.region == n) (has_row n rs) (is_among known n)))

-- a region is one that has a row
pub among-has_row : (n : ℕ) (rows : List Row) → is_among (regions rows) n ≡ has_row n rows
among-has_row n rows = among-fold n [] rows ∙ or-false (has_row n rows)

-- and so one that has members
has_row-members : (n : ℕ) (rows : List Row) → has_row n rows ≡ nat_lt 0 (length (members_in n rows))
has_row-members n [] = refl
has_row-members n (r ∷ rs) =
    elim (r.region == n) as (λ b. (b || has_row n rs) ≡ nat_lt 0 (length (map (λ (s : Row). s.member) (if b then r ∷ rows_in n rs else rows_in n rs)))) [
      | true ↦ sym (lt-ltb 0 _ (omega arith))
      | false ↦ has_row-members n rs
    ]

-- a region is one that has members
pub among-members : (n : ℕ) (rows : List Row) → is_among (regions rows) n ≡ nat_lt 0 (length (members_in n rows))
among-members n rows = among-has_row n rows ∙ has_row-members n rows

-- what is not a region has no members
empty-from_length : {T : Type 0} (xs : List T) → nat_lt 0 (length xs) ≡ false → xs ≡ []
empty-from_length [] e = refl
empty-from_length (x ∷ xs) e = absurd (let some : nat_lt 0 (length (x ∷ xs)) ≡ true = lt-ltb 0 _ (omega arith) in cc)

-- so what is no region has no members
pub members-none : (n : ℕ) (rows : List Row) → is_among (regions rows) n ≡ false → members_in n rows ≡ []
members-none n rows e = empty-from_length (members_in n rows) (sym (among-members n rows) ∙ e)

-- what is one has some
pub members-some : (n : ℕ) (rows : List Row) → is_among (regions rows) n ≡ true → 0 < length (members_in n rows)
members-some n rows e = ltb-true 0 (length (members_in n rows)) (sym (among-members n rows) ∙ e)

-- what has some is one
pub among-some : (n : ℕ) (rows : List Row) → 0 < length (members_in n rows) → is_among (regions rows) n ≡ true
among-some n rows some = among-members n rows ∙ lt-ltb 0 (length (members_in n rows)) some

-- what has none is no region
pub among-none : (n : ℕ) (rows : List Row) → members_in n rows ≡ [] → is_among (regions rows) n ≡ false
among-none n rows none = among-members n rows ∙ ap (λ (ms : List _). nat_lt 0 (length ms)) none

-- where no row is of the region, it has no members
pub has_row-none : (n : ℕ) (rows : List Row) → AllByRecursion (λ (r : Row). (r.region == n) ≡ false) rows → has_row n rows ≡ false
has_row-none n [] all = refl
has_row-none n (r ∷ rs) all = (let rest = has_row-none n rs all.1 in rw all.0 rest)

-- a row that is placed is of its region, and the others stay
pub has_row-placed : (n : ℕ) (r : Row) (rows : List Row) → has_row n rows ≡ true → has_row n (placed r rows) ≡ true
has_row-placed n r [] some = absurd (cc)
has_row-placed n r (s ∷ ss) some = (let rest = has_row-placed n r ss in grind (arith, nat_tests, rest))
