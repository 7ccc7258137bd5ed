-- Rows with one placed or taken out: who is there then, and where.
use Rattle.std.proofs.Common.{◌≡◌, ◌≢◌, ℕ, ◌+◌, ◌<◌, ◌≤◌, ◌==◌, ◌||◌, Bool, true, false, not, cond, if◌then◌else◌, List, [], ◌∷◌, length}
use Rattle.std.proofs.Common.{Option, Some, None, refl, sym, ap, subst, ◌∙◌, arith}
use Rattle.std.specs.List.{AllByRecursion}
use Rattle.std.specs.Option.{is_some, option_map}
use Rattle.std.proofs.lemmas.Bool.{eqb-true, eqb-false, ne_eqb}
use Rattle.std.proofs.lemmas.Bool.Decides.{nat_tests}
use Rattle.cs_group.specs.declared.row.Row.{Row}
use Rattle.cs_group.specs.Rows.{HasDistinctIds, has_member, is_before, placed, row_of, without}
use Rattle.cs_group.proofs.ListTests.{each_fails}
use Rattle.cs_group.proofs.Lists.{ByRecursion-weaken}
use Rattle.cs_group.proofs.Members.{length-filter-le}

-- an id that is taken out isn't there
pub gone-without : (j : ℕ) (rows : List Row) → has_member j (without j rows) ≡ false
gone-without j [] = refl
gone-without j (r ∷ rs) = (let rest = gone-without j rs in grind (arith, nat_tests))

-- where no row has the id, each has another
pub others-absent : (j : ℕ) (rows : List Row) → has_member j rows ≡ false → AllByRecursion (λ (s : Row). s.member.id ≢ j) rows
others-absent j rows none =
    ByRecursion-weaken (λ (s : Row). (s.member.id == j) ≡ false) (λ (s : Row). s.member.id ≢ j) (λ s e. eqb-false s.member.id j e) rows
    (each_fails (λ (s : Row). s.member.id == j) rows none)

-- and nothing is taken out
pub without-others : (j : ℕ) (rows : List Row) → AllByRecursion (λ (s : Row). s.member.id ≢ j) rows → without j rows ≡ rows
without-others j [] others = refl
without-others j (r ∷ rs) others =
    let other : (r.member.id == j) ≡ false = ne_eqb r.member.id j others.0 in
    rw other (ap (λ rest. r ∷ rest) (without-others j rs others.1))

-- as where none is found
pub without-none : (j : ℕ) (rows : List Row) → row_of j rows ≡ None → without j rows ≡ rows
without-none j [] none = refl
without-none j (r ∷ rs) none = go (r.member.id == j) refl none (without-none j rs)
  where
    go : (b : Bool) → (r.member.id == j) ≡ b → cond b (Some r) (row_of j rs) ≡ None → (row_of j rs ≡ None → without j rs ≡ rs)
        → without j (r ∷ rs) ≡ r ∷ rs
    go true e some rest = absurd (cc)
    go false e later rest = rw e (ap (λ left. r ∷ left) (rest later))

-- where there is no region there is no row
pub no-row : (o : Option Row) → None ≡ option_map (λ (r : Row). r.region) o → None ≡ o
no-row None e = refl
no-row (Some r) e = absurd (cc)

-- at most one row fewer is left
pub length-without-le : (j : ℕ) (rows : List Row) → length (without j rows) ≤ length rows
length-without-le j rows = length-filter-le (λ (r : Row). not (r.member.id == j)) rows

-- a member has a row
pub has-row : (j : ℕ) (rows : List Row) → is_some (option_map (λ (r : Row). r.region) (row_of j rows)) ≡ has_member j rows
has-row j [] = refl
has-row j (r ∷ rs) =
    elim (r.member.id == j) as (λ b. is_some (option_map (λ (s : Row). s.region) (cond b (Some r) (row_of j rs))) ≡ (b || has_member j rs)) [
      | true ↦ refl
      | false ↦ has-row j rs
    ]

-- the row that is found is the member's
pub row_of-id : (j : ℕ) (rows : List Row) (row : Row) → row_of j rows ≡ Some row → row.member.id ≡ j
row_of-id j [] row found = absurd (cc)
row_of-id j (r ∷ rs) row found = go (r.member.id == j) refl found (row_of-id j rs row)
  where
    go : (b : Bool) → (r.member.id == j) ≡ b → cond b (Some r) (row_of j rs) ≡ Some row → (row_of j rs ≡ Some row → row.member.id ≡ j)
        → row.member.id ≡ j
    go true e same rest = (let is : r ≡ row = cc in subst (λ (s : Row). s.member.id ≡ j) is (eqb-true r.member.id j e))
    go false e later rest = rest later

-- and what holds of all rows holds of it
pub row_of-holds : (P : Row → Type 0) (j : ℕ) (rows : List Row) (row : Row) → AllByRecursion P rows → row_of j rows ≡ Some row → P row
row_of-holds P j [] row all found = absurd (cc)
row_of-holds P j (r ∷ rs) row all found = go (r.member.id == j) found (row_of-holds P j rs row all.1)
  where
    go : (b : Bool) → cond b (Some r) (row_of j rs) ≡ Some row → (row_of j rs ≡ Some row → P row) → P row
    go true same rest = (let is : r ≡ row = cc in subst P is all.0)
    go false later rest = rest later

-- where it is found there is a row fewer without it
pub length-without-lt : (j : ℕ) (rows : List Row) (row : Row) → row_of j rows ≡ Some row → length (without j rows) < length rows
length-without-lt j [] row found = absurd (cc)
length-without-lt j (r ∷ rs) row found = go (r.member.id == j) refl found (length-without-lt j rs row)
  where
    go : (b : Bool) → (r.member.id == j) ≡ b → cond b (Some r) (row_of j rs) ≡ Some row
        → (row_of j rs ≡ Some row → length (without j rs) < length rs) → length (without j (r ∷ rs)) < length (r ∷ rs)
    go true e same rest = (let few = length-without-le j rs in rw e (omega (arith, few)))
    go false e later rest = (let few = rest later in rw e (omega (arith, few)))

-- of distinct ids one goes
pub length-without-one : (j : ℕ) (rows : List Row) (row : Row) → HasDistinctIds rows → row_of j rows ≡ Some row
    → length (without j rows) + 1 ≡ length rows
length-without-one j [] row distinct found = absurd (cc)
length-without-one j (r ∷ rs) row distinct found = go (r.member.id == j) refl found (length-without-one j rs row distinct.1)
  where
    go : (b : Bool) → (r.member.id == j) ≡ b → cond b (Some r) (row_of j rs) ≡ Some row
        → (row_of j rs ≡ Some row → length (without j rs) + 1 ≡ length rs) → length (without j (r ∷ rs)) + 1 ≡ length (r ∷ rs)
    go true e same rest =
        let others = ByRecursion-weaken (λ (s : Row). r.member.id ≢ s.member.id) (λ (s : Row). s.member.id ≢ j)
        (λ s ne eq. ne (eqb-true r.member.id j e ∙ sym eq)) rs distinct.0 in
        let left = ap (λ (xs : List Row). length xs) (without-others j rs others) in
        rw e (omega (arith, left))
    go false e later rest = (let fewer = rest later in rw e (omega (arith, fewer)))

-- what is found after a row of a new id is placed
pub row_of-placed : (j : ℕ) (row : Row) (rows : List Row) → AllByRecursion (λ (s : Row). s.member.id ≢ row.member.id) rows
    → row_of j (placed row rows) ≡ (if row.member.id == j then Some row else row_of j rows)
row_of-placed j row [] others = refl
row_of-placed j row (s ∷ ss) others =
    let rest = row_of-placed j row ss others.1 in
    let other : s.member.id ≢ row.member.id = others.0 in
    grind (arith, nat_tests)

-- and after an id is taken out
pub row_of-without : (j i : ℕ) (rows : List Row) → row_of j (without i rows) ≡ (if i == j then None else row_of j rows)
row_of-without j i [] = grind (arith, nat_tests)
row_of-without j i (s ∷ ss) = (let rest = row_of-without j i ss in grind (arith, nat_tests))

-- a function of a list that sees its elements alone, and not their order
module _ {X : Type 0} (f : List Row → X) (same : (r : Row) (xs ys : List Row) → f xs ≡ f ys → f (r ∷ xs) ≡ f (r ∷ ys))
    (swapped : (r s : Row) (xs : List Row) → f (r ∷ s ∷ xs) ≡ f (s ∷ r ∷ xs)) where
  -- sees a placed row as one in front
  pub seen-placed : (row : Row) (rows : List Row) → f (placed row rows) ≡ f (row ∷ rows)
  seen-placed row [] = refl
  seen-placed row (s ∷ ss) =
      elim (is_before row s) as (λ b. f (if b then row ∷ s ∷ ss else s ∷ placed row ss) ≡ f (row ∷ s ∷ ss)) [
        | true ↦ refl
        | false ↦ same s (placed row ss) (row ∷ ss) (seen-placed row ss) ∙ swapped s row ss
      ]

  -- and a row as one in front of those without it
  pub seen-without : (row : Row) (rows : List Row) → HasDistinctIds rows → row_of row.member.id rows ≡ Some row
      → f rows ≡ f (row ∷ without row.member.id rows)
  seen-without row [] distinct found = absurd (cc)
  seen-without row (r ∷ rs) distinct found = go (r.member.id == row.member.id) refl found (seen-without row rs distinct.1)
    where
      go : (b : Bool) → (r.member.id == row.member.id) ≡ b → cond b (Some r) (row_of row.member.id rs) ≡ Some row
          → (row_of row.member.id rs ≡ Some row → f rs ≡ f (row ∷ without row.member.id rs))
          → f (r ∷ rs) ≡ f (row ∷ without row.member.id (r ∷ rs))
      go true e is_first later =
          let is : r ≡ row = cc in
          let others = ByRecursion-weaken (λ (s : Row). r.member.id ≢ s.member.id) (λ (s : Row). s.member.id ≢ row.member.id)
          (λ s ne eq. ne (eqb-true r.member.id row.member.id e ∙ sym eq)) rs distinct.0 in
          let rest : without row.member.id (r ∷ rs) ≡ rs = (rw e (without-others row.member.id rs others)) in
          ap (λ s. f (s ∷ rs)) is ∙ ap (λ xs. f (row ∷ xs)) (sym rest)
      go false e is_later later =
          let rest : without row.member.id (r ∷ rs) ≡ r ∷ without row.member.id rs = rw e refl in
          same r rs (row ∷ without row.member.id rs) (later is_later)
          ∙ (swapped r row (without row.member.id rs) ∙ ap (λ xs. f (row ∷ xs)) (sym rest))
