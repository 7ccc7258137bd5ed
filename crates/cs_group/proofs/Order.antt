-- The order of rows: what a row that is put in its place leaves, and what the members of a region are.
use Rattle.std.proofs.Common.{◌≡◌, ◌≢◌, ℕ, suc, ◌<◌, ◌==◌, true, false, if◌then◌else◌, List, [], ◌∷◌, length, map}
use Rattle.std.proofs.Common.{refl, ap, sym, arith}
use Rattle.std.specs.List.{AllByRecursion}
use Rattle.std.proofs.lemmas.Bool.{cond_both, eqb-true}
use Rattle.std.proofs.lemmas.Bool.Decides.{nat_tests}
use Rattle.cs_base.specs.declared.member.Member.{Member}
use Rattle.cs_group.specs.declared.row.Row.{Row}
use Rattle.cs_group.specs.Rows.{is_before, IsInOrder, HasDistinctIds, placed, members_in, rows_in}
use Rattle.cs_group.proofs.Lists.{ByRecursion-weaken}
use Rattle.cs_roll.specs.Roll.{IsById}

-- the order is transitive
pub before-trans : (q r s : Row) → is_before q r ≡ true → is_before r s ≡ true → is_before q s ≡ true
before-trans q r s first second = grind (arith, nat_tests)

-- of two rows with other ids one is before the other
pub before-other : (r s : Row) → is_before r s ≡ false → s.member.id ≢ r.member.id → is_before s r ≡ true
before-other r s not_before other = grind (arith, nat_tests)

-- a row of a lower region is before one of a higher
pub before-region : (r s : Row) → r.region < s.region → is_before r s ≡ true
before-region r s lt = grind (arith, nat_tests)

-- in one region the ids decide
pub before-id : (r s : Row) → r.region ≡ s.region → is_before r s ≡ true → r.member.id < s.member.id
before-id r s same e = grind (arith, nat_tests)

pub before-from_id : (r s : Row) → r.region ≡ s.region → r.member.id < s.member.id → is_before r s ≡ true
before-from_id r s same lt = grind (arith, nat_tests)

-- what holds of each row and of one more
pub ByRecursion-placed : (P : Row → Type 0) (r : Row) (rows : List Row) → P r → AllByRecursion P rows → AllByRecursion P (placed r rows)
ByRecursion-placed P r [] here all = (here, tt)
ByRecursion-placed P r (s ∷ ss) here all =
    elim (is_before r s) as (λ b. AllByRecursion P (if b then r ∷ s ∷ ss else s ∷ placed r ss)) [
      | true ↦ (here, all)
      | false ↦ (all.0, ByRecursion-placed P r ss here all.1)
    ]

-- a placed row keeps the order, where its id is new
pub IsInOrder-placed : (r : Row) (rows : List Row) → IsInOrder rows → AllByRecursion (λ (s : Row). s.member.id ≢ r.member.id) rows → IsInOrder (placed r rows)
IsInOrder-placed r [] up new = (tt, tt)
IsInOrder-placed r (s ∷ ss) up new =
    let rest = IsInOrder-placed r ss up.1 new.1 in
    cond_both (is_before r s) (r ∷ s ∷ ss) (s ∷ placed r ss) IsInOrder
    (λ e. ((e, ByRecursion-weaken (λ t. is_before s t ≡ true) (λ t. is_before r t ≡ true) (λ t later. before-trans r s t e later) ss up.0), up))
    (λ e. (ByRecursion-placed (λ t. is_before s t ≡ true) r ss (before-other r s e new.0) up.0, rest))

-- and ids stay distinct
pub HasDistinctIds-placed : (r : Row) (rows : List Row) → HasDistinctIds rows → AllByRecursion (λ (s : Row). s.member.id ≢ r.member.id) rows
    → HasDistinctIds (placed r rows)
HasDistinctIds-placed r [] distinct new = (tt, tt)
HasDistinctIds-placed r (s ∷ ss) distinct new =
    elim (is_before r s) as (λ b. HasDistinctIds (if b then r ∷ s ∷ ss else s ∷ placed r ss)) [
      | true ↦ (
        ByRecursion-weaken (λ (t : Row). t.member.id ≢ r.member.id) (λ (t : Row). r.member.id ≢ t.member.id) (λ t ne e. ne (sym e)) (s ∷ ss) new,
        distinct,
      )
      | false ↦ (
        ByRecursion-placed (λ (t : Row). s.member.id ≢ t.member.id) r ss new.0 distinct.0,
        HasDistinctIds-placed r ss distinct.1 new.1,
      )
    ]

-- there is one row more
pub length-placed : (r : Row) (rows : List Row) → length (placed r rows) ≡ suc (length rows)
length-placed r [] = refl
length-placed r (s ∷ ss) =
    elim (is_before r s) as (λ b. length (if b then r ∷ s ∷ ss else s ∷ placed r ss) ≡ suc (suc (length ss))) [
      | true ↦ refl
      | false ↦ ap suc (length-placed r ss)
    ]

-- the members of a region ascend
members-above : (region : ℕ) (r : Row) (rows : List Row) → r.region ≡ region → AllByRecursion (λ s. is_before r s ≡ true) rows
    → AllByRecursion (λ (m : Member). r.member.id < m.id) (members_in region rows)
members-above region r [] same up = tt
members-above region r (s ∷ ss) same up =
    let P : List Row → Type 0 = λ kept. AllByRecursion (λ (m : Member). r.member.id < m.id) (map (λ (t : Row). t.member) kept) in
    let rest = members-above region r ss same up.1 in
    cond_both (s.region == region) (s ∷ rows_in region ss) (rows_in region ss) P
    (λ e. let here : s.region ≡ region = eqb-true s.region region e in let both : r.region ≡ s.region = omega arith in (before-id r s both up.0, rest))
    (λ e. rest)

-- and so they are a roll
pub IsById-members_in : (region : ℕ) (rows : List Row) → IsInOrder rows → IsById (members_in region rows)
IsById-members_in region [] up = tt
IsById-members_in region (r ∷ rs) up =
    let P : List Row → Type 0 = λ kept. IsById (map (λ (t : Row). t.member) kept) in
    let rest = IsById-members_in region rs up.1 in
    cond_both (r.region == region) (r ∷ rows_in region rs) (rows_in region rs) P
    (λ e. (members-above region r rs (eqb-true r.region region e) up.0, rest)) (λ e. rest)
