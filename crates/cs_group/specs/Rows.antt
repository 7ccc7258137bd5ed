-- Rows: which member is in which region, and the seq of its last move. They stand in order of region, and of id
-- within a region.
use Rattle.std.specs.Prelude.{◌≡◌, ℕ, Bool, true, not, ◌==◌, List, [], ◌∷◌, map, length, Option}
use Rattle.std.specs.Prelude.{Some, None, if◌then◌else◌}
use Rattle.std.specs.declared.cmp.Ordering.{Ordering}
use Rattle.std.specs.List.{AllByRecursion, filter, find, fold, list_any}
use Rattle.std.specs.Ordering.{nat_cmp, ordering_then, is_lt}
use Rattle.cs_base.specs.Ascending.{placed_by, IsDistinctBy}
use Rattle.cs_base.specs.Limits.{last_id}
use Rattle.cs_base.specs.Ranges.{IsFromTo, IsMember, IsRegion}
use Rattle.cs_base.specs.declared.member.Member.{Member}
use Rattle.cs_group.specs.declared.row.Row.{Row}

-- a row has the ranges of its parts, and 0 as the seq of a member that hasn't moved
pub record IsRow (r : Row) : Type 0 where
  pub region : IsRegion r.region
  pub member : IsMember r.member
  pub seq : IsFromTo 0 last_id r.seq

-- of two rows the one of the lower region is below, and of one region the one with the lower id
abbrev pub row_cmp : Row → Row → Ordering
row_cmp r s = ordering_then (nat_cmp r.region s.region) (nat_cmp r.member.id s.member.id)

abbrev pub is_before : Row → Row → Bool
is_before r s = is_lt (row_cmp r s)

-- it holds of each element with each later one
abbrev pub IsPairwise : {T : Type 0} → (T → T → Type 0) → List T → Type 0
IsPairwise R [] = Unit {0}
IsPairwise R (x ∷ xs) = AllByRecursion (R x) xs × IsPairwise R xs

-- each row is below those after it
abbrev pub IsInOrder : List Row → Type 0
IsInOrder rows = IsPairwise (λ (r : Row) s. is_before r s ≡ true) rows

-- no two rows have one id
abbrev pub HasDistinctIds : List Row → Type 0
HasDistinctIds rows = IsDistinctBy (λ (r : Row). r.member.id) rows

-- the rows with one more, in its place
abbrev pub placed : Row → List Row → List Row
placed r [] = r ∷ []
placed r (s ∷ ss) = if is_before r s then r ∷ s ∷ ss else s ∷ placed r ss

-- whether some row is that of the member
abbrev pub has_member : ℕ → List Row → Bool
has_member id rows = list_any (λ (r : Row). r.member.id == id) rows

-- the row of the member
abbrev pub row_of : ℕ → List Row → Option Row
row_of id rows = find (λ (r : Row). r.member.id == id) rows

-- the rows of all others
abbrev pub without : ℕ → List Row → List Row
without id rows = filter (λ (r : Row). not (r.member.id == id)) rows

-- the rows of a region
abbrev pub rows_in : ℕ → List Row → List Row
rows_in region rows = filter (λ (r : Row). r.region == region) rows

-- the rows of all other regions
abbrev pub rows_outside : ℕ → List Row → List Row
rows_outside region rows = filter (λ (r : Row). not (r.region == region)) rows

-- the members of a region
abbrev pub members_in : ℕ → List Row → List Member
members_in region rows = map (λ (r : Row). r.member) (rows_in region rows)

-- the same where it has members: a region without members is none
abbrev pub roll_in : ℕ → List Row → Option (List Member)
roll_in region rows = (let members = members_in region rows in if 0 == length members then None else Some members)

-- the row in another region
abbrev pub moved_to : ℕ → Row → Row
moved_to region r = record r { region = region }

-- the regions that have members, ascending
abbrev pub regions : List Row → List ℕ
regions rows = fold (λ known (r : Row). placed_by (λ n. n) r.region known) [] rows
