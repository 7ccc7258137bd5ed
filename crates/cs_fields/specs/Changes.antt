-- The fields of a change and of a list of changes.
use Rattle.std.specs.Prelude.{◌≡◌, ℕ, zero, suc, ◌+◌, ◌*◌, ◌≤◌, Bool, true, false, List, [], ◌∷◌, ◌++◌, length, ◌==◌}
use Rattle.std.specs.Prelude.{Ok, if◌then◌else◌}
use Rattle.std.specs.List.{AllByRecursion, list_any}
use Rattle.cs_base.specs.Changes.{id_of}
use Rattle.cs_base.specs.declared.change.Change.{Change}
use Rattle.cs_base.specs.declared.change.Change.TheVariants.{Join, Move, Leave}
use Rattle.cs_fields.specs.Reading.{Reader, ◌>>=◌, checked}
use Rattle.cs_base.specs.Ascending.{IsDistinctBy}
use Rattle.cs_base.specs.Limits.{last_id, most_changes}
use Rattle.cs_base.specs.Ranges.{IsChange}
use Rattle.cs_fields.specs.Numbers.{number_in, number_bytes}
use Rattle.cs_fields.specs.Fields.{id_at, id_bytes, address_at, point_at, member_bytes, member_len, member_sizes}
use Rattle.cs_fields.specs.Fields.{point_bytes, point_sizes}
use Rattle.cs_fields.specs.Counted.{counted_at, counted, counted_sizes}

-- the address and the point of a member with this id that joins
unfoldable pub join_at : ℕ → Reader Change
join_at id bytes at = do
  addr ← address_at bytes at
  point ← point_at bytes addr.1
  Ok (Join (record { id = id; addr = addr.0; at = point.0 }), point.1)

-- the number and the point of a move of this id
unfoldable pub move_at : ℕ → Reader Change
move_at id bytes at = do
  seq ← number_in 4 1 last_id bytes at
  point ← point_at bytes seq.1
  Ok (Move id seq.0 point.0, point.1)

-- what stands behind the tag and the id
abbrev pub change_rest : ℕ → ℕ → Reader Change
change_rest zero id bytes at = Ok (Leave id, at)
change_rest (suc zero) id bytes at = join_at id bytes at
change_rest (suc (suc zero)) id bytes at = move_at id bytes at
change_rest (suc (suc (suc n))) id bytes at = Ok (Leave id, at)

-- whether none of the changes is about this id
abbrev pub is_new : List Change → ℕ → Bool
is_new changes id = if list_any (λ c. id_of c == id) changes then false else true

-- a change whose id isn't that of a change before
unfoldable pub change_after : List Change → Reader Change
change_after changes bytes at = do
  tag ← number_in 1 1 3 bytes at
  id ← checked (is_new changes) id_at bytes tag.1
  change_rest tag.0 id.0 bytes id.1

abbrev pub change_at : Reader Change
change_at = change_after []

unfoldable pub change_bytes : Change → List ℕ
change_bytes (Join member) = number_bytes 1 1 ++ member_bytes member
change_bytes (Move id seq at) = number_bytes 1 2 ++ id_bytes id ++ number_bytes 4 seq ++ point_bytes at
change_bytes (Leave id) = number_bytes 1 3 ++ id_bytes id

-- the sizes of the fields of a change
abbrev pub change_sizes : Change → List ℕ
change_sizes (Join member) = 1 ∷ member_sizes member
change_sizes (Move id seq at) = 1 ∷ 4 ∷ 4 ∷ point_sizes at
change_sizes (Leave id) = 1 ∷ 4 ∷ []

-- the greatest number of bytes of a change
abbrev pub change_len : ℕ
change_len = 1 + member_len

-- a change whose id none of the changes before has
abbrev pub IsNewChange : List Change → Change → Type 0
IsNewChange changes c = IsChange c × (is_new changes (id_of c) ≡ true)

-- from the least to the most changes of a report, each of another id
pub record IsChanges (least : ℕ) (cs : List Change) : Type 0 where
  pub enough : least ≤ length cs
  pub few : length cs ≤ most_changes
  pub allowed : AllByRecursion IsChange cs
  pub distinct : IsDistinctBy id_of cs

-- the changes before, and this one
abbrev pub with_change : List Change → Change → List Change
with_change changes change = changes ++ change ∷ []

unfoldable pub changes_at : ℕ → Reader (List Change)
changes_at least = counted_at 1 least most_changes change_after with_change []

abbrev pub changes_bytes : List Change → List ℕ
changes_bytes cs = counted 1 change_bytes cs

-- the sizes of the fields of changes
abbrev pub changes_sizes : List Change → List ℕ
changes_sizes cs = counted_sizes 1 change_sizes cs

-- the greatest number of bytes of changes
abbrev pub changes_len : ℕ
changes_len = 1 + change_len * most_changes
