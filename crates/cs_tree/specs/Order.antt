-- A list in ascending order by a comparison.
use Rattle.std.specs.Prelude.{List, [], ◌∷◌, if◌then◌else◌}
use Rattle.std.specs.declared.cmp.Ordering.{Ordering}
use Rattle.std.specs.Ordering.{is_lt}

-- the list with one more element, behind those that are below it
abbrev pub inserted_by : {T : Type 0} → (T → T → Ordering) → T → List T → List T
inserted_by compare t [] = t ∷ []
inserted_by compare t (u ∷ us) = if is_lt (compare u t) then u ∷ inserted_by compare t us else t ∷ u ∷ us

-- the elements in ascending order
abbrev pub sorted_by : {T : Type 0} → (T → T → Ordering) → List T → List T
sorted_by compare [] = []
sorted_by compare (t ∷ ts) = inserted_by compare t (sorted_by compare ts)
