-- The bounds of some whole numbers.
use Rattle.std.specs.Prelude.{ℤ, pos, List, [], ◌∷◌}
use Rattle.std.specs.List.{fold}
use Rattle.std.specs.Int.{int_min, int_max}

-- the lowest of the numbers, and 0 where there is none
abbrev pub lowest : List ℤ → ℤ
lowest [] = pos 0
lowest (n ∷ ns) = fold int_min n ns

-- the highest of the numbers, and 0 where there is none
abbrev pub highest : List ℤ → ℤ
highest [] = pos 0
highest (n ∷ ns) = fold int_max n ns
