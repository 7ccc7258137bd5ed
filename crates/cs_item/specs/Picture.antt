-- What a picture shows.
use Rattle.std.specs.Prelude.{ℕ, length}
use Rattle.std.specs.List.{sum_by}
use Rattle.cs_roll.specs.Sight.{Rolls}

-- how many members the rolls have together
abbrev pub members_in : Rolls → ℕ
members_in rolls = sum_by (λ pair. length pair.1) rolls
