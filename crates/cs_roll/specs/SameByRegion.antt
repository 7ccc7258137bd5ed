-- Whether the same stands beside the same regions, as a test.
use Rattle.std.specs.Prelude.{ℕ, ◌==◌, ◌&&◌, Bool}
use Rattle.std.specs.Cmp.Lexicographic.{pointwise}
use Rattle.cs_roll.specs.Same.{are_same_members, is_same_summary}
use Rattle.cs_roll.specs.Sight.{Rolls, Summaries}

-- the same region with the same beside it, by a test of what stands there
abbrev pub is_alike_pair : {T : Type 0} → (T → T → Bool) → ℕ × T → ℕ × T → Bool
is_alike_pair is_alike s t = (s.0 == t.0) && is_alike s.1 t.1

-- the same summaries beside the same regions, one by one
abbrev pub are_same_summaries : Summaries → Summaries → Bool
are_same_summaries ss ts = pointwise (is_alike_pair is_same_summary) ss ts

-- the same rolls beside the same regions, one by one
abbrev pub are_same_rolls : Rolls → Rolls → Bool
are_same_rolls rs qs = pointwise (is_alike_pair are_same_members) rs qs
