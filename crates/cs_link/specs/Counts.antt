-- Counts that never fall, and end at the greatest number of 64 bits.
use Rattle.std.specs.Prelude.{◌≡◌, ℕ, ◌+◌, ◌-◌, ◌^◌, ◌<◌, ◌≤◌, min}
use Rattle.cs_log.specs.Faults.{HasRisen}

-- the last value of a count
abbrev pub last_count : ℕ
last_count = 2 ^ 64 - 1

-- the count goes up by so much, and stays at its last value
abbrev pub counted : ℕ → ℕ → ℕ
counted count more = min (count + more) last_count

-- the count rises where another one is above 0, and else stays
abbrev pub RisesWith : ℕ → ℕ → ℕ → Type 0
RisesWith other before after =
    (before ≤ after) × (0 < other → HasRisen before after) × (other ≡ 0 → after ≡ before)
