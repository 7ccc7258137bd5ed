-- The numbers that a drill draws, by a linear congruential generator of 64 bits.
use Rattle.std.specs.Prelude.{ℕ, zero, suc, ◌+◌, ◌-◌, ◌*◌, ◌/◌, ◌%◌, ◌^◌, ℤ, pos, ◌-ℤ◌}
use Rattle.cs_base.specs.Axes.{Axes}
use Rattle.cs_base.specs.Limits.{farthest}

-- the state that follows another
abbrev pub next_state : ℕ → ℕ
next_state state = (state * 6364136223846793005 + 1442695040888963407) % 2 ^ 64

-- the state after so many draws
unfoldable pub state_after : ℕ → ℕ → ℕ
state_after seed zero = seed
state_after seed (suc draws) = next_state (state_after seed draws)

-- what the upper 31 bits of a state are, modulo a bound
abbrev pub drawn_below : ℕ → ℕ → ℕ
drawn_below bound state = state / 2 ^ 33 % bound

-- the draw behind so many others, below a bound
abbrev pub draw : ℕ → ℕ → ℕ → ℕ
draw seed before bound = drawn_below bound (state_after seed (suc before))

-- a coordinate is one draw
abbrev pub coordinate : ℕ → ℕ → ℤ
coordinate seed before = pos (draw seed before (2 * farthest + 1)) -ℤ pos farthest

-- a point is three draws
abbrev pub point : ℕ → ℕ → Axes
point seed before = record {
  x = coordinate seed before;
  y = coordinate seed (before + 1);
  z = coordinate seed (before + 2);
}

-- an id is one draw, and never that of the leader
abbrev pub id : ℕ → ℕ → ℕ → ℕ
id nodes seed before = 2 + draw seed before (nodes - 1)
