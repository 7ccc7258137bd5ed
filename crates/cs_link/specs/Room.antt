-- The room that a link has for datagrams to send.
use Rattle.std.specs.Prelude.{ℕ, ◌+◌, ◌≤◌}

-- for how many datagrams, and for how many bytes of them together
pub record Room : Type 0 where
  pub pieces : ℕ
  pub bytes : ℕ

-- there is room for so many datagrams, and for so many bytes
abbrev pub HasRoom : ℕ → ℕ → Room → Type 0
HasRoom pieces bytes room = (pieces ≤ room.pieces) × (bytes ≤ room.bytes)

-- the room is smaller by at most so many datagrams and bytes
abbrev pub FallsAtMost : ℕ → ℕ → Room → Room → Type 0
FallsAtMost pieces bytes before after = (before.pieces ≤ after.pieces + pieces) × (before.bytes ≤ after.bytes + bytes)
