-- What a crash leaves of a log.
use Rattle.std.specs.Prelude.{◌≡◌, ℕ, ◌≤◌, List, length, take}

-- a front of what was appended, with at least what was synced
pub record MayBeLeft (synced : ℕ) (bytes left : List ℕ) : Type 0 where
  pub front : left ≡ take (length left) bytes
  pub enough : synced ≤ length left
