-- All bytes of a log are among what a crash may leave of it.
use Rattle.std.proofs.Common.{◌≤◌, ℕ, List, length, Option, None, Some, IfSome, sym, arith}
use Rattle.std.proofs.lemmas.List.{take_all}
use Rattle.cs_log.specs.Crash.{MayBeLeft}

-- what holds of whatever is left holds of all bytes, where no more is synced than there is
pub at_all : (told : Option (List ℕ)) (synced : ℕ) (Holds : List ℕ → Type 0) → IfSome told (λ bytes. synced ≤ length bytes)
    → IfSome told (λ bytes. (left : List ℕ) → MayBeLeft synced bytes left → Holds left) → IfSome told Holds
at_all None synced Holds within each = tt
at_all (Some bytes) synced Holds within each =
    each bytes (record { front = sym (take_all (length bytes) bytes (omega arith)); enough = within })
