-- What an arm does to the calls that follow: it tears an append, or fails a sync.
use Rattle.std.specs.Prelude.{◌≡◌, ℕ, ◌<◌, List, length, take, Option, None, Some}
use Rattle.cs_log.specs.Bytes.{appended}
use Rattle.cs_log.specs.Faults.{HasRisen}
use Rattle.cs_log.specs.declared.armed.Tear.{Tear}
use Rattle.cs_log.specs.declared.armed.Tear.TheVariants.{Nothing, Append, Sync}

-- the number that is armed
abbrev pub armed_number : Tear → Option ℕ
armed_number Nothing = None
armed_number (Append b) = Some b
armed_number (Sync b) = Some b

-- an append of a piece of this length fails once so many bytes of it are there
abbrev pub TearsAppend : Tear → ℕ → ℕ → Type 0
TearsAppend Nothing len kept = ⊥
TearsAppend (Append b) len kept = (b < len) × (kept ≡ b)
TearsAppend (Sync b) len kept = ⊥

-- the next sync fails
abbrev pub FailsSync : Tear → Type 0
FailsSync Nothing = ⊥
FailsSync (Append b) = ⊥
FailsSync (Sync b) = Unit {0}

-- what is armed after an append that was let pass: its number now waits for the sync
abbrev pub passed : Tear → Tear
passed Nothing = Nothing
passed (Append b) = Sync b
passed (Sync b) = Sync b

-- a call failed by itself: the log's own count rose, and what was armed still is
pub record FailsAlone (own own_now : ℕ) (tear tear_now : Tear) : Type 0 where
  pub risen : HasRisen own own_now
  pub armed : tear_now ≡ tear

-- a call failed by what was armed: the log's own count stays, and nothing is armed any more
pub record FailsByTear (own own_now : ℕ) (tear_now : Tear) : Type 0 where
  pub uncounted : own_now ≡ own
  pub unarmed : tear_now ≡ Nothing

-- an append failed by what was armed: the piece was longer than the number, and so many bytes of it are there
abbrev pub TornAppend : Tear → Option (List ℕ) → Option (List ℕ) → List ℕ → Type 0
TornAppend tear before after piece =
    (kept : ℕ) × TearsAppend tear (length piece) kept × (after ≡ appended before (take kept piece))
