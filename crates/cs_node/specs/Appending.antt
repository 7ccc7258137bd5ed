-- How an entry comes into a log: in one frame that is appended and synced, or a front of which is there after a fault.
use Rattle.std.specs.Prelude.{◌≡◌, ◌⊎◌, ℕ, List, take, length, Option, Some, None, IfSome}
use Rattle.cs_log.specs.Bytes.{appended, AppendsFront}
use Rattle.cs_log.specs.Faults.{HasRisen}
use Rattle.cs_log.specs.Frames.{frame}
use Rattle.cs_log.specs.Tears.{armed_number}
use Rattle.cs_log.specs.declared.armed.Tear.{Tear}
use Rattle.cs_log.specs.declared.armed.Tear.TheVariants.{Nothing, Append, Sync}
use Rattle.cs_packet.specs.EntryField.{entry_bytes}
use Rattle.cs_packet.specs.declared.entry.Entry.{Entry}
use Rattle.cs_node.specs.Told.{LogTold}

-- the frame of an entry
abbrev pub entry_frame : Entry → List ℕ
entry_frame entry = frame (entry_bytes entry)

-- all bytes of the log are synced, where it tells them
abbrev pub IsSynced : LogTold → Type 0
IsSynced log = IfSome log.bytes (λ bytes. log.synced ≡ length bytes)

-- the frame is behind what was there, all of it is synced, and nothing failed. It can't be where something was armed
pub record Keeps (frame : List ℕ) (before now : LogTold) : Type 0 where
  pub bytes : now.bytes ≡ appended before.bytes frame
  pub synced : IsSynced now
  pub faults : now.faults ≡ before.faults
  pub own_faults : now.own_faults ≡ before.own_faults
  pub unarmed : before.tear ≡ Nothing
  pub still : now.tear ≡ Nothing

-- the entry is kept; with none the log is as it was
abbrev pub IsKept : Option Entry → (before now : LogTold) → Type 0
IsKept None before now = now ≡ before
IsKept (Some entry) before now = Keeps (entry_frame entry) before now

-- what an arm leaves of a frame: so many bytes of it, or all where these are enough and the sync fails
abbrev pub IsLeftByArm : Tear → List ℕ → (before now : Option (List ℕ)) → Type 0
IsLeftByArm Nothing frame before now = ⊥
IsLeftByArm (Append b) frame before now = now ≡ appended before (take b frame)
IsLeftByArm (Sync b) frame before now = now ≡ appended before frame

-- the log failed by what was armed, and nothing is armed any more
pub record FailsByArm (frame : List ℕ) (before now : LogTold) : Type 0 where
  pub uncounted : now.own_faults ≡ before.own_faults
  pub unarmed : now.tear ≡ Nothing
  pub left : IsLeftByArm before.tear frame before.bytes now.bytes

-- the log failed by itself, and the number that is armed still is
pub record FailsByItself (before now : LogTold) : Type 0 where
  pub risen : HasRisen before.own_faults now.own_faults
  pub armed : armed_number now.tear ≡ armed_number before.tear

-- the log failed, by itself or by what was armed: some bytes from the front of the frame are there, and none is synced
pub record FailsToKeep (frame : List ℕ) (before now : LogTold) : Type 0 where
  pub front : AppendsFront before.bytes now.bytes frame
  pub synced : now.synced ≡ before.synced
  pub risen : HasRisen before.faults now.faults
  pub cause : FailsByItself before now ⊎ FailsByArm frame before now

-- the entry couldn't be kept; there was one
abbrev pub IsLost : Option Entry → (before now : LogTold) → Type 0
IsLost None before now = ⊥
IsLost (Some entry) before now = FailsToKeep (entry_frame entry) before now
