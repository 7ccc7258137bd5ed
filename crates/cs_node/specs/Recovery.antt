-- What a recovery gives, and what it leaves of the log.
use Rattle.std.specs.Prelude.{◌≡◌, ◌⊎◌, ⊤, ℕ, List, Option, Some, IfSome, take}
use Rattle.cs_log.specs.Faults.{HasRisen}
use Rattle.cs_log.specs.Frames.{AreFramesOf, whole_len}
use Rattle.cs_log.specs.Tears.{FailsSync}
use Rattle.cs_node.specs.Folding.{FoldsTo}
use Rattle.cs_node.specs.Told.{LogTold}
use Rattle.cs_node.specs.declared.folding.Folded.TheVariants as folded
use Rattle.cs_node.specs.declared.stopped.Why.{Why}
use Rattle.cs_node.specs.declared.stopped.Why.TheVariants as why

-- just the whole frames of the bytes
abbrev pub AreWhole : List ℕ → List ℕ → Type 0
AreWhole bytes whole =
    (frames : List (ℕ × List ℕ)) × AreFramesOf bytes frames × (whole ≡ take (whole_len frames) bytes)

-- where a log told its bytes, it tells their whole frames now
abbrev pub LeavesWhole : Option (List ℕ) → Option (List ℕ) → Type 0
LeavesWhole before now = IfSome before (λ bytes. (whole : List ℕ) × (now ≡ Some whole) × AreWhole bytes whole)

-- nothing failed, and what is armed still is
pub record IsQuiet (before now : LogTold) : Type 0 where
  pub faults : now.faults ≡ before.faults
  pub own_faults : now.own_faults ≡ before.own_faults
  pub tear : now.tear ≡ before.tear

-- why the bytes give no node, where it lies with them
abbrev pub Explains : Why → List ℕ → Type 0
Explains why.Empty bytes = FoldsTo bytes folded.Empty
Explains (why.Bad place) bytes = FoldsTo bytes (folded.Bad place)
Explains reason bytes = ⊤

-- why a log failed: by itself, or by what was armed and waited for its sync
abbrev pub HasCause : (before now : LogTold) → Type 0
HasCause before now = HasRisen before.own_faults now.own_faults ⊎ FailsSync before.tear

-- what is left of a log that gave no node: it is as it was, but where it failed it may have been cut
abbrev pub IsLeft : Why → (before now : LogTold) → Type 0
IsLeft why.Log before now =
    HasRisen before.faults now.faults × HasCause before now
    × ((now.bytes ≡ before.bytes) ⊎ LeavesWhole before.bytes now.bytes)
IsLeft reason before now = now ≡ before
