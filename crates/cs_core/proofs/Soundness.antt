-- What makes a plan sound.
use Rattle.std.proofs.Common.{◌≡◌, List, refl}
use Rattle.std.specs.Prelude.{MatchOption, ⊤}
use Rattle.cs_packet.specs.EntryField.{IsEntry}
use Rattle.cs_packet.specs.PacketField.{AreSends}
use Rattle.cs_core.specs.Plans.{only}
use Rattle.cs_core.specs.Sound.{IsIdle, IsNote, IsSound}
use Rattle.cs_core.specs.declared.plan.FollowNote.{FollowNote}
use Rattle.cs_core.specs.declared.plan.Plan.{Plan}

-- a plan that is a note alone
pub IsSound-only : (note : FollowNote) → IsNote note → IsSound (only note)
IsSound-only note is = record { entry = tt; sends = tt; note = is; idle = λ idle. refl }

-- a plan whose note isn't idle
pub IsSound-busy : (plan : Plan) → MatchOption plan.entry ⊤ IsEntry → AreSends plan.sends → IsNote plan.note → (IsIdle plan.note → ⊥)
    → IsSound plan
IsSound-busy plan entry sends note busy = record { entry = entry; sends = sends; note = note; idle = λ idle. absurd (busy idle) }
