-- What an event says is in its ranges.
use Rattle.std.specs.Prelude.{ℕ, ◌<◌, ◌≤◌, List, length}
use Rattle.std.specs.List.{AllByRecursion}
use Rattle.cs_base.specs.Address.{IsAddress}
use Rattle.cs_base.specs.Axes.{IsPoint}
use Rattle.cs_base.specs.Limits.{last_id}
use Rattle.cs_base.specs.Ranges.{IsFromTo, IsId, IsRegion, IsMember}
use Rattle.cs_script.specs.Limits.{most_rounds, most_shown, most_noise}
use Rattle.cs_script.specs.declared.event.Event.{Event}
use Rattle.cs_script.specs.declared.event.Event.TheVariants as events

-- so many bytes as a line can show
abbrev pub IsShown : List ℕ → Type 0
IsShown bytes = (length bytes ≤ most_shown) × AllByRecursion (λ b. b < 256) bytes

-- a node starts with the values of a member, ids are those of nodes, and packets and rounds are numbered from 1
abbrev pub IsEvent : Event → Type 0
IsEvent (events.Lead id addr at) = IsMember (record { id = id; addr = addr; at = at })
IsEvent (events.Boot id addr at mode) = IsMember (record { id = id; addr = addr; at = at })
IsEvent (events.Home id addr) = IsId id × IsAddress addr
IsEvent (events.Join id) = IsId id
IsEvent (events.Leave id) = IsId id
IsEvent (events.Flush id) = IsId id
IsEvent (events.Move id at) = IsId id × IsPoint at
IsEvent events.Close = Unit {0}
IsEvent (events.Ask id to) = IsId id × IsId to
IsEvent (events.Need id to region) = IsId id × IsId to × IsRegion region
IsEvent (events.Deliver number) = IsFromTo 1 last_id number
IsEvent (events.Lose number) = IsFromTo 1 last_id number
IsEvent (events.Settle rounds) = IsFromTo 1 most_rounds rounds
IsEvent (events.Packet id bytes) = IsId id × IsShown bytes
IsEvent (events.Noise id size) = IsId id × IsFromTo 0 most_noise size
IsEvent (events.Crash id) = IsId id
IsEvent (events.Restart id) = IsId id
IsEvent (events.Tear id size) = IsId id × IsFromTo 0 last_id size
IsEvent (events.Print id) = IsId id
