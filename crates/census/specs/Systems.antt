-- What the lines of a form happen to: a world of nodes, or one node alone.
use Rattle.std.specs.Prelude.{ℕ, List}
use Rattle.cs_link.specs.Maps.{ById}
use Rattle.cs_link.specs.Sent.{Datagram}
use Rattle.cs_machine.specs.Happens.{happens}
use Rattle.cs_machine.specs.Names.{World, empty_world}
use Rattle.cs_machine.specs.Outcome.{After as AfterInWorld}
use Rattle.cs_machine.specs.Packets.{bytes_sent}
use Rattle.cs_script.specs.declared.event.Event.{Event}
use Rattle.cs_world.specs.Alone.{Alone, nobody, bytes_sent as sent_alone}
use Rattle.cs_world.specs.AloneEvents.{AfterAlone, happens_alone}
use Rattle.cs_world.specs.AloneStands.{IsLogAlone, IsTrafficAlone}
use Rattle.cs_world.specs.Kept.{AreLogsOf, AreTrafficOf}
use Rattle.census.specs.declared.form.Form.{Form}
use Rattle.census.specs.declared.form.Form.TheVariants as forms

-- a world, or one node alone
pub data System : Type 0 where
  Many : (world : World) → System
  One : (alone : Alone) → System

-- that of a form, in which nothing has happened
abbrev pub begun : Form → System
begun forms.Replay = Many empty_world
begun forms.Node = One nobody

-- what an event leads to: the next system, and what is written
pub record After : Type 0 where
  pub system : System
  pub lines : List (List ℕ)

-- in a world
abbrev pub after_many : AfterInWorld → After
after_many after = record { system = Many after.world; lines = after.lines }

-- of a node alone
abbrev pub after_one : AfterAlone → After
after_one after = record { system = One after.alone; lines = after.lines }

-- an event happens
abbrev pub happens_in : System → Event → After
happens_in (Many world) event = after_many (happens world event)
happens_in (One alone) event = after_one (happens_alone alone event)

-- how many bytes were sent in all
abbrev pub sent_in : System → ℕ
sent_in (Many world) = bytes_sent world
sent_in (One alone) = sent_alone alone

-- by id, the log of each node
abbrev pub AreLogsIn : System → ById (List ℕ) → Type 0
AreLogsIn (Many world) logs = AreLogsOf world logs
AreLogsIn (One alone) logs = IsLogAlone alone logs

-- by id, what each node sent
abbrev pub AreTrafficIn : System → ById (List Datagram) → Type 0
AreTrafficIn (Many world) traffic = AreTrafficOf world traffic
AreTrafficIn (One alone) traffic = IsTrafficAlone alone traffic
