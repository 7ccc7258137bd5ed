-- Which steps of a plan a run can take.
use Rattle.std.specs.Prelude.{⊤}
use Rattle.cs_script.specs.Event.{IsEvent}
use Rattle.cs_drill.specs.declared.plan.Planned.{Planned}
use Rattle.cs_drill.specs.declared.plan.Planned.TheVariants as planned

-- an event that a line can say, or a poll
abbrev pub IsPlanned : Planned → Type 0
IsPlanned (planned.Event event) = IsEvent event
IsPlanned planned.Poll = ⊤
