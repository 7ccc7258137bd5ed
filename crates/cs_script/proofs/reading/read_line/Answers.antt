use Rattle.cs_script.proofs.Events.{given-allowed, given-found, given-only}
use Rattle.cs_script.proofs.reading.read_line.Goals as goal

pub returns-clause-ranges : goal.returns-clause-ranges
returns-clause-ranges c = given-allowed _ _ c.read_event.ensures

pub returns-clause-found : goal.returns-clause-found
returns-clause-found c = given-found _ _ c.read_event.ensures

pub returns-clause-only : goal.returns-clause-only
returns-clause-only c = given-only _ _ c.read_event.ensures
