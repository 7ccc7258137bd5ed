use Rattle.std.proofs.Common.{sym}
use Rattle.cs_base.proofs.Searches.{placed_already}
use Rattle.cs_base.proofs.ids.Ordered+u32.insert.Goals as goal

-- a number that is there is placed already
pub returns-in-Ok-clause-placed : goal.returns-in-Ok-clause-placed
returns-in-Ok-clause-placed c = sym (placed_already _ _ _ c.in-Ok.ensures.ascending c.in-Ok.ensures.found)
