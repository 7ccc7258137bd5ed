-- A node that left answers so, and stays as it is.
use Rattle.std.proofs.Common.{ap, Ok}
use Rattle.cs_world.proofs.Calls.{calls_on_left}
use Rattle.cs_world.proofs.call.call_on.Goals as goal

pub returns-in-Left : goal.returns-in-Left
returns-in-Left g c =
    rw (c.in-Left.is, c.answer_of_left-answer.ensures)
    (calls_on_left _ _ (ap Ok (rw c.in-Left.is at c.is_of_its_kind.ensures)))
