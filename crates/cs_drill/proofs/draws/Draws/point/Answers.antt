use Rattle.std.proofs.Common.{◌+◌, ◌∙◌, refl}
use Rattle.cs_drill.proofs.States.{kept, later}
use Rattle.cs_drill.proofs.draws.Draws.point.Goals as goal

pub returns-clause-value : goal.returns-clause-value
returns-clause-value c seed before at =
    let x = c.coordinate-x.ensures.state seed before at in
    let y = c.coordinate-y.ensures.state seed (before + 1) x ∙ later seed before 1 1 in
    c.point_of.ensures ∙ rw (
      kept _ c.coordinate-x.ensures.near,
      kept _ c.coordinate-y.ensures.near,
      kept _ c.coordinate-z.ensures.near,
      c.coordinate-x.ensures.value seed before at,
      c.coordinate-y.ensures.value seed (before + 1) x,
      c.coordinate-z.ensures.value seed (before + 2) y,
    ) refl

pub returns-clause-state : goal.returns-clause-state
returns-clause-state c seed before at =
    let x = c.coordinate-x.ensures.state seed before at in
    let y = c.coordinate-y.ensures.state seed (before + 1) x ∙ later seed before 1 1 in
    c.coordinate-z.ensures.state seed (before + 2) y ∙ later seed before 2 1
