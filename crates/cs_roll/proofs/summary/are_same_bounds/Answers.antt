use Rattle.cs_roll.proofs.Rows.{same_rows}
use Rattle.cs_roll.proofs.summary.are_same_bounds.Goals as goal

-- `==` of the arrays decides it
pub returns : goal.returns
returns c = same_rows c.args.a.now c.args.b.now c.eq.result c.told-a c.told-b c.eq.ensures
