use Rattle.std.proofs.Common.{length, ap, ◌∙◌, List}
use Rattle.cs_group.specs.declared.row.Row.{Row}
use Rattle.cs_group.proofs.table.Table.len.Goals as goal

-- the rows are counted
pub returns : goal.returns
returns c = c.self.invariant.counted ∙ ap (λ (rows : List Row). length rows) c.self.view_is
