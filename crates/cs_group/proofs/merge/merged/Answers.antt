use Rattle.std.proofs.Common.{◌≡◌, ◌==◌, map, rules}
use Rattle.std.specs.List.{fold}
use Rattle.cs_group.specs.Rows.{moved_to, rows_in}
use Rattle.cs_group.specs.Table.{without_row}
use Rattle.cs_group.specs.declared.row.Row.{Row}
use Rattle.cs_group.proofs.Moves.{merged-placed, moved-few}
use Rattle.cs_group.proofs.merge.merged.Goals as goal

-- the rows are as many as before
pub with_all-requires : goal.with_all-requires
with_all-requires c =
    let rows = c.args.table.now in
    let moved : c.in_ok-moved.moved.items ≡ map (moved_to c.args.into) (rows_in c.args.gone rows) = search rules in
    let rest : c.in_ok-rest.rest ≡ fold without_row rows (rows_in c.args.gone rows) = search rules in
    let few = moved-few (λ (r : Row). r.region == c.args.gone) c.args.into rows c.requires.distinct in
    search rules

-- and those of the one region are placed in the other
pub returns : goal.returns
returns c =
    let rows = c.args.table.now in
    let moved : c.in_ok-moved.moved.items ≡ map (moved_to c.args.into) (rows_in c.args.gone rows) = search rules in
    let rest : c.in_ok-rest.rest ≡ fold without_row rows (rows_in c.args.gone rows) = search rules in
    let placed = merged-placed c.args.gone c.args.into rows c.requires.distinct in
    search rules
