use Rattle.std.proofs.Common.{◌≡◌, map, ◌∙◌, rules}
use Rattle.std.specs.List.{filter, fold}
use Rattle.cs_group.specs.Cut.{is_cut_off}
use Rattle.cs_group.specs.Rows.{moved_to, rows_in}
use Rattle.cs_group.specs.Table.{without_row}
use Rattle.cs_group.proofs.Moves.{cut-inner, cut-placed, moved-few}
use Rattle.cs_group.proofs.cut.cut_rows.Goals as goal

-- the rows are as many as before
pub with_all-requires : goal.with_all-requires
with_all-requires c =
    let rows = c.args.table.now in
    let cut = c.args.cut.now in
    let inner = cut-inner c.args.region cut rows in
    let upper : c.in_ok-upper.upper.items ≡ filter (is_cut_off c.args.region cut.split) (rows_in c.args.region rows) = search rules in
    let off = upper ∙ inner in
    let moved : c.in_ok-moved.moved.items ≡ map (moved_to cut.upper) c.in_ok-upper.upper.items = search rules in
    let rest : c.in_ok-rest.rest ≡ fold without_row rows c.in_ok-upper.upper.items = search rules in
    let few = moved-few (is_cut_off c.args.region cut.split) cut.upper rows c.requires.distinct in
    search rules

-- and the upper ones come last
pub returns : goal.returns
returns c =
    let rows = c.args.table.now in
    let cut = c.args.cut.now in
    let inner = cut-inner c.args.region cut rows in
    let upper : c.in_ok-upper.upper.items ≡ filter (is_cut_off c.args.region cut.split) (rows_in c.args.region rows) = search rules in
    let off = upper ∙ inner in
    let moved : c.in_ok-moved.moved.items ≡ map (moved_to cut.upper) c.in_ok-upper.upper.items = search rules in
    let rest : c.in_ok-rest.rest ≡ fold without_row rows c.in_ok-upper.upper.items = search rules in
    let placed = cut-placed c.args.region cut rows c.requires.in_order c.requires.distinct c.requires.numbered in
    search rules
