use Rattle.std.proofs.Common.{◌≡◌, Some, sym, ap, ◌∙◌, rules}
use Rattle.std.specs.Option.{option_copied, option_map}
use Rattle.cs_base.specs.Ascending.{at_key}
use Rattle.cs_group.specs.Rank.{rank_at}
use Rattle.cs_group.specs.Rows.{row_of}
use Rattle.cs_group.specs.declared.row.Row.{Row}
use Rattle.cs_group.proofs.Edits.{no-row}
use Rattle.cs_group.proofs.Ranks.{at_rank, rank_of, short-ids}
use Rattle.cs_group.proofs.table.Table.find.Goals as goal

-- the row stands at its rank
pub returns-in-Some-clause-value : goal.returns-in-Some-clause-value
returns-in-Some-clause-value c =
    let was = c.self.inside in
    let there : option_map (λ (r : Row). r.region) (row_of c.args.id was.rows) ≡ Some c.in-Some.region = rw c.self.view_is (sym c.in-Some.ensures) in
    let got : option_copied c.get.result ≡ at_key rank_of (rank_at c.in-Some.region c.args.id) was.rows = rw c.rank_at.ensures at c.get.ensures in
    got ∙ (at_rank c.in-Some.region c.args.id was.rows (search rules) (short-ids was.rows c.self.invariant.allowed) there
    ∙ ap (row_of c.args.id) c.self.view_is)

-- and no other has the id
pub returns-in-None-clause-value : goal.returns-in-None-clause-value
returns-in-None-clause-value c = no-row (row_of c.args.id c.args.self.now) c.in-None.ensures
