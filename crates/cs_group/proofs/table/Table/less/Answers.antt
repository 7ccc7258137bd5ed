use Rattle.std.proofs.Common.{◌≡◌, Some, ap, ◌∙◌, arith, rules}
use Rattle.cs_group.specs.Rows.{row_of, without}
use Rattle.cs_group.proofs.Edits.{length-without-one}
use Rattle.cs_group.proofs.Sums.{less-total}
use Rattle.cs_group.proofs.Tables.{IsTable-went, went-taken}
use Rattle.cs_group.proofs.table.Table.less.Goals as goal

-- what is left of several is a sum
pub sums_less-requires : goal.sums_less-requires
sums_less-requires c =
    let was = c.self.inside in
    let here : row_of c.args.row.now.member.id was.rows ≡ Some c.args.row.now = rw c.self.view_is c.requires in
    less-total was.rows was.sums c.self.invariant.sums_now c.args.row.now c.self.invariant.distinct here c.self.invariant.allowed c.self.invariant.few

-- the row is one of those that are counted
pub overflow_sub-result : goal.overflow_sub-result
overflow_sub-result c =
    let was = c.self.inside in
    let here : row_of c.args.row.now.member.id was.rows ≡ Some c.args.row.now = rw c.self.view_is c.requires in
    omega (arith, c.self.invariant.counted, length-without-one c.args.row.now.member.id was.rows c.args.row.now c.self.invariant.distinct here)

-- without the row there is a table
pub invariant_of-result : goal.invariant_of-result
invariant_of-result c =
    let was = c.self.inside in
    let here : row_of c.args.row.now.member.id was.rows ≡ Some c.args.row.now = rw c.self.view_is c.requires in
    let is = IsTable-went was.rows was.sums was.index was.count c.self.invariant c.args.row.now here in
    let taken = rw c.rank.ensures at c.in_ok-rows.ensures in
    let rows = taken ∙ went-taken was.rows was.sums was.index was.count c.self.invariant c.args.row.now here in
    let key : c.from-id.result ≡ c.args.row.now.member.id = search rules in
    let index = rw key at c.in_ok-index.ensures in
    rw (rows, c.in_ok-sums.ensures, index) is

-- and the row is gone
pub returns : goal.returns
returns c =
    let was = c.self.inside in
    let here : row_of c.args.row.now.member.id was.rows ≡ Some c.args.row.now = rw c.self.view_is c.requires in
    let taken = rw c.rank.ensures at c.in_ok-rows.ensures in
    taken
    ∙ (went-taken was.rows was.sums was.index was.count c.self.invariant c.args.row.now here ∙ ap (without c.args.row.now.member.id) c.self.view_is)
