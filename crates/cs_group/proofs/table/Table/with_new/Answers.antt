use Rattle.std.proofs.Common.{◌≡◌, ◌<◌, false, length, ap, ◌∙◌}
use Rattle.cs_base.specs.Limits.{most_summed}
use Rattle.cs_group.specs.Rows.{IsRow, has_member, placed}
use Rattle.cs_group.proofs.Sums.{kept-total}
use Rattle.cs_group.proofs.Tables.{IsTable-came, came-placed}
use Rattle.cs_group.proofs.table.Table.with_new.Goals as goal

-- with one more row a region has a sum
pub sums_with-requires : goal.sums_with-requires
sums_with-requires c =
    let was = c.self.inside in
    let few : length was.rows < most_summed = rw c.self.view_is c.requires.few in
    kept-total was.rows was.sums c.self.invariant.sums_now c.args.row.now c.self.invariant.allowed c.entry_of-entry.ensures.allowed few

-- with the row there is a table
pub invariant_of-result : goal.invariant_of-result
invariant_of-result c =
    let was = c.self.inside in
    let allowed : IsRow c.args.row.now = c.entry_of-entry.ensures.allowed in
    let new : has_member c.args.row.now.member.id was.rows ≡ false = rw c.self.view_is c.requires.is_new in
    let few : length was.rows < most_summed = rw c.self.view_is c.requires.few in
    let is = IsTable-came was.rows was.sums was.index was.count c.self.invariant c.args.row.now new allowed few in
    let place = came-placed was.rows was.sums was.index was.count c.self.invariant c.args.row.now new allowed few in
    rw (c.in_ok-rows.ensures, c.in_ok-sums.ensures, c.in_ok-index.ensures, c.entry_of-entry.ensures.value, place) is

-- and the row has its place
pub returns : goal.returns
returns c =
    let was = c.self.inside in
    let allowed : IsRow c.args.row.now = c.entry_of-entry.ensures.allowed in
    let new : has_member c.args.row.now.member.id was.rows ≡ false = rw c.self.view_is c.requires.is_new in
    let few : length was.rows < most_summed = rw c.self.view_is c.requires.few in
    c.in_ok-rows.ensures
    ∙ (came-placed was.rows was.sums was.index was.count c.self.invariant c.args.row.now new allowed few ∙ ap (placed c.args.row.now) c.self.view_is)
