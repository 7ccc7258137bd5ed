use Rattle.std.proofs.Common.{◌≡◌, ℕ, Some, sym, subst}
use Rattle.cs_group.specs.Rows.{row_of}
use Rattle.cs_group.proofs.Edits.{row_of-id, without-none}
use Rattle.cs_group.proofs.table.Table.without.Goals as goal

-- the row is that of the id
pub less-requires : goal.less-requires
less-requires c =
    let found : row_of c.args.id c.args.self.now ≡ Some c.in-Some.row.now = sym c.in-Some.ensures.value in
    let same = row_of-id c.args.id c.args.self.now c.in-Some.row.now found in
    subst (λ (id : ℕ). row_of id c.args.self.now ≡ Some c.in-Some.row.now) (sym same) found

pub returns-in-Some : goal.returns-in-Some
returns-in-Some c =
    let found : row_of c.args.id c.args.self.now ≡ Some c.in-Some.row.now = sym c.in-Some.ensures.value in
    let same = row_of-id c.args.id c.args.self.now c.in-Some.row.now found in
    rw same at c.less.ensures

-- where there is none, nothing goes
pub returns-in-None : goal.returns-in-None
returns-in-None c = rw (without-none c.args.id c.args.self.now (sym c.in-None.ensures.value)) c.copy.ensures
