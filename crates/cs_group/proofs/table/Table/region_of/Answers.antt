use Rattle.std.proofs.Common.{◌≡◌, List, ap, ◌∙◌, rules}
use Rattle.std.specs.Option.{option_copied, option_map}
use Rattle.cs_group.specs.Rows.{row_of}
use Rattle.cs_group.specs.Table.{entry_of}
use Rattle.cs_group.specs.declared.row.Row.{Row}
use Rattle.cs_group.proofs.table.Table.region_of.Goals as goal

-- the index has the region of each member
pub returns : goal.returns
returns c =
    let key : c.from-rank.result ≡ c.args.id = search rules in
    let got : option_copied c.get-2.result ≡ entry_of c.args.id c.self.inside.index = rw key at c.get-2.ensures in
    let indexed = c.self.invariant.indexed c.args.id
    ∙ ap (λ (rows : List Row). option_map (λ (r : Row). r.region) (row_of c.args.id rows)) c.self.view_is in
    search rules
