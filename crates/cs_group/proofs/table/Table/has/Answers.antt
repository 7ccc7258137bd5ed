use Rattle.std.proofs.Common.{ap, ◌∙◌, rules}
use Rattle.std.specs.Option.{is_some}
use Rattle.cs_group.proofs.Edits.{has-row}
use Rattle.cs_group.proofs.table.Table.has.Goals as goal

-- a member has a region
pub returns : goal.returns
returns c =
    let has = ap is_some c.region_of.ensures ∙ has-row c.args.id c.args.self.now in
    search rules
