use Rattle.std.proofs.Common.{arith}
use Rattle.std.proofs.lemmas.Bool.Decides.{nat_tests}
use Rattle.std.proofs.lemmas.List.{length-map}
use Rattle.cs_group.specs.declared.row.Row.{Row}
use Rattle.cs_group.specs.Rows.{rows_in}
use Rattle.cs_slicer.proofs.Regions.{among-members}
use Rattle.cs_slicer.proofs.rows.has_region.Goals as goal

-- it is a region where it has a member
pub returns : goal.returns
returns c =
    let rows = c.args.rows.now in
    let region = c.args.region in
    let long = length-map {A = Row} (rows_in region rows) (λ r. r.member) in
    rw (c.is_empty.ensures, c.rows_in.ensures, among-members region rows) (grind (arith, nat_tests, long))
