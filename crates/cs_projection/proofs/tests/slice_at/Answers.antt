use Rattle.std.proofs.Common.{◌≡◌, true, rules}
use Rattle.cs_base.proofs.Elements.{All-get}
use Rattle.cs_group.specs.Group.{is_among}
use Rattle.cs_group.specs.Rows.{regions}
use Rattle.cs_slicer.proofs.Slices.{slice_of-slices_in}
use Rattle.cs_slicer.proofs.Summaries.{regions-listed}
use Rattle.cs_projection.proofs.tests.slice_at.Goals as goal

-- a region of the group has its slice
pub slice-requires : goal.slice-requires
slice-requires g c =
    let rows = c.args.group.now.rows in
    let region = c.region.result in
    let there = All-get (λ n. is_among (regions rows) n ≡ true) (regions rows) c.args.i region (regions-listed rows) c.region.ensures in
    let found = slice_of-slices_in c.args.group.now c.args.turn.now c.args.epoch region there in
    rw (c.requires.of, found) (search rules)
