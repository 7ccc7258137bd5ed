use Rattle.std.proofs.Common.{◌≡◌, to_z, of_z, w32, ◌∙◌, arith}
use Rattle.std.proofs.lemmas.Int.{ints}
use Rattle.cs_base.specs.Axes.{on_axis}
use Rattle.cs_near.proofs.Medians.{split-known}
use Rattle.cs_near.proofs.middle.choose_split.Goals as goal

-- the middle member gives the split
pub returns : goal.returns
returns c =
    let m = c.in_ok-middle.middle in
    let fits : to_z w32 (of_z w32 c.axis.result) ≡ c.axis.result = omega (arith, ints) in
    let at : to_z w32 (of_z w32 c.axis.result) ≡ on_axis c.widest-axis.result m.at = fits ∙ c.axis.ensures.value in
    rw at (split-known c.widest-axis.result c.args.members.now m c.requires.two c.widest-axis.ensures c.in_ok-middle.ensures)
