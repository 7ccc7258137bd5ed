use Rattle.std.proofs.Common.{◌+◌, [], ◌∷◌, to_z, of_z, w64, refl, ◌∙◌, arith}
use Rattle.std.proofs.lemmas.Int.{ints}
use Rattle.cs_base.specs.Axes.{from_row}
use Rattle.cs_base.specs.Total.{Total}
use Rattle.cs_group.specs.Table.{with_point}
use Rattle.cs_group.proofs.Totals.{made-total, same-total}
use Rattle.cs_group.proofs.kept.plus.Goals as goal

-- the sum may be made
pub unwrap-requires : goal.unwrap-requires
unwrap-requires c =
    let made : Total = record {
      count = c.count.result + 1;
      sums = from_row (to_z w64 (of_z w64 c.added-x.result) ∷ to_z w64 (of_z w64 c.added-y.result) ∷ to_z w64 (of_z w64 c.added-z.result) ∷ []);
    } in
    let same = same-total made (with_point c.args.sum c.args.at) (omega (arith, c.count.ensures.value)) (omega (arith, ints, c.added-x.ensures))
    (omega (arith, ints, c.added-y.ensures)) (omega (arith, ints, c.added-z.ensures)) in
    rw (made-total c.new.result made (with_point c.args.sum c.args.at) c.new.ensures same c.requires) refl

pub returns : goal.returns
returns c =
    let made : Total = record {
      count = c.count.result + 1;
      sums = from_row (to_z w64 (of_z w64 c.added-x.result) ∷ to_z w64 (of_z w64 c.added-y.result) ∷ to_z w64 (of_z w64 c.added-z.result) ∷ []);
    } in
    let same = same-total made (with_point c.args.sum c.args.at) (omega (arith, c.count.ensures.value)) (omega (arith, ints, c.added-x.ensures))
    (omega (arith, ints, c.added-y.ensures)) (omega (arith, ints, c.added-z.ensures)) in
    let told = rw c.unwrap.ensures at c.new.ensures in
    told.1 ∙ same
