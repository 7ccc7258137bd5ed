use Rattle.std.proofs.Common.{◌≡◌, to_z, of_z, arith}
use Rattle.std.specs.Int.{w32}
use Rattle.std.proofs.lemmas.Int.{ints}
use Rattle.cs_fields.proofs.Fields.{axis_taken}
use Rattle.cs_fields.proofs.address.take_axis_from.Goals as goal

pub returns-clause-spelt : goal.returns-clause-spelt
returns-clause-spelt c =
    let kept : to_z w32 (of_z w32 c.args.low) ≡ c.args.low = omega (arith, ints) in
    axis_taken c.args.low c.args.bytes.now c.args.at _ c.requires.near (λ i. omega (arith, c.type_inv.bytes i)) c.requires.place.within
    (rw kept at c.read_axis.ensures)
