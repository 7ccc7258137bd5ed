use Rattle.std.proofs.Common.{arith}
use Rattle.cs_fields.proofs.Raw.{raw_ended, raw_read, raw_taken}
use Rattle.cs_fields.proofs.number.take_raw.Goals as goal

pub returns-then-rest : goal.returns-then-rest
returns-then-rest g c =
    let read = raw_ended g.row.N c.args.bytes.now c.args.at c.requires.place.within c.if-rest.true in
    record {
      exact = read;
      spelt = raw_taken g.row.N c.args.bytes.now c.args.at _ c.requires.some (λ i. omega (arith, c.type_inv.bytes i)) c.requires.place.within read;
    }

pub returns : goal.returns
returns g c =
    let read = raw_read g.row.N c.args.bytes.now c.args.at _ c.requires.place.within c.if-rest.false c.copy_from_slice.ensures.after in
    record {
      exact = read;
      spelt = raw_taken g.row.N c.args.bytes.now c.args.at _ c.requires.some (λ i. omega (arith, c.type_inv.bytes i)) c.requires.place.within read;
    }
