use Rattle.std.proofs.Common.{arith}
use Rattle.std.proofs.lemmas.Result.{err_from_is_err_and}
use Rattle.cs_fields.proofs.Numbers.{number_taken}
use Rattle.cs_fields.proofs.number.take_u64.Goals as goal

pub returns-in_err-text-clause-spelt : goal.returns-in_err-text-clause-spelt
returns-in_err-text-clause-spelt c =
    let p = err_from_is_err_and c.from_residual.result c.from_residual.ensures.1 in
    rw (p.1, p.2) (number_taken 8 c.args.bytes.now c.args.at _ (omega arith) (λ i. omega (arith, c.type_inv.bytes i)) c.requires.within
    c.in_err-text.ensures.exact)

pub returns-clause-spelt : goal.returns-clause-spelt
returns-clause-spelt c =
    rw c.read_u64.ensures (number_taken 8 c.args.bytes.now c.args.at _ (omega arith) (λ i. omega (arith, c.type_inv.bytes i)) c.requires.within
    c.in_ok-text.ensures.exact)
