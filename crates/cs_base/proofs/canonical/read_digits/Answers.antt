use Rattle.std.proofs.Common.{◌≡◌, take, arith}
use Rattle.std.proofs.lemmas.List.{take_all}
use Rattle.cs_base.proofs.Digits.{spoilt, value_more, too_large, digits_more_of}
use Rattle.cs_base.proofs.canonical.read_digits.Goals as goal

pub returns-in_err-digit : goal.returns-in_err-digit
returns-in_err-digit c =
    let i = c.loop-byte.byte-index in
    rw c.from_residual.ensures
    (λ h. spoilt c.args.text.now i c.from.result (omega arith) c.from.ensures c.in_err-digit.ensures.value h.0)

pub returns-in_err-checked_mul : goal.returns-in_err-checked_mul
returns-in_err-checked_mul c =
    let large = too_large c.args.text.now c.loop-byte.byte-index c.from.result c.loop-byte.number 4294967296
    (omega arith) c.from.ensures c.loop-byte.invariant.value (omega (arith, c.in_err-checked_mul.ensures)) in
    rw c.from_residual-in_err-checked_mul.ensures (λ h. omega arith)

pub returns-in_err-number : goal.returns-in_err-number
returns-in_err-number c =
    let large = too_large c.args.text.now c.loop-byte.byte-index c.from.result c.loop-byte.number 4294967296
    (omega arith) c.from.ensures c.loop-byte.invariant.value
    (omega (arith, c.in_err-number.ensures, c.in_ok-checked_mul.ensures.1, c.in_ok-digit.ensures.value.1)) in
    rw c.from_residual-in_err-number.ensures (λ h. omega arith)

pub loop-byte-preserved : goal.loop-byte-preserved
loop-byte-preserved c =
    let text = c.args.text.now in
    let i = c.loop-byte.byte-index in
    let more = value_more text i c.from.result c.loop-byte.number (omega arith) c.from.ensures c.loop-byte.invariant.value in
    record {
      digits = digits_more_of text i c.from.result (omega arith) c.from.ensures c.loop-byte.invariant.digits
          c.in_ok-digit.ensures.value.0;
      value = omega (arith, more, c.in_ok-number.ensures.1, c.in_ok-checked_mul.ensures.1, c.in_ok-digit.ensures.value.1);
      fits = omega (arith, c.in_ok-number.ensures.0, c.in_ok-number.ensures.1);
    }

pub returns : goal.returns
returns c =
    let all : take c.loop-byte.byte-index c.args.text.now ≡ c.args.text.now = take_all _ _ (omega arith) in
    let value = rw all at c.loop-byte.invariant.value in
    ((rw all at c.loop-byte.invariant.digits, omega arith), value)
