use Rattle.std.proofs.Common.{sym, arith}
use Rattle.std.proofs.lemmas.Result.{err_from_is_err_and}
use Rattle.cs_fields.proofs.Loops.{goes_on, ends, is_done}
use Rattle.cs_packet.specs.RowsField.{place_of, row_after}
use Rattle.cs_packet.proofs.codec.rows.take_each_row.Goals as goal

pub returns-in_err-row : goal.returns-in_err-row
returns-in_err-row c =
    let p = err_from_is_err_and c.from_residual.result c.from_residual.ensures.1 in
    rw (p.1, p.2) (ends row_after (λ before row. place_of row) c.in_err-row.field-0.0 c.loop.rows c.args.count c.loop.counter c.loop.before
    c.args.bytes.now c.loop.place _ c.loop-test.true (λ _. sym c.in_err-row.ensures.exact) c.loop.invariant.so_far)

pub loop-preserved : goal.loop-preserved
loop-preserved c =
    let taken = c.in_ok-row.ensures in
    rw (c.in_ok-push.ensures.ok, c.place_of-before.ensures) (record {
      so_far = goes_on row_after (λ before row. place_of row) c.loop.rows c.args.count c.loop.counter c.loop.before c.args.bytes.now c.loop.place
          c.in_ok-row.row c.in_ok-row.behind _ c.loop-test.true (sym taken.exact) c.loop.invariant.so_far;
      within = taken.spelt.found.1.within;
      room = omega (arith, c.loop.invariant.room, taken.spelt.near);
    })

pub returns : goal.returns
returns c =
    is_done row_after (λ before row. place_of row) c.loop.rows c.args.count c.loop.counter c.loop.before c.args.bytes.now c.loop.place _
    c.loop-test.false c.loop.invariant.so_far
