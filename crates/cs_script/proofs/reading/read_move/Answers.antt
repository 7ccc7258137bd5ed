use Rattle.std.proofs.Common.{ℕ, List, [], Result, Ok, get_or, Bor, arith}
use Rattle.std.proofs.lemmas.Result.{err_from_is_err_and}
use Rattle.cs_base.specs.Axes.{Axes}
use Rattle.cs_script.specs.declared.event.Event.{Event}
use Rattle.cs_script.specs.declared.event.Event.TheVariants as events
use Rattle.cs_script.specs.declared.fault.LineFault.{LineFault}
use Rattle.cs_script.proofs.Args.{four_args, point-read}
use Rattle.cs_script.proofs.reading.read_move.Goals as goal

pub returns-in_err-at : goal.returns-in_err-at
returns-in_err-at c =
    let none : Bor (List ℕ) = record { ref_ptr = (0, 0); now = [] } in
    let word = λ (k : ℕ). (get_or c.args.args.now k none).now in
    let args = four_args c.args.args.now none (omega arith) (omega arith) in
    let says : Axes → Result Event LineFault = λ at. Ok (events.Move c.in_ok-id.id at) in
    let p = err_from_is_err_and c.from_residual-in_err-at.result c.from_residual-in_err-at.ensures.1 in
    rw (p.1, p.2, args, ← c.in_ok-id.ensures) (point-read (word 1) (word 2) (word 3) says c.in_err-at.ensures)

pub returns : goal.returns
returns c =
    let none : Bor (List ℕ) = record { ref_ptr = (0, 0); now = [] } in
    let word = λ (k : ℕ). (get_or c.args.args.now k none).now in
    let args = four_args c.args.args.now none (omega arith) (omega arith) in
    let says : Axes → Result Event LineFault = λ at. Ok (events.Move c.in_ok-id.id at) in
    rw (args, ← c.in_ok-id.ensures) (point-read (word 1) (word 2) (word 3) says c.in_ok-at.ensures)
