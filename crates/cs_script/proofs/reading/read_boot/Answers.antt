use Rattle.std.proofs.Common.{ℕ, List, [], Result, Ok, get_or, Bor, ap, ◌∙◌, arith}
use Rattle.std.proofs.lemmas.Result.{err_from_is_err_and}
use Rattle.cs_base.specs.Axes.{Axes}
use Rattle.cs_base.specs.declared.change.Mode.{Mode}
use Rattle.cs_script.specs.Kinds.{◌>>=◌, mode_word}
use Rattle.cs_script.specs.declared.event.Event.{Event}
use Rattle.cs_script.specs.declared.event.Event.TheVariants as events
use Rattle.cs_script.specs.declared.fault.LineFault.{LineFault}
use Rattle.cs_script.proofs.Args.{six_args, point-read}
use Rattle.cs_script.proofs.reading.read_boot.Goals as goal

pub returns-in_err-at : goal.returns-in_err-at
returns-in_err-at c =
    let none : Bor (List ℕ) = record { ref_ptr = (0, 0); now = [] } in
    let word = λ (k : ℕ). (get_or c.args.args.now k none).now in
    let args = six_args c.args.args.now none (omega arith) (omega arith) in
    let says : Axes → Result Event LineFault = λ at. mode_word (word 5) >>= λ mode. Ok (events.Boot c.in_ok-id.id c.in_ok-addr.addr at mode) in
    let p = err_from_is_err_and c.from_residual-in_err-at.result c.from_residual-in_err-at.ensures.1 in
    rw (p.1, p.2, args, ← c.in_ok-id.ensures, ← c.in_ok-addr.ensures) (point-read (word 2) (word 3) (word 4) says c.in_err-at.ensures)

pub returns-in_err-mode : goal.returns-in_err-mode
returns-in_err-mode c =
    let none : Bor (List ℕ) = record { ref_ptr = (0, 0); now = [] } in
    let word = λ (k : ℕ). (get_or c.args.args.now k none).now in
    let args = six_args c.args.args.now none (omega arith) (omega arith) in
    let says : Axes → Result Event LineFault = λ at. mode_word (word 5) >>= λ mode. Ok (events.Boot c.in_ok-id.id c.in_ok-addr.addr at mode) in
    let boots : Mode → Result Event LineFault = λ mode. Ok (events.Boot c.in_ok-id.id c.in_ok-addr.addr c.in_ok-at.at mode) in
    let p = err_from_is_err_and c.from_residual-in_err-mode.result c.from_residual-in_err-mode.ensures.1 in
    rw (p.1, p.2, args, ← c.in_ok-id.ensures, ← c.in_ok-addr.ensures)
    (ap (λ (r : Result Mode LineFault). r >>= boots) c.in_err-mode.ensures
    ∙ point-read (word 2) (word 3) (word 4) says c.in_ok-at.ensures)

pub returns : goal.returns
returns c =
    let none : Bor (List ℕ) = record { ref_ptr = (0, 0); now = [] } in
    let word = λ (k : ℕ). (get_or c.args.args.now k none).now in
    let args = six_args c.args.args.now none (omega arith) (omega arith) in
    let says : Axes → Result Event LineFault = λ at. mode_word (word 5) >>= λ mode. Ok (events.Boot c.in_ok-id.id c.in_ok-addr.addr at mode) in
    let boots : Mode → Result Event LineFault = λ mode. Ok (events.Boot c.in_ok-id.id c.in_ok-addr.addr c.in_ok-at.at mode) in
    rw (args, ← c.in_ok-id.ensures, ← c.in_ok-addr.ensures)
    (ap (λ (r : Result Mode LineFault). r >>= boots) c.in_ok-mode.ensures
    ∙ point-read (word 2) (word 3) (word 4) says c.in_ok-at.ensures)
