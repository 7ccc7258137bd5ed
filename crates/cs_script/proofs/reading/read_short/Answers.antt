use Rattle.std.proofs.Common.{◌≡◌, bytes_eq, codes, true, map, rules}
use Rattle.std.proofs.lemmas.Slice.Eq.{bytes_eq-Decides}
use Rattle.cs_script.specs.Rows.{AnId}
use Rattle.cs_script.specs.declared.event.Event.TheVariants as events
use Rattle.cs_script.proofs.Args.{short-said}
use Rattle.cs_script.proofs.reading.read_short.Goals as goal

pub returns-in_ok-only_id-4 : goal.returns-in_ok-only_id-4
returns-in_ok-only_id-4 c =
    let named : bytes_eq c.args.word.now (codes "crash") ≡ true = search rules in
    rw ((bytes_eq-Decides c.args.word.now (codes "crash")).0 named)
    (short-said (codes "crash") AnId (λ id. events.Crash id) (map (λ word. word.now) c.args.args.now) _ c.in_ok-only_id-4.ensures)
