-- the node that is there takes the bytes
use Rattle.std.proofs.Common.{sym}
use Rattle.std.proofs.lemmas.Option.{none-some}
use Rattle.cs_world.specs.Processes.{parts_in}
use Rattle.cs_world.proofs.TakenBytes.{took-bytes}
use Rattle.cs_world.proofs.action.deliver.Goals as goal

pub returns : goal.returns
returns g c =
    took-bytes (parts_in g.L.Link g.G.Log c.args.process.now) (parts_in g.L.Link g.G.Log c.deliver.new.self) c.args.bytes c.in-Some.note
    c.unless_torn.result c.in-Some.ensures.up (λ none. none-some c.in-Some.note (sym (c.in-Some.ensures.down none).0)) (g.met.G.Log.within _)
    (rw (c.armed-was_armed.ensures, c.armed.ensures) at c.unless_torn.ensures)
