-- the view of what is found
use Rattle.std.proofs.Common.{sym, ap, ◌∙◌}
use Rattle.std.specs.Option.{option_copied}
use Rattle.cs_world.proofs.Prints.{view-there}
use Rattle.cs_world.proofs.nodes.Nodes.view.Goals as goal

pub returns : goal.returns
returns g c = λ world stands.
    c.view.ensures ∙ view-there g.L.Link g.G.Log c.args.self.now world stands c.args.id c.in_ok-get.field-0.now
    (sym c.get.ensures ∙ ap option_copied c.in_ok-get.was)
