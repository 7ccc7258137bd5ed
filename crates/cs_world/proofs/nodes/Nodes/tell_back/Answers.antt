-- the node that is there says what it is
use Rattle.std.proofs.Common.{◌≡◌, IfOk, sym, ap, subst, ◌∙◌}
use Rattle.std.specs.Option.{option_copied}
use Rattle.std.specs.String.{string_bytes}
use Rattle.std.proofs.lemmas.Option.{none-some, same_Some}
use Rattle.cs_show.specs.Text.{ended}
use Rattle.cs_world.specs.AloneEvents.{back_word}
use Rattle.cs_world.proofs.BackLines.{node-at, none-at}
use Rattle.cs_world.proofs.nodes.Nodes.tell_back.Goals as goal

pub returns-in_default-clause-word : goal.returns-in_default-clause-word
returns-in_default-clause-word g c = λ parts node there is.
    absurd (none-at g.L.Link g.G.Log c.args.self.now.seats c.args.id parts (sym c.get.ensures ∙ ap option_copied c.in_default.is) there)
