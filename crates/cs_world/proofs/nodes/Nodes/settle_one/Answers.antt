-- the delivery is told behind its line
use Rattle.std.proofs.Common.{◌++◌, ap, ◌∙◌}
use Rattle.std.specs.String.{string_bytes}
use Rattle.cs_world.proofs.Rounds.{delivery-tells}
use Rattle.cs_world.proofs.nodes.Nodes.settle_one.Goals as goal

pub returns-clause-told : goal.returns-clause-told
returns-clause-told g c = λ world stands.
    delivery-tells g.L.Link g.G.Log c.deliver.new.self world c.args.number (string_bytes c.args.out.now) (string_bytes c.put_number_line.new.out)
    (string_bytes c.in_ok-text.text) (string_bytes c.push_str.new.self) c.in_ok-put_number_line.ensures (c.in_ok-text.ensures.answers world stands).0
    (c.in_ok-push_str.ensures.bytes ∙ ap (λ t. string_bytes c.put_number_line.new.out ++ t) c.deref.ensures)
