-- the node that is there carries out what it decides on the bytes
use Rattle.std.proofs.Common.{ap, subst, ◌∙◌}
use Rattle.std.proofs.lemmas.Option.{same_Some}
use Rattle.cs_node.specs.Effects.{on_bytes}
use Rattle.cs_node.specs.Placed.{HasCarriedOut}
use Rattle.cs_node.specs.Told.{link_told, log_told}
use Rattle.cs_node.proofs.process.Process.deliver.Goals as goal

pub returns-clause-up : goal.returns-clause-up
returns-clause-up g c = λ node is.
    let there = c.in_ok-node.node in
    let inside = c.self.inside in
    let carried = c.carry_out_on-node in
    let link_now = link_told g.L.Link carried.new.link in
    let log_now = log_told g.G.Log carried.new.log in
    subst (λ p. HasCarriedOut node (on_bytes node c.args.bytes.now) (link_told g.L.Link p.link) (log_told g.G.Log p.log)
    carried.result link_now log_now) c.self.view_is
    (subst (λ n. HasCarriedOut n (on_bytes n c.args.bytes.now) (link_told g.L.Link inside.link) (log_told g.G.Log inside.log)
    carried.result link_now log_now)
    (same_Some there node (c.in_ok-node.ensures.value ∙ ap (λ p. p.node) c.self.view_is ∙ is))
    (carried.ensures.carried (on_bytes there c.args.bytes.now) c.deliver-decided.ensures.value))
