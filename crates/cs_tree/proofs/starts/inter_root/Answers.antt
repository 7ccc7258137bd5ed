use Rattle.std.proofs.Common.{◌≡◌, None, Some, sym, ap, ◌∙◌}
use Rattle.std.specs.Option.{option_to_list}
use Rattle.cs_tree.proofs.Starting.{root-read, to_inter_root-other, to_inter_root-self}
use Rattle.cs_tree.specs.Start.{root_representative, to_inter_root}
use Rattle.cs_tree.proofs.starts.inter_root.Goals as goal

-- no representative
pub returns-in_err-root : goal.returns-in_err-root
returns-in_err-root g c =
    let summaries = g.V.Sight.summaries c.args.sight.now in
    let read : None ≡ root_representative c.args.colour summaries =
    root-read c.args.colour summaries c.args.tree.now c.root.result None c.requires.tree c.root.ensures c.in_err-root.ensures in
    ap option_to_list c.from_residual.ensures ∙ ap (to_inter_root c.args.me) read

-- the node itself
pub returns-then-eq : goal.returns-then-eq
returns-then-eq g c =
    let summaries = g.V.Sight.summaries c.args.sight.now in
    let read : Some c.in_ok-root.root ≡ root_representative c.args.colour summaries =
    root-read c.args.colour summaries c.args.tree.now c.root.result (Some c.in_ok-root.root) c.requires.tree c.root.ensures c.in_ok-root.ensures in
    sym (to_inter_root-self c.args.me c.in_ok-root.root (sym c.eq.ensures ∙ c.if-eq.true)) ∙ ap (to_inter_root c.args.me) read

-- another one
pub returns : goal.returns
returns g c =
    let summaries = g.V.Sight.summaries c.args.sight.now in
    let read : Some c.in_ok-root.root ≡ root_representative c.args.colour summaries =
    root-read c.args.colour summaries c.args.tree.now c.root.result (Some c.in_ok-root.root) c.requires.tree c.root.ensures c.in_ok-root.ensures in
    sym (to_inter_root-other c.args.me c.in_ok-root.root (sym c.eq.ensures ∙ c.if-eq.false)) ∙ ap (to_inter_root c.args.me) read
