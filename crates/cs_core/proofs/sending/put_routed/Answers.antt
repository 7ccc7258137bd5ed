use Rattle.std.proofs.Common.{◌≡◌, ◌∙◌, ◌++◌, ℕ, List, map, ap, subst}
use Rattle.std.specs.Result.{OnOk}
use Rattle.std.proofs.lemmas.Result.{on_ok_weaker}
use Rattle.cs_packet.specs.NamedPiece.{piece_to}
use Rattle.cs_tree.specs.Route.{Target, route}
use Rattle.cs_core.proofs.sending.put_routed.Goals as goal

-- the targets are those of the route
pub returns-clause-value : goal.returns-clause-value
returns-clause-value c =
    let me = c.args.me in
    let view = c.args.view.now in
    let piece = c.args.piece.now in
    let way : ℕ → ℕ → List Target = λ region colour. route me view.summaries view.rolls region colour in
    let same : c.as_slice.result.now ≡ way piece.region piece.colour =
    c.as_slice.ensures.value
    ∙ (c.in_ok-targets.ensures
    ∙ (ap (λ (region : ℕ). way region c.colour.result) c.region.ensures ∙ ap (way piece.region) c.colour.ensures)) in
    subst (λ (targets : List Target). OnOk c.put_piece.result (c.put_piece.new.self ≡ c.args.sends.now ++ map (piece_to me piece) targets)) same
    c.put_piece.ensures.value

-- the colour is one of the four
pub returns-clause-allowed : goal.returns-clause-allowed
returns-clause-allowed c =
    on_ok_weaker c.put_piece.result (λ allowed later text before. allowed later c.requires.colour text before) c.put_piece.ensures.allowed
