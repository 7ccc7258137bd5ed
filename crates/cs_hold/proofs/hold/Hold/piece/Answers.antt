use Rattle.std.proofs.Common.{Some, sym, ap, ◌∙◌}
use Rattle.std.specs.Option.{option_copied, option_map}
use Rattle.cs_hold.proofs.Taken.{piece_in-shelves}
use Rattle.cs_hold.proofs.hold.Hold.piece.Goals as goal

pub returns-in-Some : goal.returns-in-Some
returns-in-Some c =
    let look = piece_in-shelves c.self.inside.shelves c.args.self.now c.self.view_is c.piece_of.ensures.ascending c.args.region c.args.colour in
    ap (λ bytes. Some bytes) c.bytes.ensures ∙ ap (λ found. option_map (λ piece. piece.1) (option_copied found)) (sym c.in-Some.is)
    ∙ ap (option_map (λ piece. piece.1)) c.piece_of.ensures.value ∙ sym look

pub returns-in-None : goal.returns-in-None
returns-in-None c =
    let look = piece_in-shelves c.self.inside.shelves c.args.self.now c.self.view_is c.piece_of.ensures.ascending c.args.region c.args.colour in
    ap (λ found. option_map (λ piece. piece.1) (option_copied found)) (sym c.in-None.is) ∙ ap (option_map (λ piece. piece.1)) c.piece_of.ensures.value
    ∙ sym look
