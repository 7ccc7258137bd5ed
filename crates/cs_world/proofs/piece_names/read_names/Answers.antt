use Rattle.std.proofs.Common.{◌≡◌, ◌∙◌, Ok, ap, sym}
use Rattle.cs_world.specs.declared.piece_names.PieceNames.{PieceNames}
use Rattle.cs_world.proofs.NamedPieces.{piece-named}
use Rattle.cs_world.proofs.piece_names.read_names.Goals as goal

-- the names that were read are those of the packet
pub returns : goal.returns
returns c =
    let names : PieceNames = record {
      from = c.in_ok-from.from;
      to = c.in_ok-to.to;
      epoch = c.in_ok-epoch.epoch;
      region = c.in_ok-region.region;
      colour = c.in_ok-colour.colour;
    } in
    let version = sym c.in_ok-version.ensures.exact ∙ ap (λ n. Ok (n, c.in_ok-version.behind)) c.if-version-ne-VERSION.false in
    let kind = sym c.in_ok-kind.ensures.exact ∙ ap (λ n. Ok (n, c.in_ok-kind.behind)) c.if-kind-ne-PIECE.false in
    piece-named c.args.bytes.now names c.in_ok-version.behind c.in_ok-kind.behind c.in_ok-from.behind c.in_ok-to.behind c.in_ok-epoch.behind
    c.in_ok-region.behind c.in_ok-colour.field-0-1 version kind (sym c.in_ok-from.ensures.exact) (sym c.in_ok-to.ensures.exact)
    (sym c.in_ok-epoch.ensures.exact) (sym c.in_ok-region.ensures.exact) (sym c.in_ok-colour.ensures.exact)
