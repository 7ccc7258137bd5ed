use Rattle.std.proofs.Common.{◌≡◌, ◌<◌, ◌++◌, ℕ, List, length, map, sym, ap, subst, ◌∙◌}
use Rattle.std.specs.Result.{OnOk}
use Rattle.std.proofs.lemmas.Result.{on_ok_weaker}
use Rattle.cs_base.specs.Address.{Address}
use Rattle.cs_base.specs.Limits.{colours}
use Rattle.cs_base.specs.declared.member.Member.{Member}
use Rattle.cs_fields.specs.Fields.{IsLaterEpoch}
use Rattle.cs_item.specs.declared.picture.Picture.{Picture}
use Rattle.cs_packet.specs.NamedPiece.{NamedPiece, piece_to}
use Rattle.cs_packet.specs.PieceField.{IsPieceText}
use Rattle.cs_packet.specs.declared.packet.Packet.{Packet}
use Rattle.cs_tree.specs.Route.{Target}
use Rattle.cs_tree.specs.Start.{start}
use Rattle.cs_lead.specs.Closing.{piece_of_slice, started}
use Rattle.cs_lead.proofs.PieceTexts.{IsPieceText-slice}
use Rattle.cs_lead.proofs.WholeViews.{view_listed}
use Rattle.cs_lead.proofs.leader.Leader.put_colour.Goals as goal

-- the leader's view lists a region
pub start-requires-clause-some : goal.start-requires-clause-some
start-requires-clause-some c =
    subst (λ (p : Picture). 0 < length p.summaries) (sym c.with_trees.ensures.value)
    (view_listed c.args.self.now c.with_trees.ensures.keeps)

-- the targets are those that the piece starts at
pub returns-clause-value : goal.returns-clause-value
returns-clause-value c =
    let me = c.args.self.now.me in
    let view = c.args.self.now.view in
    let slice = c.args.slice.now in
    let colour = c.args.colour in
    let named = c.new-piece.result in
    let piece = piece_of_slice slice colour in
    let with_bytes : List ℕ → NamedPiece = λ bytes. record { epoch = slice.head.epoch; region = slice.part.region; colour = colour; bytes = bytes } in
    let is : named ≡ piece = c.new-piece.ensures ∙ ap with_bytes (c.as_slice.ensures ∙ c.requires.bytes) in
    let from : ℕ → Picture → List Target = λ id p. start id p.summaries p.rolls slice.part.region colour in
    let targets : c.as_slice-2.result.now ≡ from me.id view =
    c.as_slice-2.ensures.value
    ∙ (c.in_ok-targets.ensures
    ∙ (ap (λ (m : Member). from m.id c.with_trees.result.now) c.me-me.ensures.value ∙ ap (from me.id) c.with_trees.ensures.value)) in
    let same : map (piece_to c.me-me.result.id named) c.as_slice-2.result.now ≡ started me.id view piece =
    ap (λ (m : Member). map (piece_to m.id named) c.as_slice-2.result.now) c.me-me.ensures.value
    ∙ (ap (λ (p : NamedPiece). map (piece_to me.id p) c.as_slice-2.result.now) is ∙ ap (map (piece_to me.id piece)) targets) in
    subst (λ (sent : List (Address × Packet)). OnOk c.put_piece.result (c.put_piece.new.self ≡ c.args.sends.now ++ sent)) same c.put_piece.ensures.value

-- the piece can stand in a packet
pub returns-clause-allowed : goal.returns-clause-allowed
returns-clause-allowed c =
    let slice = c.args.slice.now in
    let colour = c.args.colour in
    let with_bytes : List ℕ → NamedPiece = λ bytes. record { epoch = slice.head.epoch; region = slice.part.region; colour = colour; bytes = bytes } in
    let is : c.new-piece.result ≡ piece_of_slice slice colour = c.new-piece.ensures ∙ ap with_bytes (c.as_slice.ensures ∙ c.requires.bytes) in
    let later = subst (λ (p : NamedPiece). IsLaterEpoch p.epoch) (sym is) c.requires.slice.head.epoch in
    let below = subst (λ (p : NamedPiece). p.colour < colours) (sym is) c.requires.colour in
    let text = subst (λ (p : NamedPiece). IsPieceText p.bytes) (sym is) (IsPieceText-slice slice colour c.requires.slice c.requires.colour) in
    on_ok_weaker c.put_piece.result (λ allowed before. allowed later below text before) c.put_piece.ensures.allowed
