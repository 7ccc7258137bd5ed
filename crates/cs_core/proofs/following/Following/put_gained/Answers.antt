use Rattle.std.proofs.Common.{◌≡◌, ◌∙◌, ◌+◌, ◌++◌, ℕ, List, ap, subst}
use Rattle.std.specs.Result.{OnOk}
use Rattle.cs_base.specs.Address.{Address}
use Rattle.cs_item.specs.declared.picture.Picture.{Picture}
use Rattle.cs_packet.specs.declared.packet.Packet.{Packet}
use Rattle.cs_packet.specs.NamedPiece.{NamedPiece}
use Rattle.cs_core.specs.Routing.{routed}
use Rattle.cs_core.specs.Taking.{Gain, gained_sends, text_in}
use Rattle.cs_core.proofs.following.Following.put_gained.Goals as goal

abbrev named : ℕ → ℕ → ℕ → List ℕ → NamedPiece
named epoch region colour bytes = record { epoch = epoch; region = region; colour = colour; bytes = bytes }

-- what is put is the piece of the next epoch
pub returns-clause-value : goal.returns-clause-value
returns-clause-value c =
    let own = c.args.own.now in
    let m = c.args.self.now in
    let gain = c.args.gain.now in
    let colour = c.args.colour in
    let next = m.view.epoch + 1 in
    let region = c.gain.inside.region in
    let piece : c.new-piece.result ≡ named next gain.region colour (text_in gain.region colour gain.held) =
    c.new-piece.ensures
    ∙ (ap (λ (epoch : ℕ). named epoch region colour c.text_in-bytes.result.now) c.next_epoch.ensures
    ∙ (ap (named next region colour) c.text_in-bytes.ensures
    ∙ ap (λ (g : Gain). named next g.region colour (text_in g.region colour g.held)) c.gain.view_is)) in
    let same : routed own.id c.with_trees.result.now c.new-piece.result ≡ gained_sends own m gain colour =
    ap (λ (view : Picture). routed own.id view c.new-piece.result) c.with_trees.ensures.value ∙ ap (routed own.id m.view) piece in
    subst (λ (sends : List (Address × Packet)). OnOk c.put_routed.result (c.put_routed.new.sends ≡ c.args.sends.now ++ sends)) same
    c.put_routed.ensures.value
