use Rattle.std.proofs.Common.{◌≡◌, ◌∙◌, ◌+◌, Ok, arith, rules}
use Rattle.cs_base.specs.Ranges.{IsRegion}
use Rattle.cs_fields.specs.Fields.{IsLaterEpoch}
use Rattle.cs_core.specs.Taking.{Gain, gain_of_piece}
use Rattle.cs_core.proofs.Gains.{gain_of_piece-is}
use Rattle.cs_core.proofs.following.Following.piece_gain.Goals as goal

-- a member keeps what makes this a gain
pub returns-clause-good : goal.returns-clause-good
returns-clause-good c =
    let m = c.args.self.now in
    let piece = c.args.piece.now in
    let gain : Gain = record { region = c.region-4.result; held = c.in_ok-held.held; colours = c.in_ok-colours.colours.items } in
    let epoch-is : c.get-epoch.result ≡ m.view.epoch + 1 = c.get-epoch.ensures.value ∙ (c.epoch.ensures ∙ c.requires.epoch) in
    let epoch : IsLaterEpoch (m.view.epoch + 1) = (omega arith, omega arith) in
    let region-is : c.get-region.result ≡ piece.region = c.get-region.ensures.value ∙ c.region.ensures in
    let region : IsRegion piece.region = (omega arith, omega arith) in
    let given : gain_of_piece m piece.region piece.colour piece.bytes ≡ Ok gain = search rules in
    gain_of_piece-is m piece.region piece.colour piece.bytes gain c.view-view.ensures.keeps epoch region c.requires.listed
    c.requires.colour c.requires.text c.requires.absent given
