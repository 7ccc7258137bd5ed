use Rattle.std.proofs.Common.{◌≡◌, ◌+◌, sym, subst, rules}
use Rattle.cs_fields.specs.Fields.{IsLaterEpoch}
use Rattle.cs_core.specs.Gained.{IsGain}
use Rattle.cs_core.specs.Taking.{Gain, gain_of_slice}
use Rattle.cs_core.proofs.Gains.{gain_of_slice-is}
use Rattle.cs_core.proofs.following.Following.slice_gain.Goals as goal

-- a member keeps what makes this a gain
pub returns-clause-good : goal.returns-clause-good
returns-clause-good c =
    let m = c.args.self.now in
    let slice = c.args.slice.now in
    let gain : Gain = record { region = slice.part.region; held = c.in_ok-held.held; colours = c.in_ok-colours.colours.items } in
    let epoch : IsLaterEpoch (m.view.epoch + 1) = subst IsLaterEpoch c.requires.epoch c.requires.slice.head.epoch in
    let value : gain ≡ gain_of_slice m slice = search rules in
    subst (IsGain m) (sym value)
    (gain_of_slice-is m slice c.view-view.ensures.keeps epoch c.requires.slice c.requires.epoch c.requires.listed c.requires.absent)
