use Rattle.std.proofs.Common.{is_some, sym, ap, ◌∙◌}
use Rattle.cs_view.proofs.Finding.{any-there, is_some-copied}
use Rattle.cs_core.proofs.known.is_known.Goals as goal

-- a roll is found where its region is among the known ones
pub returns : goal.returns
returns c =
    c.is_some.ensures ∙ (sym (is_some-copied c.roll.result) ∙ (ap is_some c.roll.ensures
    ∙ sym (any-there c.args.region c.args.view.now.rolls)))
