use Rattle.std.proofs.Common.{sym, ap, ◌∙◌}
use Rattle.std.specs.Option.{is_some}
use Rattle.cs_view.proofs.Finding.{is_some-copied, is_some-find}
use Rattle.cs_view.proofs.faults.is_among.Goals as goal

-- the number is found where it is among them
pub returns : goal.returns
returns c =
    c.is_some.ensures ∙ (sym (is_some-copied c.get.result) ∙ (ap is_some c.get.ensures ∙ is_some-find _ c.args.ids.now))
