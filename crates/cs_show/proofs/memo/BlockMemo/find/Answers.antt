-- what is found is of a view with the same epoch and summaries
use Rattle.std.proofs.Common.{◌∙◌, refl, sym}
use Rattle.cs_show.proofs.Commons.{of_the_same}
use Rattle.cs_show.proofs.memo.BlockMemo.find.Goals as goal

pub returns-in-Ok : goal.returns-in-Ok
returns-in-Ok c =
    let same = c.if-not-is_of.ensures refl in
    of_the_same c.deref-2.result.now c.in-Ok.found.value c.args.view.now (c.in-Ok.ensures.cases ∙ sym c.deref-2.ensures) same.0 same.1
