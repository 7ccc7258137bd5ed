use Rattle.cs_view.proofs.Faultless.{IsView-taken}
use Rattle.cs_view.proofs.view.View.take.Goals as goal

-- what is taken from a picture without a fault is a view
pub invariant_of-result : goal.invariant_of-result
invariant_of-result c =
    rw (c.in_ok-copy.ensures, c.in_ok-kept_rolls.ensures)
    (IsView-taken c.args.me c.args.mode c.args.picture.now c.in_ok-check_picture.ensures.ok)
