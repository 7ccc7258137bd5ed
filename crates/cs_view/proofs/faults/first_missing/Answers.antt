use Rattle.std.proofs.Common.{ℕ, Bool, ◌&&◌, not, is_some, Some, sym, ap, ◌∙◌}
use Rattle.cs_view.specs.Step.{is_known, part_of}
use Rattle.cs_view.proofs.Passing.{find_here, find_none_more}
use Rattle.cs_view.proofs.faults.first_missing.Goals as goal

-- none before this one is missing
pub returns-in-Some : goal.returns-in-Some
returns-in-Some c =
    let test : ℕ → Bool = λ r. is_known c.args.rolls.now r && not (is_some (part_of r c.args.parts.now)) in
    ap Some c.in-Some.ensures.region
    ∙ sym (find_here test c.args.touched.now c.loop-n.n-index 0 c.loop-n-test.true c.loop-n.invariant (sym c.in-Some.ensures.is))

pub loop-n-preserved : goal.loop-n-preserved
loop-n-preserved c =
    let test : ℕ → Bool = λ r. is_known c.args.rolls.now r && not (is_some (part_of r c.args.parts.now)) in
    find_none_more test c.args.touched.now c.loop-n.n-index 0 c.loop-n-test.true c.loop-n.invariant (sym c.in_default.ensures.is)
