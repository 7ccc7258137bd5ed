use Rattle.std.proofs.Common.{◌≡◌, Some, None, sym, ◌∙◌, rules}
use Rattle.cs_slicer.specs.Joiners.{joiner_in}
use Rattle.cs_slicer.proofs.LetIn.{joiners_more}
use Rattle.cs_slicer.proofs.joining.joiners.Goals as goal
use Rattle.cs_slicer.proofs.joining.joiners.Goals.{in-Some+in_ok-insert, in_default}

-- one more change
pub loop-change-preserved : goal.loop-change-preserved
loop-change-preserved c =
    let item = c.args.item.now in
    let i = c.loop-change.change-index in
    let change = c.change-item.result in
    let more = joiners_more item i change c.loop-change-test.true c.change-item.is in
    elim c.match-joiner_in.branch [
      | in-Some+in_ok-insert w ↦
          let joins : joiner_in change ≡ Some w.in-Some.member = search rules in
          w.roll-is ∙ (w.in_ok-insert.ensures.placed ∙ (rw c.loop-change.invariant (sym (rw joins at more))))
      | in_default w ↦
          let stays : joiner_in change ≡ None = search rules in
          w.roll-is ∙ (c.loop-change.invariant ∙ sym (rw stays at more))
    ]
