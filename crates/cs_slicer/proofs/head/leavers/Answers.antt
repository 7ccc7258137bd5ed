use Rattle.std.proofs.Common.{◌≡◌, ◌++◌, ◌+◌, take, [], ◌∷◌, Some, None, sym, subst, ◌∙◌, rules}
use Rattle.std.specs.List.{AllByRecursion}
use Rattle.std.proofs.lemmas.List.{take_more}
use Rattle.cs_base.proofs.Elements.{All-append}
use Rattle.cs_group.specs.Taking.{FitsRow}
use Rattle.cs_slicer.specs.Leavers.{leaver_of}
use Rattle.cs_slicer.proofs.Steps.{leavers_more}
use Rattle.cs_slicer.proofs.head.leavers.Goals as goal
use Rattle.cs_slicer.proofs.head.leavers.Goals.{in-Some+in_ok-insert, in_default}

-- one more change
pub loop-change-preserved : goal.loop-change-preserved
loop-change-preserved c =
    let item = c.args.item.now in
    let i = c.loop-change.change-index in
    let change = c.change-item.result in
    let more = leavers_more item i change c.loop-change-test.true c.change-item.is in
    let longer : take (i + 1) item ≡ take i item ++ change ∷ [] = rw c.change-item.is (take_more item i change c.loop-change-test.true) in
    record {
      left = elim c.match-leaver_of.branch [
        | in-Some+in_ok-insert w ↦
            let leaves : leaver_of change ≡ Some w.in-Some.id = search rules in
            w.left-is ∙ (w.in_ok-insert.ensures.placed ∙ (rw (c.loop-change.invariant.left, w.get.ensures.value) (sym (rw leaves at more))))
        | in_default w ↦
            let stays : leaver_of change ≡ None = search rules in
            w.left-is ∙ (c.loop-change.invariant.left ∙ sym (rw stays at more))
      ];
      allowed = subst (AllByRecursion FitsRow) (sym longer)
          (All-append FitsRow (take i item) (change ∷ []) c.loop-change.invariant.allowed (c.leaver_of.ensures.allowed, tt));
    }
