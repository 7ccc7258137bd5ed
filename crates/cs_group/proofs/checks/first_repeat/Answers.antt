use Rattle.std.proofs.Common.{◌≡◌, ◌+◌, ◌∷◌, drop, ap, sym, ◌∙◌, false}
use Rattle.std.proofs.lemmas.List.{drop_more}
use Rattle.cs_base.specs.Ascending.{placed_by}
use Rattle.cs_group.specs.Faults.{first_repeat}
use Rattle.cs_group.specs.Group.{is_among}
use Rattle.cs_group.proofs.Known.{not_among}
use Rattle.cs_group.proofs.Passed.{repeat-later}
use Rattle.cs_group.proofs.checks.first_repeat.Goals as goal

-- a row whose id is new leaves the rest
pub loop-row-preserved : goal.loop-row-preserved
loop-row-preserved c =
    let rows = c.args.rows.now in
    let i = c.loop-row.row-index in
    let row = c.row-item.result in
    let seen = c.loop-row.seen in
    let later = drop (i + 1) rows in
    let dropped : drop i rows ≡ row ∷ later = drop_more rows i row c.loop-row-test.true ∙ ap (λ r. r ∷ later) (sym c.row-item.is) in
    let is_new = not_among seen c.get.result (c.in_ok-insert.ensures.is_new.0 c.if-not-branch.false) in
    let fresh : is_among seen row.member.id ≡ false = rw (← c.get.ensures.value) is_new in
    let same = ap (λ n. placed_by (λ m. m) n seen) c.get.ensures.value in
    let placed : c.insert.new.self ≡ placed_by (λ m. m) row.member.id seen = c.in_ok-insert.ensures.placed ∙ same in
    ap (λ s. first_repeat s later) placed ∙ (sym (repeat-later seen row later fresh) ∙ (ap (first_repeat seen) (sym dropped) ∙ c.loop-row.invariant))
