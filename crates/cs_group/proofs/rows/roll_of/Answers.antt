use Rattle.std.proofs.Common.{◌≡◌, ◌++◌, [], ◌∷◌, take, ◌+◌, ◌==◌, subst, sym, ap, ◌∙◌, append-nil, arith}
use Rattle.cs_roll.specs.Roll.{IsById}
use Rattle.cs_group.specs.Rows.{members_in}
use Rattle.cs_group.proofs.Lists.{IsPairwise-take}
use Rattle.cs_group.proofs.Loops.{read_more}
use Rattle.cs_group.proofs.Order.{IsById-members_in}
use Rattle.cs_group.proofs.rows.roll_of.Goals as goal
use Rattle.cs_group.proofs.rows.roll_of.Goals.{then-eq+in_ok-push, else-eq}

-- the members up to this row are a roll
pub push-requires : goal.push-requires
push-requires c =
    let rows = c.args.rows.now in
    let i = c.loop-row.row-index in
    let row = c.row-item.result in
    let more = read_more (λ r. r.member) (λ r. r.region == c.args.region) rows i row c.loop-row-test.true c.row-item.is in
    let whole = IsById-members_in c.args.region (take (i + 1) rows) (IsPairwise-take _ (i + 1) rows c.requires) in
    let e : members_in c.args.region (take (i + 1) rows) ≡ c.loop-row.roll ++ row.member ∷ [] = grind (arith, more) in
    subst IsById e whole

-- a member of the region comes last, and another row changes nothing
pub loop-row-preserved : goal.loop-row-preserved
loop-row-preserved c =
    let i = c.loop-row.row-index in
    let row = c.row-item.result in
    let more = read_more (λ r. r.member) (λ r. r.region == c.args.region) c.args.rows.now i row c.loop-row-test.true c.row-item.is in
    let pushed = ap (λ roll. roll ++ row.member ∷ []) c.loop-row.invariant in
    elim c.if-eq.branch [
      | then-eq+in_ok-push w ↦ w.roll-is ∙ (w.in_ok-push.ensures.ok ∙ (pushed ∙ sym (rw (sym w.if-eq.ensures) at more)))
      | else-eq w ↦ w.roll-is ∙ (c.loop-row.invariant ∙ sym (rw (sym w.if-eq.ensures, append-nil) at more))
    ]
