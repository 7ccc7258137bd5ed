use Rattle.std.proofs.Common.{◌≡◌, ◌+◌, true, false, is_some, None, sym, subst, arith}
use Rattle.std.specs.Result.{IfOk}
use Rattle.cs_base.specs.Ranges.{IsRegion}
use Rattle.cs_fields.specs.Fields.{IsLaterEpoch}
use Rattle.cs_hold.specs.Held.{piece_in}
use Rattle.cs_core.specs.Node.{lists}
use Rattle.cs_core.specs.Taking.{piece_gained}
use Rattle.cs_core.specs.declared.plan.Plan.{Plan}
use Rattle.cs_core.proofs.NextPlans.{next_piece-taken, none-there}
use Rattle.cs_core.proofs.Reasons.{reasons-piece}
use Rattle.cs_core.proofs.following.Following.next_piece.Goals as goal

-- the answer is that of the piece that came
pub returns-clause-plan : goal.returns-clause-plan
returns-clause-plan c =
    let own = c.args.own.now in
    let m = c.args.self.now in
    let piece = c.args.piece.now in
    let listed : lists m.view piece.region ≡ true = rw (← c.view.ensures.value, ← c.region.ensures) (sym c.if-not-lists.ensures) in
    let apart : is_some (piece_in piece.region piece.colour m.held) ≡ false =
    rw (← c.held.ensures.value, ← c.region-2.ensures, ← c.colour.ensures) (sym c.if-has.ensures) in
    subst (λ (due : Plan). IfOk c.answered.result (λ (plan : Plan). plan ≡ due)) (sym (next_piece-taken own m piece listed apart))
    (c.answered.ensures.value (piece_gained own m piece) c.take_piece.ensures.plan c.take_piece.ensures.fault)

-- whose reasons can be told
pub returns-clause-sound : goal.returns-clause-sound
returns-clause-sound c =
    let own = c.args.own.now in
    let m = c.args.self.now in
    let piece = c.args.piece.now in
    let listed : lists m.view piece.region ≡ true = rw (← c.view.ensures.value, ← c.region.ensures) (sym c.if-not-lists.ensures) in
    let apart : is_some (piece_in piece.region piece.colour m.held) ≡ false =
    rw (← c.held.ensures.value, ← c.region-2.ensures, ← c.colour.ensures) (sym c.if-has.ensures) in
    let region : IsRegion piece.region = omega (arith, c.get-region.ensures.not_last, c.get-region.ensures.value, c.region-3.ensures) in
    let later : IsLaterEpoch (m.view.epoch + 1) = subst IsLaterEpoch c.requires.epoch c.requires.later in
    c.answered.ensures.sound (piece_gained own m piece) c.take_piece.ensures.fault
    (reasons-piece own m piece c.view.ensures.keeps c.requires.colour later region listed c.requires.text
    (none-there (piece_in piece.region piece.colour m.held) apart)) c.take_piece.ensures.sound
