use Rattle.std.proofs.Common.{◌≡◌, ◌+◌, ◌-◌, length, take, drop, refl, arith}
use Rattle.std.proofs.lemmas.List.{take_all, length-drop}
use Rattle.cs_base.proofs.Parts.{parted-position}
use Rattle.cs_base.proofs.canonical.part_at.Goals as goal

pub returns-in_err-place : goal.returns-in_err-place
returns-in_err-place c =
    rw (c.from_residual.ensures, parted-position c.args.byte c.args.text.now, ← c.in_err-place.ensures) refl

pub returns : goal.returns
returns c =
    let after = drop (c.in_ok-place.place + 1) c.args.text.now in
    let all : take (length c.args.text.now - (c.in_ok-place.place + 1)) after ≡ after = take_all _ _ (simp length-drop (omega arith)) in
    rw (parted-position c.args.byte c.args.text.now, ← c.in_ok-place.ensures, all) refl
