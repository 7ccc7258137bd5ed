use Rattle.std.proofs.Common.{◌≡◌, Bool, false, not, refl, sym}
use Rattle.cs_base.specs.declared.member.Member.{Member}
use Rattle.cs_roll.specs.Roll.{member_id}
use Rattle.cs_view.specs.Step.{is_among}
use Rattle.cs_view.proofs.Passing.{IsAscendingBy-kept}
use Rattle.cs_view.proofs.giving.staying.Goals as goal

-- the next one ascends behind those that stay
pub push-requires : goal.push-requires
push-requires c =
    let stays : Member → Bool = λ m. not (is_among c.args.gone.now m.id) in
    let among : is_among c.args.gone.now c.member-item.result.id ≡ false = rw (← c.get.ensures.value) (sym c.if-not-is_among.ensures) in
    rw c.loop-member.invariant (rw c.member-item.is (IsAscendingBy-kept member_id stays c.args.members.now c.loop-member.member-index c.member-item.result
    c.loop-member-test.true (rw (← c.member-item.is, among) refl) c.requires))
