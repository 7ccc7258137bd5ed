use Rattle.std.proofs.Common.{◌≡◌, true, not, ℕ, rules}
use Rattle.std.specs.Option.{is_some}
use Rattle.cs_base.specs.Ascending.{IsAscendingBy}
use Rattle.cs_base.specs.declared.member.Member.{Member}
use Rattle.cs_roll.specs.Roll.{member_of}
use Rattle.cs_slicer.proofs.Steps.{read_ascends}
use Rattle.cs_slicer.proofs.part.gone_from.Goals as goal

-- the ids ascend as the members do
pub push-requires : goal.push-requires
push-requires c =
    let items = c.as_slice-member-items.result.now in
    let up : IsAscendingBy (λ (m : Member). m.id) items = rw c.as_slice-member-items.ensures.value c.as_slice-member-items.ensures.roll.ascending in
    let passes : not (is_some (member_of c.member-item.result.id c.args.new.now)) ≡ true = search rules in
    rw (c.loop-member.invariant, c.get.ensures.value)
    (read_ascends (λ (m : Member). not (is_some (member_of m.id c.args.new.now))) items c.loop-member.member-index c.member-item.result
    c.loop-member-test.true c.member-item.is (λ (n : ℕ). n) (λ (m : Member). m.id) up passes)
