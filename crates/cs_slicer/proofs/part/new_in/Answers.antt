use Rattle.std.proofs.Common.{◌≡◌, true, false, not, rules}
use Rattle.std.specs.Option.{option_map_or}
use Rattle.cs_base.specs.declared.member.Member.{Member}
use Rattle.cs_roll.specs.Roll.{IsById, member_id, member_of}
use Rattle.cs_roll.specs.Same.{is_same_member}
use Rattle.cs_slicer.proofs.Steps.{kept_ascends}
use Rattle.cs_slicer.proofs.part.new_in.Goals as goal

-- the new members ascend as all do
pub push-requires : goal.push-requires
push-requires c =
    let items = c.as_slice-member-items.result.now in
    let old = c.args.old.now in
    let m = c.member-item.result in
    let up : IsById items = rw c.as_slice-member-items.ensures.value c.as_slice-member-items.ensures.roll.ascending in
    let passes : not (option_map_or (is_same_member m) (member_of m.id old) false) ≡ true = search rules in
    rw c.loop-member.invariant
    (kept_ascends (λ (n : Member). not (option_map_or (is_same_member n) (member_of n.id old) false)) items c.loop-member.member-index m
    c.loop-member-test.true c.member-item.is member_id up passes)
