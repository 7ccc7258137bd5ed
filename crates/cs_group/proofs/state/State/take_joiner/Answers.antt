use Rattle.std.proofs.Common.{◌≡◌, ◌+◌, false, nat_le, length, List, ap, arith, rules}
use Rattle.std.proofs.lemmas.Bool.{leb-false, or_parts}
use Rattle.cs_base.specs.Limits.{most_members, most_together}
use Rattle.cs_group.specs.Group.{GroupState, is_among}
use Rattle.cs_group.specs.Judging.{is_full}
use Rattle.cs_group.specs.Rows.{has_member}
use Rattle.cs_group.specs.declared.row.Row.{Row}
use Rattle.cs_group.proofs.Edits.{length-without-le, others-absent, without-others}
use Rattle.cs_group.proofs.Taking.{join-tells}
use Rattle.cs_group.proofs.state.State.take_joiner.Goals as goal

-- there is room for a joiner
pub with-requires : goal.with-requires
with-requires c =
    let was = c.self.inside in
    let rows = ap (λ (g : GroupState). g.rows) c.self.view_is in
    let tells = join-tells (is_among c.args.self.now.retired c.args.member.id) (has_member c.args.member.id c.args.self.now.rows)
    (is_full c.args.self.now) c.requires in
    let room = or_parts (nat_le most_members (length c.args.self.now.rows))
    (nat_le most_together (length c.args.self.now.rows + length c.args.self.now.retired)) tells.2 in
    let below = leb-false most_members (length c.args.self.now.rows) room.0 in
    let same = ap (λ (xs : List Row). length xs) rows in
    let fewer = length-without-le c.args.member.id was.table in
    omega (arith, below, same, fewer)

-- whose id is new
pub returns : goal.returns
returns c =
    let was = c.self.inside in
    let rows = ap (λ (g : GroupState). g.rows) c.self.view_is in
    let tells = join-tells (is_among c.args.self.now.retired c.args.member.id) (has_member c.args.member.id c.args.self.now.rows)
    (is_full c.args.self.now) c.requires in
    let new : has_member c.args.member.id was.table ≡ false = rw rows tells.1 in
    let gone = without-others c.args.member.id was.table (others-absent c.args.member.id was.table new) in
    rw (← c.self.view_is) (search rules)
