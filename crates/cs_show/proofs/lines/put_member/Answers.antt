use Rattle.std.proofs.Common.{decimal, arith}
use Rattle.std.specs.String.{string_bytes}
use Rattle.cs_base.specs.Axes.{axes_text}
use Rattle.cs_base.specs.Canonical.{address_text}
use Rattle.cs_show.specs.Block.{member_line}
use Rattle.cs_show.proofs.LineLemmas.{axes_put, ended_put, number_put, part_put}
use Rattle.cs_show.proofs.lines.put_member.Goals as goal

pub returns : goal.returns
returns c =
    let start = string_bytes c.args.out.now in
    let region = c.args.region in
    let m = c.args.member.now in
    let at = c.coordinates.result in
    let region_put = number_put _ _ _ region c.in_ok-put_number.ensures c.get.ensures.value in
    let id_put = number_put _ _ _ m.id c.in_ok-put_number-2.ensures c.get-2.ensures.value in
    let at_put = axes_put _ _ (record { x = at.x; y = at.y; z = at.z }) m.at c.in_ok-put_spread.ensures c.coordinates.ensures in
    ended_put c.push.result start (member_line c.args.word.now region m) _ _ _
    (part_put start _ (axes_text m.at) _ _ (part_put start _ (address_text m.addr) _ _ (part_put start _ (decimal m.id) _ _
    (part_put start c.args.word.now (decimal region) _ _ c.in_ok-push_str.ensures.bytes region_put) id_put)
    c.in_ok-put_address.ensures) at_put)
    (c.push.ensures.ascii (omega arith)) c.push.ensures.bytes
