use Rattle.std.proofs.Common.{◌++◌, codes, decimal, arith}
use Rattle.std.specs.String.{string_bytes}
use Rattle.cs_base.specs.Axes.{axes_text, from_row}
use Rattle.cs_show.proofs.LineLemmas.{axes_put, ended_put, number_put, part_put}
use Rattle.cs_show.proofs.lines.put_region_line.Goals as goal

pub returns : goal.returns
returns c =
    let start = string_bytes c.args.out.now in
    let region = c.args.region in
    let s = c.summary.inside in
    let sum = c.totals.result in
    let low = c.bounds.result in
    let high = c.bounds-2.result in
    let region_put = number_put _ _ _ region c.in_ok-put_number.ensures c.get.ensures.value in
    let sum_put = axes_put _ _ (record { x = sum.x; y = sum.y; z = sum.z }) (from_row s.sum) c.in_ok-put_spread.ensures c.totals.ensures in
    let low_put = axes_put _ _ (record { x = low.x; y = low.y; z = low.z }) (from_row s.low) c.in_ok-put_spread-2.ensures c.bounds.ensures in
    let high_put = axes_put _ _ (record { x = high.x; y = high.y; z = high.z }) (from_row s.high) c.in_ok-put_spread-3.ensures c.bounds-2.ensures in
    let front = part_put start (codes "region" ++ codes " " ++ decimal region) (decimal s.size) _ _
    (part_put start (codes "region") (decimal region) _ _ c.in_ok-push_str.ensures.bytes region_put) c.in_ok-put_number-2.ensures in
    rw (← c.summary.view_is)
    (ended_put c.push.result start _ _ _ _
    (part_put start _ (axes_text (from_row s.high)) _ _ (part_put start _ (axes_text (from_row s.low)) _ _
    (part_put start _ (axes_text (from_row s.sum)) _ _ front sum_put) low_put) high_put)
    (c.push.ensures.ascii (omega arith)) c.push.ensures.bytes)
