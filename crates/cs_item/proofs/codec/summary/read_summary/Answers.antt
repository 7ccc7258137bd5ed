use Rattle.std.proofs.Common.{arith}
use Rattle.cs_item.proofs.SummaryLaws.{checked_sums}
use Rattle.cs_item.proofs.codec.summary.read_summary.Goals as goal

-- each field was found to be allowed, and the sums were checked
pub make_summary-requires : goal.make_summary-requires
make_summary-requires c =
    let size = c.in_ok-size.ensures.spelt.found.0 in
    checked_sums _ c.in_ok-size.sum_at (omega (arith, size.0)) size.1 c.in_ok-low.ensures.spelt.found.0 c.in_ok-high.ensures.spelt.found.0
    c.in_ok-check_sum.ensures c.in_ok-globals.ensures.spelt.found.0
