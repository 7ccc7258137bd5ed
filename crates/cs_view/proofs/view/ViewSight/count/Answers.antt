-- what a view keeps, and what its lists tell of each pair
use Rattle.std.proofs.Common.{◌≡◌, ℕ, List, Some}
use Rattle.cs_base.specs.Ranges.{IsRegion}
use Rattle.cs_base.specs.declared.member.Member.{Member}
use Rattle.cs_base.proofs.Elements.{All-weaker}
use Rattle.cs_roll.specs.Roll.{IsRoll}
use Rattle.cs_roll.specs.Sight.{at_region}
use Rattle.cs_roll.specs.Summary.{IsSummary, RegionSummary, summary_of}
use Rattle.cs_view.specs.View.{IsListed}
use Rattle.cs_view.proofs.view.ViewSight.count.Goals as goal

pub returns-clause-sight : goal.returns-clause-sight
returns-clause-sight c =
    let p = c.self.inside.picture in
    let ascending = rw (← c.self.view_is) at c.known-ascending.ensures.ascending in
    let rolls = rw (← c.self.view_is) at c.known-ascending.ensures.allowed in
    rw (← c.self.view_is) (record {
      few = c.self.invariant.size.few;
      summaries_ascend = c.as_slice.ensures.ascending;
      rolls_ascend = ascending;
      listed = All-weaker (IsListed p.summaries) (λ (pair : ℕ × List Member). at_region pair.0 p.summaries ≡ Some (summary_of pair.1)) (λ pair is. is.summary)
          p.rolls c.self.invariant.listed;
      summaries_allowed = All-weaker (λ (pair : ℕ × RegionSummary). IsRegion pair.0 × IsSummary pair.1) (λ pair. IsSummary pair.1) (λ pair is. is.1) p.summaries
          c.as_slice.ensures.allowed;
      rolls_allowed = All-weaker (λ (pair : ℕ × List Member). IsRegion pair.0 × IsRoll pair.1) (λ pair. IsRoll pair.1) (λ pair is. is.1) p.rolls rolls;
    })
