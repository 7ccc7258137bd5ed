-- Each next group is a group.
use Rattle.std.proofs.Common.{◌≡◌, ℕ, ◌<◌, ◌≤◌, true, false, List, [], ◌∷◌, length, arith}
use Rattle.std.specs.List.{AllByRecursion}
use Rattle.std.proofs.lemmas.List.{length-map}
use Rattle.cs_base.specs.Axes.{Axes}
use Rattle.cs_base.specs.Limits.{most_regions}
use Rattle.cs_base.specs.declared.change.Change.{Change}
use Rattle.cs_near.specs.declared.keyed.RegionSum.{RegionSum}
use Rattle.cs_group.specs.declared.row.Row.{Row}
use Rattle.cs_group.specs.Cut.{cut_due}
use Rattle.cs_group.specs.Group.{GroupState, IsGroup, is_among}
use Rattle.cs_group.specs.Next.{before_cut, cut_group, is_spent, with_accepted}
use Rattle.cs_group.specs.Place.{place_of, region_sums, sum_in}
use Rattle.cs_group.specs.Rows.{has_member, regions}
use Rattle.cs_group.specs.Taking.{FitsRow}
use Rattle.cs_group.proofs.Known.{among-holds}
use Rattle.cs_group.proofs.Cutting.{cut-group, length-regions-le, region-among}
use Rattle.cs_group.proofs.Lists.{ByRecursion-map, ByRecursion-weaken}
use Rattle.cs_group.proofs.Merging.{taking-merge}
use Rattle.cs_group.proofs.Places.{place-holds}
use Rattle.cs_group.proofs.Regions.{ByRecursion-regions, no_region_empty}
use Rattle.cs_group.proofs.Taking.{IsTaking, taking-all}

-- a group has a region
some_region : (leader : ℕ) (rows : List Row) → has_member leader rows ≡ true → 0 < length (regions rows)
some_region leader [] some = absurd (cc)
some_region leader (r ∷ rs) some = among_some (regions (r ∷ rs)) r.region (region-among (r ∷ rs)).0
  where
    among_some : (ns : List ℕ) (n : ℕ) → is_among ns n ≡ true → 0 < length ns
    among_some [] n e = absurd (cc)
    among_some (m ∷ ms) n e = omega arith

-- each point has its place in a region of the group
pub place-among : (leader : ℕ) (rows : List Row) → has_member leader rows ≡ true → (at : Axes) → is_among (regions rows) (place_of (region_sums rows) at) ≡ true
place-among leader rows some at =
    let long = length-map (regions rows) (sum_in rows) in
    place-holds (λ n. is_among (regions rows) n ≡ true) (region_sums rows) at (omega (arith, long, some_region leader rows some))
    (ByRecursion-map (sum_in rows) (λ (t : RegionSum). 0 < t.sum.count) (regions rows) (no_region_empty rows))
    (ByRecursion-map (sum_in rows) (λ (t : RegionSum). is_among (regions rows) t.region ≡ true) (regions rows)
    (ByRecursion-regions (λ n. is_among (regions rows) n ≡ true) rows (region-among rows)))

-- a group's own regions are known
pub taking-group : (g : GroupState) → IsGroup g → IsTaking (regions g.rows) g
taking-group g is = record {
  staffed = is.staffed;
  in_known = region-among g.rows;
  numbered = ByRecursion-regions (λ n. n < g.next_region) g.rows is.numbered;
  next_number = is.next_number;
}

-- with as many known regions as there may be it is a group
group-taking : (known : List ℕ) (g : GroupState) → length known ≤ most_regions → IsTaking known g → IsGroup g
group-taking known g few is = record {
  staffed = is.staffed;
  numbered = ByRecursion-weaken (λ (r : Row). is_among known r.region ≡ true) (λ (r : Row). r.region < g.next_region)
      (λ r e. among-holds (λ n. n < g.next_region) r.region known is.numbered e) g.rows is.in_known;
  next_number = is.next_number;
  few_regions = (let fewer = length-regions-le known g.rows is.in_known in omega (arith, fewer, few));
}

module _ (g : GroupState) (changes : List Change) (allowed : AllByRecursion FitsRow changes) (is : IsGroup g) where
  -- with the accepted changes its regions are among those that were
  taking-accepted : IsTaking (regions g.rows) (with_accepted g changes)
  taking-accepted =
      taking-all (regions g.rows) (region_sums g.rows) (place-among g.leader g.rows is.staffed.leader_there) changes g allowed (taking-group g is)

  -- so it is a group
  pub IsGroup-accepted : IsGroup (with_accepted g changes)
  IsGroup-accepted = group-taking (regions g.rows) (with_accepted g changes) is.few_regions taking-accepted

  -- and one before the cut
  pub IsGroup-before : IsGroup (before_cut g changes)
  IsGroup-before =
      group-taking (regions g.rows) (before_cut g changes) is.few_regions (taking-merge (regions g.rows) (with_accepted g changes) taking-accepted)

  -- and after it
  pub IsGroup-next : is_spent (before_cut g changes) ≡ false
      → IsGroup (cut_group (cut_due (before_cut g changes).next_region (before_cut g changes).rows) (before_cut g changes))
  IsGroup-next left = cut-group (before_cut g changes) IsGroup-before left
