-- What a node prints is a projection of a group: what can be seen of it, with one roll for each region.
use Rattle.std.proofs.Common.{◌≡◌, ℕ, ◌≤◌, Bool, true, false, if◌then◌else◌, List, Option, Some, None, IsSome, sym, ap, ◌∙◌, refl}
use Rattle.std.specs.List.{AllByRecursion, filter}
use Rattle.std.specs.Option.{is_some, option_map}
use Rattle.std.proofs.lemmas.Bool.{cond-true, false≢true}
use Rattle.cs_base.specs.Limits.{last_number, most_members}
use Rattle.cs_base.specs.Ranges.{IsRegion}
use Rattle.cs_base.specs.declared.member.Member.{Member}
use Rattle.cs_base.proofs.Ascending.{All-of_filter}
use Rattle.cs_base.proofs.Elements.{All-changed, All-weaker}
use Rattle.cs_group.specs.Group.{GroupState, IsGroup, is_among}
use Rattle.cs_group.specs.Rows.{members_in, regions}
use Rattle.cs_group.specs.declared.row.Row.{Row}
use Rattle.cs_item.specs.Beside.{IsBeside}
use Rattle.cs_item.specs.PictureField.{IsPicture}
use Rattle.cs_item.specs.RollField.{AreMembers}
use Rattle.cs_item.specs.SummaryField.{IsShortSummary}
use Rattle.cs_projection.proofs.Pictures.{IsPicture-projection}
use Rattle.cs_roll.specs.Roll.{IsRoll}
use Rattle.cs_roll.specs.Sight.{IsByRegion, IsSight, at_region}
use Rattle.cs_roll.specs.Summary.{IsSummary, RegionSummary, summary_of}
use Rattle.cs_slicer.specs.Projection.{projection, rolls_of}
use Rattle.cs_slicer.specs.Turn.{summaries_of}
use Rattle.cs_slicer.proofs.Beside.{at_key-beside, beside}
use Rattle.cs_slicer.proofs.Summaries.{at_region-summaries_of, regions-listed, summary_in}

-- the known regions of a group
abbrev known_regions : List ℕ → List Row → List ℕ
known_regions known rows = filter (λ region. is_among known region) (regions rows)

-- members, where they are there
abbrev members_if : Bool → List Member → Option (List Member)
members_if b members = if b then Some members else None

-- a region and its roll, where it is there
roll_of_pair : (b : Bool) (region : ℕ) (members : List Member)
    → option_map (λ (pair : ℕ × List Member). pair.1) (if b then Some (region, members) else None) ≡ members_if b members
roll_of_pair true region members = refl
roll_of_pair false region members = refl

-- beside a known region stands its roll
at_region-rolls_of : (known : List ℕ) (rows : List Row) (region : ℕ)
    → at_region region (rolls_of known rows) ≡ members_if (is_among (known_regions known rows) region) (members_in region rows)
at_region-rolls_of known rows region =
    ap (option_map (λ (pair : ℕ × List Member). pair.1)) (at_key-beside (λ n. members_in n rows) region (known_regions known rows))
    ∙ roll_of_pair (is_among (known_regions known rows) region) region (members_in region rows)

-- the same members, where they are there both times
same_if : (a b : Bool) (members : List Member) → IsSome (members_if a members) → IsSome (members_if b members)
    → members_if a members ≡ members_if b members
same_if true true members one other = refl
same_if true false members one other = absurd (false≢true other)
same_if false b members one other = absurd (false≢true one)

-- of a region that two projections know both have one roll
pub same-rolls : (known also : List ℕ) (rows : List Row) (region : ℕ) → IsSome (at_region region (rolls_of known rows))
    → IsSome (at_region region (rolls_of also rows)) → at_region region (rolls_of known rows) ≡ at_region region (rolls_of also rows)
same-rolls known also rows region one other =
    let first = at_region-rolls_of known rows region in
    let second = at_region-rolls_of also rows region in
    first
    ∙ (same_if (is_among (known_regions known rows) region) (is_among (known_regions also rows) region) (members_in region rows)
    (sym (ap is_some first) ∙ one) (sym (ap is_some second) ∙ other)
    ∙ sym second)

module _ (g : GroupState) (epoch : ℕ) (known : List ℕ) (is : IsGroup g) (small : epoch ≤ last_number) where
  -- a projection is a picture
  picture : IsPicture (projection epoch known g)
  picture = IsPicture-projection g epoch known is small

  -- so its rolls ascend by region
  pub IsByRegion-rolls_of : IsByRegion (rolls_of known g.rows)
  IsByRegion-rolls_of = picture.rolls.ascending

  -- and their regions are allowed
  pub AreRegions-rolls_of : AllByRecursion (λ (pair : ℕ × List Member). IsRegion pair.0) (rolls_of known g.rows)
  AreRegions-rolls_of =
      All-weaker (IsBeside (AreMembers 0 most_members) 0) (λ (pair : ℕ × List Member). IsRegion pair.0) (λ pair both. both.0)
      (rolls_of known g.rows) picture.rolls.allowed

  -- each of them is listed with the summary of its roll
  listed : AllByRecursion (λ (pair : ℕ × List Member). at_region pair.0 (summaries_of g.rows) ≡ Some (summary_of pair.1)) (rolls_of known g.rows)
  listed =
      All-changed (λ n. is_among (regions g.rows) n ≡ true)
      (λ (pair : ℕ × List Member). at_region pair.0 (summaries_of g.rows) ≡ Some (summary_of pair.1)) (beside (λ n. members_in n g.rows))
      (λ n there. at_region-summaries_of n g.rows ∙ cond-true (is_among (regions g.rows) n) (Some (summary_in g.rows n)) None there)
      (known_regions known g.rows)
      (All-of_filter (λ n. is_among (regions g.rows) n ≡ true) (λ region. is_among known region) (regions g.rows) (regions-listed g.rows))

  -- so a projection is what can be seen of its group
  pub IsSight-projection : IsSight (summaries_of g.rows) (rolls_of known g.rows)
  IsSight-projection = record {
    few = picture.summaries.few;
    summaries_ascend = picture.summaries.ascending;
    rolls_ascend = picture.rolls.ascending;
    listed = listed;
    summaries_allowed = All-weaker (IsBeside IsShortSummary 0) (λ (pair : ℕ × RegionSummary). IsSummary pair.1) (λ pair both. both.1.summary)
        (summaries_of g.rows) picture.summaries.allowed;
    rolls_allowed = All-weaker (IsBeside (AreMembers 0 most_members) 0) (λ (pair : ℕ × List Member). IsRoll pair.1)
        (λ pair both. record { ascending = both.1.ascending; allowed = both.1.allowed }) (rolls_of known g.rows) picture.rolls.allowed;
  }
