-- The projection of a group is a well-formed picture.
use Rattle.std.proofs.Common.{ℕ, ◌≤◌, Bool, List, map, arith}
use Rattle.std.specs.List.{filter}
use Rattle.std.proofs.lemmas.Bool.{leb-true}
use Rattle.std.proofs.lemmas.List.{length-map}
use Rattle.cs_base.specs.Limits.{last_number, most_members}
use Rattle.cs_base.specs.Ranges.{IsRegion}
use Rattle.cs_base.specs.declared.member.Member.{Member}
use Rattle.cs_base.proofs.Ascending.{All-of_filter}
use Rattle.cs_base.proofs.Elements.{All-changed}
use Rattle.cs_group.specs.Group.{GroupState, IsGroup, is_among}
use Rattle.cs_group.specs.Rows.{members_in, regions}
use Rattle.cs_item.specs.Beside.{IsBeside}
use Rattle.cs_item.specs.Picture as pictures
use Rattle.cs_item.specs.PictureField.{AreRolls, IsPicture}
use Rattle.cs_item.specs.RegionsField.{IsRegions}
use Rattle.cs_item.specs.RollField.{AreMembers}
use Rattle.cs_slicer.specs.Projection.{projection, rolls_of}
use Rattle.cs_slicer.specs.Turn.{summaries_of}
use Rattle.cs_slicer.proofs.Beside.{beside}
use Rattle.cs_slicer.proofs.Lists.{AreRegions-group, IsAscending-some_regions, IsAscendingBy-map, length-some_regions}
use Rattle.cs_slicer.proofs.Summaries.{IsByRegion-summaries_of, summary_in}
use Rattle.cs_slicer.proofs.WellFormed.{AreMembers-members_in, summaries-allowed}
use Rattle.cs_slicer.proofs.Middle.{some_region}
use Rattle.cs_projection.proofs.Faultless.{few_members-regions}

-- all summaries of a group are those of a field
IsRegions-summaries_of : (g : GroupState) → IsGroup g → IsRegions 1 (summaries_of g.rows)
IsRegions-summaries_of g is =
    let long = length-map (regions g.rows) (beside (summary_in g.rows)) in
    let some = some_region g.leader g.rows is.staffed.leader_there in
    record {
      enough = omega (arith, long, some);
      few = omega (arith, long, is.few_regions);
      allowed = summaries-allowed g is;
      ascending = IsByRegion-summaries_of g.rows;
    }

-- the rolls of some regions of a group are those of a field
AreRolls-rolls_of : (g : GroupState) (known : List ℕ) → IsGroup g → AreRolls (rolls_of known g.rows)
AreRolls-rolls_of g known is =
    let is_known : ℕ → Bool = λ region. is_among known region in
    let ns = filter is_known (regions g.rows) in
    let roll : ℕ → List Member = λ n. members_in n g.rows in
    let up = IsAscending-some_regions is_known g.rows in
    let few = length-some_regions is_known g.rows is.few_regions in
    record {
      few = omega (arith, few, length-map ns (beside roll));
      allowed = All-changed IsRegion (IsBeside (AreMembers 0 most_members) 0) (beside roll) (λ n region. (region, AreMembers-members_in g n is)) ns
          (All-of_filter IsRegion is_known (regions g.rows) (AreRegions-group g is));
      ascending = IsAscendingBy-map (λ pair. pair.0) (beside roll) ns up;
      members = leb-true (pictures.members_in (map (beside roll) ns)) most_members (few_members-regions g.rows ns is.staffed.few_members up);
    }

-- so the projection of a group on some regions is a picture
pub IsPicture-projection : (g : GroupState) (epoch : ℕ) (known : List ℕ) → IsGroup g → epoch ≤ last_number → IsPicture (projection epoch known g)
IsPicture-projection g epoch known is small = record {
  epoch = (omega arith, small);
  summaries = IsRegions-summaries_of g is;
  rolls = AreRolls-rolls_of g known is;
}
