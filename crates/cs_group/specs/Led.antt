-- Who leads a group, and who left it. The leader never moves and never leaves.
use Rattle.std.specs.Prelude.{◌≡◌}
use Rattle.std.specs.List.{AllByRecursion}
use Rattle.cs_base.specs.Ranges.{IsId}
use Rattle.cs_base.specs.declared.member.Member.{Member}
use Rattle.cs_group.specs.Group.{GroupState}
use Rattle.cs_group.specs.declared.row.Row.{Row}

-- where a row has the member's id, it has the member itself: its address and its point
abbrev pub HasAsItIs : Member → Row → Type 0
HasAsItIs me r = r.member.id ≡ me.id → r.member ≡ me

-- the member leads the group and stands in it as it is, and those who left had ids
pub record IsLedBy (me : Member) (g : GroupState) : Type 0 where
  pub leader : g.leader ≡ me.id
  pub row : AllByRecursion (HasAsItIs me) g.rows
  pub retired : AllByRecursion IsId g.retired
