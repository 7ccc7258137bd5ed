use Rattle.std.proofs.Common.{◌<◌, length}
use Rattle.std.proofs.lemmas.List.Elements.{All-from_recursion}
use Rattle.cs_group.specs.Rows.{members_in, regions}
use Rattle.cs_group.proofs.Bounded.{IsGroup-at}
use Rattle.cs_group.proofs.Regions.{no_region_empty}
use Rattle.cs_group.proofs.laws.history_is_bounded.Goals as goal

-- the first is a group, and each next one
pub returns-clause-group : goal.returns-clause-group
returns-clause-group c = IsGroup-at

-- a region is one that has a row
pub returns-clause-no_region_is_empty : goal.returns-clause-no_region_is_empty
returns-clause-no_region_is_empty c = λ g. All-from_recursion (λ region. 0 < length (members_in region g.rows)) (regions g.rows) (no_region_empty g.rows)
