use Rattle.std.proofs.Common.{◌≡◌, rules}
use Rattle.cs_group.specs.Rows.{members_in}
use Rattle.cs_group.proofs.Members.{IsDistinctBy-members_in}
use Rattle.cs_group.proofs.state.State.cut_of.Goals as goal

-- the ids of a region are distinct
pub choose_split-requires-clause-distinct : goal.choose_split-requires-clause-distinct
choose_split-requires-clause-distinct c =
    let same : c.as_slice.result.now ≡ members_in c.args.region c.args.self.now.rows = search rules in
    rw same (IsDistinctBy-members_in c.args.region c.args.self.now.rows c.requires.group.staffed.distinct)
