use Rattle.std.proofs.Common.{◌≡◌, Some, rules}
use Rattle.cs_group.specs.Cut.{region_to_cut}
use Rattle.cs_group.proofs.Members.{region_to_cut-many}
use Rattle.cs_group.proofs.state.State.cut.Goals as goal

-- a region that is to be cut has members enough for two
pub cut_of-requires-clause-some : goal.cut_of-requires-clause-some
cut_of-requires-clause-some c =
    let due : region_to_cut c.args.self.now.rows ≡ Some c.in-Some.region = search rules in
    region_to_cut-many c.args.self.now.rows c.in-Some.region due
