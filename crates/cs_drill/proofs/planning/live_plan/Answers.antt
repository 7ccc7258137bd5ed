use Rattle.std.proofs.Common.{◌≡◌, rules, subst, sym}
use Rattle.std.specs.List.{AllByRecursion}
use Rattle.cs_drill.specs.Plan.{live_plan}
use Rattle.cs_drill.specs.Planned.{IsPlanned}
use Rattle.cs_drill.proofs.Steps.{all-planned}
use Rattle.cs_drill.proofs.planning.live_plan.Goals as goal

pub returns-clause-allowed : goal.returns-clause-allowed
returns-clause-allowed c =
    let is : c.from.result ≡ live_plan c.args.nodes c.args.port = search rules in
    subst (AllByRecursion IsPlanned) (sym is) (all-planned c.args.nodes c.args.port c.requires.nodes c.requires.port)
