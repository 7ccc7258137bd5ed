use Rattle.std.proofs.Common.{◌∙◌, arith, subst, sym}
use Rattle.std.specs.List.{AllByRecursion}
use Rattle.cs_base.specs.Ranges.{IsFromTo}
use Rattle.cs_drill.specs.Limits.{fewest_nodes, most_nodes}
use Rattle.cs_script.specs.Event.{IsEvent}
use Rattle.cs_drill.proofs.Allowed.{all-allowed}
use Rattle.cs_drill.proofs.generating.generate.Goals as goal

pub returns-clause-allowed : goal.returns-clause-allowed
returns-clause-allowed c =
    let many : IsFromTo fewest_nodes most_nodes c.args.nodes = (omega (arith, c.if-nodes-lt-FEWEST_NODES.false), omega (arith, c.if-nodes-gt-MOST_NODES.false)) in
    subst (AllByRecursion IsEvent) (sym (c.from.ensures ∙ c.in_ok-put_all.ensures)) (all-allowed c.args.nodes c.args.seed many)
