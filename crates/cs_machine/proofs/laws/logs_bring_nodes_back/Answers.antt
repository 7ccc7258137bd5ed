use Rattle.std.proofs.Common.{◌∙◌, ap}
use Rattle.cs_machine.specs.Contents.{contents_of}
use Rattle.cs_machine.specs.Values.{node_for}
use Rattle.cs_machine.proofs.Follows.{is-up}
use Rattle.cs_machine.proofs.Lasts.{restarted-for}
use Rattle.cs_machine.proofs.laws.logs_bring_nodes_back.Goals as goal

-- what lasts of the node is what its entries lead to
pub returns : goal.returns
returns c = λ world node state reached found same.
    restarted-for (contents_of world) node.own state
    ∙ ap (node_for (contents_of world) node.own) (is-up world node state (reached.nodes node.own.id node found) same).lasts
