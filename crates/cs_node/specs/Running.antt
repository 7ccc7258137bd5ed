-- A node with its link and its log.
use Rattle.cs_node.specs.declared.node.Node.{Node}

pub record Running (L G : Type 0) : Type 0 where
  pub node : Node
  pub link : L
  pub log : G
