-- What is told of a process: the node, where one runs, and what its link and its log tell.
use Rattle.std.specs.Prelude.{Option}
use Rattle.cs_link.specs.declared.link.Link.{Ghosts as LinkGhosts}
use Rattle.cs_log.specs.declared.log.Log.{Ghosts as LogGhosts}
use Rattle.cs_node.specs.Calls.{Ends}
use Rattle.cs_node.specs.Placed.{Placed, running}
use Rattle.cs_node.specs.Told.{LinkTold, LogTold, link_told, log_told}
use Rattle.cs_node.specs.declared.node.Node.{Node}

pub record Parts : Type 0 where
  pub node : Option Node
  pub link : LinkTold
  pub log : LogTold

-- those of a process
abbrev pub parts_in : {L G : Type 0} → LinkGhosts L → LogGhosts G → Placed L G → Parts
parts_in link log process = record {
  node = process.node;
  link = link_told link process.link;
  log = log_told log process.log;
}

-- those of a state that a call has led to
abbrev pub parts_of : Ends → Parts
parts_of ends = record { node = running ends.status; link = ends.link; log = ends.log }
