-- What settling does in the code.
use Rattle.std.specs.Prelude.{◌≡◌, ℕ, List, ◌++◌}
use Rattle.cs_link.specs.declared.link.Link.{Ghosts as LinkGhosts}
use Rattle.cs_log.specs.declared.log.Log.{Ghosts as LogGhosts}
use Rattle.cs_show.specs.Text.{text_of}
use Rattle.cs_machine.specs.Settling.{Settling}
use Rattle.cs_world.specs.Stands.{Stands}
use Rattle.cs_world.specs.declared.nodes.Nodes.{Nodes}

-- the code has told deliveries behind these bytes and counted them, and stands for the world after them
pub record Settles {L G : Type 0} (link : LinkGhosts L) (log : LogGhosts G) (code : Nodes L G) (before now : List ℕ)
    (delivered : ℕ) (all : Settling) : Type 0 where
  pub text : now ≡ before ++ text_of all.lines
  pub count : delivered ≡ all.count
  pub stands : Stands link log code all.world
