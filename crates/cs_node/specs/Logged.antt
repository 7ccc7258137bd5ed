-- What the log of a node says at any moment: whatever a crash leaves of it gives the node again, but for what a
-- restart loses.
use Rattle.std.specs.Prelude.{◌≡◌, ℕ, List, [], Option, IfSome, length}
use Rattle.std.specs.List.{AllByRecursion}
use Rattle.cs_core.specs.Laws.{lasting_node}
use Rattle.cs_log.specs.Crash.{MayBeLeft}
use Rattle.cs_log.specs.Frames.{Fits, framed, placed}
use Rattle.cs_node.specs.Folding.{FoldsTo, fold}
use Rattle.cs_node.specs.declared.folding.Folded.TheVariants.{Gives}
use Rattle.cs_node.specs.declared.node.Node.{Node}
use Rattle.cs_node.specs.declared.node.Node.TheVariants as nodes

-- what a restart brings back of a node: all but held pieces, pending changes and the past
abbrev pub restarted : Node → Node
restarted (nodes.Follower f) = nodes.Follower (lasting_node f)
restarted (nodes.Leader leader) = nodes.Leader (record leader { pending = [] })
restarted nodes.Left = nodes.Left

-- whatever a crash leaves of the bytes gives the node again
abbrev pub Survives : ℕ → List ℕ → Node → Type 0
Survives synced bytes node = (left : List ℕ) → MayBeLeft synced bytes left → FoldsTo left (Gives (restarted node))

-- the bytes are whole frames, all of them synced, and give the node
pub record IsLogOf (synced : ℕ) (bytes : List ℕ) (node : Node) : Type 0 where
  pub payloads : List (List ℕ)
  pub fit : AllByRecursion Fits payloads
  pub whole : bytes ≡ framed payloads
  pub all : synced ≡ length bytes
  pub gives : fold (placed 0 payloads) ≡ Gives (restarted node)

-- so it is with a log that tells its bytes
abbrev pub HasLogged : ℕ → Option (List ℕ) → Node → Type 0
HasLogged synced told node = IfSome told (λ bytes. IsLogOf synced bytes node)
