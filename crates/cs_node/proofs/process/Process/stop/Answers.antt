-- the log of a node that runs is whole frames, all synced
use Rattle.std.proofs.Common.{ℕ, List, Option, None, Some, IfSome, subst}
use Rattle.cs_node.specs.Logged.{HasLogged, Survives}
use Rattle.cs_node.specs.declared.node.Node.{Node}
use Rattle.cs_node.proofs.Logs.{logged-survives}
use Rattle.cs_node.proofs.process.Process.stop.Goals as goal

-- where one runs
running-survives : (synced : ℕ) (bytes : Option (List ℕ)) (node : Option Node) → IfSome node (HasLogged synced bytes)
    → IfSome node (λ n. IfSome bytes (λ b. Survives synced b n))
running-survives synced bytes None logged = tt
running-survives synced bytes (Some node) logged = logged-survives synced bytes node logged

pub returns-clause-survives : goal.returns-clause-survives
returns-clause-survives g c =
    let inside = c.self.inside in
    let is = running-survives (g.G.Log.synced inside.log) (g.G.Log.bytes inside.log) inside.node c.self.invariant in
    subst (λ p. IfSome p.node (λ n. IfSome (g.G.Log.bytes p.log) (λ b. Survives (g.G.Log.synced p.log) b n))) c.self.view_is is
