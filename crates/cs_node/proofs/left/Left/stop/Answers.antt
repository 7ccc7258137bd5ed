-- the log is whole frames, all synced
use Rattle.std.proofs.Common.{IfSome, subst}
use Rattle.cs_node.specs.Logged.{Survives}
use Rattle.cs_node.proofs.Logs.{logged-survives}
use Rattle.cs_node.proofs.left.Left.stop.Goals as goal

pub returns-clause-survives : goal.returns-clause-survives
returns-clause-survives g c =
    let is = logged-survives _ _ _ c.self.invariant in
    subst (λ (s : _). IfSome (g.G.Log.bytes s.log) (λ bytes. Survives (g.G.Log.synced s.log) bytes s.node)) c.self.view_is is
