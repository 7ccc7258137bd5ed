-- the log has the start of the leader, or a part of it
use Rattle.std.proofs.Common.{refl, sym, subst}
use Rattle.cs_packet.specs.declared.entry.Entry.TheVariants.{Boot}
use Rattle.std.specs.Prelude.{true}
use Rattle.cs_lead.specs.Leading.{begun}
use Rattle.cs_node.specs.Booting.{as_own}
use Rattle.cs_node.specs.Logged.{HasLogged}
use Rattle.cs_node.specs.Told.{log_told}
use Rattle.cs_node.specs.declared.node.Node.TheVariants as nodes
use Rattle.cs_node.proofs.Booted.{booted-logged, starts-again}
use Rattle.cs_node.proofs.Logs.{logged-survives}
use Rattle.cs_node.proofs.booting.boot_leader.Goals as goal

pub invariant_of-result : goal.invariant_of-result
invariant_of-result g c =
    let me = c.args.me in
    let log = c.log_leader.new.log in
    subst (λ n. HasLogged (g.G.Log.synced log) (g.G.Log.bytes log) (nodes.Leader n)) (sym c.in-Ok.ensures.node)
    (booted-logged (g.G.Log.bytes c.args.log) (g.G.Log.bytes log) (g.G.Log.synced log) (Boot true (as_own me)) (nodes.Leader (begun me)) c.requires
    c.log_leader.ensures.allowed refl refl c.in-Ok.ensures.kept.bytes c.in-Ok.ensures.kept.synced)

pub returns-in-Ok-clause-survives : goal.returns-in-Ok-clause-survives
returns-in-Ok-clause-survives g c = logged-survives _ _ _ (invariant_of-result g c)

pub returns-in-Err-clause-again : goal.returns-in-Err-clause-again
returns-in-Err-clause-again g c =
    let me = c.args.me in
    starts-again c.in-Err.why (log_told g.G.Log c.args.log) (log_told g.G.Log c.log_leader.new.log) (Boot true (as_own me)) (nodes.Leader (begun me))
    c.requires c.log_leader.ensures.allowed refl c.in-Err.ensures.err
