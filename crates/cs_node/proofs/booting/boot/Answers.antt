-- the log has the start of the node, or a part of it
use Rattle.std.proofs.Common.{refl, sym, ap, subst}
use Rattle.cs_core.specs.Node.{joining}
use Rattle.cs_packet.specs.declared.entry.Entry.TheVariants.{Boot}
use Rattle.std.specs.Prelude.{false}
use Rattle.cs_node.specs.Logged.{HasLogged}
use Rattle.cs_node.specs.Told.{log_told}
use Rattle.cs_node.specs.declared.node.Node.TheVariants as nodes
use Rattle.cs_node.proofs.Booted.{booted-logged, starts-again}
use Rattle.cs_node.proofs.Logs.{logged-survives}
use Rattle.cs_node.proofs.booting.boot.Goals as goal

pub invariant_of-result : goal.invariant_of-result
invariant_of-result g c =
    let own = c.args.own in
    let log = c.log_boot.new.log in (
      ap (λ n. n.following) c.start.ensures,
      subst (λ n. HasLogged (g.G.Log.synced log) (g.G.Log.bytes log) (nodes.Follower n)) (sym c.start.ensures)
          (booted-logged (g.G.Log.bytes c.args.log) (g.G.Log.bytes log) (g.G.Log.synced log) (Boot false own) (nodes.Follower (joining own)) c.requires.empty
          c.log_boot.ensures.allowed refl refl c.in-Ok.ensures.ok.bytes c.in-Ok.ensures.ok.synced),
    )

pub returns-in-Ok-clause-survives : goal.returns-in-Ok-clause-survives
returns-in-Ok-clause-survives g c = logged-survives _ _ _ (invariant_of-result g c).1

pub returns-in-Err-clause-again : goal.returns-in-Err-clause-again
returns-in-Err-clause-again g c =
    let own = c.args.own in
    starts-again c.in-Err.why (log_told g.G.Log c.args.log) (log_told g.G.Log c.log_boot.new.log) (Boot false own) (nodes.Follower (joining own))
    c.requires.empty c.log_boot.ensures.allowed refl c.in-Err.ensures.err
