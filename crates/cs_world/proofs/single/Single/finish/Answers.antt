-- the node's log and what it sent, by its seat
use Rattle.cs_world.proofs.AloneSingle.{kept-one, sent-one}
use Rattle.cs_world.proofs.HandedBack.{if-told}
use Rattle.cs_world.proofs.single.Single.finish.Goals as goal

pub returns-clause-logs : goal.returns-clause-logs
returns-clause-logs g c = λ alone is.
    if-told _ _ _ _ c.hand_back.ensures.logs
    (λ told logs kept. kept-one _ _ c.args.self.nodes alone is.nodes logs kept (λ store. g.met.D.Ground.logs_tell c.args.desk.now store.inner told))

pub returns-clause-traffic : goal.returns-clause-traffic
returns-clause-traffic g c = λ alone is.
    if-told _ _ _ _ c.hand_back.ensures.traffic (λ told traffic kept. sent-one _ _ c.args.self.nodes alone is.nodes traffic kept)
