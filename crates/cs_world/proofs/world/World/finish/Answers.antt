-- each node's log and what it sent, by its seat
use Rattle.cs_world.proofs.HandedBack.{if-told, kept-logs, kept-traffic}
use Rattle.cs_world.proofs.Starting.{seated-some}
use Rattle.cs_world.proofs.world.World.finish.Goals as goal

pub returns-clause-logs : goal.returns-clause-logs
returns-clause-logs g c = λ world stands.
    if-told _ _ _ _ c.hand_back.ensures.logs
    (λ told logs kept. kept-logs _ _ c.args.self.nodes world stands logs kept (λ store. g.met.D.Ground.logs_tell c.args.desk.now store.inner told))

pub returns-clause-traffic : goal.returns-clause-traffic
returns-clause-traffic g c = λ world stands.
    if-told _ _ _ _ c.hand_back.ensures.traffic (λ told traffic kept. kept-traffic _ _ c.args.self.nodes world stands traffic kept)

pub returns-clause-taken : goal.returns-clause-taken
returns-clause-taken g c = λ id started. c.hand_back.ensures.taken (seated-some c.args.self.nodes.seats id started)

pub returns-clause-dry : goal.returns-clause-dry
returns-clause-dry g c = λ id started. c.hand_back.ensures.dry (seated-some c.args.self.nodes.seats id started)
