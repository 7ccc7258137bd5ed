use Rattle.std.proofs.Common.{◌≡◌, ◌++◌, IfErr, OnOk, subst}
use Rattle.cs_link.specs.declared.link.Link.{Ghosts as LinkGhosts}
use Rattle.cs_log.specs.contracts.arming.ArmingLog.TheImpl as arming
use Rattle.cs_log.specs.declared.arming.Arming.{Arming}
use Rattle.cs_log.specs.declared.log.Log.{Ghosts as LogGhosts}
use Rattle.cs_machine.specs.Happens.{happens}
use Rattle.cs_show.specs.Text.{text_of}
use Rattle.cs_world.specs.Seats.{AreOut}
use Rattle.cs_world.specs.contracts.tap.TapLink.TheImpl as tap
use Rattle.cs_world.specs.declared.tap.Tap.{Tap}
use Rattle.census.specs.Standing.{IsLimitIn, StandsFor, nodes_in}
use Rattle.census.specs.Systems.{happens_in}
use Rattle.census.specs.declared.system.System.{System as Code}
use Rattle.census.specs.declared.system.System.TheVariants as code
use Rattle.census.proofs.Standing.{by-single, by-world, stands-world, text-world}
use Rattle.census.proofs.system.System.step.Given.{Over}
use Rattle.census.proofs.system.System.step.Goals as goal

-- what the links tell
abbrev of_link : (g : Over) → LinkGhosts (Tap g.row.D-Wire.Denot g.D.Wire.Link)
of_link g = tap.ghosts g.row.D-Wire g.D.Wire.Link g.D.Wire.Link-dict

-- what the logs tell
abbrev of_log : (g : Over) → LogGhosts (Arming g.row.D-Store.Denot)
of_log g = arming.ghosts g.row.D-Store g.D.Store.Log g.D.Store.Log-dict

-- the ids that are out are those of the nodes that the code has
abbrev OutOf : (g : Over) → g.row.D.Denot → Code g.row.D.Denot g.row.D-Wire.Denot g.row.D-Store.Denot g.D.Wire.Link → Type 0
OutOf g desk system = AreOut (g.D.Ground.out desk) (nodes_in system).seats

pub step-requires-clause-out : goal.step-requires-clause-out
step-requires-clause-out g c = subst (OutOf g c.args.desk.now) c.in-World.is c.requires.out

pub step-requires-in-Single-clause-out : goal.step-requires-in-Single-clause-out
step-requires-in-Single-clause-out g c = subst (OutOf g c.args.desk.now) c.in-Single.is c.requires.out

pub returns-in-World-clause-text : goal.returns-in-World-clause-text
returns-in-World-clause-text g c = rw c.in-World.is (λ machine stands can.
    by-world (of_link g) (of_log g) c.in-World.world
    (λ m. OnOk c.step.result (c.step.new.out.items ≡ c.args.out.now.items ++ text_of (happens_in m c.args.event.now).lines))
    (λ m is. text-world (of_link g) (of_log g) c.step.new.self.nodes c.args.out.now.items c.step.new.out.items (happens m c.args.event.now)
    c.step.result (c.step.ensures.ok m is can)) machine stands)

pub returns-in-World-clause-stands : goal.returns-in-World-clause-stands
returns-in-World-clause-stands g c = rw c.in-World.is (λ machine stands can.
    by-world (of_link g) (of_log g) c.in-World.world
    (λ m. OnOk c.step.result (StandsFor (of_link g) (of_log g) (code.World c.step.new.self) (happens_in m c.args.event.now).system))
    (λ m is. stands-world (of_link g) (of_log g) c.step.new.self.nodes c.args.out.now.items c.step.new.out.items (happens m c.args.event.now)
    c.step.result (c.step.ensures.ok m is can)) machine stands)

pub returns-in-World-clause-limit : goal.returns-in-World-clause-limit
returns-in-World-clause-limit g c = rw c.in-World.is (λ machine stands can.
    by-world (of_link g) (of_log g) c.in-World.world (λ m. IfErr c.step.result (IsLimitIn (happens_in m c.args.event.now).system))
    (λ m is. c.step.ensures.limit m is can) machine stands)

pub returns-in-Single-clause-text : goal.returns-in-Single-clause-text
returns-in-Single-clause-text g c = rw c.in-Single.is (λ machine stands can.
    by-single (of_link g) (of_log g) c.in-Single.single
    (λ m. OnOk c.step-in-Single.result (c.step-in-Single.new.out.items ≡ c.args.out.now.items ++ text_of (happens_in m c.args.event.now).lines))
    (λ alone is. c.step-in-Single.ensures.text alone is can) machine stands)

pub returns-in-Single-clause-stands : goal.returns-in-Single-clause-stands
returns-in-Single-clause-stands g c = rw c.in-Single.is (λ machine stands can.
    by-single (of_link g) (of_log g) c.in-Single.single
    (λ m. OnOk c.step-in-Single.result (StandsFor (of_link g) (of_log g) (code.Single c.step-in-Single.new.self) (happens_in m c.args.event.now).system))
    (λ alone is. c.step-in-Single.ensures.alone alone is can) machine stands)

pub returns-in-Single-clause-limit : goal.returns-in-Single-clause-limit
returns-in-Single-clause-limit g c = rw c.in-Single.is (λ machine stands can.
    by-single (of_link g) (of_log g) c.in-Single.single (λ m. IfErr c.step-in-Single.result (IsLimitIn (happens_in m c.args.event.now).system))
    (λ alone is. c.step-in-Single.ensures.limit alone is can) machine stands)
