-- Packets are delivered, any number of times and in any order, or lost.
use Rattle.std.specs.Prelude.{ℕ, Bool, ◌-◌, ◌==◌, ◌∷◌, slice_get, Option, Some, None, codes, if◌then◌else◌}
use Rattle.cs_group.specs.Group.{is_among}
use Rattle.cs_machine.specs.Contents.{contents_of}
use Rattle.cs_machine.specs.Machine.{deliver_step}
use Rattle.cs_machine.specs.Names.{Node, Sent, State, World, node_of}
use Rattle.cs_machine.specs.Outcome.{After, answer, commit, unless_down}

-- the sent packet with this number
abbrev pub sent_at : World → ℕ → Option Sent
sent_at world number = if number == 0 then None else slice_get world.sent (number - 1)

-- settling passes the packet with this number over from now on
abbrev pub passed_over : ℕ → World → World
passed_over number world = record world { settled = number ∷ world.settled }

-- so it is, however an event ended
abbrev pub taken_out : ℕ → After → After
taken_out number after = record after { world = passed_over number after.world }

-- the packet with this number was delivered
abbrev pub noted_delivery : ℕ → World → World
noted_delivery number world = record world { delivered = number ∷ world.delivered }

-- so it was, however its event ended
abbrev pub brought : ℕ → After → After
brought number after = record after { world = noted_delivery number after.world }

-- whether it was
abbrev pub was_delivered : World → ℕ → Bool
was_delivered world number = is_among world.delivered number

-- a packet comes to a node in a state
abbrev pub deliver_as : World → Sent → Node → State → After
deliver_as world sent node state =
    commit world node (deliver_step (contents_of world) node.own state sent.from sent.name)

-- whether there is a node or none
abbrev pub deliver_to : World → Sent → Option Node → After
deliver_to world sent None = answer world (codes "no node")
deliver_to world sent (Some node) = unless_down world (deliver_as world sent node) node.state

-- by its number: a packet, or none
abbrev pub delivered : World → ℕ → Option Sent → After
delivered world number None = answer world (codes "no packet")
delivered world number (Some sent) =
    brought number (taken_out number (deliver_to world sent (node_of world sent.to)))

-- the packet with this number comes to its node
abbrev pub deliver_at : World → ℕ → After
deliver_at world number = delivered world number (sent_at world number)

-- a packet is lost: it can still be delivered by its number, and settling passes it over
abbrev pub lost : World → ℕ → Option Sent → After
lost world number None = answer world (codes "no packet")
lost world number (Some sent) = taken_out number (answer world (codes "lost"))
