-- What a node decides on values is its step in names.
use Rattle.std.specs.Prelude.{◌≡◌, ◌⊎◌, ℕ, ◌+◌, Option, Some, None}
use Rattle.std.specs.List.{AllZip}
use Rattle.std.specs.Option.{option_map, option_map_or}
use Rattle.cs_base.specs.Address.{Address}
use Rattle.cs_node.specs.declared.effects.Effects.{Effects}
use Rattle.cs_node.specs.declared.node.Node.{Node as Values}
use Rattle.cs_node.specs.declared.note.Note.{Note}
use Rattle.cs_node.specs.declared.note.Note.TheVariants as notes
use Rattle.cs_packet.specs.declared.packet.Packet.{Packet}
use Rattle.cs_machine.specs.Contents.{contents_of}
use Rattle.cs_machine.specs.Outcome.{committed}
use Rattle.cs_machine.specs.Names.{Name, Node, State, World, node_of}
use Rattle.cs_machine.specs.Packets.{body_for}
use Rattle.cs_machine.specs.Reached.{IsReached}
use Rattle.cs_machine.specs.Step.{Step}
use Rattle.cs_machine.specs.Values.{entry_for, node_for}

-- the address that a node was started with
abbrev pub address_in : World → ℕ → Option Address
address_in world id = option_map_or (λ (n : Node). Some n.own.addr) (node_of world id) None

-- a packet on its way stands for a name that is sent: it goes to the address of the receiver and says what the name
-- stands for
pub record SendStands (world : World) (me : ℕ) (send : Address × Packet) (named : ℕ × Name) : Type 0 where
  pub address : address_in world named.0 ≡ Some send.0
  pub packet : send.1
      ≡ (let p : Packet = record { from = me; to = named.0; body = body_for (contents_of world) named.1 } in p)

-- what a node is after its effects
abbrev pub node_after : Values → Effects → Values
node_after before effects = option_map_or (λ (next : Values). next) effects.after before

-- effects of a node in a state stand for a step: for its answer and its entry, which says the same before and after
-- it, the node afterwards and each packet, in the world after it
pub record StandsForStep (world : World) (node : Node) (state : State) (step : Step) (effects : Effects) : Type 0
  where
    pub note : effects.note ≡ step.note
    pub entry : effects.entry ≡ option_map (entry_for (contents_of world)) step.entry
    pub entry_after : effects.entry ≡ option_map (entry_for (contents_of (committed world node step))) step.entry
    pub after : node_after (node_for (contents_of world) node.own state) effects
        ≡ node_for (contents_of (committed world node step)) node.own step.state
    pub sends : AllZip (SendStands (committed world node step) node.own.id) effects.sends step.sends

-- they do, and the step leads to a world that is reached
abbrev pub IsStep : World → Node → State → Step → Effects → Type 0
IsStep world node state step effects =
    StandsForStep world node state step effects × IsReached (committed world node step)

-- the member is at the next epoch, or has left
abbrev pub GoesOn : ℕ → Note → Type 0
GoesOn epoch note = (note ≡ notes.Advanced (epoch + 1)) ⊎ (note ≡ notes.Departed)
