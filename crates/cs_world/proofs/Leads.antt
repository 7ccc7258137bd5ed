-- The leader is started, in the empty world alone.
use Rattle.std.proofs.Common.{◌≡◌, ◌∙◌, ℕ, Bool, false, cond, eqb, List, [], ◌∷◌, ◌++◌, Option, Some, None, codes, decimal}
use Rattle.std.proofs.Common.{refl, sym, ap, subst}
use Rattle.std.specs.List.{AllZip}
use Rattle.std.specs.Prelude.{MatchOption}
use Rattle.std.specs.Option.{option_map}
use Rattle.std.proofs.lemmas.Bool.{eq-eqb}
use Rattle.std.proofs.lemmas.Option.{none-some}
use Rattle.cs_base.specs.Address.{Address}
use Rattle.cs_base.specs.Axes.{Axes}
use Rattle.cs_base.specs.Ranges.{IsMember}
use Rattle.cs_core.specs.Node.{joining}
use Rattle.cs_group.specs.Group.{GroupState, first_group}
use Rattle.cs_group.specs.Rows.{regions}
use Rattle.cs_lead.specs.Leading.{Leading as LeaderValues, begun}
use Rattle.cs_link.specs.declared.link.Link.{Ghosts as LinkGhosts}
use Rattle.cs_log.specs.declared.log.Log.{Ghosts as LogGhosts}
use Rattle.cs_node.specs.declared.node.Node.TheVariants as nodes
use Rattle.cs_packet.specs.BootField.{IsLedBy}
use Rattle.cs_packet.specs.Own.{member_of_own}
use Rattle.cs_packet.specs.declared.own.Own.{Own}
use Rattle.cs_script.specs.declared.event.Event.TheVariants as events
use Rattle.cs_show.specs.Text.{ended}
use Rattle.cs_slicer.specs.Projection.{projection}
use Rattle.cs_machine.specs.Contents.{contents_of, group_led_by, group_of, items_led_by}
use Rattle.cs_machine.specs.Happens.{begun as begins, happens, own_leader, started}
use Rattle.cs_machine.specs.Names.{Leading, Node, World, empty_world, leader_of, node_of}
use Rattle.cs_machine.specs.Values.{node_for}
use Rattle.cs_machine.proofs.ReachedHeld.{happens-keeps}
use Rattle.cs_world.specs.Addresses.{AreNoted}
use Rattle.cs_world.specs.Processes.{Parts}
use Rattle.cs_world.specs.Seats.{parts_at}
use Rattle.cs_world.specs.Sent.{PacketStands, TrafficStands}
use Rattle.cs_world.specs.Stands.{Stands, Tells}
use Rattle.cs_world.specs.Starting.{StartsAs, started_as}
use Rattle.cs_world.specs.declared.datagram.Datagram.{Datagram}
use Rattle.cs_world.specs.declared.nodes.Nodes.{Nodes}
use Rattle.cs_world.proofs.Options.{map-none}
use Rattle.cs_world.proofs.Starts.{begun-stands, started-tells}

-- the leader is its own
pub leader-led : (id : ℕ) (addr : Address) (at : Axes) → IsLedBy (eqb id id) (own_leader id addr at)
leader-led id addr at = subst (λ b. IsLedBy b (own_leader id addr at)) (sym (eq-eqb id id refl)) (refl, refl, refl)

-- where nothing is sent, no packet stands, in any world
none-sent : (world later : World) (datagrams : List Datagram) → AllZip (PacketStands world) datagrams []
    → AllZip (PacketStands later) datagrams []
none-sent world later [] zip = tt
none-sent world later (d ∷ datagrams) zip = absurd zip

module _ {L G : Type 0} (link : LinkGhosts L) (log : LogGhosts G) (code later : Nodes L G) (id : ℕ) (addr : Address) (at : Axes) (parts : Parts)
    (stands : Stands link log code empty_world) (allowed : IsMember (record { id = id; addr = addr; at = at }))
    (starts : StartsAs (own_leader id addr at) parts)
    (seats : (q : ℕ) → parts_at link log later.seats q ≡ cond (eqb id q) (Some parts) (parts_at link log code.seats q))
    (addresses : AreNoted id addr code.addresses later.addresses)
    (leader : later.leader ≡ Some (own_leader id addr at)) (same_traffic : later.traffic ≡ code.traffic) where
  -- who the leader is
  abbrev own : Own
  own = own_leader id addr at

  -- and its node
  abbrev node : Node
  node = begins own (Leading 0 [])

  -- the machine's first world with a node
  abbrev next : World
  next = (started empty_world node).world

  -- it leads in it
  leads : leader_of next ≡ Some node
  leads = ap (λ b. cond b (Some node) None) (eq-eqb id id refl)

  -- alone in its group
  group_first : group_of next 0 ≡ first_group (member_of_own own)
  group_first = ap (λ o. group_led_by o (items_led_by o) 0) leads

  -- so it is what the code's leader starts as
  value : started_as own ≡ node_for (contents_of next) own (Leading 0 [])
  value =
      ap (λ b. cond b (nodes.Leader (begun (member_of_own own))) (nodes.Follower (joining own))) (eq-eqb id id refl)
      ∙ ap (λ (g : GroupState). (let values : LeaderValues = record {
        me = member_of_own own;
        group = g;
        view = projection 0 (regions g.rows) g;
        slices = [];
        pending = [];
      } in nodes.Leader values)) (sym group_first)

  -- nothing was sent
  still : TrafficStands code.traffic next
  still =
      let was = stands.traffic in
      record {
        packets = none-sent empty_world next code.traffic.datagrams.items was.packets;
        marks = was.marks;
        delivered = was.delivered;
        front = was.front;
        bytes = was.bytes;
        few = was.few;
      }

  -- the code tells it
  pub leads-tells : (before now : List ℕ) → now ≡ before ++ ended (codes "up " ++ decimal id)
      → Tells link log later before now (happens empty_world (events.Lead id addr at))
  leads-tells =
      started-tells link log code later empty_world node parts stands refl (λ q n p found. absurd (none-some n found))
      (λ unsent. begun-stands next own (Leading 0 []) parts starts unsent value) seats addresses
      (leader ∙ ap (option_map (λ (n : Node). n.own)) (sym leads))
      (subst (λ traffic. TrafficStands traffic next) (sym same_traffic) still)
      (happens-keeps empty_world (events.Lead id addr at) allowed stands.reached).reached

-- a world in which nobody leads is the empty one
pub unled-empty : {L G : Type 0} (link : LinkGhosts L) (log : LogGhosts G) (code : Nodes L G) (world : World)
    → Stands link log code world → code.leader ≡ None → world ≡ empty_world
unled-empty link log code world stands unled =
    stands.reached.started (map-none (λ (n : Node). n.own) (leader_of world) (sym stands.leader ∙ unled))

-- each node was started under the one that leads, so whether that has an id is whether the node's leader has it
pub leads-under : {L G : Type 0} (link : LinkGhosts L) (log : LogGhosts G) (code : Nodes L G) (world : World) (to : ℕ) (leads : Bool)
    → Stands link log code world → MatchOption code.leader (leads ≡ false) (λ (own : Own). leads ≡ eqb to own.id)
    → (id : ℕ) (node : Node) → node_of world id ≡ Some node → leads ≡ eqb to node.own.leader
leads-under link log code world to leads stands says id node found =
    let is = stands.reached.nodes id node found in
    let led : code.leader ≡ Some is.leader.own = stands.leader ∙ ap (option_map (λ (n : Node). n.own)) is.led in
    let same : leads ≡ eqb to is.leader.own.id =
    subst (λ (o : Option Own). MatchOption o (leads ≡ false) (λ (own : Own). leads ≡ eqb to own.id)) led says in
    same ∙ ap (λ q. eqb to q) is.leader_id
