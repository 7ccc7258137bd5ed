-- A node is started under the leader.
use Rattle.std.proofs.Common.{◌≡◌, ◌∙◌, ℕ, false, cond, eqb, List, ◌++◌, Some, None, codes, decimal, refl, sym, ap, subst}
use Rattle.std.specs.Option.{option_map}
use Rattle.std.proofs.lemmas.Bool.{ne_eqb}
use Rattle.std.proofs.lemmas.Option.{none-some}
use Rattle.cs_base.specs.Address.{Address}
use Rattle.cs_base.specs.Axes.{Axes}
use Rattle.cs_base.specs.Ranges.{IsMember}
use Rattle.cs_base.specs.declared.change.Mode.{Mode}
use Rattle.cs_core.specs.Node.{joining}
use Rattle.cs_lead.specs.Leading.{begun as leader_begun}
use Rattle.cs_link.specs.declared.link.Link.{Ghosts as LinkGhosts}
use Rattle.cs_log.specs.declared.log.Log.{Ghosts as LogGhosts}
use Rattle.cs_node.specs.declared.node.Node.TheVariants as nodes
use Rattle.cs_packet.specs.BootField.{IsLedBy}
use Rattle.cs_packet.specs.Own.{member_of_own}
use Rattle.cs_packet.specs.declared.own.Own.{Own}
use Rattle.cs_script.specs.declared.event.Event.TheVariants as events
use Rattle.cs_show.specs.Text.{ended}
use Rattle.cs_machine.specs.Contents.{contents_of}
use Rattle.cs_machine.specs.Happens.{begun, booted, happens, is_used, own_under, started}
use Rattle.cs_machine.specs.Outcome.{answer}
use Rattle.cs_machine.specs.Names.{Joining, Node, World, leader_of, node_of}
use Rattle.cs_machine.specs.Values.{node_for}
use Rattle.cs_machine.proofs.Nodes.{id-found, option_map-some}
use Rattle.cs_machine.proofs.ReachedChanges.{Reaches}
use Rattle.cs_machine.proofs.ReachedHeld.{happens-keeps}
use Rattle.cs_world.specs.Addresses.{AreNoted}
use Rattle.cs_world.specs.Processes.{Parts}
use Rattle.cs_world.specs.Seats.{parts_at}
use Rattle.cs_world.specs.Sent.{TrafficStands}
use Rattle.cs_world.specs.Stands.{NodeStands, Stands, Tells}
use Rattle.cs_world.specs.Starting.{StartsAs, started_as}
use Rattle.cs_world.specs.declared.nodes.Nodes.{Nodes}
use Rattle.cs_world.proofs.Later.{node-later}
use Rattle.cs_world.proofs.Options.{absent_none}
use Rattle.cs_world.proofs.Starts.{begun-stands, free-of, started-tells}
use Rattle.cs_world.proofs.Traffics.{traffic-later}
use Rattle.cs_world.proofs.Under.{none-under}

-- a node with another id than its leader's is led by that
pub booted-led : (under : Own) (id : ℕ) (addr : Address) (at : Axes) (mode : Mode) → (under.id ≡ id → ⊥)
    → IsLedBy (eqb id under.id) (own_under under id addr at mode)
booted-led under id addr at mode other =
    subst (λ b. IsLedBy b (own_under under id addr at mode)) (sym (ne_eqb id under.id (λ same. other (sym same)))) other

module _ {L G : Type 0} (link : LinkGhosts L) (log : LogGhosts G) (code : Nodes L G) (world : World) (id : ℕ) (addr : Address)
    (stands : Stands link log code world) (unused : is_used id addr world ≡ false) where
  -- no node has an unused id
  pub unused-there : node_of world id ≡ None
  unused-there =
      none-under world (node_of world id) (parts_at link log code.seats id)
      (absent_none (parts_at link log code.seats id) (free-of link log code world id addr stands unused).0) (stands.nodes id)

  -- so it isn't that of the leader
  pub differs : (under : Own) → code.leader ≡ Some under → under.id ≡ id → ⊥
  differs under led same =
      let is = option_map-some (λ (n : Node). n.own) (leader_of world) under (sym stands.leader ∙ led) in
      none-some is.0 (sym unused-there ∙ ap (node_of world) (sym same ∙ ap (λ (o : Own). o.id) is.2) ∙ stands.reached.found is.0 is.1)

module _ {L G : Type 0} (link : LinkGhosts L) (log : LogGhosts G) (code later : Nodes L G) (world : World) (id : ℕ) (addr : Address)
    (at : Axes) (mode : Mode) (under : Own) (parts : Parts) (stands : Stands link log code world)
    (allowed : IsMember (record { id = id; addr = addr; at = at })) (unused : is_used id addr world ≡ false)
    (led : code.leader ≡ Some under) (starts : StartsAs (own_under under id addr at mode) parts)
    (seats : (q : ℕ) → parts_at link log later.seats q ≡ cond (eqb id q) (Some parts) (parts_at link log code.seats q))
    (addresses : AreNoted id addr code.addresses later.addresses)
    (same_leader : later.leader ≡ code.leader) (same_traffic : later.traffic ≡ code.traffic) where
  -- the machine's leader
  leader : (n : Node) × (leader_of world ≡ Some n) × (under ≡ n.own)
  leader = option_map-some (λ (n : Node). n.own) (leader_of world) under (sym stands.leader ∙ led)

  -- who the node is
  abbrev own : Own
  own = own_under leader.0.own id addr at mode

  -- the node
  abbrev node : Node
  node = begun own Joining

  -- the machine's next world
  abbrev next : World
  next = (started world node).world

  -- the node is started
  boots : happens world (events.Boot id addr at mode) ≡ started world node
  boots =
      ap (λ b. cond b (answer world (codes "taken")) (booted world (leader_of world) id addr at mode)) unused
      ∙ ap (λ o. booted world o id addr at mode) leader.1

  -- the next world comes from the world
  reaches : Reaches world next
  reaches = subst (λ a. Reaches world a.world) boots (happens-keeps world (events.Boot id addr at mode) allowed stands.reached)

  -- in which the same one leads
  leads_on : option_map (λ (n : Node). n.own) (leader_of next) ≡ Some under
  leads_on =
      let still = reaches.follows.led leader.0 leader.1 in
      ap (option_map (λ (n : Node). n.own)) still.1 ∙ ap (λ own. Some own) (still.2 ∙ sym leader.2)

  -- what was sent stands on
  traffic : TrafficStands later.traffic next
  traffic =
      subst (λ t. TrafficStands t next) (sym same_traffic)
      (traffic-later world next reaches.follows leader.0 leader.1 code.traffic stands.reached.sent refl refl refl stands.traffic)

  -- the node is no leader
  value : started_as own ≡ node_for (contents_of next) own Joining
  value =
      ap (λ b. cond b (nodes.Leader (leader_begun (member_of_own own))) (nodes.Follower (joining own)))
      (ne_eqb id leader.0.own.id
      (λ same. differs link log code world id addr stands unused under led (ap (λ (o : Own). o.id) leader.2 ∙ sym same)))

  -- the other nodes stand on
  kept : (q : ℕ) (n : Node) (p : Parts) → node_of world q ≡ Some n → NodeStands world n p → NodeStands next n p
  kept q n p found was =
      node-later world next stands.reached reaches.follows n (ap (node_of world) (id-found world q n found) ∙ found) refl p was

  -- the code tells it
  pub boots-tells : (before now : List ℕ) → now ≡ before ++ ended (codes "up " ++ decimal id)
      → Tells link log later before now (happens world (events.Boot id addr at mode))
  boots-tells before now told =
      subst (Tells link log later before now) (sym boots)
      (started-tells link log code later world node parts stands unused kept
      (λ unsent. begun-stands next own Joining parts
      (subst (λ (o : Own). StartsAs (own_under o id addr at mode) parts) leader.2 starts) unsent value)
      seats addresses (same_leader ∙ led ∙ sym leads_on) traffic reaches.reached before now told)
