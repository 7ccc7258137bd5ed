-- Whom a member sends what it wants: the leader, a reporter, or another node that it knows.
use Rattle.std.specs.Prelude.{ℕ, ◌==◌, List, [], ◌∷◌, Option, Some, None, slice_get, if◌then◌else◌}
use Rattle.std.specs.Option.{option_and_then, option_map, option_map_or}
use Rattle.cs_base.specs.Address.{Address}
use Rattle.cs_base.specs.declared.member.Member.{Member}
use Rattle.cs_item.specs.declared.picture.Picture.{Picture}
use Rattle.cs_packet.specs.declared.own.Own.{Own}
use Rattle.cs_packet.specs.declared.packet.Body.{Body}
use Rattle.cs_packet.specs.declared.packet.Packet.{Packet}
use Rattle.cs_roll.specs.Sight.{at_region}
use Rattle.cs_roll.specs.Summary.{RegionSummary}
use Rattle.cs_view.specs.Place.{place_in}
use Rattle.cs_view.specs.View.{holder}

-- the first global of a region, which hands on the changes of its members
abbrev pub reporter_of : Picture → ℕ → Option Member
reporter_of view region =
    option_and_then (λ (s : RegionSummary). slice_get s.globals 0) (at_region region view.summaries)

-- the reporter of the region whose known roll has the node
abbrev pub home_reporter : ℕ → Picture → Option ℕ
home_reporter me view =
    option_map (λ (m : Member). m.id)
    (option_and_then (λ (pair : ℕ × List Member). reporter_of view pair.0) (holder me view.rolls))

-- whom a node reports a change to: that reporter, or the leader
abbrev pub reports_to : Own → Picture → ℕ
reports_to own view = option_map_or (λ reporter. reporter) (home_reporter own.id view) own.leader

-- the address of a node: of the leader as it was at the start, of any other as the view has it
abbrev pub address_of : Own → Picture → ℕ → Option Address
address_of own view id =
    if id == own.leader then Some own.leader_addr
    else option_map (λ (place : ℕ × Member). place.1.addr) (place_in id view)

-- a packet from the node
abbrev pub packet_from : Own → ℕ → Body → Packet
packet_from own to body = record { from = own.id; to = to; body = body }

-- a packet to a node, where its address is known
abbrev pub send_to : Own → Picture → ℕ → Body → List (Address × Packet)
send_to own view to body = option_map_or (λ addr. (addr, packet_from own to body) ∷ []) (address_of own view to) []

-- a packet to the leader
abbrev pub send_leader : Own → Body → List (Address × Packet)
send_leader own body = (own.leader_addr, packet_from own own.leader body) ∷ []
