-- Who a node is.
use Rattle.cs_base.specs.declared.member.Member.{Member}
use Rattle.cs_packet.specs.declared.own.Own.{Own}

-- the node as a member of the group
abbrev pub member_of_own : Own → Member
member_of_own own = record { id = own.id; addr = own.addr; at = own.at }
