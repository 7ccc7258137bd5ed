-- Which node has which address.
use Rattle.std.specs.Prelude.{◌≡◌, ℕ, ◌==◌, Option, Some, if◌then◌else◌}
use Rattle.std.specs.BTreeMap.{get}
use Rattle.std.specs.declared.cmp.Ordering.{Ordering}
use Rattle.std.specs.Ordering.{nat_cmp, ordering_then}
use Rattle.std.specs.Cmp.Lexicographic.{slice_cmp}
use Rattle.cs_base.specs.Address.{Address}
use Rattle.cs_machine.specs.Happens.{same_address}
use Rattle.cs_world.specs.declared.addresses.Addresses.{Addresses}

-- the order of addresses: by ip, and then by port
abbrev pub address_cmp : Address → Address → Ordering
address_cmp a b = ordering_then (slice_cmp nat_cmp a.ip b.ip) (nat_cmp a.port b.port)

-- the id of the node with the address
abbrev pub id_under : Addresses → Address → Option ℕ
id_under addresses addr = get address_cmp addresses.ids addr

-- the address of the node with the id
abbrev pub address_under : Addresses → ℕ → Option Address
address_under addresses id = get nat_cmp addresses.addrs id

-- one more node has been noted, with its address
pub record AreNoted (id : ℕ) (addr : Address) (before now : Addresses) : Type 0 where
  pub ids : (a : Address) → id_under now a ≡ if same_address addr a then Some id else id_under before a
  pub addrs : (other : ℕ) → address_under now other ≡ if id == other then Some addr else address_under before other
