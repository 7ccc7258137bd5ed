-- How a node starts: whether it leads, who it is, and who leads it.
use Rattle.std.specs.Prelude.{◌≡◌, ◌≢◌, ℕ, ◌+◌, Bool, true, false, not, ◌==◌, List, ◌∷◌, ◌++◌, Ok}
use Rattle.cs_base.specs.Address.{Address, IsAddress}
use Rattle.cs_base.specs.Axes.{IsPoint}
use Rattle.cs_base.specs.Ranges.{IsId}
use Rattle.cs_base.specs.declared.change.Mode.{Mode}
use Rattle.cs_base.specs.declared.change.Mode.TheVariants.{Partial, Full}
use Rattle.cs_fields.specs.Fields.{address_at, address_bytes, address_sizes, id_at, id_bytes, mode_at, mode_bytes}
use Rattle.cs_fields.specs.Fields.{point_at, point_bytes, point_sizes}
use Rattle.cs_fields.specs.Numbers.{number_bytes, number_in}
use Rattle.cs_fields.specs.Reading.{Reader, ◌>>=◌, checked}
use Rattle.cs_packet.specs.declared.own.Own.{Own}
use Rattle.cs_roll.specs.Same.{is_same_address}

-- 1 for a node that leads, 0 for another
abbrev pub flag_number : Bool → ℕ
flag_number true = 1
flag_number false = 0

unfoldable pub flag_at : Reader Bool
flag_at bytes at = do
  flag ← number_in 1 0 1 bytes at
  Ok (flag.0 == 1, flag.1)

-- a node that leads wants to know every region, and any other may
abbrev pub is_mode_of : Bool → Mode → Bool
is_mode_of true Partial = false
is_mode_of true Full = true
is_mode_of false mode = true

-- a node that leads is its own leader, and another one isn't
abbrev pub is_leader_of : Bool → ℕ → ℕ → Bool
is_leader_of true id leader = leader == id
is_leader_of false id leader = not (leader == id)

-- a node that leads has the address of its leader, and another may have it
abbrev pub is_leader_address_of : Bool → Address → Address → Bool
is_leader_address_of true addr leader_addr = is_same_address leader_addr addr
is_leader_address_of false addr leader_addr = true

-- the fields of a node have values that are allowed
pub record IsOwn (own : Own) : Type 0 where
  pub id : IsId own.id
  pub addr : IsAddress own.addr
  pub at : IsPoint own.at
  pub leader : IsId own.leader
  pub leader_addr : IsAddress own.leader_addr

-- what a node that leads has as its leader, and what another one doesn't have
abbrev pub IsLedBy : Bool → Own → Type 0
IsLedBy true own = (own.mode ≡ Full) × (own.leader ≡ own.id) × (own.leader_addr ≡ own.addr)
IsLedBy false own = own.leader ≢ own.id

-- how a node may start
pub record IsBoot (leads : Bool) (own : Own) : Type 0 where
  pub fields : IsOwn own
  pub led : IsLedBy leads own

-- whether it leads, its id, address, point and mode, and its leader's id and address
unfoldable pub boot_at : Reader (Bool × Own)
boot_at bytes at = do
  leads ← flag_at bytes at
  id ← id_at bytes leads.1
  addr ← address_at bytes id.1
  point ← point_at bytes addr.1
  mode ← checked (is_mode_of leads.0) mode_at bytes point.1
  leader ← checked (is_leader_of leads.0 id.0) id_at bytes mode.1
  leader_addr ← checked (is_leader_address_of leads.0 addr.0) address_at bytes leader.1
  Ok (
    (
      leads.0,
      record {
        id = id.0;
        addr = addr.0;
        at = point.0;
        mode = mode.0;
        leader = leader.0;
        leader_addr = leader_addr.0;
      },
    ),
    leader_addr.1,
  )

-- the mode of a node, and its leader's id and address
abbrev pub led_bytes : Own → List ℕ
led_bytes own = mode_bytes own.mode ++ id_bytes own.leader ++ address_bytes own.leader_addr

-- and before them its id, address and point
abbrev pub own_bytes : Own → List ℕ
own_bytes own = id_bytes own.id ++ address_bytes own.addr ++ point_bytes own.at ++ led_bytes own

unfoldable pub boot_bytes : Bool × Own → List ℕ
boot_bytes boot = number_bytes 1 (flag_number boot.0) ++ own_bytes boot.1

-- the sizes of the fields
abbrev pub boot_sizes : Bool × Own → List ℕ
boot_sizes boot =
    let own = boot.1 in
    1 ∷ 4 ∷ address_sizes own.addr ++ point_sizes own.at ++ 1 ∷ 4 ∷ address_sizes own.leader_addr

-- the number of the bytes
abbrev pub boot_len : ℕ
boot_len = 1 + 4 + 6 + 12 + 1 + 4 + 6
