-- The laws of how a node starts.
use Rattle.std.proofs.Common.{◌≡◌, ℕ, zero, suc, ◌≤◌, ◌==◌, Bool, true, false, Ok}
use Rattle.std.proofs.Common.{refl, sym, ap, ◌∙◌, append_assoc, arith, eq-eqb}
use Rattle.std.proofs.lemmas.Bool.{eqb-false, eqb-true, ne_eqb, not-true}
use Rattle.std.proofs.lemmas.List.{append-nil}
use Rattle.cs_base.specs.Address.{Address}
use Rattle.cs_base.specs.Axes.{Axes}
use Rattle.cs_base.specs.Ranges.{IsFromTo}
use Rattle.cs_base.specs.declared.change.Mode.{Mode}
use Rattle.cs_base.specs.declared.change.Mode.TheVariants.{Partial, Full}
use Rattle.cs_fields.specs.Fields.{address_at, id_at, mode_at, point_at}
use Rattle.cs_fields.specs.Numbers.{number_bytes}
use Rattle.cs_fields.specs.Reading.{◌>>=◌, checked}
use Rattle.cs_fields.specs.Whole.{one_field}
use Rattle.cs_fields.proofs.Codec.{IsCodec, IsCodec-bind, IsCodec-checked, IsCodec-done, IsCodec-text}
use Rattle.cs_fields.proofs.Fields.{address_codec, id_from_codec, mode_codec, point_codec}
use Rattle.cs_fields.proofs.Numbers.{number_in_codec}
use Rattle.cs_packet.specs.BootField.{boot_at, boot_bytes, boot_sizes, flag_at, flag_number, IsBoot, is_leader_address_of, is_leader_of, IsLedBy, is_mode_of}
use Rattle.cs_packet.specs.declared.own.Own.{Own}
use Rattle.cs_roll.proofs.Same.{Decides-address}

-- ---- the flag
flag_again : (leads : Bool) → (flag_number leads == 1) ≡ leads
flag_again true = refl
flag_again false = refl

flag_number-of : (n : ℕ) → n ≤ 1 → flag_number (n == 1) ≡ n
flag_number-of zero small = refl
flag_number-of (suc zero) small = refl
flag_number-of (suc (suc n)) small = absurd (omega arith)

flag_small : (leads : Bool) → IsFromTo 0 1 (flag_number leads)
flag_small true = (omega arith, omega arith)
flag_small false = (omega arith, omega arith)

flag_codec : IsCodec flag_at (λ leads. number_bytes 1 (flag_number leads)) (one_field 1) (λ leads. Unit {0})
unfolding flag_at
flag_codec =
    IsCodec-text
    (IsCodec-bind (λ n. λ bytes at. Ok (n.0 == 1, at)) flag_number (number_in_codec 1 0 1 (omega arith) (omega arith))
    (λ n small. IsCodec-done (n.0 == 1) (flag_number-of n.0 small.1, tt) (λ leads is. sym (flag_again leads) ∙ ap (λ (k : ℕ). k == 1) is.0))
    (λ leads is. flag_small leads))
    (λ leads is. (append-nil (number_bytes 1 (flag_number leads)), refl))

-- ---- what the tests say
led_mode : (leads : Bool) (own : Own) → IsLedBy leads own → is_mode_of leads own.mode ≡ true
led_mode true own led = rw led.0 refl
led_mode false own led = refl

led_leader : (leads : Bool) (own : Own) → IsLedBy leads own → is_leader_of leads own.id own.leader ≡ true
led_leader true own led = eq-eqb own.leader own.id led.1
led_leader false own led = rw (ne_eqb own.leader own.id led) refl

led_addr : (leads : Bool) (own : Own) → IsLedBy leads own → is_leader_address_of leads own.addr own.leader_addr ≡ true
led_addr true own led = (Decides-address own.leader_addr own.addr).1 led.2
led_addr false own led = refl

full_mode : (mode : Mode) → is_mode_of true mode ≡ true → mode ≡ Full
full_mode Partial e = cc
full_mode Full e = refl

-- the three together say who leads a node
led_by : (leads : Bool) (own : Own) → is_mode_of leads own.mode ≡ true → is_leader_of leads own.id own.leader ≡ true
    → is_leader_address_of leads own.addr own.leader_addr ≡ true → IsLedBy leads own
led_by true own mode leader addr = (full_mode own.mode mode, eqb-true own.leader own.id leader, (Decides-address own.leader_addr own.addr).0 addr)
led_by false own mode leader addr = eqb-false own.leader own.id (not-true (own.leader == own.id) leader)

-- ---- the start of a node
-- a node with these values
abbrev own_with : ℕ → Address → Axes → Mode → ℕ → Address → Own
own_with id addr point mode leader leader_addr =
    record { id = id; addr = addr; at = point; mode = mode; leader = leader; leader_addr = leader_addr }

pub boot_codec : IsCodec boot_at boot_bytes boot_sizes (λ boot. IsBoot boot.0 boot.1)
unfolding boot_at boot_bytes
boot_codec =
    IsCodec-text
    (IsCodec-bind
    (λ leads. λ bytes at. id_at bytes at >>= λ id. address_at bytes id.1 >>= λ addr. point_at bytes addr.1 >>= λ point.
    checked (is_mode_of leads.0) mode_at bytes point.1 >>= λ mode. checked (is_leader_of leads.0 id.0) id_at bytes mode.1 >>= λ leader.
    checked (is_leader_address_of leads.0 addr.0) address_at bytes leader.1 >>= λ leader_addr.
    Ok ((leads.0, own_with id.0 addr.0 point.0 mode.0 leader.0 leader_addr.0), leader_addr.1))
    (λ b. b.0) flag_codec
    (λ leads _. IsCodec-bind
    (λ id. λ bytes at. address_at bytes at >>= λ addr. point_at bytes addr.1 >>= λ point.
    checked (is_mode_of leads.0) mode_at bytes point.1 >>= λ mode. checked (is_leader_of leads.0 id.0) id_at bytes mode.1 >>= λ leader.
    checked (is_leader_address_of leads.0 addr.0) address_at bytes leader.1 >>= λ leader_addr.
    Ok ((leads.0, own_with id.0 addr.0 point.0 mode.0 leader.0 leader_addr.0), leader_addr.1))
    (λ b. b.1.id) (id_from_codec 1)
    (λ id is_id. IsCodec-bind
    (λ addr. λ bytes at. point_at bytes at >>= λ point.
    checked (is_mode_of leads.0) mode_at bytes point.1 >>= λ mode. checked (is_leader_of leads.0 id.0) id_at bytes mode.1 >>= λ leader.
    checked (is_leader_address_of leads.0 addr.0) address_at bytes leader.1 >>= λ leader_addr.
    Ok ((leads.0, own_with id.0 addr.0 point.0 mode.0 leader.0 leader_addr.0), leader_addr.1))
    (λ b. b.1.addr) address_codec
    (λ addr is_addr. IsCodec-bind
    (λ point. λ bytes at. checked (is_mode_of leads.0) mode_at bytes at >>= λ mode. checked (is_leader_of leads.0 id.0) id_at bytes mode.1 >>= λ leader.
    checked (is_leader_address_of leads.0 addr.0) address_at bytes leader.1 >>= λ leader_addr.
    Ok ((leads.0, own_with id.0 addr.0 point.0 mode.0 leader.0 leader_addr.0), leader_addr.1))
    (λ b. b.1.at) point_codec
    (λ point is_point. IsCodec-bind
    (λ mode. λ bytes at. checked (is_leader_of leads.0 id.0) id_at bytes at >>= λ leader.
    checked (is_leader_address_of leads.0 addr.0) address_at bytes leader.1 >>= λ leader_addr.
    Ok ((leads.0, own_with id.0 addr.0 point.0 mode.0 leader.0 leader_addr.0), leader_addr.1))
    (λ b. b.1.mode) (IsCodec-checked (is_mode_of leads.0) mode_codec)
    (λ mode is_mode. IsCodec-bind
    (λ leader. λ bytes at. checked (is_leader_address_of leads.0 addr.0) address_at bytes at >>= λ leader_addr.
    Ok ((leads.0, own_with id.0 addr.0 point.0 mode.0 leader.0 leader_addr.0), leader_addr.1))
    (λ b. b.1.leader) (IsCodec-checked (is_leader_of leads.0 id.0) (id_from_codec 1))
    (λ leader is_leader. IsCodec-bind
    (λ leader_addr. λ bytes at. Ok ((leads.0, own_with id.0 addr.0 point.0 mode.0 leader.0 leader_addr.0), at))
    (λ b. b.1.leader_addr) (IsCodec-checked (is_leader_address_of leads.0 addr.0) address_codec)
    (λ leader_addr is_leader_addr. IsCodec-done (leads.0, own_with id.0 addr.0 point.0 mode.0 leader.0 leader_addr.0) (
      refl,
      (
        refl,
        (
          refl,
          (
            refl,
            (
              refl,
              (
                refl,
                (
                  refl,
                  record {
                    fields = record { id = is_id; addr = is_addr; at = is_point; leader = is_leader.0; leader_addr = is_leader_addr.0 };
                    led = led_by leads.0 (own_with id.0 addr.0 point.0 mode.0 leader.0 leader_addr.0) is_mode.1 is_leader.1 is_leader_addr.1;
                  },
                ),
              ),
            ),
          ),
        ),
      ),
    )
    (λ b is. rw (← is.0, ← is.1.0, ← is.1.1.0, ← is.1.1.1.0, ← is.1.1.1.1.0, ← is.1.1.1.1.1.0, ← is.1.1.1.1.1.1.0) refl))
    (λ b is.
    let boot = is.1.1.1.1.1.1 in
    (boot.fields.leader_addr, rw (← is.1.1.1.0, ← is.1.1.1.1.1.0) (led_addr b.0 b.1 boot.led))))
    (λ b is.
    let boot = is.1.1.1.1.1 in
    (boot.fields.leader, rw (← is.1.1.1.0, ← is.1.1.1.1.0) (led_leader b.0 b.1 boot.led))))
    (λ b is. (tt, rw (← is.1.1.1.0) (led_mode b.0 b.1 is.1.1.1.1.led))))
    (λ b is. is.1.1.1.fields.at))
    (λ b is. is.1.1.fields.addr))
    (λ b is. is.1.fields.id))
    (λ b is. tt))
    (λ b is. (simp (append_assoc, append-nil), refl))
