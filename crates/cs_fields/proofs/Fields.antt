-- The laws of each field of ids, addresses, points, members, modes and cuts.
use Rattle.std.proofs.Common.{◌≡◌, ℕ, zero, suc, ◌^◌, ◌<◌, ◌≤◌, true, ◌&&◌, ℤ, pos, int_le, ◌≤ℤ◌, List, ◌++◌}
use Rattle.std.proofs.Common.{length, Result, Ok, refl, sym, ap, ◌∙◌, append_assoc, arith}
use Rattle.std.specs.Prelude.{neg_ℤ, FitsSigned}
use Rattle.std.specs.Int.{Width, w32, w64, byte_len, cast_signed, cast_unsigned}
use Rattle.std.proofs.lemmas.Int.{ints, of_z-to_z}
use Rattle.std.proofs.lemmas.List.{append-nil}
use Rattle.cs_base.specs.Address.{IsAddress}
use Rattle.cs_base.specs.Axes.{IsNear, IsPoint}
use Rattle.cs_base.specs.Limits.{farthest, last_id, last_number}
use Rattle.cs_base.specs.Ranges.{IsFromTo, IsMemberFrom, IsCut}
use Rattle.cs_base.specs.declared.change.Mode.{Mode}
use Rattle.cs_base.specs.declared.change.Mode.TheVariants.{Partial, Full}
use Rattle.cs_base.specs.declared.point.Axis.{Axis}
use Rattle.cs_base.specs.declared.point.Axis.TheVariants.{X, Y, Z}
use Rattle.cs_base.specs.declared.split.Cut.{Cut}
use Rattle.cs_fields.specs.declared.fault.PacketFault.{PacketFault}
use Rattle.cs_fields.specs.Reading.{◌>>=◌, IsTaken}
use Rattle.cs_fields.specs.Whole.{one_field}
use Rattle.cs_fields.specs.Numbers.{number_in, number_bytes, signed_at, signed_bytes, IsFrom, axis_from}
use Rattle.cs_fields.specs.Fields.{id_from, id_at, region_from, region_at, id_bytes, address_at, address_bytes, address_sizes, axis_at, point_at}
use Rattle.cs_fields.specs.Fields.{point_bytes, point_sizes, member_from, member_bytes, member_sizes, mode_of, mode_number, mode_at, mode_bytes}
use Rattle.cs_fields.specs.Fields.{axis_of, axis_number, cut_at, cut_bytes, cut_sizes}
use Rattle.cs_fields.proofs.Codec.{IsBytes, IsCodec, IsCodec-done, IsCodec-bind, IsCodec-same, IsCodec-text, IsCodec-checked, Gives-same, taken}
pub use Rattle.cs_fields.proofs.Raw.{raw_codec, raw_long, raw_short, spelt_bytes}
use Rattle.cs_fields.proofs.Raw.{bytes_codec}
use Rattle.cs_fields.proofs.Numbers.{number_codec, number_in_codec}

-- ---- ids and regions
pub id_from_codec : (least : ℕ) → IsCodec (id_from least) id_bytes (one_field 4) (IsFromTo least last_id)
id_from_codec least = number_in_codec 4 least last_id (omega arith) (omega arith)

pub region_from_codec : (least : ℕ) → IsCodec (region_from least) id_bytes (one_field 4) (IsFromTo least last_number)
region_from_codec least = number_in_codec 4 least last_number (omega arith) (omega arith)

-- ---- addresses
pub address_codec : IsCodec address_at address_bytes address_sizes IsAddress
unfolding address_at address_bytes
address_codec =
    IsCodec-text
    (IsCodec-bind (λ ip. λ bytes at. number_in 2 1 65535 bytes at >>= λ port. Ok (record { ip = ip.0; port = port.0 }, port.1))
    (λ a. a.ip) (bytes_codec 4 (omega arith))
    (λ ip are_ip. IsCodec-bind (λ port. λ bytes at. Ok (record { ip = ip.0; port = port.0 }, at))
    (λ a. a.port) (number_in_codec 2 1 65535 (omega arith) (omega arith))
    (λ port is_port. IsCodec-done (record { ip = ip.0; port = port.0 })
    (refl, (refl, record { four = are_ip.0; bytes = are_ip.1; some_port = omega (arith, is_port.0); port = omega (arith, is_port.1) }))
    (λ v is. rw (← is.0, ← is.1.0) refl))
    (λ a is. (omega (arith, is.1.some_port), omega (arith, is.1.port))))
    (λ a is. (is.four, is.bytes)))
    (λ a is. (ap (λ (s : List ℕ). a.ip ++ s) (append-nil (number_bytes 2 a.port)), refl))

-- ---- coordinates and points
-- what a cast of so many bits keeps
pub record IsCast (w : Width) (size : ℕ) : Type 0 where
  pub some : 0 < byte_len w
  pub fits : (n : ℕ) → n < 256 ^ byte_len w → FitsSigned w (cast_signed w n)
  pub there : (n : ℕ) → n < 256 ^ byte_len w → cast_unsigned w (cast_signed w n) ≡ n
  pub back : (z : ℤ) → FitsSigned w z → cast_signed w (cast_unsigned w z) ≡ z
  pub below : (z : ℤ) → FitsSigned w z → cast_unsigned w z < 256 ^ byte_len w

pub cast32 : IsCast w32 4
cast32 = record {
  some = omega arith;
  fits = λ n small. omega (arith, ints);
  there = λ n small. of_z-to_z w32 n (omega arith);
  back = λ z fits. omega (arith, ints);
  below = λ z fits. omega (arith, ints);
}

pub cast64 : IsCast w64 8
cast64 = record {
  some = omega arith;
  fits = λ n small. omega (arith, ints);
  there = λ n small. of_z-to_z w64 n (omega arith);
  back = λ z fits. omega (arith, ints);
  below = λ z fits. omega (arith, ints);
}

pub signed_codec : (w : Width) (size : ℕ) → IsCast w size → IsCodec (signed_at w) (signed_bytes w) (one_field (byte_len w)) (FitsSigned w)
unfolding signed_at signed_bytes
signed_codec w size cast =
    IsCodec-text
    (IsCodec-bind (λ n. λ bytes at. Ok (cast_signed w n.0, at)) (cast_unsigned w) (number_codec (byte_len w) cast.some)
    (λ n small. IsCodec-done (cast_signed w n.0) (cast.there n.0 small, cast.fits n.0 small) (λ z is. sym (cast.back z is.1) ∙ ap (cast_signed w) is.0))
    cast.below)
    (λ z is. (append-nil (signed_bytes w z), refl))

pub axis_codec : (low : ℤ) → neg_ℤ (pos farthest) ≤ℤ low → IsCodec (axis_from low) (signed_bytes w32) (one_field 4) (IsFrom low)
axis_codec low near =
    IsCodec-same (IsCodec-checked (λ z. int_le low z && int_le z (pos farthest)) (signed_codec w32 4 cast32))
    (λ z passed. both low z passed.1) (λ z is. (fits low z near is.0 is.1, test low z is.0 is.1)) (λ z _. (refl, refl))
  where
    both : (low z : ℤ) → (int_le low z && int_le z (pos farthest)) ≡ true → IsFrom low z
    both low z e = (grind (arith, ints), grind (arith, ints))

    test : (low z : ℤ) → low ≤ℤ z → z ≤ℤ pos farthest → (int_le low z && int_le z (pos farthest)) ≡ true
    test low z above below = grind (arith, ints)

    fits : (low z : ℤ) → neg_ℤ (pos farthest) ≤ℤ low → low ≤ℤ z → z ≤ℤ pos farthest → FitsSigned w32 z
    fits low z near above below = omega (arith, ints)

pub axis_taken : (low : ℤ) (bytes : List ℕ) (at : ℕ) (r : Result (ℤ × ℕ) PacketFault) → neg_ℤ (pos farthest) ≤ℤ low → IsBytes bytes → at ≤ length bytes
    → r ≡ axis_from low bytes at → IsTaken (signed_bytes w32) (IsFrom low) 4 bytes at r
axis_taken low bytes at r near are_bytes within e = taken 4 bytes at r (axis_codec low near) (λ z is. omega arith) are_bytes within (Gives-same r _ e)

any_axis : IsCodec axis_at (signed_bytes w32) (one_field 4) (IsNear farthest)
any_axis = axis_codec (neg_ℤ (pos farthest)) (omega (arith, ints))

pub point_codec : IsCodec point_at point_bytes point_sizes IsPoint
unfolding point_at point_bytes
point_codec =
    IsCodec-text
    (IsCodec-bind (λ x. λ bytes at. axis_at bytes at >>= λ y. axis_at bytes y.1 >>= λ z. Ok (record { x = x.0; y = y.0; z = z.0 }, z.1))
    (λ p. p.x) any_axis
    (λ x near_x. IsCodec-bind (λ y. λ bytes at. axis_at bytes at >>= λ z. Ok (record { x = x.0; y = y.0; z = z.0 }, z.1))
    (λ p. p.y) any_axis
    (λ y near_y. IsCodec-bind (λ z. λ bytes at. Ok (record { x = x.0; y = y.0; z = z.0 }, at)) (λ p. p.z) any_axis
    (λ z near_z. IsCodec-done (record { x = x.0; y = y.0; z = z.0 }) (refl, (refl, (refl, record { x = near_x; y = near_y; z = near_z })))
    (λ p is. rw (← is.0, ← is.1.0, ← is.1.1.0) refl))
    (λ p is. is.1.1.z))
    (λ p is. is.1.y))
    (λ p is. is.x))
    (λ p is. (simp (append_assoc, append-nil), refl))

-- ---- members
pub member_codec : (least : ℕ) → IsCodec (member_from least) member_bytes member_sizes (IsMemberFrom least)
unfolding member_from member_bytes
member_codec least =
    IsCodec-text
    (IsCodec-bind
    (λ id. λ bytes at. address_at bytes at >>= λ addr. point_at bytes addr.1 >>= λ point. Ok (record { id = id.0; addr = addr.0; at = point.0 }, point.1))
    (λ m. m.id) (id_from_codec least)
    (λ id is_id. IsCodec-bind (λ addr. λ bytes at. point_at bytes at >>= λ point. Ok (record { id = id.0; addr = addr.0; at = point.0 }, point.1))
    (λ m. m.addr) address_codec
    (λ addr is_addr. IsCodec-bind (λ point. λ bytes at. Ok (record { id = id.0; addr = addr.0; at = point.0 }, at))
    (λ m. m.at) point_codec
    (λ point is_point. IsCodec-done (record { id = id.0; addr = addr.0; at = point.0 })
    (refl, (refl, (refl, record { id = is_id; addr = is_addr; at = is_point })))
    (λ m is. rw (← is.0, ← is.1.0, ← is.1.1.0) refl))
    (λ m is. is.1.1.at))
    (λ m is. is.1.addr))
    (λ m is. is.id))
    (λ m is. (simp (append_assoc, append-nil), refl))

-- ---- modes and cuts
mode_again : (mode : Mode) → mode_of (mode_number mode) ≡ mode
mode_again Partial = refl
mode_again Full = refl

mode_number-of : (n : ℕ) → n ≤ 1 → mode_number (mode_of n) ≡ n
mode_number-of zero small = refl
mode_number-of (suc zero) small = refl
mode_number-of (suc (suc n)) small = absurd (omega arith)

mode_small : (mode : Mode) → IsFromTo 0 1 (mode_number mode)
mode_small Partial = (omega arith, omega arith)
mode_small Full = (omega arith, omega arith)

pub mode_codec : IsCodec mode_at mode_bytes (one_field 1) (λ mode. Unit {0})
unfolding mode_at mode_bytes
mode_codec =
    IsCodec-text
    (IsCodec-bind (λ n. λ bytes at. Ok (mode_of n.0, at)) mode_number (number_in_codec 1 0 1 (omega arith) (omega arith))
    (λ n small. IsCodec-done (mode_of n.0) (mode_number-of n.0 small.1, tt) (λ mode is. sym (mode_again mode) ∙ ap mode_of is.0))
    (λ mode is. mode_small mode))
    (λ mode is. (append-nil (mode_bytes mode), refl))

axis_again : (axis : Axis) → axis_of (axis_number axis) ≡ axis
axis_again X = refl
axis_again Y = refl
axis_again Z = refl

axis_number-of : (n : ℕ) → n ≤ 2 → axis_number (axis_of n) ≡ n
axis_number-of zero small = refl
axis_number-of (suc zero) small = refl
axis_number-of (suc (suc zero)) small = refl
axis_number-of (suc (suc (suc n))) small = absurd (omega arith)

axis_small : (axis : Axis) → IsFromTo 0 2 (axis_number axis)
axis_small X = (omega arith, omega arith)
axis_small Y = (omega arith, omega arith)
axis_small Z = (omega arith, omega arith)

-- a cut of these four values
abbrev cut_with : ℕ → ℤ → ℕ → ℕ → Cut
cut_with axis coordinate id upper = record { split = record { axis = axis_of axis; at = coordinate; id = id }; upper = upper }

cut_is : (cut : Cut) (axis : ℕ) (coordinate : ℤ) (id upper : ℕ) → axis_number cut.split.axis ≡ axis → cut.split.at ≡ coordinate → cut.split.id ≡ id
    → cut.upper ≡ upper → cut ≡ cut_with axis coordinate id upper
cut_is cut axis coordinate id upper ea ec ei eu =
    let e : cut.split.axis ≡ axis_of axis = sym (axis_again cut.split.axis) ∙ ap axis_of ea in
    rw (← e, ← ec, ← ei, ← eu) refl

pub cut_codec : IsCodec cut_at cut_bytes cut_sizes IsCut
unfolding cut_at cut_bytes
cut_codec =
    IsCodec-text
    (IsCodec-bind
    (λ axis. λ bytes at. axis_at bytes at >>= λ coordinate. id_at bytes coordinate.1 >>= λ id. region_at bytes id.1 >>= λ upper.
    Ok (cut_with axis.0 coordinate.0 id.0 upper.0, upper.1))
    (λ cut. axis_number cut.split.axis) (number_in_codec 1 0 2 (omega arith) (omega arith))
    (λ axis small. IsCodec-bind
    (λ coordinate. λ bytes at. id_at bytes at >>= λ id. region_at bytes id.1 >>= λ upper. Ok (cut_with axis.0 coordinate.0 id.0 upper.0, upper.1))
    (λ cut. cut.split.at) any_axis
    (λ coordinate near. IsCodec-bind (λ id. λ bytes at. region_at bytes at >>= λ upper. Ok (cut_with axis.0 coordinate.0 id.0 upper.0, upper.1))
    (λ cut. cut.split.id) (id_from_codec 1)
    (λ id is_id. IsCodec-bind (λ upper. λ bytes at. Ok (cut_with axis.0 coordinate.0 id.0 upper.0, at))
    (λ cut. cut.upper) (region_from_codec 0)
    (λ upper is_region. IsCodec-done (cut_with axis.0 coordinate.0 id.0 upper.0)
    (refl, (refl, (refl, (axis_number-of axis.0 small.1, record { at = near; id = is_id; upper = is_region }))))
    (λ cut is. cut_is cut axis.0 coordinate.0 id.0 upper.0 is.1.1.1.0 is.1.1.0 is.1.0 is.0))
    (λ cut is. is.1.1.1.upper))
    (λ cut is. is.1.1.id))
    (λ cut is. is.1.at))
    (λ cut is. axis_small cut.split.axis))
    (λ cut is. (simp (append_assoc, append-nil), refl))
