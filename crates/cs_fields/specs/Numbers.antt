-- What is read at once: bytes as they are, numbers with the highest byte first, and numbers with a sign in two's
-- complement.
use Rattle.std.specs.Prelude.{◌≡◌, ℕ, ◌+◌, ◌<◌, nat_lt, nat_le, ◌&&◌, ℤ, pos, int_le, ◌≤ℤ◌, List, length, take, drop}
use Rattle.std.specs.Prelude.{Ok, Err, if◌then◌else◌}
use Rattle.std.specs.List.{AllByRecursion}
use Rattle.std.specs.Int.{Width, w32, byte_len, cast_signed, cast_unsigned}
use Rattle.cs_base.specs.Limits.{farthest}
use Rattle.byteorder.specs.Endian.{big_number, big_bytes}
use Rattle.cs_fields.specs.declared.fault.PacketFault.TheVariants.{Short}
use Rattle.cs_fields.specs.Reading.{Reader, ◌>>=◌, checked}

-- n bytes as they are
unfoldable pub raw_at : ℕ → Reader (List ℕ)
raw_at n bytes at = if nat_lt (length bytes) (at + n) then Err (Short at) else Ok (take n (drop at bytes), at + n)

-- n bytes
abbrev pub AreBytes : ℕ → List ℕ → Type 0
AreBytes n text = (length text ≡ n) × AllByRecursion (λ b. b < 256) text

-- the number in n bytes
unfoldable pub number_at : ℕ → Reader ℕ
number_at n bytes at = do
  text ← raw_at n bytes at
  Ok (big_number n text.0, text.1)

-- and its bytes, the highest first
unfoldable pub number_bytes : ℕ → ℕ → List ℕ
number_bytes n x = big_bytes n x

-- the number in n bytes, which has to be from the least to the most
abbrev pub number_in : ℕ → ℕ → ℕ → Reader ℕ
number_in n least most = checked (λ x. nat_le least x && nat_le x most) (number_at n)

-- the number with a sign in the bytes of a width
unfoldable pub signed_at : Width → Reader ℤ
signed_at w bytes at = do
  n ← number_at (byte_len w) bytes at
  Ok (cast_signed w n.0, n.1)

-- and the bytes of such a number
unfoldable pub signed_bytes : Width → ℤ → List ℕ
signed_bytes w z = number_bytes (byte_len w) (cast_unsigned w z)

-- from the low bound to the end of an axis
abbrev pub IsFrom : ℤ → ℤ → Type 0
IsFrom low z = (low ≤ℤ z) × (z ≤ℤ pos farthest)

-- a coordinate on an axis, which has to be from the low bound to the end
abbrev pub axis_from : ℤ → Reader ℤ
axis_from low = checked (λ z. int_le low z && int_le z (pos farthest)) (signed_at w32)
