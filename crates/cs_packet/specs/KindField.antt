-- The number of a kind.
use Rattle.std.specs.Prelude.{ℕ, nat_le, ◌&&◌, Ok, Err, if◌then◌else◌}
use Rattle.cs_fields.specs.Numbers.{number_at}
use Rattle.cs_fields.specs.Reading.{Reader, ◌>>=◌}
use Rattle.cs_fields.specs.declared.fault.PacketFault.TheVariants.{Kind}

-- the kind, which has to be from 1 to the last one
unfoldable pub kind_at : ℕ → Reader ℕ
kind_at last bytes at = do
  kind ← number_at 1 bytes at
  if nat_le 1 kind.0 && nat_le kind.0 last then Ok kind else Err (Kind kind.0)
