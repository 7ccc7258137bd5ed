-- Bytes that are read as a whole, and where a spelling that is cut off has its fault.
use Rattle.std.specs.Prelude.{◌≡◌, ℕ, ◌+◌, ◌-◌, ◌<◌, nat_lt, ◌==◌, List, [], ◌∷◌, ◌++◌, length, take, Result, Ok, Err}
use Rattle.std.specs.Prelude.{IfOk, if◌then◌else◌}
use Rattle.cs_fields.specs.Reading.{Reader, ◌>>=◌, Gives}
use Rattle.cs_fields.specs.declared.fault.PacketFault.{PacketFault}
use Rattle.cs_fields.specs.declared.fault.PacketFault.TheVariants.{Extra, Short}

-- where the field begins in which byte n lies, in fields of these sizes one behind the other
abbrev pub field_start : List ℕ → ℕ → ℕ
field_start [] n = 0
field_start (size ∷ sizes) n = if nat_lt n size then 0 else size + field_start sizes (n - size)

-- the sizes of the fields of a value that is one field of so many bytes
abbrev pub one_field : {T : Type 0} → ℕ → T → List ℕ
one_field size x = size ∷ []

-- the value that is spelt by the bytes, all of them
unfoldable pub whole_of : {T : Type 0} → Reader T → List ℕ → Result T PacketFault
whole_of read bytes = do
  x ← read bytes 0
  if x.1 == length bytes then Ok x.0 else Err (Extra x.1)

-- What a call that reads bytes as a whole gives: a value that is allowed and that they spell; each allowed value that
-- they spell; of the front of a spelling the fault Short, at the field that has the next byte; and of a spelling with
-- more behind it the fault Extra, at its length.
pub record IsWhole {T : Type 0} (spell sizes : T → List ℕ) (Allowed : T → Type 0) (bytes : List ℕ)
    (given : Result T PacketFault) : Type 0 where
  pub found : IfOk given (λ v. Allowed v × (bytes ≡ spell v))
  pub only : (v : T) → Allowed v → bytes ≡ spell v → Gives given (Ok v)
  pub short : (v : T) (n : ℕ) → Allowed v → n < length (spell v) → bytes ≡ take n (spell v)
      → Gives given (Err (Short (field_start (sizes v) n)))
  pub extra : (v : T) (more : List ℕ) → Allowed v → 0 < length more → bytes ≡ spell v ++ more
      → Gives given (Err (Extra (length (spell v))))
