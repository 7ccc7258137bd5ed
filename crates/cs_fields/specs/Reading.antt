-- Reading bytes from left to right: a value and the place behind it, or the first fault with its place.
use Rattle.std.specs.Prelude.{◌≡◌, ◌≢◌, ℕ, ◌+◌, ◌^◌, ◌<◌, ◌≤◌, Bool, List, ◌++◌, length, drop, Result, Ok, Err, IfOk}
use Rattle.std.specs.Prelude.{if◌then◌else◌}
use Rattle.cs_fields.specs.declared.fault.PacketFault.{PacketFault}
use Rattle.cs_fields.specs.declared.fault.PacketFault.TheVariants.{Value, Memory}

-- what reads a value from a place on
abbrev pub Reader : Type 0 → Type 0
Reader T = List ℕ → ℕ → Result (T × ℕ) PacketFault

infixl 10 ◌>>=◌
-- the next field is read where none before has a fault
abbrev pub ◌>>=◌ : {A B : Type 0} → Result A PacketFault → (A → Result B PacketFault) → Result B PacketFault
(Ok x) >>= f = f x
(Err fault) >>= f = Err fault

-- a value that the test doesn't allow is at fault, at its own place
abbrev pub checked : {T : Type 0} → (T → Bool) → Reader T → Reader T
checked test read bytes at = do
  x ← read bytes at
  if test x.0 then Ok x else Err (Value at)

-- a place in the bytes, with so many further places in 32 bits
pub record HasRoom (bytes : List ℕ) (at most : ℕ) : Type 0 where
  pub within : at ≤ length bytes
  pub room : at + most < 2 ^ 32

-- a call gave what is read, or memory ran out
abbrev pub Gives : {T : Type 0} → Result T PacketFault → Result T PacketFault → Type 0
Gives (Ok x) read = read ≡ Ok x
Gives (Err fault) read = fault ≢ Memory → read ≡ Err fault

-- the text stands in the bytes from one place to another
pub record IsSpelt (bytes : List ℕ) (at : ℕ) (text : List ℕ) (behind : ℕ) : Type 0 where
  pub parts : drop at bytes ≡ text ++ drop behind bytes
  pub ends : behind ≡ at + length text
  pub within : behind ≤ length bytes

-- What a call that takes a field gives: a value that is allowed and is spelt there, in at most so many bytes; and
-- each allowed value that is spelt there, whatever follows.
pub record IsTaken {T : Type 0} (spell : T → List ℕ) (Allowed : T → Type 0) (most : ℕ) (bytes : List ℕ) (at : ℕ)
    (taken : Result (T × ℕ) PacketFault) : Type 0 where
  pub found : IfOk taken (λ x. Allowed x.0 × IsSpelt bytes at (spell x.0) x.1)
  pub only : (v : T) (rest : List ℕ) → Allowed v → drop at bytes ≡ spell v ++ rest
      → Gives taken (Ok (v, at + length (spell v)))
  pub near : IfOk taken (λ x. x.1 ≤ at + most)
