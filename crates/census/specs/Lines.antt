-- A reader of lines: what it read of a source, and how far it gave that as lines.
use Rattle.std.specs.Prelude.{◌≡◌, ⊤, ℕ, ◌+◌, ◌<◌, ◌≤◌, ◌==◌, Bool, true, false}
use Rattle.std.specs.Prelude.{List, [], ◌∷◌, ◌++◌, length, take, drop}
use Rattle.std.specs.Prelude.{Option, Some, None, Result, Ok, Err}
use Rattle.std.specs.List.{position}
use Rattle.cs_base.specs.Limits.{most_text}
use Rattle.census.specs.declared.status.Status.{Status}
use Rattle.census.specs.declared.status.Status.TheVariants.{Limit, Read}

-- bytes that are asked of a source at once
abbrev pub most_piece : ℕ
most_piece = 65536

-- the line that was given last, what was read behind it, and how many bytes were taken of the source
pub record Reader : Type 0 where
  pub line : List ℕ
  pub rest : List ℕ
  pub taken : ℕ

-- the place of the first LF
abbrev pub first_lf : List ℕ → Option ℕ
first_lf bytes = position (λ b. b == 10) bytes

-- the next line was given where an LF was read, and else nothing has changed
abbrev pub IsTakenUp : Reader → Reader → Bool → Type 0
IsTakenUp before after true =
    (first_lf before.rest ≡ Some (length after.line)) × (before.rest ≡ after.line ++ 10 ∷ after.rest)
IsTakenUp before after false = (first_lf before.rest ≡ None) × (after.rest ≡ before.rest)

-- so many bytes more were taken from the front of what was left
pub record Takes (count : ℕ) (before after : Reader) (left : List ℕ) : Type 0 where
  pub within : count ≤ length left
  pub taken : after.taken ≡ before.taken + count

-- they stand behind what was left of those before
pub record Waits (before after : Reader) (left : List ℕ) (now : Option (List ℕ)) : Type 0 where
  pub count : ℕ
  pub takes : Takes count before after left
  pub source : now ≡ Some (drop count left)
  pub bytes : before.rest ++ take count left ≡ after.rest

-- a line of them was given, which an LF ends
pub record Gives (before after : Reader) (left : List ℕ) (now : Option (List ℕ)) : Type 0 where
  pub count : ℕ
  pub takes : Takes count before after left
  pub source : now ≡ Some (drop count left)
  pub bytes : before.rest ++ take count left ≡ after.line ++ 10 ∷ after.rest
  pub unended : first_lf after.line ≡ None

-- as many were taken as count, and the source has more
pub record GoesOn (before after : Reader) (left : List ℕ) : Type 0 where
  pub count : ℕ
  pub takes : Takes count before after left
  pub more : count < length left
  pub full : after.taken ≡ most_text
  pub bytes : before.rest ++ take count left ≡ after.rest

-- a piece was read; or none was there, or the source failed, and what was left still is
abbrev pub FillIs : Reader → Reader → List ℕ → Option (List ℕ) → Result Bool Status → Type 0
FillIs before after left now (Ok true) = Waits before after left now
FillIs before after left now (Ok false) =
    Waits before after left now × (after.rest ≡ before.rest) × (now ≡ Some [])
FillIs before after left now (Err Limit) = GoesOn before after left × (after.rest ≡ before.rest)
FillIs before after left now (Err Read) = Waits before after left now × (after.rest ≡ before.rest)
FillIs before after left now (Err status) = ⊤

-- a line was given; or none ends in what was read, and nothing more is to be read
abbrev pub AdvanceIs : Reader → Reader → List ℕ → Option (List ℕ) → Result Bool Status → Type 0
AdvanceIs before after left now (Ok true) = Gives before after left now
AdvanceIs before after left now (Ok false) =
    Waits before after left now × (first_lf after.rest ≡ None) × (now ≡ Some [])
AdvanceIs before after left now (Err Limit) = GoesOn before after left × (first_lf after.rest ≡ None)
AdvanceIs before after left now (Err Read) = Waits before after left now × (first_lf after.rest ≡ None)
AdvanceIs before after left now (Err status) = ⊤

-- the line that was given has no LF; where none was, there is none in what is left
abbrev pub IsUnended : Reader → Bool → Type 0
IsUnended reader true = first_lf reader.line ≡ None
IsUnended reader false = first_lf reader.rest ≡ None
