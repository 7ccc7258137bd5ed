-- What is held after a piece or a slice came.
use Rattle.std.specs.Prelude.{◌≡◌, ◌⊎◌, ℕ, ◌==◌, List, length, is_some, Result, Ok, Err, if◌then◌else◌}
use Rattle.cs_base.specs.Ascending.{at_key}
use Rattle.cs_hold.specs.Held.{Held, of_region, with_region}
use Rattle.cs_hold.specs.Pieces.{colour_of, four_of, gained}
use Rattle.cs_hold.specs.declared.fault.HoldFault.{HoldFault}
use Rattle.cs_hold.specs.declared.fault.HoldFault.TheVariants.{Piece, Memory}
use Rattle.cs_piece.specs.declared.fault.PieceFault.{PieceFault}
use Rattle.cs_piece.specs.declared.fault.PieceFault.TheVariants.{Length, Padding}

-- the pieces that a region gained are put in
abbrev pub put_in : ℕ → List Held → Result (List (ℕ × List ℕ)) PieceFault → Result (List Held) PieceFault
put_in region held (Ok pieces) = Ok (with_region region pieces held)
put_in region held (Err fault) = Err fault

-- what is held after a piece came, or why it doesn't fit
abbrev pub taken : ℕ → ℕ → List ℕ → List Held → Result (List Held) PieceFault
taken region colour bytes held =
    if is_some (at_key colour_of colour (of_region region held)) then Ok held
    else put_in region held (gained colour bytes (of_region region held))

-- what is held after a slice came
abbrev pub sliced : ℕ → List ℕ → List Held → List Held
sliced region bytes held =
    if length (of_region region held) == 4 then held else with_region region (four_of bytes) held

-- a fault of the pieces is the one that they have; memory may run out at any time
abbrev pub IsFaultOf : {T : Type 0} → Result T PieceFault → HoldFault → Type 0
IsFaultOf given (Piece fault) = given ≡ Err fault
IsFaultOf given Memory = Unit {0}

-- a piece that doesn't fit has another length than the others want, or is filled with other bytes than 0
abbrev pub IsMisfit : HoldFault → Type 0
IsMisfit (Piece fault) = (fault ≡ Length) ⊎ (fault ≡ Padding)
IsMisfit Memory = Unit {0}
