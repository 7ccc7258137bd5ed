-- What the parts of a line say: three words for a point, and the one word of a short line.
use Rattle.std.specs.Prelude.{ℕ, List, [], ◌∷◌, ◌++◌, Result, Ok, Err}
use Rattle.cs_base.specs.Axes.{Axes}
use Rattle.cs_script.specs.Kinds.{◌>>=◌, Kind, Value, axis_word, value_of}
use Rattle.cs_script.specs.Rows.{Row, id_rows, number_rows, point}
use Rattle.cs_script.specs.declared.fault.LineFault.{LineFault}
use Rattle.cs_script.specs.declared.fault.LineFault.TheVariants as faults

-- an axis for each of three words
abbrev pub point_words : List ℕ → List ℕ → List ℕ → Result Axes LineFault
point_words a b c = do
  x ← axis_word a
  y ← axis_word b
  z ← axis_word c
  Ok (point x y z)

-- the value of the one word behind the first
abbrev pub only : (kind : Kind) → List (List ℕ) → Result (Value kind) LineFault
only kind (word ∷ []) = value_of kind word
only kind args = Err faults.Count

-- the lines of one argument
abbrev pub short_rows : List Row
short_rows = id_rows ++ number_rows
