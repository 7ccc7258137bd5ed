-- What a call that appends leaves.
use Rattle.std.specs.Prelude.{◌≡◌, ℕ, List, ◌++◌, length, take, Result, Ok, Err}

-- the text behind what was there, or after an error what was there
abbrev pub Appends : {T E : Type 0} → Result T E → List ℕ → List ℕ → List ℕ → Type 0
Appends (Ok x) old new text = new ≡ old ++ text
Appends (Err fault) old new text = new ≡ old

-- the text behind what was there, or after an error a list that begins with what was there
abbrev pub Extends : {T E : Type 0} → Result T E → List ℕ → List ℕ → List ℕ → Type 0
Extends (Ok x) old new text = new ≡ old ++ text
Extends (Err fault) old new text = take (length old) new ≡ old
