-- What a source and a sink tell of their bytes.
use Rattle.std.specs.Prelude.{◌≡◌, ℕ, ◌≤◌, List, [], ◌++◌, length, take, drop, Option, Some, IfSome}

-- the first n bytes of what is left are in the front of the buffer now
abbrev pub Reads : Option (List ℕ) → Option (List ℕ) → ℕ → List ℕ → Type 0
Reads before after n buffer =
    IfSome before (λ left. (n ≤ length left) × (take n buffer ≡ take n left) × (after ≡ Some (drop n left)))

-- nothing is left
abbrev pub IsAtEnd : Option (List ℕ) → Type 0
IsAtEnd left = IfSome left (λ bytes. bytes ≡ [])

-- what is told stays
abbrev pub Keeps : Option (List ℕ) → Option (List ℕ) → Type 0
Keeps before after = IfSome before (λ bytes. after ≡ Some bytes)

-- these bytes came behind what was written
abbrev pub Appends : Option (List ℕ) → Option (List ℕ) → List ℕ → Type 0
Appends before after bytes = IfSome before (λ written. after ≡ Some (written ++ bytes))

-- what came behind what was written before is a text of this kind
abbrev pub Writes : (List ℕ → Type 0) → Option (List ℕ) → Option (List ℕ) → Type 0
Writes IsKind before after = (bytes : List ℕ) × Appends before after bytes × IsKind bytes

-- the first n bytes of what is left came behind some bytes; n is 0 only where nothing is left
abbrev pub AddsPiece : Option (List ℕ) → Option (List ℕ) → ℕ → List ℕ → List ℕ → Type 0
AddsPiece before after n bytes more = IfSome before (λ left. (n ≤ length left)
    × (more ≡ bytes ++ take n left) × (after ≡ Some (drop n left)) × (n ≡ 0 → left ≡ []))

-- at most so many bytes from the front of what was left were taken
abbrev pub TakesAtMost : ℕ → Option (List ℕ) → Option (List ℕ) → Type 0
TakesAtMost most before after = IfSome before (λ left. (n : ℕ) × (n ≤ most) × (after ≡ Some (drop n left)))
