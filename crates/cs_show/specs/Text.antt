-- A text is lines, each ended by an LF, and a line is words with single spaces between them.
use Rattle.std.specs.Prelude.{ℕ, ◌==◌, List, [], ◌∷◌, ◌++◌}
use Rattle.std.specs.List.{flat_map, slice_split}

-- a line without its LF
abbrev pub Line : Type 0
Line = List ℕ

-- the line with its LF
abbrev pub ended : List ℕ → List ℕ
ended line = line ++ 10 ∷ []

-- the lines as one text
abbrev pub text_of : List (List ℕ) → List ℕ
text_of lines = flat_map ended lines

-- the parts of a text at its LFs; the last part stands behind the last LF
abbrev pub parts : List ℕ → List (List ℕ)
parts text = slice_split (λ b. b == 10) text

-- the list without its last element
abbrev pub all_but_last : {T : Type 0} → List T → List T
all_but_last [] = []
all_but_last (x ∷ []) = []
all_but_last (x ∷ next ∷ more) = x ∷ all_but_last (next ∷ more)

-- the words stand between single spaces
abbrev pub words_of : List ℕ → List (List ℕ)
words_of line = slice_split (λ b. b == 32) line
