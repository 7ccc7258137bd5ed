-- The lines of a text. Of a text only so many bytes count, and of these so many lines.
use Rattle.std.specs.Prelude.{ℕ, Bool, nat_lt, ◌||◌, List, [], ◌∷◌, length, take, if◌then◌else◌}
use Rattle.cs_base.specs.Limits.{most_text}
use Rattle.cs_show.specs.Text.{parts, all_but_last}

-- the parts without a last one that is empty
abbrev pub without_empty_last : List (List ℕ) → List (List ℕ)
without_empty_last [] = []
without_empty_last ([] ∷ []) = []
without_empty_last ((b ∷ bs) ∷ []) = (b ∷ bs) ∷ []
without_empty_last (part ∷ next ∷ more) = part ∷ without_empty_last (next ∷ more)

-- the text goes on behind what counts
abbrev pub is_cut : List ℕ → Bool
is_cut text = nat_lt most_text (length text)

-- the lines of what counts, each ended by an LF; the last LF may be missing, but not where the text is cut
abbrev pub lines_in : Bool → List ℕ → List (List ℕ)
lines_in is_cut text = if is_cut then all_but_last (parts text) else without_empty_last (parts text)

-- lines of a schedule
abbrev pub most_lines : ℕ
most_lines = 100000

-- the lines of the bytes that count
abbrev pub lines_of : List ℕ → List (List ℕ)
lines_of text = lines_in (is_cut text) (take most_text text)

-- the lines that count
abbrev pub counted_lines : List ℕ → List (List ℕ)
counted_lines text = take most_lines (lines_of text)

-- the text goes on behind the bytes, or the lines, that count
abbrev pub goes_on : List ℕ → Bool
goes_on text = is_cut text || nat_lt most_lines (length (lines_of text))
