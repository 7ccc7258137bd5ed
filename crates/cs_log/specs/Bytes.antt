-- What the calls of a log do to the bytes that it tells.
use Rattle.std.specs.Prelude.{◌≡◌, ℕ, ◌≤◌, List, ◌++◌, length, take, Option}
use Rattle.std.specs.Option.{option_map}

-- the bytes with a piece behind, where they are told
abbrev pub appended : Option (List ℕ) → List ℕ → Option (List ℕ)
appended told piece = option_map (λ bytes. bytes ++ piece) told

-- the first so many bytes, where they are told
abbrev pub cut_to : ℕ → Option (List ℕ) → Option (List ℕ)
cut_to len told = option_map (λ bytes. take len bytes) told

-- some bytes from the front of a piece came behind, and perhaps all or none
abbrev pub AppendsFront : Option (List ℕ) → Option (List ℕ) → List ℕ → Type 0
AppendsFront before after piece = (n : ℕ) × (n ≤ length piece) × (after ≡ appended before (take n piece))
