-- What receiving gives, what it leaves, and what it counts.
use Rattle.std.specs.Prelude.{◌≡◌, ℕ, ◌≤◌, List, [], ◌∷◌, ◌++◌, length, take, drop, Option, Some, None, IfSome}
use Rattle.std.specs.Prelude.{Result, Ok, Err}
use Rattle.std.specs.List.{AllByRecursion}
use Rattle.std.specs.Option.{option_map}
use Rattle.cs_link.specs.Counts.{counted}
use Rattle.cs_link.specs.declared.link.LinkFailed.{LinkFailed}

-- bytes that a datagram has at most
abbrev pub most_datagram : ℕ
most_datagram = 65535

-- a datagram has at most so many bytes
abbrev pub IsSmall : List ℕ → Type 0
IsSmall datagram = length datagram ≤ most_datagram

-- each of the datagrams, where they are told, has at most so many bytes
abbrev pub AreSmall : Option (List (List ℕ)) → Type 0
AreSmall told = IfSome told (AllByRecursion IsSmall)

-- the datagrams that wait with one more behind them, where they are told
abbrev pub arrived : List ℕ → Option (List (List ℕ)) → Option (List (List ℕ))
arrived datagram told = option_map (λ waiting. waiting ++ datagram ∷ []) told

-- the first n bytes of the buffer are the next datagram, where it is told
abbrev pub IsNext : ℕ → List ℕ → Option (List (List ℕ)) → Type 0
IsNext n buffer told = IfSome told (λ waiting. waiting ≡ take n buffer ∷ drop 1 waiting)

-- the list is empty, where it is told
abbrev pub IsNothing : {T : Type 0} → Option (List T) → Type 0
IsNothing told = IfSome told (λ xs. xs ≡ [])

-- what waits after an answer of receiving, where it is told: the next one doesn't any more, if it came
abbrev pub left_waiting : Result (Option ℕ) LinkFailed → Option (List (List ℕ)) → Option (List (List ℕ))
left_waiting (Ok (Some n)) told = option_map (drop 1) told
left_waiting (Ok None) told = told
left_waiting (Err failed) told = told

-- how many datagrams were received after an answer: one more where one came
abbrev pub taken_after : Result (Option ℕ) LinkFailed → ℕ → ℕ
taken_after (Ok (Some n)) count = counted count 1
taken_after (Ok None) count = count
taken_after (Err failed) count = count

-- how often nothing was waiting after an answer: once more where none came
abbrev pub dry_after : Result (Option ℕ) LinkFailed → ℕ → ℕ
dry_after (Ok (Some n)) count = count
dry_after (Ok None) count = counted count 1
dry_after (Err failed) count = count
