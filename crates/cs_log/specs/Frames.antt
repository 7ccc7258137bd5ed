-- Frames: a length and so many bytes, one frame behind the other, and what is behind the last whole one.
use Rattle.std.specs.Prelude.{◌≡◌, ℕ, ◌+◌, ◌^◌, ◌<◌, List, [], ◌∷◌, ◌++◌, length, take, drop, map}
use Rattle.std.specs.Int.{w32, to_be_bytes, from_be_bytes}
use Rattle.std.specs.List.{flat_map, AllByRecursion}

-- the length of a payload, in four bytes with the highest first, and the payload
abbrev pub frame : List ℕ → List ℕ
frame payload = to_be_bytes w32 (length payload) ++ payload

-- a frame for each payload, one behind the other
abbrev pub framed : List (List ℕ) → List ℕ
framed payloads = flat_map frame payloads

-- four bytes can say the length of the payload
abbrev pub Fits : List ℕ → Type 0
Fits payload = length payload < 2 ^ 32

-- less than a whole frame: fewer bytes than the length that they begin with says, or not even a length
abbrev pub IsTorn : List ℕ → Type 0
IsTorn tail = length tail < 4 + from_be_bytes w32 (take 4 tail)

-- each payload with the place where its frame begins, where the first frame begins at this place
abbrev pub placed : ℕ → List (List ℕ) → List (ℕ × List ℕ)
placed at [] = []
placed at (payload ∷ payloads) = (at, payload) ∷ placed (at + length (frame payload)) payloads

-- the payloads of frames
abbrev pub payloads_of : List (ℕ × List ℕ) → List (List ℕ)
payloads_of frames = map (λ (frame : ℕ × List ℕ). frame.1) frames

-- the length of frames as bytes
abbrev pub whole_len : List (ℕ × List ℕ) → ℕ
whole_len frames = length (framed (payloads_of frames))

-- these are the whole frames from the start of the bytes, and what is behind them is a torn tail
pub record AreFramesOf (bytes : List ℕ) (frames : List (ℕ × List ℕ)) : Type 0 where
  pub fit : AllByRecursion Fits (payloads_of frames)
  pub places : frames ≡ placed 0 (payloads_of frames)
  pub front : framed (payloads_of frames) ≡ take (whole_len frames) bytes
  pub torn : IsTorn (drop (whole_len frames) bytes)
