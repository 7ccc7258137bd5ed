-- Bytes in four pieces, any three of which suffice: a third of the bytes in each of three, and the XOR of these.
use Rattle.std.specs.Prelude.{ℕ, ◌+◌, ◌-◌, ◌*◌, ◌/◌, ◌==◌, List, [], ◌∷◌, ◌++◌, length, take, drop, map, replicate}
use Rattle.std.specs.Prelude.{bit_xor, if◌then◌else◌}
use Rattle.std.specs.Int.{w32, to_be_bytes}
use Rattle.std.specs.List.{zip}

-- a third of so many bytes, rounded up
abbrev pub block_len : ℕ → ℕ
block_len total = (total + 2) / 3

-- the bytes with zeros behind them, up to n bytes
abbrev pub filled : ℕ → List ℕ → List ℕ
filled n bytes = bytes ++ replicate (n - length bytes) 0

-- block 0, 1 or 2: the first, the second or the last third of the bytes
abbrev pub data_block : List ℕ → ℕ → List ℕ
data_block bytes i = let n = block_len (length bytes) in filled n (take n (drop (i * n) bytes))

-- the XOR of two blocks, byte by byte
abbrev pub xor : List ℕ → List ℕ → List ℕ
xor x y = map (λ p. bit_xor p.0 p.1) (zip x y)

-- the XOR of three blocks
abbrev pub parity : List ℕ → List ℕ → List ℕ → List ℕ
parity x y z = xor (xor x y) z

-- a third of the bytes, or for block 3 the XOR of the thirds
unfoldable pub block : List ℕ → ℕ → List ℕ
block bytes i =
    if i == 3 then parity (data_block bytes 0) (data_block bytes 1) (data_block bytes 2) else data_block bytes i

-- piece i of some bytes: how many they are, in four bytes with the highest first, and block i
unfoldable pub piece_of : List ℕ → ℕ → List ℕ
piece_of bytes i = to_be_bytes w32 (length bytes) ++ block bytes i

-- all four pieces
abbrev pub pieces_of : List ℕ → List (List ℕ)
pieces_of bytes = piece_of bytes 0 ∷ piece_of bytes 1 ∷ piece_of bytes 2 ∷ piece_of bytes 3 ∷ []
