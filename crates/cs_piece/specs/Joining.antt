-- The bytes that three pieces give.
use Rattle.std.specs.Prelude.{◌≡◌, ◌≢◌, ℕ, ◌+◌, ◌≤◌, ◌==◌, nat_le, Bool, ◌&&◌, not, List, ◌++◌, length, take, drop}
use Rattle.std.specs.Prelude.{Result, Ok, Err, if◌then◌else◌}
use Rattle.std.specs.Int.{w32, from_be_bytes}
use Rattle.std.specs.List.{list_all}
use Rattle.cs_piece.specs.Blocks.{block_len, parity}
use Rattle.cs_piece.specs.declared.fault.PieceFault.{PieceFault}
use Rattle.cs_piece.specs.declared.fault.PieceFault.TheVariants.{Index, Length, Padding, Memory}

-- three different ones of the indexes 0 to 3
pub record AreThree (a b c : ℕ) : Type 0 where
  pub first : a ≤ 3
  pub second : b ≤ 3
  pub third : c ≤ 3
  pub ab : a ≢ b
  pub ac : a ≢ c
  pub bc : b ≢ c

-- and the test for that
unfoldable pub are_three : ℕ → ℕ → ℕ → Bool
are_three a b c = nat_le a 3 && nat_le b 3 && nat_le c 3 && not (a == b) && not (a == c) && not (b == c)

-- of how many bytes a piece is one, as its first four bytes say
abbrev pub total_of : List ℕ → ℕ
total_of piece = from_be_bytes w32 (take 4 piece)

-- the piece says so many bytes, and has a block for as many
unfoldable pub is_piece_of : ℕ → List ℕ → Bool
is_piece_of total piece = (total_of piece == total) && (length piece == 4 + block_len total)

-- three pieces of equally many bytes
unfoldable pub are_alike : List ℕ → List ℕ → List ℕ → Bool
are_alike x y z = let total = total_of x in is_piece_of total x && is_piece_of total y && is_piece_of total z

-- block i, where x, y and z are the blocks a, b and c: one of them, or the XOR of them
unfoldable pub block_from : ℕ → List ℕ → ℕ → List ℕ → ℕ → List ℕ → ℕ → List ℕ
block_from a x b y c z i = if i == a then x else (if i == b then y else (if i == c then z else parity x y z))

-- blocks 0, 1 and 2 in a row
abbrev pub blocks_from : ℕ → List ℕ → ℕ → List ℕ → ℕ → List ℕ → List ℕ
blocks_from a x b y c z = block_from a x b y c z 0 ++ block_from a x b y c z 1 ++ block_from a x b y c z 2

-- the first bytes, so many, where all others are 0
unfoldable pub unfilled : ℕ → List ℕ → Result (List ℕ) PieceFault
unfilled total bytes = if list_all (λ byte. byte == 0) (drop total bytes) then Ok (take total bytes) else Err Padding

-- what the pieces x, y and z give as those of the indexes a, b and c
unfoldable pub joined : ℕ → List ℕ → ℕ → List ℕ → ℕ → List ℕ → Result (List ℕ) PieceFault
joined a x b y c z =
    if not (are_three a b c) then Err Index else
    (if not (are_alike x y z) then Err Length else
    unfilled (total_of x) (blocks_from a (drop 4 x) b (drop 4 y) c (drop 4 z)))

-- a call gave this, or memory ran out
abbrev pub Gives : {T : Type 0} → Result T PieceFault → Result T PieceFault → Type 0
Gives (Ok x) given = given ≡ Ok x
Gives (Err fault) given = fault ≢ Memory → given ≡ Err fault
