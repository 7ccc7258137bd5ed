-- Settling: in rounds, what was sent and wasn't delivered or lost before is delivered.
use Rattle.std.specs.Prelude.{ℕ, zero, suc, ◌+◌, Bool, not, List, [], ◌∷◌, ◌++◌, length, decimal, codes}
use Rattle.std.specs.List.{filter, range_with_len}
use Rattle.cs_group.specs.Group.{is_among}
use Rattle.cs_machine.specs.Delivering.{deliver_at}
use Rattle.cs_machine.specs.Names.{World}
use Rattle.cs_machine.specs.Outcome.{After}

-- settling still delivers the packet with this number
abbrev pub is_open : World → ℕ → Bool
is_open world number = not (is_among world.settled number)

-- the numbers of all that it delivers, ascending
abbrev pub open_numbers : World → List ℕ
open_numbers world = filter (is_open world) (range_with_len 1 (length world.sent))

-- what deliveries lead to: the world, what is told of them, and how many they were
pub record Settling : Type 0 where
  pub world : World
  pub lines : List (List ℕ)
  pub count : ℕ

-- no delivery
abbrev pub at_rest : World → Settling
at_rest world = record { world = world; lines = []; count = 0 }

-- these lines and so many deliveries came before others
abbrev pub behind : List (List ℕ) → ℕ → Settling → Settling
behind lines count more =
    record { world = more.world; lines = lines ++ more.lines; count = count + more.count }

-- a delivery is told by a line, and then as ever
abbrev pub told_delivery : World → ℕ → After
told_delivery world number =
    let after = deliver_at world number in
    record after { lines = (codes "- deliver " ++ decimal number) ∷ after.lines }

-- one packet after the other is delivered
abbrev pub deliveries : World → List ℕ → Settling
deliveries world [] = at_rest world
deliveries world (number ∷ numbers) =
    let after = told_delivery world number in behind after.lines 1 (deliveries after.world numbers)

-- a round delivers all that is open as it begins
abbrev pub round : World → Settling
round world = deliveries world (open_numbers world)

-- so many rounds; where nothing is open they deliver nothing
abbrev pub rounds : World → ℕ → Settling
rounds world zero = at_rest world
rounds world (suc more) = let first = round world in behind first.lines first.count (rounds first.world more)

-- settling in so many rounds at most: the deliveries, and how many they were
abbrev pub settled : World → ℕ → After
settled world most =
    let all = rounds world most in
    record { world = all.world; lines = all.lines ++ (codes "settled " ++ decimal all.count) ∷ [] }
