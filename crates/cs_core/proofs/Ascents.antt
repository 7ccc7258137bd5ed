-- A list that ascends does so up to each of its elements.
use Rattle.std.proofs.Common.{ℕ, ◌+◌, ◌<◌, List, [], ◌∷◌, ◌++◌, length, get_or, take, subst}
use Rattle.std.proofs.lemmas.List.{take_more}
use Rattle.cs_base.specs.Ascending.{IsAscendingBy}
use Rattle.cs_base.proofs.Ascending.{IsAscendingBy-take}

-- the next element ascends behind those so far
pub IsAscendingBy-next : {X : Type 0} (key : X → ℕ) (xs : List X) (i : ℕ) (d : X) → i < length xs → IsAscendingBy key xs
    → IsAscendingBy key (take i xs ++ get_or xs i d ∷ [])
IsAscendingBy-next key xs i d lt up = subst (IsAscendingBy key) (take_more xs i d lt) (IsAscendingBy-take key (i + 1) xs up)
