-- Bytes by place, and bytes one by one.
use Rattle.std.proofs.Common.{ℕ, suc, ◌<◌, List, [], ◌∷◌, get_or}
use Rattle.std.specs.List.{AllByRecursion}

-- what is below 256 at each place is below it one by one
pub all_bytes : (bytes : List ℕ) → ((i : ℕ) → get_or bytes i 0 < 256) → AllByRecursion (λ b. b < 256) bytes
all_bytes [] at = tt
all_bytes (b ∷ bytes) at = (at 0, all_bytes bytes (λ i. at (suc i)))
