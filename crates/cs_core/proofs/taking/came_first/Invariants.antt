use Rattle.std.proofs.Common.{◌≡◌, ◌==◌, ℕ, ◌∷◌, not, take}
use Rattle.std.specs.List.{filter}
use Rattle.cs_core.proofs.taking.came_first.Given as goal

-- the colour, and the others so far
abbrev pub invariant-loop-other : goal.invariant-loop-other
invariant-loop-other l = l.all.items ≡ l.colour ∷ filter (λ (other : ℕ). not (other == l.colour)) (take l.other-index l.others)
