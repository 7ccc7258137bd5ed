-- One step of the generator, as the code makes it.
use Rattle.std.proofs.Common.{◌≡◌, ℕ, ◌+◌, ◌*◌, ◌%◌, ap, refl, ◌∙◌}
use Rattle.std.proofs.Common.{ℤ, pos, negsuc, arith, w32, to_z, of_z}
use Rattle.std.proofs.lemmas.Int.{ints, to_z-of_z}
use Rattle.cs_base.specs.Axes.{IsNear}
use Rattle.cs_base.specs.Limits.{farthest}
use native.Mathlib.Nat.{add_assoc, mod-add-mod}
use native.Mathlib.Numerals.{unary_clauses}
use Rattle.cs_drill.specs.Draws.{next_state, state_after}

-- no draw was made
pub none-drawn : (seed : ℕ) → seed ≡ state_after seed 0
unfolding state_after
none-drawn seed = refl

-- one more draw is one more step
pub one-more : (seed before : ℕ) → next_state (state_after seed before) ≡ state_after seed (before + 1)
unfolding state_after
one-more seed before = simp unary_clauses refl

-- where each of the two operations wraps, so does the whole
pub stepped : (state seed before : ℕ) → state ≡ state_after seed before
    → (state * 6364136223846793005 % 18446744073709551616 + 1442695040888963407) % 18446744073709551616
    ≡ state_after seed (before + 1)
stepped state seed before at =
    mod-add-mod (state * 6364136223846793005) 18446744073709551616 1442695040888963407 ∙ ap next_state at
    ∙ one-more seed before

-- a draw is taken from the state behind it
pub later : (seed before one other : ℕ) → state_after seed (before + one + other) ≡ state_after seed (before + (one + other))
later seed before one other = ap (state_after seed) (add_assoc before one other)

-- a number of an axis is kept in 32 bits
pub kept : (n : ℤ) → IsNear farthest n → to_z w32 (of_z w32 n) ≡ n
kept (pos k) near = to_z-of_z w32 (pos k) (omega (arith, ints))
kept (negsuc k) near = to_z-of_z w32 (negsuc k) (omega (arith, ints))
