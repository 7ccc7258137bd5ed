-- The front of a list, and what is left behind it.
use Rattle.std.proofs.Common.{◌≡◌, ℕ, ◌+◌, ◌*◌, ◌<◌, ◌≤◌, List, ◌++◌, length, take, drop, min, arith, ap, sym, ◌∙◌}
use Rattle.std.specs.Int.{div_ceil}
use Rattle.std.proofs.lemmas.List.{drop_at, drop_min, take_at, take_min}

-- a part that has as many items as there are, but at most n, is the front
pub is-front : {A : Type 0} (n : ℕ) (xs part left : List A) → xs ≡ part ++ left → length part ≡ min n (length xs) → part ≡ take n xs
is-front n xs part left is long =
    sym (take_at part left (min n (length xs)) long) ∙ ap (take (min n (length xs))) (sym is) ∙ take_min n xs

-- and the others stand behind it
pub is-behind : {A : Type 0} (n : ℕ) (xs part left : List A) → xs ≡ part ++ left → length part ≡ min n (length xs) → left ≡ drop n xs
is-behind n xs part left is long =
    sym (drop_at part left (min n (length xs)) long) ∙ ap (drop (min n (length xs))) (sym is) ∙ drop_min n xs

-- so many batches of 64, none of them empty, have all
pub are-all : (many batches : ℕ) → 64 * batches < 64 + many → many ≤ 64 * batches → batches ≡ div_ceil many 64
are-all many batches above below = omega arith
