-- Lemmas on lists of a known length.
use Rattle.std.proofs.Common.{◌≡◌, ℕ, ◌<◌, List, [], ◌∷◌, length, get_or, map, ap, sym, arith}

-- a list of one item
pub one_item : {A : Type 0} (v : A → List ℕ) (xs : List A) (x : A) → 0 < length xs → length xs < 2 → x ≡ get_or xs 0 x → map v xs ≡ v x ∷ []
one_item v [] x some few is = absurd (omega arith)
one_item v (a ∷ []) x some few is = ap (λ y. v y ∷ []) (sym is)
one_item v (a ∷ b ∷ more) x some few is = absurd (omega arith)
