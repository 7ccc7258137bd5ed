-- A loop's step: what one more row, change or region adds.
use Rattle.std.proofs.Common.{◌≡◌, ℕ, ◌+◌, ◌<◌, Bool, true, false, cond, if◌then◌else◌, List, [], ◌∷◌, ◌++◌, length, get_or, take}
use Rattle.std.proofs.Common.{map, ap, ◌∙◌, refl}
use Rattle.std.specs.List.{filter}
use Rattle.std.proofs.lemmas.List.{map-append}
use Rattle.std.proofs.lemmas.List.Elements.{filter_more}

-- one more element, where what passes is read off
pub read_more : {T U : Type 0} (f : T → U) (p : T → Bool) (xs : List T) (i : ℕ) (x : T) → i < length xs → x ≡ get_or xs i x
    → map f (filter p (take (i + 1) xs)) ≡ map f (filter p (take i xs)) ++ (if p x then f x ∷ [] else [])
read_more {T} {U} f p xs i x lt is =
    let whole = filter_more p xs i x lt in
    let step : map f (filter p (take (i + 1) xs)) ≡ map f (filter p (take i xs) ++ cond (p (get_or xs i x)) (get_or xs i x ∷ []) []) = ap (map f) whole in
    let at : (y : T) → map f (filter p (take i xs) ++ cond (p y) (y ∷ []) []) ≡ map f (filter p (take i xs)) ++ (if p y then f y ∷ [] else []) = λ y.
    map-append f (filter p (take i xs)) (cond (p y) (y ∷ []) []) ∙ ap (λ rest. map f (filter p (take i xs)) ++ rest)
    (elim (p y) as (λ b. map f (cond b (y ∷ []) []) ≡ (if b then f y ∷ [] else [])) [ true ↦ refl | false ↦ refl ]) in
    step ∙ (rw (← is) (at x))
