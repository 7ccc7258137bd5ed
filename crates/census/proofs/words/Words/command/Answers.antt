use Rattle.std.proofs.Common.{rules, arith, ◌≡◌, ◌≤◌, ◌<◌, ℕ, [], ◌∷◌, List, IfSome, length, get_or, ap, sym, subst, map, ◌∙◌}
use Rattle.census.specs.Commands.{IsAsked}
use Rattle.census.proofs.words.Words.command.Goals as goal

-- a list of three elements is these three
three-elements : {A : Type 0} (xs : List A) (x y z : A) → 3 ≤ length xs → length xs < 4
    → x ≡ get_or xs 0 x → y ≡ get_or xs 1 y → z ≡ get_or xs 2 z → xs ≡ x ∷ y ∷ z ∷ []
three-elements [] x y z least most first second third = absurd (omega (arith, least))
three-elements (a ∷ []) x y z least most first second third = absurd (omega (arith, least))
three-elements (a ∷ b ∷ []) x y z least most first second third = absurd (omega (arith, least))
three-elements (a ∷ b ∷ c ∷ []) x y z least most first second third = cc
three-elements (a ∷ b ∷ c ∷ d ∷ rest) x y z least most first second third = absurd (omega (arith, most))

pub returns-in-len3-clause-found : goal.returns-in-len3-clause-found
returns-in-len3-clause-found c =
    let three = three-elements c.as_slice.result.now _ _ _ c.in-len3.len_at_least c.in-len3.len_below
    c.word-item-then-this-lt4.is c.first-item.is c.second-item.is in
    let words : List (List ℕ) = c.word-item-then-this-lt4.result.items ∷ c.first-item.result.items ∷ c.second-item.result.items ∷ [] in
    let spelt : c.args.self.now ≡ words = sym c.self.view_is ∙ ap (map (λ x. x.items)) (sym c.as_slice.ensures.value ∙ three) in
    let asked : IfSome c.numbered.result (IsAsked words) = search rules in
    subst (λ words. IfSome c.numbered.result (IsAsked words)) (sym spelt) asked
