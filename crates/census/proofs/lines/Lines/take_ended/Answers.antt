use Rattle.std.proofs.Common.{rules, ◌≡◌, ◌+◌, ◌-◌, ◌∷◌, ◌++◌, length, take, drop, Some, ap, subst}
use Rattle.census.specs.Lines.{Reader, first_lf}
use Rattle.census.proofs.Readers.{taken-up}
use Rattle.census.proofs.lines.Lines.take_ended.Goals as goal

pub returns-clause-value : goal.returns-clause-value
returns-clause-value c =
    let buffer = c.self.inside.buffer.items in
    let next = c.self.inside.next in
    let place = c.in-Some.place in
    let rest : drop next buffer ≡ c.args.self.now.rest = ap (λ (r : Reader). r.rest) c.self.view_is in
    let found : first_lf (drop next buffer) ≡ Some place = search rules in
    subst (λ bytes. (first_lf bytes ≡ Some (length (take (next + place - next) (drop next buffer))))
    × (bytes ≡ take (next + place - next) (drop next buffer) ++ 10 ∷ drop (next + place + 1) buffer)) rest
    (taken-up buffer next place found)
