use Rattle.std.proofs.Common.{rules, ◌≡◌, ◌+◌, ◌≤◌, drop, length, ap, refl, ◌∙◌}
use Rattle.census.specs.Lines.{Reader}
use Rattle.census.proofs.Readers.{filled}
use Rattle.census.proofs.lines.Lines.fill.Goals as goal

pub returns-clause-fill : goal.returns-clause-fill
returns-clause-fill g c =
    let next = c.self-2.inside.next in
    let rest : drop next c.self-2.inside.buffer.items ≡ c.args.self.now.rest =
    ap (λ (r : Reader). r.rest) c.self-2.view_is ∙ c.in_ok-drop_given.ensures.rest in
    let inside : next ≤ length c.self-2.inside.buffer.items = search rules in
    let taken = ap (λ (r : Reader). r.taken) c.self-2.view_is ∙ c.in_ok-drop_given.ensures.taken in
    filled _ _ (g.S.Source.left c.args.source.now) _ c.in_ok-count.count next _ _ c.in_ok-count.ensures.left rest refl inside
    (ap (λ n. n + c.in_ok-count.count) taken)
