use Rattle.std.proofs.Common.{◌≡◌, ap, ◌∙◌, drop, Contains}
use Rattle.cs_base.proofs.Ascending.{All-without}
use Rattle.cs_base.specs.Ascending.{without_key}
use Rattle.cs_tree.proofs.Parting.{AreApart-part, all-in}
use Rattle.cs_tree.proofs.sides.Sides.new.Goals as goal

-- keys tell the elements behind the root apart
pub put_in_line-requires-clause-own_distinct : goal.put_in_line-requires-clause-own_distinct
put_in_line-requires-clause-own_distinct g c =
    let key = g.P.Keyed.key_of in
    let own = c.args.own.now in
    let rest : c.split_at_mut-rest.result.1.now ≡ without_key key (key c.args.root) own =
    c.split_at_mut-rest.ensures.back ∙ ap (drop 1) c.put_first.ensures in
    AreApart-part key own c.split_at_mut-rest.result.1.now c.requires.own_distinct
    (rw rest (All-without key (Contains own) (key c.args.root) own (all-in own)))
