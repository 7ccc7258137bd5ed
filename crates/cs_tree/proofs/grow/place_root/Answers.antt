use Rattle.std.proofs.Common.{◌≡◌, map, option_to_list, ap, ◌∙◌, arith}
use Rattle.cs_tree.specs.Building.{placed_keys}
use Rattle.cs_tree.proofs.Counts.{count}
use Rattle.cs_tree.proofs.Placing.{count-one_key, not-in}
use Rattle.cs_tree.proofs.grow.place_root.Goals as goal

-- the root is new
pub place-requires-clause-new : goal.place-requires-clause-new
place-requires-clause-new g c =
    let key = g.P.Keyed.key_of in
    let k = key c.in-Some.root in
    let one : count k (map key (option_to_list c.args.root)) ≡ 1 = ap (λ r. count k (map key (option_to_list r))) c.in-Some.is ∙ count-one_key k in
    rw c.key.ensures.value (not-in k (placed_keys c.args.builder.now) (omega (arith, c.requires.new k, one)))
