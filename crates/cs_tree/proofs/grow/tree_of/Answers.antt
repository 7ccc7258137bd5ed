use Rattle.std.proofs.Common.{◌≡◌, ◌∷◌, ◌++◌, [], Some, None, length, sym, ap, ◌∙◌, arith}
use Rattle.std.specs.Option.{option_map}
use Rattle.cs_tree.specs.Building.{placements_of}
use Rattle.cs_tree.specs.Order.{sorted_by}
use Rattle.cs_tree.specs.Skeleton.{edges_down, root_of, tree_of}
use Rattle.cs_tree.specs.Tree.{edge_cmp}
use Rattle.cs_tree.proofs.Placing.{built-of_edges, keys-built, room-of_root}
use Rattle.cs_tree.proofs.grow.tree_of.Goals as goal

-- there is room for all below the root
pub place_below-requires-clause-room : goal.place_below-requires-clause-room
place_below-requires-clause-room g c =
    let key = g.P.Keyed.key_of in
    let root = c.in-Some.root in
    let first : c.place.new.self ≡ (None, key root) ∷ [] = rw (c.in_ok-builder.ensures, c.key.ensures.value) at c.in_ok-place.ensures.ok in
    room-of_root key root c.args.own.now c.args.others.now c.place.new.self first c.requires.once

-- the root stands there
pub finish-requires : goal.finish-requires
finish-requires g c =
    let key = g.P.Keyed.key_of in
    let own = c.args.own.now in
    let edges = edges_down key g.P.HasPoint.point_of (length own) (record { own = own; others = c.args.others.now }) in
    let all = c.in_ok-place_below.ensures.placed (length own) (omega arith) in
    let first : c.place.new.self ≡ (None, key c.in-Some.root) ∷ [] =
    rw (c.in_ok-builder.ensures, c.key.ensures.value) at c.in_ok-place.ensures.ok in
    let whole : c.place_below.new.builder ≡ (None, key c.in-Some.root) ∷ placements_of edges = all ∙ ap (λ b. b ++ placements_of edges) first in
    omega (arith, ap length whole)

-- the tree is that of the definition
pub returns-clause-value : goal.returns-clause-value
returns-clause-value g c =
    let key = g.P.Keyed.key_of in
    let point = g.P.HasPoint.point_of in
    let own = c.args.own.now in
    let others = c.args.others.now in
    let root = c.in-Some.root in
    let edges = edges_down key point (length own) (record { own = own; others = others }) in
    let all = c.in_ok-place_below.ensures.placed (length own) (omega arith) in
    let first : c.place.new.self ≡ (None, key root) ∷ [] = rw (c.in_ok-builder.ensures, c.key.ensures.value) at c.in_ok-place.ensures.ok in
    let whole : c.place_below.new.builder ≡ (None, key root) ∷ placements_of edges = all ∙ ap (λ b. b ++ placements_of edges) first in
    let found : root_of key point own ≡ Some root = sym c.root_of.ensures ∙ c.in-Some.is in
    let tree : tree_of key point (record { own = own; others = others }) ≡ Some (record { root = key root; edges = sorted_by edge_cmp edges }) =
    ap (option_map (λ r. record { root = key r; edges = sorted_by edge_cmp edges })) found in
    sym c.in_ok-finish.ensures ∙ (built-of_edges (key root) edges c.place_below.new.builder whole ∙ sym tree)

-- and each of its keys took a step
pub returns-clause-steps : goal.returns-clause-steps
returns-clause-steps g c =
    let key = g.P.Keyed.key_of in
    let own = c.args.own.now in
    let root = c.in-Some.root in
    let edges = edges_down key g.P.HasPoint.point_of (length own) (record { own = own; others = c.args.others.now }) in
    let all = c.in_ok-place_below.ensures.placed (length own) (omega arith) in
    let first : c.place.new.self ≡ (None, key root) ∷ [] = rw (c.in_ok-builder.ensures, c.key.ensures.value) at c.in_ok-place.ensures.ok in
    let whole : c.place_below.new.builder ≡ (None, key root) ∷ placements_of edges = all ∙ ap (λ b. b ++ placements_of edges) first in
    let many = keys-built (key root) edges c.place_below.new.builder c.in_ok-finish.field-0 whole c.in_ok-finish.ensures in
    omega (arith, many, ap length first, c.in_ok-place.ensures.step, c.place_below.ensures.steps)
