use Rattle.std.proofs.Common.{◌≡◌, ◌∷◌, ◌++◌, ap, ◌∙◌, arith, rules}
use Rattle.std.specs.List.{filter}
use Rattle.cs_shared.specs.Tree.{elements, is_from_to}
use Rattle.cs_shared.specs.declared.tree.Tree.{the_lemmas}
use Rattle.cs_shared.proofs.Sides.{from_to-left, from_to-right, sides}
use Rattle.cs_shared.proofs.tree.Tree.+push_from_to.Goals as goal

-- each side ascends
pub push_from_to-requires : goal.push_from_to-requires
push_from_to-requires g t c κs within = (
  search (rules, the_lemmas),
  (
    search rules,
    (
        let key = g.T.Ranked.rank_of in
        let v = c.in-Fork.node.value in
        let whole : elements c.args.self.now ≡ elements v.left ++ v.value ∷ elements v.right = ap elements c.in-Fork.is in
        let are = sides key (elements v.left) v.value (elements v.right) (rw whole at c.requires.ascending) in
        rw c.deref-then-rank-low.ensures are.after_up
        ),
  ),
)

pub push_from_to-requires-then-high-rank : goal.push_from_to-requires-then-high-rank
push_from_to-requires-then-high-rank g t c κs within = (
  search (rules, the_lemmas),
  (
    search rules,
    (
        let key = g.T.Ranked.rank_of in
        let v = c.in-Fork.node.value in
        let whole : elements c.args.self.now ≡ elements v.left ++ v.value ∷ elements v.right = ap elements c.in-Fork.is in
        let are = sides key (elements v.left) v.value (elements v.right) (rw whole at c.requires.ascending) in
        rw c.deref-then-high-rank.ensures are.before_up
        ),
  ),
)

pub push_from_to-requires-2 : goal.push_from_to-requires-2
push_from_to-requires-2 g t c κs within = (
  search (rules, the_lemmas),
  (
    search rules,
    (
        let key = g.T.Ranked.rank_of in
        let v = c.in-Fork.node.value in
        let whole : elements c.args.self.now ≡ elements v.left ++ v.value ∷ elements v.right = ap elements c.in-Fork.is in
        let are = sides key (elements v.left) v.value (elements v.right) (rw whole at c.requires.ascending) in
        rw c.deref-2.ensures are.before_up
        ),
  ),
)

pub push_from_to-requires-3 : goal.push_from_to-requires-3
push_from_to-requires-3 g t c κs within = (
  search (rules, the_lemmas),
  (
    search rules,
    (
        let key = g.T.Ranked.rank_of in
        let v = c.in-Fork.node.value in
        let whole : elements c.args.self.now ≡ elements v.left ++ v.value ∷ elements v.right = ap elements c.in-Fork.is in
        let are = sides key (elements v.left) v.value (elements v.right) (rw whole at c.requires.ascending) in
        rw c.deref-4.ensures are.after_up
        ),
  ),
)

-- below the range what is in it is on the right, and above it on the left
pub returns-then-rank-low : goal.returns-then-rank-low
returns-then-rank-low g t c =
    let key = g.T.Ranked.rank_of in
    let v = c.in-Fork.node.value in
    let whole : elements c.args.self.now ≡ elements v.left ++ v.value ∷ elements v.right = ap elements c.in-Fork.is in
    let are = sides key (elements v.left) v.value (elements v.right) (rw whole at c.requires.ascending) in
    let own : c.rank-rank.result ≡ key v.value = rw c.deref.ensures at c.rank-rank.ensures in
    let all : filter (is_from_to key c.args.low c.args.high) (elements c.args.self.now) ≡ filter (is_from_to key c.args.low c.args.high) (elements v.right) =
    ap (filter (is_from_to key c.args.low c.args.high)) whole
    ∙ from_to-right key (elements v.left) v.value (elements v.right) are c.args.low c.args.high (omega (arith, own, c.if-rank-low.true)) in
    rw (all, ← c.deref-then-rank-low.ensures) c.push_from_to.ensures

pub returns-then-high-rank : goal.returns-then-high-rank
returns-then-high-rank g t c =
    let key = g.T.Ranked.rank_of in
    let v = c.in-Fork.node.value in
    let whole : elements c.args.self.now ≡ elements v.left ++ v.value ∷ elements v.right = ap elements c.in-Fork.is in
    let are = sides key (elements v.left) v.value (elements v.right) (rw whole at c.requires.ascending) in
    let own : c.rank-rank.result ≡ key v.value = rw c.deref.ensures at c.rank-rank.ensures in
    let all : filter (is_from_to key c.args.low c.args.high) (elements c.args.self.now) ≡ filter (is_from_to key c.args.low c.args.high) (elements v.left) =
    ap (filter (is_from_to key c.args.low c.args.high)) whole
    ∙ from_to-left key (elements v.left) v.value (elements v.right) are c.args.low c.args.high (omega (arith, own, c.if-high-rank.true)) in
    rw (all, ← c.deref-then-high-rank.ensures) c.push_from_to-then-high-rank.ensures
