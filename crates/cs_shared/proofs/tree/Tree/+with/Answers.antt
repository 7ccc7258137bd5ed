use Rattle.std.proofs.Common.{◌≡◌, ◌<◌, ◌∷◌, ◌++◌, ap, sym, ◌∙◌, arith, rules}
use Rattle.std.proofs.lemmas.Cmp.{ranked}
use Rattle.cs_base.specs.Ascending.{placed_by}
use Rattle.cs_shared.specs.Tree.{elements}
use Rattle.cs_shared.specs.declared.tree.Tree.{the_lemmas}
use Rattle.cs_shared.proofs.Sides.{placed-here, placed-left, placed-right, sides}
use Rattle.cs_shared.proofs.tree.Tree.+with.Goals as goal

-- each side ascends
pub with-requires : goal.with-requires
with-requires g t c κs within = (
  search (rules, the_lemmas),
  (
    search rules,
    (
        let key = g.T.Ranked.rank_of in
        let v = c.in-Fork.node.value in
        let whole : elements c.args.self.now ≡ elements v.left ++ v.value ∷ elements v.right = ap elements c.in-Fork.is in
        let are = sides key (elements v.left) v.value (elements v.right) (rw whole at c.requires.ascending) in
        rw c.deref-in-Less.ensures are.before_up
        ),
  ),
)

pub with-requires-in-Greater : goal.with-requires-in-Greater
with-requires-in-Greater g t c κs within = (
  search (rules, the_lemmas),
  (
    search rules,
    (
        let key = g.T.Ranked.rank_of in
        let v = c.in-Fork.node.value in
        let whole : elements c.args.self.now ≡ elements v.left ++ v.value ∷ elements v.right = ap elements c.in-Fork.is in
        let are = sides key (elements v.left) v.value (elements v.right) (rw whole at c.requires.ascending) in
        rw c.deref-in-Greater.ensures are.after_up
        ),
  ),
)

-- the element is placed on the side of its rank
pub returns-in_ok-share-in-Less : goal.returns-in_ok-share-in-Less
returns-in_ok-share-in-Less g t c =
    let key = g.T.Ranked.rank_of in
    let v = c.in-Fork.node.value in
    let whole : elements c.args.self.now ≡ elements v.left ++ v.value ∷ elements v.right = ap elements c.in-Fork.is in
    let are = sides key (elements v.left) v.value (elements v.right) (rw whole at c.requires.ascending) in
    let told : c.rank.result < c.rank-2.result = ranked c.rank.result c.rank-2.result _ (sym c.in-Less.is ∙ c.cmp.ensures) in
    let own : c.rank-2.result ≡ key v.value = rw c.deref.ensures at c.rank-2.ensures in
    let all : placed_by key c.args.x (elements c.args.self.now) ≡ placed_by key c.args.x (elements v.left) ++ v.value ∷ elements v.right =
    ap (placed_by key c.args.x) whole
    ∙ placed-left key (elements v.left) v.value (elements v.right) are c.args.x (omega (arith, told, own, c.rank.ensures)) in
    search rules

pub returns-in_ok-share-in-Equal-2 : goal.returns-in_ok-share-in-Equal-2
returns-in_ok-share-in-Equal-2 g t c =
    let key = g.T.Ranked.rank_of in
    let v = c.in-Fork.node.value in
    let whole : elements c.args.self.now ≡ elements v.left ++ v.value ∷ elements v.right = ap elements c.in-Fork.is in
    let are = sides key (elements v.left) v.value (elements v.right) (rw whole at c.requires.ascending) in
    let told : c.rank.result ≡ c.rank-2.result = ranked c.rank.result c.rank-2.result _ (sym c.in-Equal.is ∙ c.cmp.ensures) in
    let own : c.rank-2.result ≡ key v.value = rw c.deref.ensures at c.rank-2.ensures in
    let all : placed_by key c.args.x (elements c.args.self.now) ≡ elements v.left ++ c.args.x ∷ elements v.right =
    ap (placed_by key c.args.x) whole
    ∙ placed-here key (elements v.left) v.value (elements v.right) are c.args.x (omega (arith, told, own, c.rank.ensures)) in
    search rules

pub returns-in_ok-share-in-Greater : goal.returns-in_ok-share-in-Greater
returns-in_ok-share-in-Greater g t c =
    let key = g.T.Ranked.rank_of in
    let v = c.in-Fork.node.value in
    let whole : elements c.args.self.now ≡ elements v.left ++ v.value ∷ elements v.right = ap elements c.in-Fork.is in
    let are = sides key (elements v.left) v.value (elements v.right) (rw whole at c.requires.ascending) in
    let told : c.rank-2.result < c.rank.result = ranked c.rank.result c.rank-2.result _ (sym c.in-Greater.is ∙ c.cmp.ensures) in
    let own : c.rank-2.result ≡ key v.value = rw c.deref.ensures at c.rank-2.ensures in
    let all : placed_by key c.args.x (elements c.args.self.now) ≡ elements v.left ++ v.value ∷ placed_by key c.args.x (elements v.right) =
    ap (placed_by key c.args.x) whole
    ∙ placed-right key (elements v.left) v.value (elements v.right) are c.args.x (omega (arith, told, own, c.rank.ensures)) in
    search rules
