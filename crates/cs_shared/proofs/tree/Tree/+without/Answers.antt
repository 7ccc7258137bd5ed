use Rattle.std.proofs.Common.{◌≡◌, ◌<◌, ◌∷◌, ◌++◌, ap, sym, ◌∙◌, arith, rules}
use Rattle.std.proofs.lemmas.Cmp.{ranked}
use Rattle.cs_base.specs.Ascending.{without_key}
use Rattle.cs_shared.specs.Tree.{elements}
use Rattle.cs_shared.specs.declared.tree.Tree.{the_lemmas}
use Rattle.cs_shared.proofs.Sides.{sides, without-here, without-left, without-right}
use Rattle.cs_shared.proofs.tree.Tree.+without.Goals as goal

-- each side ascends
pub without-requires : goal.without-requires
without-requires g t c κs within = (
  search (rules, the_lemmas),
  (
    search rules,
    (
        let key = g.T.Ranked.rank_of in
        let v = c.in-Fork.node.value in
        let whole : elements c.args.self.now ≡ elements v.left ++ v.value ∷ elements v.right = ap elements c.in-Fork.is in
        let are = sides key (elements v.left) v.value (elements v.right) (rw whole at c.requires.ascending) in
        rw c.deref-in-Less.ensures are.before_up
        ),
  ),
)

pub without-requires-in-Greater : goal.without-requires-in-Greater
without-requires-in-Greater g t c κs within = (
  search (rules, the_lemmas),
  (
    search rules,
    (
        let key = g.T.Ranked.rank_of in
        let v = c.in-Fork.node.value in
        let whole : elements c.args.self.now ≡ elements v.left ++ v.value ∷ elements v.right = ap elements c.in-Fork.is in
        let are = sides key (elements v.left) v.value (elements v.right) (rw whole at c.requires.ascending) in
        rw c.deref-in-Greater.ensures are.after_up
        ),
  ),
)

-- the element is taken out of the side of its rank
pub returns-in_ok-share-in-Less : goal.returns-in_ok-share-in-Less
returns-in_ok-share-in-Less g t c =
    let key = g.T.Ranked.rank_of in
    let v = c.in-Fork.node.value in
    let whole : elements c.args.self.now ≡ elements v.left ++ v.value ∷ elements v.right = ap elements c.in-Fork.is in
    let are = sides key (elements v.left) v.value (elements v.right) (rw whole at c.requires.ascending) in
    let told : c.args.rank < c.rank.result = ranked c.args.rank c.rank.result _ (sym c.in-Less.is ∙ c.cmp.ensures) in
    let own : c.rank.result ≡ key v.value = rw c.deref.ensures at c.rank.ensures in
    let all : without_key key c.args.rank (elements c.args.self.now) ≡ without_key key c.args.rank (elements v.left) ++ v.value ∷ elements v.right =
    ap (without_key key c.args.rank) whole
    ∙ without-left key (elements v.left) v.value (elements v.right) are c.args.rank (omega (arith, told, own)) in
    search rules

pub returns-in-Equal : goal.returns-in-Equal
returns-in-Equal g t c =
    let key = g.T.Ranked.rank_of in
    let v = c.in-Fork.node.value in
    let whole : elements c.args.self.now ≡ elements v.left ++ v.value ∷ elements v.right = ap elements c.in-Fork.is in
    let are = sides key (elements v.left) v.value (elements v.right) (rw whole at c.requires.ascending) in
    let told : c.args.rank ≡ c.rank.result = ranked c.args.rank c.rank.result _ (sym c.in-Equal.is ∙ c.cmp.ensures) in
    let own : c.rank.result ≡ key v.value = rw c.deref.ensures at c.rank.ensures in
    let all : without_key key c.args.rank (elements c.args.self.now) ≡ elements v.left ++ elements v.right =
    ap (without_key key c.args.rank) whole
    ∙ without-here key (elements v.left) v.value (elements v.right) are c.args.rank (omega (arith, told, own)) in
    search rules

pub returns-in_ok-share-in-Greater : goal.returns-in_ok-share-in-Greater
returns-in_ok-share-in-Greater g t c =
    let key = g.T.Ranked.rank_of in
    let v = c.in-Fork.node.value in
    let whole : elements c.args.self.now ≡ elements v.left ++ v.value ∷ elements v.right = ap elements c.in-Fork.is in
    let are = sides key (elements v.left) v.value (elements v.right) (rw whole at c.requires.ascending) in
    let told : c.rank.result < c.args.rank = ranked c.args.rank c.rank.result _ (sym c.in-Greater.is ∙ c.cmp.ensures) in
    let own : c.rank.result ≡ key v.value = rw c.deref.ensures at c.rank.ensures in
    let all : without_key key c.args.rank (elements c.args.self.now) ≡ elements v.left ++ v.value ∷ without_key key c.args.rank (elements v.right) =
    ap (without_key key c.args.rank) whole
    ∙ without-right key (elements v.left) v.value (elements v.right) are c.args.rank (omega (arith, told, own)) in
    search rules
