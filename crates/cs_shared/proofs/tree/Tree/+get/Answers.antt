use Rattle.std.proofs.Common.{◌≡◌, ◌<◌, ◌∷◌, ◌++◌, Some, ap, sym, ◌∙◌, arith, rules}
use Rattle.std.proofs.lemmas.Cmp.{ranked}
use Rattle.std.specs.Option.{option_copied}
use Rattle.cs_base.specs.Ascending.{at_key}
use Rattle.cs_shared.specs.Tree.{elements}
use Rattle.cs_shared.specs.declared.tree.Tree.{the_lemmas}
use Rattle.cs_shared.proofs.Sides.{at-here, at-left, at-right, sides}
use Rattle.cs_shared.proofs.tree.Tree.+get.Goals as goal

-- each side ascends
pub get-requires : goal.get-requires
get-requires g t c κs within = (
  search (rules, the_lemmas),
  (
    search rules,
    (
        let key = g.T.Ranked.rank_of in
        let v = c.in-Fork.node.value in
        let whole : elements c.args.self.now ≡ elements v.left ++ v.value ∷ elements v.right = ap elements c.in-Fork.is in
        let are = sides key (elements v.left) v.value (elements v.right) (rw whole at c.requires.ascending) in
        rw c.deref-in-Less.ensures are.before_up
        ),
  ),
)

pub get-requires-in-Greater : goal.get-requires-in-Greater
get-requires-in-Greater g t c κs within = (
  search (rules, the_lemmas),
  (
    search rules,
    (
        let key = g.T.Ranked.rank_of in
        let v = c.in-Fork.node.value in
        let whole : elements c.args.self.now ≡ elements v.left ++ v.value ∷ elements v.right = ap elements c.in-Fork.is in
        let are = sides key (elements v.left) v.value (elements v.right) (rw whole at c.requires.ascending) in
        rw c.deref-in-Greater.ensures are.after_up
        ),
  ),
)

-- and a lower rank is on the left, a higher one on the right
pub returns-in-Less : goal.returns-in-Less
returns-in-Less g t c =
    let key = g.T.Ranked.rank_of in
    let v = c.in-Fork.node.value in
    let whole : elements c.args.self.now ≡ elements v.left ++ v.value ∷ elements v.right = ap elements c.in-Fork.is in
    let are = sides key (elements v.left) v.value (elements v.right) (rw whole at c.requires.ascending) in
    let told : c.args.rank < c.rank.result = ranked c.args.rank c.rank.result _ (sym c.in-Less.is ∙ c.cmp.ensures) in
    let own : c.rank.result ≡ key v.value = rw c.deref.ensures at c.rank.ensures in
    let found : option_copied c.get.result ≡ at_key key c.args.rank (elements v.left) = rw c.deref-in-Less.ensures at c.get.ensures in
    found ∙ sym (ap (at_key key c.args.rank) whole ∙ at-left key (elements v.left) v.value (elements v.right) are c.args.rank (omega (arith, told, own)))

pub returns-in-Equal : goal.returns-in-Equal
returns-in-Equal g t c =
    let key = g.T.Ranked.rank_of in
    let v = c.in-Fork.node.value in
    let whole : elements c.args.self.now ≡ elements v.left ++ v.value ∷ elements v.right = ap elements c.in-Fork.is in
    let are = sides key (elements v.left) v.value (elements v.right) (rw whole at c.requires.ascending) in
    let told : c.args.rank ≡ c.rank.result = ranked c.args.rank c.rank.result _ (sym c.in-Equal.is ∙ c.cmp.ensures) in
    let own : c.rank.result ≡ key v.value = rw c.deref.ensures at c.rank.ensures in
    ap (λ n. Some n.value) c.deref-in-Equal.ensures
    ∙ sym (ap (at_key key c.args.rank) whole ∙ at-here key (elements v.left) v.value (elements v.right) are c.args.rank (omega (arith, told, own)))

pub returns-in-Greater : goal.returns-in-Greater
returns-in-Greater g t c =
    let key = g.T.Ranked.rank_of in
    let v = c.in-Fork.node.value in
    let whole : elements c.args.self.now ≡ elements v.left ++ v.value ∷ elements v.right = ap elements c.in-Fork.is in
    let are = sides key (elements v.left) v.value (elements v.right) (rw whole at c.requires.ascending) in
    let told : c.rank.result < c.args.rank = ranked c.args.rank c.rank.result _ (sym c.in-Greater.is ∙ c.cmp.ensures) in
    let own : c.rank.result ≡ key v.value = rw c.deref.ensures at c.rank.ensures in
    let found : option_copied c.get-in-Greater.result ≡ at_key key c.args.rank (elements v.right) =
    rw c.deref-in-Greater.ensures at c.get-in-Greater.ensures in
    found ∙ sym (ap (at_key key c.args.rank) whole ∙ at-right key (elements v.left) v.value (elements v.right) are c.args.rank (omega (arith, told, own)))
