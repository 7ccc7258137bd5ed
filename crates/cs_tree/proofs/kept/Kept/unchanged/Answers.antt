use Rattle.std.proofs.Common.{◌≡◌, Some, sym, ap, ◌∙◌}
use Rattle.std.specs.Option.{option_copied}
use Rattle.cs_roll.specs.Sight.{at_region}
use Rattle.cs_tree.specs.Local.{local_trees}
use Rattle.cs_tree.proofs.KeptTrees.{known-before, known-found, read-some}
use Rattle.cs_tree.proofs.kept.Kept.unchanged.Goals as goal

-- the trees beside the region are those of the same roll
pub returns-clause-value : goal.returns-clause-value
returns-clause-value g c =
    let region = c.args.region in
    let roll = c.args.roll.now in
    let rolls = g.V.Sight.rolls c.args.old.now in
    let same : c.in_ok-before.before.now ≡ roll = c.is_same.ensures.same.0 c.if-not-is_same.false in
    let at : at_region region rolls ≡ Some roll = sym c.in_ok-before.ensures ∙ ap Some same in
    let found : option_copied c.known.result ≡ Some (region, local_trees roll) =
    c.known.ensures ∙ known-found region rolls roll c.args.self.now.within c.requires at in
    (read-some c.known.result (region, local_trees roll) found).1

-- and they are there
pub returns-clause-some : goal.returns-clause-some
returns-clause-some g c =
    let region = c.args.region in
    let roll = c.args.roll.now in
    let rolls = g.V.Sight.rolls c.args.old.now in
    let same : c.in_ok-before.before.now ≡ roll = c.is_same.ensures.same.0 c.if-not-is_same.false in
    let before : at_region region rolls ≡ Some c.in_ok-before.before.now = sym c.in_ok-before.ensures in
    let at : at_region region rolls ≡ Some roll = before ∙ ap Some same in
    let found : option_copied c.known.result ≡ Some (region, local_trees roll) =
    c.known.ensures ∙ known-found region rolls roll c.args.self.now.within c.requires at in
    (read-some c.known.result (region, local_trees roll) found).0
    ∙ (sym c.if-not-is_same.false ∙ known-before region rolls c.in_ok-before.before.now roll c.is_same.result before c.is_same.ensures.test)
