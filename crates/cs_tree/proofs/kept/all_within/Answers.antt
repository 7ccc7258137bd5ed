use Rattle.std.proofs.Common.{◌≡◌, ◌<◌, ◌≤◌, ◌∷◌, [], ◌++◌, Vec, Global, None, Some, length, refl, sym, ap, ◌∙◌, arith}
use Rattle.std.specs.Option.{option_copied}
use Rattle.cs_roll.specs.Sight.{at_region}
use Rattle.cs_tree.specs.Local.{local_trees}
use Rattle.cs_tree.specs.declared.local_trees.LocalTrees.{LocalTrees}
use Rattle.cs_tree.proofs.Known.{all-made, next-made, next-none}
use Rattle.cs_tree.proofs.KeptTrees.{with_trees}
use Rattle.cs_tree.proofs.kept.all_within.Goals as goal
use Rattle.cs_tree.proofs.kept.all_within.Goals.{in-Some+in_ok-trees+in_ok-push, in_default}

-- one more region is put behind the others
pub loop-i-preserved : goal.loop-i-preserved
loop-i-preserved g c =
    let summaries = g.V.Sight.summaries c.args.sight.now in
    let rolls = g.V.Sight.rolls c.args.sight.now in
    let sight = c.count-i-end.ensures.sight in
    let region = c.region-region.result in
    let before = c.loop-i.within.items in
    let after = c.match-known_roll.within.items in
    let lt : c.loop-i.i < length summaries = omega (arith, c.loop-i-test.true, c.count-i-end.ensures.count) in
    elim c.match-known_roll.branch [
      | in-Some+in_ok-trees+in_ok-push w ↦
          let roll = w.in-Some.roll.now in
          let at : at_region region rolls ≡ Some roll = sym w.in-Some.ensures.value in
          let pushed : after ≡ before ++ (region, local_trees roll) ∷ [] =
          ap (λ (v : Vec LocalTrees Global). v.items) w.within-is
          ∙ (w.in_ok-push.ensures.items ∙ ap (λ (trees : LocalTrees). before ++ trees ∷ []) w.in_ok-trees.ensures.value) in
          next-made summaries rolls sight c.loop-i.i region (Some roll) lt c.region-region.ensures at with_trees roll before after refl
          c.loop-i.invariant pushed
      | in_default w ↦
          let at : at_region region rolls ≡ None = sym c.known_roll.ensures.value ∙ ap (λ o. option_copied o) w.in_default.is in
          let same : after ≡ before = ap (λ (v : Vec LocalTrees Global). v.items) w.within-is in
          same ∙ next-none summaries rolls sight c.loop-i.i region None lt c.region-region.ensures at with_trees before refl c.loop-i.invariant
    ]

-- at last all known regions have their trees
pub returns : goal.returns
returns g c =
    let summaries = g.V.Sight.summaries c.args.sight.now in
    let le : length summaries ≤ c.loop-i.i = omega (arith, c.count-i-end.ensures.count) in
    all-made summaries (g.V.Sight.rolls c.args.sight.now) c.count-i-end.ensures.sight with_trees c.loop-i.within.items c.loop-i.i le c.loop-i.invariant
