use Rattle.std.proofs.Common.{◌≡◌, ℕ, ◌*◌, ◌∷◌, [], length, ap, arith}
use Rattle.cs_roll.specs.Sight.{Summaries}
use Rattle.cs_tree.specs.Colour.{trees_of}
use Rattle.cs_tree.specs.Inter.{region_points}
use Rattle.cs_tree.proofs.Quiet.{each-of_four}
use Rattle.cs_tree.proofs.kept_tests.renew_five.Goals as goal

-- four trees of five keys, and no others
pub returns : goal.returns
returns g c =
    let roll = c.args.new.now.roll in
    let before : Summaries = (0, c.args.old.now.summary) ∷ [] in
    let now : Summaries = (0, c.args.new.now.summary) ∷ [] in
    let stand : ℕ → Type 0 = λ colour. region_points colour before ≡ region_points colour now in
    let most = c.renewals_build_what_changed.ensures.region before now ((0, c.args.old.now.roll) ∷ []) 0 roll
    (each-of_four stand c.check_points.ensures c.check_points-2.ensures c.check_points-3.ensures c.check_points-4.ensures) in
    let five : length roll ≡ 5 = omega (arith, c.len.ensures) in
    let twenty : trees_of (length roll) * length roll ≡ 20 = ap (λ n. trees_of n * n) five in
    omega (arith, c.renew.ensures.most, most, twenty)
