use Rattle.std.proofs.Common.{◌≡◌, ℕ, ℤ, pos, to_z, of_z, w64, arith, get_or, List, ap}
use Rattle.std.proofs.lemmas.Int.{ints}
use Rattle.cs_near.proofs.distance.squared_distance.Goals as goal

-- the numbers of the arrays are those of the sums
pub returns-clause-value : goal.returns-clause-value
returns-clause-value c =
    let at : List ℤ → ℕ → ℤ = λ row i. to_z w64 (of_z w64 (get_or row i (pos 0))) in
    let ax : at c.sums.result 0 ≡ c.args.a.now.sums.x = omega (arith, ints, ap (λ s. get_or s 0 (pos 0)) c.sums.ensures.value) in
    let ay : at c.sums.result 1 ≡ c.args.a.now.sums.y = omega (arith, ints, ap (λ s. get_or s 1 (pos 0)) c.sums.ensures.value) in
    let az : at c.sums.result 2 ≡ c.args.a.now.sums.z = omega (arith, ints, ap (λ s. get_or s 2 (pos 0)) c.sums.ensures.value) in
    let bx : at c.sums-2.result 0 ≡ c.args.b.now.sums.x = omega (arith, ints, ap (λ s. get_or s 0 (pos 0)) c.sums-2.ensures.value) in
    let by : at c.sums-2.result 1 ≡ c.args.b.now.sums.y = omega (arith, ints, ap (λ s. get_or s 1 (pos 0)) c.sums-2.ensures.value) in
    let bz : at c.sums-2.result 2 ≡ c.args.b.now.sums.z = omega (arith, ints, ap (λ s. get_or s 2 (pos 0)) c.sums-2.ensures.value) in
    cc
