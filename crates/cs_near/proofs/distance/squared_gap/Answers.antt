use Rattle.std.proofs.Common.{◌≡◌, ◌^◌, pos, ◌-ℤ◌, ◌*ℤ◌, to_z, of_z, w64, arith, ap, ◌∙◌}
use Rattle.std.specs.Prelude.{unsigned_abs}
use Rattle.std.proofs.lemmas.Int.{ints, to_z-of_z}
use Rattle.cs_near.proofs.Products.{FitsSigned-product, squared_gap-le}
use Rattle.cs_near.proofs.distance.squared_gap.Goals as goal

-- the product with the first sum fits
pub overflow_mul-first : goal.overflow_mul-first
overflow_mul-first c =
    let n_is : to_z w64 (of_z w64 c.from.result) ≡ pos c.args.n = omega (arith, ints) in
    let a_is : to_z w64 (of_z w64 c.args.a) ≡ c.args.a = omega (arith, ints) in
    rw (n_is, a_is) (FitsSigned-product c.args.n c.args.m c.args.a c.requires.second_few c.requires.first_few c.requires.first_near)

-- and so does that with the second
pub overflow_mul-second : goal.overflow_mul-second
overflow_mul-second c =
    let m_is : to_z w64 (of_z w64 c.from-2.result) ≡ pos c.args.m = omega (arith, ints) in
    let b_is : to_z w64 (of_z w64 c.args.b) ≡ c.args.b = omega (arith, ints) in
    rw (m_is, b_is) (FitsSigned-product c.args.m c.args.n c.args.b c.requires.first_few c.requires.second_few c.requires.second_near)

-- the square of their difference
pub returns : goal.returns
returns c =
    let m = c.args.m in
    let n = c.args.n in
    let m_is : to_z w64 (of_z w64 c.from-2.result) ≡ pos m = omega (arith, ints) in
    let n_is : to_z w64 (of_z w64 c.from.result) ≡ pos n = omega (arith, ints) in
    let a_is : to_z w64 (of_z w64 c.args.a) ≡ c.args.a = omega (arith, ints) in
    let b_is : to_z w64 (of_z w64 c.args.b) ≡ c.args.b = omega (arith, ints) in
    let first = to_z-of_z w64 _ (FitsSigned-product n m c.args.a c.requires.second_few c.requires.first_few c.requires.first_near) in
    let second = to_z-of_z w64 _ (FitsSigned-product m n c.args.b c.requires.first_few c.requires.second_few c.requires.second_near) in
    let gap : c.from-gap.result ≡ unsigned_abs (pos n *ℤ c.args.a -ℤ pos m *ℤ c.args.b) =
    c.from-gap.ensures ∙ (rw (n_is, a_is, m_is, b_is, first, second) at c.abs_diff.ensures) in
    let facts = squared_gap-le m n c.args.a c.args.b c.requires.first_few c.requires.second_few c.requires.first_near
    c.requires.second_near c.from-gap.result gap in
    record { value = facts.0 ∙ ap (λ x. x ^ 2) gap; bound = facts.1 }
