use Rattle.std.proofs.Common.{◌≡◌, subst}
use Rattle.std.specs.Bool.{Decides}
use Rattle.std.proofs.lemmas.Slice.Eq.{slice_eq-Decides}
use Rattle.cs_roll.proofs.Same.{Decides-member}
use Rattle.cs_roll.proofs.roll.Roll.is_same.Goals as goal

-- `==` of the members decides it
pub returns-clause-same : goal.returns-clause-same
returns-clause-same c =
    let this = c.as_slice.ensures.value in
    let that = c.as_slice-2.ensures.value in
    let slices = slice_eq-Decides Decides-member c.as_slice.result.now c.as_slice-2.result.now c.eq.result c.eq.ensures in
    subst (λ ms. Decides c.eq.result (ms ≡ c.args.other.now)) this
    (subst (λ ns. Decides c.eq.result (c.as_slice.result.now ≡ ns)) that slices)
