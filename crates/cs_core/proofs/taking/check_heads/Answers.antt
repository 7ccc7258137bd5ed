use Rattle.std.proofs.Common.{◌≡◌, Bool, true, false, Option, Some, not, refl, sym, ap, ◌∙◌}
use Rattle.std.specs.List.{find}
use Rattle.std.specs.Option.{option_map}
use Rattle.cs_item.specs.declared.slice.Slice.{Slice}
use Rattle.cs_view.proofs.Passing.{find_here, find_none_more}
use Rattle.cs_core.specs.Heads.{is_same_head}
use Rattle.cs_core.specs.Plans.{unless_unfit}
use Rattle.cs_core.specs.declared.plan.Unfit.TheVariants as unfit
use Rattle.cs_core.proofs.taking.check_heads.Goals as goal

-- the heads before this one are the same
pub returns-then-not-is_same_head-clause-fault : goal.returns-then-not-is_same_head-clause-fault
returns-then-not-is_same_head-clause-fault c =
    let test : Slice → Bool = λ s. not (is_same_head s.head c.args.least.now.head) in
    let other : is_same_head c.slice-item.result.head c.args.least.now.head ≡ false = sym c.if-not-is_same_head.ensures in
    let found : find test c.args.used.now ≡ Some c.slice-item.result =
    find_here test c.args.used.now c.loop-slice.slice-index c.slice-item.result c.loop-slice-test.true c.loop-slice.invariant
    (rw (← c.slice-item.is, other) refl) ∙ ap Some (sym c.slice-item.is) in
    ap (λ (o : Option Slice). unless_unfit (option_map (λ (s : Slice). unfit.Heads s.part.region) o) c.args.used.now) found

pub loop-slice-preserved : goal.loop-slice-preserved
loop-slice-preserved c =
    let test : Slice → Bool = λ s. not (is_same_head s.head c.args.least.now.head) in
    let same : is_same_head c.slice-item.result.head c.args.least.now.head ≡ true = sym c.if-not-is_same_head.ensures in
    find_none_more test c.args.used.now c.loop-slice.slice-index c.slice-item.result c.loop-slice-test.true c.loop-slice.invariant
    (rw (← c.slice-item.is, same) refl)
