use Rattle.std.proofs.Common.{◌<◌, ◌^◌, length, arith, subst, ap}
use Rattle.cs_hold.specs.Held.{IsHold, region_of}
use Rattle.cs_hold.specs.Pieces.{ArePieces}
use Rattle.cs_base.proofs.Elements.{All-weaker}
use Rattle.cs_hold.proofs.Whole.{ascending-few, from_zero, on_shelves-hold}
use Rattle.cs_hold.proofs.hold.Hold.len.Goals as goal

pub count-requires : goal.count-requires
count-requires c =
    let s = c.self.inside.shelves in
    let many = ascending-few region_of 0 (2 ^ 32) s c.as_slice.ensures.ascending (from_zero s)
    (All-weaker _ (λ t. region_of t < 2 ^ 32) (λ t a. a.0) s c.as_slice.ensures.allowed) in
    omega (arith, many, ap length c.as_slice.ensures.value)

pub returns-clause-keeps : goal.returns-clause-keeps
returns-clause-keeps c =
    let s = c.self.inside.shelves in
    subst IsHold c.self.view_is
    (on_shelves-hold s c.as_slice.ensures.ascending (All-weaker _ (λ t. ArePieces t.1) (λ t a. a.1) s c.as_slice.ensures.allowed))
