-- A desk that only grants, call after call.
use Rattle.std.proofs.Common.{◌∙◌, ap, refl, arith}
use Rattle.cs_world.specs.Desk.{DeskTold, OnlyGrants}

-- a desk that stays as it is
pub OnlyGrants-same : (desk : DeskTold) → OnlyGrants desk desk
OnlyGrants-same desk = record { counts = omega arith; others = refl }

-- a desk that only granted goes on to grant
pub OnlyGrants-more : (before mid after : DeskTold) → OnlyGrants before mid → OnlyGrants mid after → OnlyGrants before after
OnlyGrants-more before mid after first second = record {
  counts = omega (arith, first.counts, second.counts);
  others = second.others ∙ ap (λ (desk : DeskTold). record desk { faults = after.faults }) first.others;
}
