use Rattle.std.proofs.Common.{ℕ, Option, sym, subst, ◌∙◌}
use Rattle.std.specs.Option.{IsSome}
use Rattle.cs_lead.proofs.OwnRegion.{known-region, some-region}
use Rattle.cs_lead.proofs.packets.region_of.Goals as goal

-- a member has a region
pub unwrap-requires : goal.unwrap-requires
unwrap-requires c =
    subst (λ (o : Option ℕ). IsSome o) (sym c.region_of.ensures) (some-region c.args.id c.args.group.now.rows c.requires)

-- which alone has it
pub returns : goal.returns
returns c =
    known-region c.args.group.now c.args.id c.unwrap.result c.count-count.ensures.group c.requires (sym c.region_of.ensures ∙ c.unwrap.ensures)
