-- The pairs of a list by regions, which are its own or shared with others.
use Rattle.std.specs.Prelude.{ℕ, List}
use Rattle.cs_item.specs.declared.by_region.Pairs.{Pairs}
use Rattle.cs_item.specs.declared.by_region.Pairs.TheVariants.{Own, Shared}

-- the pairs, whoever has them
abbrev pub pairs_in : {T : Type 0} → Pairs T → List (ℕ × T)
pairs_in (Own pairs) = pairs.items
pairs_in (Shared pairs) = pairs.value.items
