-- Pending changes that can be reported.
use Rattle.std.specs.Prelude.{List}
use Rattle.std.specs.List.{AllByRecursion}
use Rattle.cs_base.specs.Ranges.{IsChange}
use Rattle.cs_base.specs.declared.change.Change.{Change}
use Rattle.cs_pending.specs.Pending.{IsPending}

-- few pending changes, one about each member, with values that are allowed
pub record CanBeReported (waiting : List Change) : Type 0 where
  pub pending : IsPending waiting
  pub changes : AllByRecursion IsChange waiting
