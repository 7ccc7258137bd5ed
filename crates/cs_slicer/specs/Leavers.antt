-- The ids that leave by an item, which are those that it retires.
use Rattle.std.specs.Prelude.{ℕ, List, [], Option, Some, None}
use Rattle.std.specs.List.{filter_map, fold}
use Rattle.cs_base.specs.Ascending.{placed_by}
use Rattle.cs_base.specs.declared.change.Change.{Change}
use Rattle.cs_base.specs.declared.change.Change.TheVariants.{Join, Move, Leave}

-- the id that leaves by the change
abbrev pub leaver_of : Change → Option ℕ
leaver_of (Join member) = None
leaver_of (Move id seq at) = None
leaver_of (Leave id) = Some id

-- the ids that leave, ascending
abbrev pub leavers : List Change → List ℕ
leavers item = fold (λ ids id. placed_by (λ n. n) id ids) [] (filter_map leaver_of item)
