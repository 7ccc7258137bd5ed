use Rattle.std.proofs.Common.{sym, ap, ◌∙◌}
use Rattle.std.specs.Option.{option_copied}
use Rattle.cs_hold.specs.Held.{region_of}
use Rattle.cs_hold.proofs.Whole.{found-key}
use Rattle.cs_hold.proofs.hold.gained.Goals as goal

pub returns-in_ok-gained-in-Some-clause-region : goal.returns-in_ok-gained-in-Some-clause-region
returns-in_ok-gained-in-Some-clause-region c =
    c.in_ok-gained-in-Some.ensures.ok.0
    ∙ found-key region_of c.args.region c.args.shelves.now c.in-Some.shelf.now (sym c.shelf_of.ensures.value ∙ ap option_copied c.in-Some.is)
