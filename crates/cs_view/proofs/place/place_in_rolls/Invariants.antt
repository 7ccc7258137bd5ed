use Rattle.std.proofs.Common.{◌≡◌, [], take}
use Rattle.std.specs.List.{filter_map}
use Rattle.cs_view.specs.Place.{member_at}
use Rattle.cs_view.proofs.place.place_in_rolls.Given as goal

-- none so far has the id
abbrev pub invariant-loop-region : goal.invariant-loop-region
invariant-loop-region l = filter_map (member_at l.id) (take l.region-index l.rolls) ≡ []
