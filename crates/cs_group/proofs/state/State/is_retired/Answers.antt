use Rattle.std.proofs.lemmas.Bool.Decides.{same_from_decides}
use Rattle.cs_group.proofs.Known.{Decides-is_among}
use Rattle.cs_group.proofs.state.State.is_retired.Goals as goal

-- the ids have it exactly where it is among them
pub returns : goal.returns
returns c = rw (← c.self.view_is) (same_from_decides _ _ c.has.ensures (Decides-is_among c.self.inside.retired c.args.id))
