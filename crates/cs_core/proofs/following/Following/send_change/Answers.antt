use Rattle.cs_core.proofs.Reportable.{IsChanges-one}
use Rattle.cs_core.proofs.following.Following.send_change.Goals as goal

-- a change alone is a report
pub one-requires : goal.one-requires
one-requires c = rw (c.in_ok-push.ensures.ok, c.new-changes.ensures) (IsChanges-one c.args.change c.requires)
