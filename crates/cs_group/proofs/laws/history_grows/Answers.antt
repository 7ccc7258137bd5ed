use Rattle.cs_group.proofs.Bounded.{group_at-before, group_at-longer, group_at-more, group_at-turn}
use Rattle.cs_group.proofs.laws.history_grows.Goals as goal

-- only the items before the epoch count
pub returns-clause-stays : goal.returns-clause-stays
returns-clause-stays c = group_at-longer

-- the next item is the last that counts
pub returns-clause-step : goal.returns-clause-step
returns-clause-step c = group_at-more

-- the item of a turn has the turn again
pub returns-clause-turn : goal.returns-clause-turn
returns-clause-turn c = group_at-turn

-- without a group there is none later
pub returns-clause-before : goal.returns-clause-before
returns-clause-before c = group_at-before
