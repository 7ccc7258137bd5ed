-- Laws of the leader's decision: what is logged gives the same leader again, without an entry a restart brings back the
-- same as before, and pieces start at members.
use Rattle.std.specs.Prelude.{◌≡◌, ℕ, ⊤, true, []}
use Rattle.std.specs.List.{AllByRecursion}
use Rattle.cs_group.specs.Rows.{has_member}
use Rattle.cs_tree.specs.Route.{Target}
use Rattle.cs_tree.specs.Start.{start}
use Rattle.cs_lead.specs.Leading.{Leading}
use Rattle.cs_lead.specs.declared.plan.LeadOutcome.{LeadOutcome}
use Rattle.cs_lead.specs.declared.plan.LeadOutcome.TheVariants as outcomes
use Rattle.cs_lead.specs.declared.plan.LeadResumed.{LeadResumed}
use Rattle.cs_lead.specs.declared.plan.LeadResumed.TheVariants as resumed

-- what a restart brings back of a leader: all but pending changes
abbrev pub lasting : Leading → Leading
lasting leader = record leader { pending = [] }

-- what a log gives again of what a plan leads to: the leader, but for pending changes
abbrev pub as_logged : LeadOutcome → LeadResumed
as_logged outcomes.Same = resumed.Breaks
as_logged (outcomes.Next leader) = resumed.Next (lasting leader)

-- a restart brings back of the leader what it brought back before the call
abbrev pub IsAsItWas : Leading → LeadOutcome → Type 0
IsAsItWas leader outcomes.Same = ⊤
IsAsItWas leader (outcomes.Next after) = lasting after ≡ lasting leader

-- a piece of a region and a colour starts at members of the group
abbrev pub StartsAtMembers : Leading → ℕ → ℕ → Type 0
StartsAtMembers leader region colour =
    AllByRecursion (λ (target : Target). has_member target.0 leader.group.rows ≡ true)
    (start leader.me.id leader.view.summaries leader.view.rolls region colour)
