use Rattle.std.proofs.Common.{◌≡◌, Option, None, Some}
use Rattle.std.specs.Prelude.{MatchOption}
use Rattle.cs_packet.specs.declared.entry.Entry.{Entry}
use Rattle.cs_core.specs.Decision.{plan_of}
use Rattle.cs_core.specs.Laws.{IsAsItWas}
use Rattle.cs_core.proofs.Unlogged.{call-keeps, LeadsOn, LeadsOn-other}
use Rattle.cs_core.proofs.laws.what_is_not_logged_is_as_it_was.Goals as goal

-- what holds without an entry, where there is none
where_none : (P : Type 0) (Q : Entry → Type 0) (o : Option Entry) → MatchOption o P Q → o ≡ None → P
where_none P Q o holds none = rw none at holds

-- what holds of an entry, where there is one
where_some : (P : Type 0) (Q : Entry → Type 0) (o : Option Entry) (entry : Entry) → MatchOption o P Q → o ≡ Some entry → Q entry
where_some P Q o entry holds some = rw some at holds

-- each plan that logs nothing
pub returns-clause-unlogged : goal.returns-clause-unlogged
returns-clause-unlogged c = λ node call none.
    where_none (IsAsItWas node (plan_of node.own node.following call).after) (λ entry. LeadsOn (plan_of node.own node.following call).after)
    (plan_of node.own node.following call).entry (call-keeps node.own node.following call) none

-- and each that logs something
pub returns-clause-logged : goal.returns-clause-logged
returns-clause-logged c = λ node call entry logs.
    LeadsOn-other (plan_of node.own node.following call).after
    (where_some (IsAsItWas node (plan_of node.own node.following call).after) (λ e. LeadsOn (plan_of node.own node.following call).after)
    (plan_of node.own node.following call).entry entry (call-keeps node.own node.following call) logs)
