use Rattle.std.proofs.Common.{◌≡◌, Option, None, Some}
use Rattle.std.specs.Prelude.{MatchOption}
use Rattle.cs_packet.specs.declared.entry.Entry.{Entry}
use Rattle.cs_lead.specs.Decision.{plan_of}
use Rattle.cs_lead.specs.Laws.{IsAsItWas}
use Rattle.cs_lead.proofs.Unlogged.{call-keeps, LeadsOn, LeadsOn-other}
use Rattle.cs_lead.proofs.laws.what_is_not_logged_is_as_it_was.Goals as goal

-- what holds without an entry, where there is none
where_none : (P : Type 0) (Q : Entry → Type 0) (o : Option Entry) → MatchOption o P Q → o ≡ None → P
where_none P Q o holds none = rw none at holds

-- what holds of an entry, where there is one
where_some : (P : Type 0) (Q : Entry → Type 0) (o : Option Entry) (entry : Entry) → MatchOption o P Q → o ≡ Some entry → Q entry
where_some P Q o entry holds some = rw some at holds

-- each plan that logs nothing
pub returns-clause-unlogged : goal.returns-clause-unlogged
returns-clause-unlogged c = λ leader call none.
    where_none (IsAsItWas leader (plan_of leader call).after) (λ entry. LeadsOn (plan_of leader call).after)
    (plan_of leader call).entry (call-keeps leader call) none

-- and each that logs something
pub returns-clause-logged : goal.returns-clause-logged
returns-clause-logged c = λ leader call entry logs.
    LeadsOn-other (plan_of leader call).after
    (where_some (IsAsItWas leader (plan_of leader call).after) (λ e. LeadsOn (plan_of leader call).after)
    (plan_of leader call).entry entry (call-keeps leader call) logs)
