-- How an action on a node ended, by its answer.
use Rattle.std.specs.Prelude.{⊤}
use Rattle.std.proofs.Common.{◌≡◌, ◌⊎◌, inl, inr, ◌∙◌, ℕ, Option, Some, None, Ok, refl, sym, ap, subst}
use Rattle.cs_log.specs.Tears.{armed_number}
use Rattle.cs_node.specs.Calls.{Ends}
use Rattle.cs_node.specs.Told.{LogTold}
use Rattle.cs_node.specs.declared.node.Node.{Node as ANode}
use Rattle.cs_node.specs.declared.note.Note.{Note}
use Rattle.cs_world.specs.Actions.{CallsAs, CrashesAs, EndsCall, DoesAction, Recovers, RestartsAs, rearmed, tear_for, unless_torn}
use Rattle.cs_world.specs.Calls.{AnswersAs, EndsWell, effects_at, refused}
use Rattle.cs_world.specs.Processes.{Parts, parts_of}
use Rattle.cs_world.specs.declared.action.Action.{Action}
use Rattle.cs_world.specs.declared.action.Action.TheVariants as actions
use Rattle.cs_world.specs.declared.call.Answer.{Answer}
use Rattle.cs_world.specs.declared.call.Answer.TheVariants.{Armed, Back, Down, Noted, Refused, Stopped, Torn}
use Rattle.cs_world.specs.declared.call.Call.{Call}
use Rattle.cs_world.specs.declared.call.Refusal.{Refusal}

-- ---- calls on a node that is up

-- the number that is armed
pub armed-for : (o : Option ℕ) → armed_number (tear_for o) ≡ o
armed-for None = refl
armed-for (Some b) = refl

-- an answer stays, or it says that a number which was armed tore a write
pub unless_torn-cases : (before now : Option ℕ) (said : Answer) → (unless_torn before now said ≡ said)
    ⊎ ((unless_torn before now said ≡ Torn) × ((b : ℕ) × (before ≡ Some b) × (now ≡ None)))
unless_torn-cases None now said = inl refl
unless_torn-cases (Some b) None said = inr (refl, (b, refl, refl))
unless_torn-cases (Some b) (Some c) said = inl refl

-- where what is armed stays, so does the answer
unless_torn-same : (armed : Option ℕ) (said : Answer) → unless_torn armed armed said ≡ said
unless_torn-same None said = refl
unless_torn-same (Some b) said = refl

-- a running node with the link and the log of its parts
abbrev pub ends_with : ANode → Parts → Ends
ends_with node old = record { status = Ok node; link = old.link; log = old.log }

-- the node refused the call, and all is as it was
pub record Declines (node : ANode) (old : Parts) (call : Call) (answered : Answer) (new : Parts) : Type 0 where
  pub refusal : Refusal
  pub is : refused node call ≡ Some refusal
  pub answers : answered ≡ Refused refusal
  pub same : new ≡ parts_of (ends_with node old)

-- the call ended as one may
pub record Performs (node : ANode) (old : Parts) (call : Call) (answered : Answer) (new : Parts) : Type 0 where
  pub allowed : refused node call ≡ None
  pub note : Note
  pub ends : Ends
  pub well : EndsWell node (effects_at node call) (ends_with node old) note ends
  pub answers : answered ≡ unless_torn (armed_number old.log.tear) (armed_number ends.log.tear) (Noted note)
  pub parts : new ≡ parts_of ends

-- there is no third way
pub declines-or-performs : (node : ANode) (old : Parts) (call : Call) (answered : Answer) (new : Parts)
    → EndsCall node old call answered new → Declines node old call answered new ⊎ Performs node old call answered new
declines-or-performs node old call answered new acts = go (refused node call) refl acts.called
  where
    go : (o : Option Refusal) → refused node call ≡ o → AnswersAs o node (ends_with node old) call acts.said acts.ends
        → Declines node old call answered new ⊎ Performs node old call answered new
    go (Some refusal) is called =
        let armed = armed_number old.log.tear in
        let same : armed_number acts.ends.log.tear ≡ armed = ap (λ (e : Ends). armed_number e.log.tear) called.1 in
        inl (record {
          refusal = refusal;
          is = is;
          answers = acts.answer ∙ ap (λ o. unless_torn armed o acts.said) same ∙ unless_torn-same armed acts.said ∙ called.0;
          same = acts.parts ∙ ap parts_of called.1;
        })
    go None is called =
        let armed = armed_number old.log.tear in
        inr (record {
          allowed = is;
          note = called.0;
          ends = acts.ends;
          well = called.2;
          answers = acts.answer ∙ ap (unless_torn armed (armed_number acts.ends.log.tear)) called.1;
          parts = acts.parts;
        })

-- ---- which action answers what

-- an answer that a call alone gives
abbrev pub IsOfCallAlone : Answer → Type 0
IsOfCallAlone (Noted note) = ⊤
IsOfCallAlone Torn = ⊤
IsOfCallAlone answered = ⊥

-- what a node that performs a call answers is one
pub performs-alone : (node : ANode) (old : Parts) (call : Call) (answered : Answer) (new : Parts) → Performs node old call answered new
    → IsOfCallAlone answered
performs-alone node old call answered new p =
    elim (unless_torn-cases (armed_number old.log.tear) (armed_number p.ends.log.tear) (Noted p.note)) [
      | inl still ↦ subst IsOfCallAlone (sym (p.answers ∙ still)) tt
      | inr torn ↦ subst IsOfCallAlone (sym (p.answers ∙ torn.0)) tt
    ]

-- what an action can answer
abbrev pub IsSaidBy : Action → Answer → Type 0
IsSaidBy (actions.Call call) (Noted note) = ⊤
IsSaidBy (actions.Call call) (Refused refusal) = ⊤
IsSaidBy (actions.Call call) Torn = ⊤
IsSaidBy actions.Crash (Refused refusal) = ⊤
IsSaidBy actions.Crash Down = ⊤
IsSaidBy actions.Restart (Refused refusal) = ⊤
IsSaidBy actions.Restart Back = ⊤
IsSaidBy actions.Restart (Stopped reason) = ⊤
IsSaidBy (actions.Arm b) (Armed n) = ⊤
IsSaidBy action answered = ⊥

-- a call answers what a call alone answers, or refuses
alone-too : (call : Call) (answered : Answer) → IsOfCallAlone answered → IsSaidBy (actions.Call call) answered
alone-too call (Noted note) alone = tt
alone-too call Torn alone = tt
alone-too call answered alone = absurd alone

-- a recovery brings the node back, or it stays down
recovered : (before : LogTold) (answered : Answer) (node : Option ANode) (now : LogTold) → Recovers before answered node now
    → IsSaidBy actions.Restart answered
recovered before Back _ now recovers = tt
recovered before (Stopped reason) _ now recovers = tt
recovered before answered _ now recovers = absurd recovers

-- so each action answers what it can
pub says : (old : Parts) (action : Action) (answered : Answer) (new : Parts) → DoesAction old action answered new → IsSaidBy action answered
says old (actions.Call call) answered new acts = go old.node acts
  where
    go : (o : Option ANode) → CallsAs o old call answered new → IsSaidBy (actions.Call call) answered
    go None down = subst (IsSaidBy (actions.Call call)) (sym down.0) tt
    go (Some node) up = elim (declines-or-performs node old call answered new up) [
      | inl declines ↦ subst (IsSaidBy (actions.Call call)) (sym declines.answers) tt
      | inr performs ↦ alone-too call answered (performs-alone node old call answered new performs)
    ]
says old actions.Crash answered new acts = go old.node acts
  where
    go : (o : Option ANode) → CrashesAs o old answered new → IsSaidBy actions.Crash answered
    go None down = subst (IsSaidBy actions.Crash) (sym down.0) tt
    go (Some node) up = subst (IsSaidBy actions.Crash) (sym up.0) tt
says old actions.Restart answered new acts = go old.node acts
  where
    go : (o : Option ANode) → RestartsAs o old answered new → IsSaidBy actions.Restart answered
    go None down = recovered (rearmed old.log) answered new.node new.log down.1
    go (Some node) up = subst (IsSaidBy actions.Restart) (sym up.0) tt
says old (actions.Arm b) answered new acts = subst (IsSaidBy (actions.Arm b)) (sym acts.0) tt

-- what a call alone answers is said by a call
only-calls : (action : Action) (answered : Answer) → IsOfCallAlone answered → IsSaidBy action answered
    → (call : Call) × (action ≡ actions.Call call)
only-calls (actions.Call call) answered alone said = (call, refl)
only-calls actions.Crash (Noted note) alone said = absurd said
only-calls actions.Crash Torn alone said = absurd said
only-calls actions.Restart (Noted note) alone said = absurd said
only-calls actions.Restart Torn alone said = absurd said
only-calls (actions.Arm b) (Noted note) alone said = absurd said
only-calls (actions.Arm b) Torn alone said = absurd said
only-calls action answered alone said = absurd alone

-- the action was a call, and a node that was up performed it
pub record WasCalled (old : Parts) (action : Action) (answered : Answer) (new : Parts) : Type 0 where
  pub call : Call
  pub is : action ≡ actions.Call call
  pub node : ANode
  pub up : old.node ≡ Some node
  pub performs : Performs node old call answered new

-- so it was where it answers what a call alone answers
pub was-called : (old : Parts) (action : Action) (answered : Answer) (new : Parts) → IsOfCallAlone answered
    → DoesAction old action answered new → WasCalled old action answered new
was-called old action answered new alone acts = go old.node refl (subst (λ a. DoesAction old a answered new) called.1 acts)
  where
    called : (call : Call) × (action ≡ actions.Call call)
    called = only-calls action answered alone (says old action answered new acts)

    go : (o : Option ANode) → old.node ≡ o → CallsAs o old called.0 answered new → WasCalled old action answered new
    go None is down = absurd (subst IsOfCallAlone down.0 alone)
    go (Some node) is up = elim (declines-or-performs node old called.0 answered new up) [
      | inl declines ↦ absurd (subst IsOfCallAlone declines.answers alone)
      | inr performs ↦ record { call = called.0; is = called.1; node = node; up = is; performs = performs }
    ]
