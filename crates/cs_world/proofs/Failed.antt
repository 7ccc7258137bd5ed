-- Which way a call ended, by its answer.
use Rattle.std.proofs.Common.{◌≡◌, inl, inr, ◌∙◌, ℕ, ◌<◌, true, false, List, Option, Some, None, Err, refl, sym, ap, subst}
use Rattle.std.proofs.lemmas.Bool.{false≢true}
use Rattle.std.proofs.lemmas.Option.{none-some}
use Rattle.cs_log.specs.Tears.{armed_number}
use Rattle.cs_log.specs.declared.armed.Tear.{Tear}
use Rattle.cs_log.specs.declared.armed.Tear.TheVariants.{Append, Nothing, Sync}
use Rattle.cs_node.specs.Appending.{FailsByArm, IsKept, IsLeftByArm, IsLost, entry_frame}
use Rattle.cs_node.specs.Calls.{Ends, IsDone}
use Rattle.cs_node.specs.Sound.{IsSound}
use Rattle.cs_node.specs.Told.{LogTold}
use Rattle.cs_node.specs.declared.effects.Effects.{Effects}
use Rattle.cs_node.specs.declared.node.Node.{Node as ANode}
use Rattle.cs_node.specs.declared.note.Note.{Note}
use Rattle.cs_node.specs.declared.note.Note.TheVariants as notes
use Rattle.cs_node.specs.declared.stopped.Why.TheVariants as why
use Rattle.cs_packet.specs.declared.entry.Entry.{Entry}
use Rattle.cs_world.specs.Actions.{DoesAction, unless_torn}
use Rattle.cs_world.specs.Calls.{effects_at}
use Rattle.cs_world.specs.Processes.{Parts}
use Rattle.cs_world.specs.declared.action.Action.{Action}
use Rattle.cs_world.specs.declared.call.Answer.{Answer}
use Rattle.cs_world.specs.declared.call.Answer.TheVariants.{Noted, Torn}
use Rattle.cs_world.specs.declared.call.Call.{Call}
use Rattle.cs_world.proofs.Acted.{Performs, unless_torn-cases, was-called}
use Rattle.cs_world.proofs.Causes.{decides, is_fault, risen-some}

-- an answer that is none of the three tells of no fault
pub fine : (note : Note) → ((n : ℕ) → note ≡ notes.LinkFault n → ⊥) → (note ≡ notes.LogFault → ⊥) → (note ≡ notes.Memory → ⊥)
    → is_fault note ≡ false
fine (notes.LinkFault n) no_link no_log no_memory = absurd (no_link n refl)
fine notes.LogFault no_link no_log no_memory = absurd (no_log refl)
fine notes.Memory no_link no_log no_memory = absurd (no_memory refl)
fine note no_link no_log no_memory = refl

-- what an arm leaves is left by something that was armed
armed-some : (tear : Tear) (frame : List ℕ) (before now : Option (List ℕ)) → IsLeftByArm tear frame before now
    → (b : ℕ) × (armed_number tear ≡ Some b)
armed-some Nothing frame before now left = absurd left
armed-some (Append b) frame before now left = (b, refl)
armed-some (Sync b) frame before now left = (b, refl)

-- where an entry is kept, what is armed stays: nothing is
kept-armed : (entry : Option Entry) (before now : LogTold) → IsKept entry before now → now.tear ≡ before.tear
kept-armed None before now kept = ap (λ (l : LogTold). l.tear) kept
kept-armed (Some entry) before now kept = kept.still ∙ sym kept.unarmed

-- the write of a call was torn: b bytes of a frame are there, or all of it where these are enough, and the node stopped
pub record IsTornCall (effects : Effects) (old : Parts) (ends : Ends) : Type 0 where
  pub b : ℕ
  pub armed : armed_number old.log.tear ≡ Some b
  pub entry : Entry
  pub has : effects.entry ≡ Some entry
  pub stopped : ends.status ≡ Err why.Log
  pub link : ends.link ≡ old.link
  pub fails : FailsByArm (entry_frame entry) old.log ends.log

module _ (node : ANode) (old : Parts) (call : Call) (answered : Answer) (new : Parts) (p : Performs node old call answered new) where
  -- what the node decides
  abbrev effects : Effects
  effects = effects_at node call

  -- a note as an answer is that of the call
  same-note : (note : Note) → answered ≡ Noted note → p.note ≡ note
  same-note note is = elim (unless_torn-cases (armed_number old.log.tear) (armed_number p.ends.log.tear) (Noted p.note)) [
    | inl still ↦ (let answers = p.answers in cc)
    | inr torn ↦ absurd (let answers = p.answers in let tears = torn.0 in cc)
  ]

  -- the answer of a decision is no fault
  no-fault : (note : Note) → note ≡ effects.note → is_fault note ≡ true → ⊥
  no-fault note same fault = false≢true (sym (ap is_fault same ∙ decides node call) ∙ fault)

  -- where the link failed it counts so
  link-failed : (n : ℕ) → answered ≡ Noted (notes.LinkFault n) → 0 < new.link.faults
  link-failed n is =
      let note = same-note (notes.LinkFault n) is in
      subst (λ (q : Parts). 0 < q.link.faults) (sym p.parts) (elim p.well.ended [
        | inl done ↦ absurd (no-fault p.note done.0 (ap is_fault note))
        | inr (inl failed) ↦ risen-some old.link.faults p.ends.link.faults failed.3.risen
        | inr (inr (inl failed)) ↦ absurd (let other = failed.0 in cc)
        | inr (inr (inr wanting)) ↦ absurd (let other = wanting.0 in cc)
      ])

  -- where the log failed and its write wasn't torn, it failed by itself
  lost-by-itself : (entry : Option Entry) → IsLost entry old.log p.ends.log → (note : Note) → answered ≡ Noted note
      → 0 < p.ends.log.own_faults
  lost-by-itself None lost note is = absurd lost
  lost-by-itself (Some entry) lost note is = elim lost.cause [
    | inl itself ↦ risen-some old.log.own_faults p.ends.log.own_faults itself.risen
    | inr by_arm ↦
        let armed = armed-some old.log.tear (entry_frame entry) old.log.bytes p.ends.log.bytes by_arm.left in
        let torn : answered ≡ Torn =
        p.answers ∙ ap (λ o. unless_torn o (armed_number p.ends.log.tear) (Noted p.note)) armed.1
        ∙ ap (λ (tear : Tear). unless_torn (Some armed.0) (armed_number tear) (Noted p.note)) by_arm.unarmed in
        absurd (let answers = is in cc)
  ]

  -- and counts so
  log-failed : answered ≡ Noted notes.LogFault → 0 < new.log.own_faults
  log-failed is =
      let note = same-note notes.LogFault is in
      subst (λ (q : Parts). 0 < q.log.own_faults) (sym p.parts) (elim p.well.ended [
        | inl done ↦ absurd (no-fault p.note done.0 (ap is_fault note))
        | inr (inl failed) ↦ absurd (let other = failed.1 in cc)
        | inr (inr (inl failed)) ↦ lost-by-itself effects.entry failed.3 notes.LogFault is
        | inr (inr (inr wanting)) ↦ absurd (let other = wanting.0 in cc)
      ])

  -- where the answer is no fault, all was done
  pub was-done : (note : Note) → answered ≡ Noted note → is_fault note ≡ false
      → (p.note ≡ note) × IsDone node effects old.link old.log p.note p.ends
  was-done note is fine =
      let same = same-note note is in
      let no : is_fault p.note ≡ true → ⊥ = λ fault. false≢true (sym fine ∙ ap is_fault (sym same) ∙ fault) in
      elim p.well.ended [
        | inl done ↦ (same, done)
        | inr (inl failed) ↦ absurd (no (ap is_fault failed.1))
        | inr (inr (inl failed)) ↦ absurd (no (ap is_fault failed.0))
        | inr (inr (inr wanting)) ↦ absurd (no (ap is_fault wanting.0))
      ]

  -- and what was decided is well formed
  pub done-sound : (note : Note) → answered ≡ Noted note → is_fault note ≡ false → IsSound effects
  done-sound note is fine =
      p.well.sound (λ memory. false≢true (sym fine ∙ ap is_fault (sym (same-note note is)) ∙ ap is_fault memory))

  -- where it says that the write was torn, something was armed, and nothing is any more
  torn-arm : answered ≡ Torn → (b : ℕ) × (armed_number old.log.tear ≡ Some b) × (armed_number p.ends.log.tear ≡ None)
  torn-arm is = elim (unless_torn-cases (armed_number old.log.tear) (armed_number p.ends.log.tear) (Noted p.note)) [
    | inl still ↦ absurd (let answers = p.answers in cc)
    | inr torn ↦ torn.1
  ]

  -- what is armed didn't stay then
  not-still : answered ≡ Torn → armed_number p.ends.log.tear ≡ armed_number old.log.tear → ⊥
  not-still is same = (let arm = torn-arm is in none-some arm.0 (sym arm.2 ∙ same ∙ arm.1))

  -- so no entry was kept
  not-kept : answered ≡ Torn → IsKept effects.entry old.log p.ends.log → ⊥
  not-kept is kept = not-still is (ap armed_number (kept-armed effects.entry old.log p.ends.log kept))

  -- the entry was lost by what was armed
  torn-entry : answered ≡ Torn → (o : Option Entry) → effects.entry ≡ o → IsLost o old.log p.ends.log → p.ends.status ≡ Err why.Log
      → p.ends.link ≡ old.link → IsTornCall effects old p.ends
  torn-entry is None has lost stopped link = absurd lost
  torn-entry is (Some entry) has lost stopped link = elim lost.cause [
    | inl itself ↦ absurd (not-still is itself.armed)
    | inr by_arm ↦
        let arm = torn-arm is in
        record { b = arm.0; armed = arm.1; entry = entry; has = has; stopped = stopped; link = link; fails = by_arm }
  ]

  -- so the call ended in this one way
  pub was-torn : answered ≡ Torn → IsTornCall effects old p.ends
  was-torn is = elim p.well.ended [
    | inl done ↦ absurd (not-kept is done.1.1)
    | inr (inl failed) ↦ absurd (not-kept is failed.2.1)
    | inr (inr (inl failed)) ↦ torn-entry is effects.entry refl failed.3 failed.1 failed.2
    | inr (inr (inr wanting)) ↦ absurd (not-still is (ap (λ (l : LogTold). armed_number l.tear) wanting.3))
  ]

  -- and what was decided is well formed
  pub torn-sound : answered ≡ Torn → IsSound effects
  torn-sound is = p.well.sound (λ memory. elim p.well.ended [
    | inl done ↦ absurd (not-kept is done.1.1)
    | inr (inl failed) ↦ absurd (not-kept is failed.2.1)
    | inr (inr (inl failed)) ↦ absurd (let other = failed.0 in cc)
    | inr (inr (inr wanting)) ↦ absurd (not-still is (ap (λ (l : LogTold). armed_number l.tear) wanting.3))
  ])

-- where an action answers that the link failed, that counts so
pub link-fault-some : (old : Parts) (action : Action) (n : ℕ) (new : Parts) → DoesAction old action (Noted (notes.LinkFault n)) new
    → 0 < new.link.faults
link-fault-some old action n new acts =
    let was = was-called old action (Noted (notes.LinkFault n)) new tt acts in
    link-failed was.node old was.call (Noted (notes.LinkFault n)) new was.performs n refl

-- and where it answers that the log failed, the log did so by itself
pub log-fault-some : (old : Parts) (action : Action) (new : Parts) → DoesAction old action (Noted notes.LogFault) new → 0 < new.log.own_faults
log-fault-some old action new acts =
    let was = was-called old action (Noted notes.LogFault) new tt acts in
    log-failed was.node old was.call (Noted notes.LogFault) new was.performs refl
