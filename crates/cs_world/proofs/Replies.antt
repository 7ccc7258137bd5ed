-- What is told of an action on a node, by the node's answer: it answers what the machine does, and a fault is counted.
use Rattle.std.proofs.Common.{◌≡◌, ◌≢◌, ◌∙◌, inl, inr, ℕ, ◌<◌, List, ◌++◌, false, Some, Result, Err, IfOk, IfErr}
use Rattle.std.proofs.Common.{refl, sym, ap, subst, codes, decimal}
use Rattle.std.specs.String.{string_bytes}
use Rattle.std.specs.declared.string.String.{String}
use Rattle.cs_base.specs.Address.{Address}
use Rattle.cs_link.specs.declared.link.Link.{Ghosts as LinkGhosts}
use Rattle.cs_log.specs.declared.log.Log.{Ghosts as LogGhosts}
use Rattle.cs_node.specs.Calls.{Ends}
use Rattle.cs_node.specs.Placed.{Placed}
use Rattle.cs_node.specs.Told.{LinkTold}
use Rattle.cs_node.specs.declared.effects.Effects.{Effects}
use Rattle.cs_node.specs.declared.node.Node.{Node as ANode}
use Rattle.cs_node.specs.declared.note.Note.{Note}
use Rattle.cs_node.specs.declared.note.Note.TheVariants as notes
use Rattle.cs_node.specs.declared.stopped.Why.{Why}
use Rattle.cs_node.specs.declared.stopped.Why.TheVariants as why
use Rattle.cs_packet.specs.declared.packet.Packet.{Packet}
use Rattle.cs_show.specs.Text.{ended, text_of}
use Rattle.cs_machine.specs.Contents.{contents_of}
use Rattle.cs_machine.specs.Happens.{came_back, crashed, restart_line, tear_at}
use Rattle.cs_machine.specs.Lines.{note_lines}
use Rattle.cs_machine.specs.Names.{State, World}
use Rattle.cs_machine.specs.Outcome.{After, answer, commit, took}
use Rattle.cs_machine.specs.Reached.{IsReached}
use Rattle.cs_machine.specs.Restoring.{restored}
use Rattle.cs_machine.specs.Values.{node_for}
use Rattle.cs_machine.proofs.Follows.{is-up}
use Rattle.cs_world.specs.Acting.{ActsAt}
use Rattle.cs_world.specs.Actions.{DoesAction}
use Rattle.cs_world.specs.Calls.{effects_at, refusal_word}
use Rattle.cs_world.specs.Happening.{CanBeTold, IsActed}
use Rattle.cs_world.specs.Posting.{ArePackets, IsPostFault, IsSentBehind, Posts}
use Rattle.cs_world.specs.Processes.{Parts, parts_of}
use Rattle.cs_world.specs.Seats.{link_faults_of, log_faults_of, parts_at, seats_of}
use Rattle.cs_world.specs.Stands.{Answers, IsCounted, Stands}
use Rattle.cs_world.specs.declared.action.Action.{Action}
use Rattle.cs_world.specs.declared.acting.Acted.{Acted}
use Rattle.cs_world.specs.declared.call.Answer.{Answer}
use Rattle.cs_world.specs.declared.call.Answer.TheVariants.{Armed, Back, Down, Noted, Refused, Stopped, Torn}
use Rattle.cs_world.specs.declared.call.Refusal.{Refusal}
use Rattle.cs_world.specs.declared.fault.WorldFault.{WorldFault}
use Rattle.cs_world.specs.declared.fault.WorldFault.TheVariants as faults
use Rattle.cs_world.specs.declared.nodes.Nodes.{Nodes}
use Rattle.cs_world.specs.declared.seats.Seats.{Seats}
use Rattle.cs_world.specs.declared.telling.Telling.{Telling}
use Rattle.cs_world.specs.declared.telling.Telling.TheVariants.{Names}
use Rattle.cs_world.proofs.BackLines.{back-named}
use Rattle.cs_world.proofs.Acted.{IsOfCallAlone}
use Rattle.cs_world.proofs.Answering.{TellsBack, TellsLine, err-answers, line-answers, memory-counts}
use Rattle.cs_world.proofs.Causes.{is_fault, link-fault-counts, log-fault-counts}
use Rattle.cs_world.proofs.Changed.{HasPut}
use Rattle.cs_world.proofs.Crashes.{armed-stands, crashed-stands, has-armed, has-crashed}
use Rattle.cs_world.proofs.Failed.{link-fault-some, log-fault-some, was-done, was-torn}
use Rattle.cs_world.proofs.Performed.{HasPerformed, NodeActed, has-performed, node-acted, stands-still, untorn, was-refused}
use Rattle.cs_world.proofs.Restarts.{back-stands, back-value, has-come-back, has-stayed-down, stopped-log-some, stopped-why}
use Rattle.cs_world.proofs.StepAnswers.{step-answers}
use Rattle.cs_world.proofs.Told.{sent-behind-so_many, step-packets}
use Rattle.cs_world.proofs.Torn.{torn-says, torn-stands}

-- ---- faults

module _ {L G : Type 0} (link : LinkGhosts L) (log : LogGhosts G) (id : ℕ) (action : Action) (acted : Acted) (before now : Seats (Placed L G))
    (acts : ActsAt link log id action (Some acted) before now) where
  -- the answer
  at_answer : (said : Answer) → acted.answer ≡ said → DoesAction acts.node.0 action said acts.node.1
  at_answer said is = subst (λ s. DoesAction acts.node.0 action s acts.node.1) is acts.node.4.acts

  -- a link that failed is counted
  pub link-counted : (n : ℕ) → acted.answer ≡ Noted (notes.LinkFault n) → 0 < link_faults_of (seats_of link log now)
  link-counted n is =
      link-fault-counts link log now id acts.node.1 acts.node.3
      (link-fault-some acts.node.0 action n acts.node.1 (at_answer (Noted (notes.LinkFault n)) is))

  -- so is a log that failed at a call
  pub log-counted : acted.answer ≡ Noted notes.LogFault → 0 < log_faults_of (seats_of link log now)
  log-counted is =
      log-fault-counts link log now id acts.node.1 acts.node.3
      (log-fault-some acts.node.0 action acts.node.1 (at_answer (Noted notes.LogFault) is))

  -- and one that failed at a restart, of which alone it is told that a log failed
  pub stop-counted : {T : Type 0} (reason : Why) (result : Result T WorldFault) → acted.answer ≡ Stopped reason
      → (reason ≢ why.Log → IfErr result (λ fault. fault ≡ faults.Memory)) → (reason ≡ why.Log → result ≡ Err faults.Log)
      → IfErr result (IsCounted ⊥ (seats_of link log now))
  stop-counted why.Log result is other on_log =
      subst (λ r. IfErr r (IsCounted ⊥ (seats_of link log now))) (sym (on_log refl))
      (log-fault-counts link log now id acts.node.1 acts.node.3
      (stopped-log-some acts.node.0 action acts.node.1 (at_answer (Stopped why.Log) is)))
  stop-counted reason result is other on_log = memory-counts ⊥ (seats_of link log now) result (other (λ same. (let e = same in cc)))

-- ---- answers

-- what is told of a note and of the packets that were sent with it, and which faults there are
pub record TellsNote {L G A : Type 0} (link : LinkGhosts L) (log : LogGhosts G) (code later : Nodes L G) (seats : Seats (Placed L G))
    (telling : Telling) (id earlier : ℕ) (note : Note) (result : Result (String A) WorldFault) : Type 0 where
  pub text : (sends : List (Address × Packet)) (parts : Parts) → ArePackets sends → parts_at link log seats id ≡ Some parts
      → IsSentBehind earlier sends parts.link.sent
      → IfOk result (λ t. Posts telling sends code.traffic later.traffic (text_of (note_lines note)) (string_bytes t))
  pub fault : (sends : List (Address × Packet)) (parts : Parts) → ArePackets sends → parts_at link log seats id ≡ Some parts
      → IsSentBehind earlier sends parts.link.sent → IfErr result (IsPostFault code.traffic sends)

module _ {L G A : Type 0} (link : LinkGhosts L) (log : LogGhosts G) (code later : Nodes L G) (seats : Seats (Placed L G)) (id : ℕ)
    (action : Action) (acted : Acted) (acts : ActsAt link log id action (Some acted) code.seats seats) (same : later.seats ≡ seats)
    (leader : later.leader ≡ code.leader) (addresses : later.addresses ≡ code.addresses) (result : Result (String A) WorldFault) where
  -- it answers, whatever the world
  abbrev AnswersAll : Type 0
  AnswersAll = (world : World) (after : After) → Stands link log code world → CanBeTold action (parts_at link log code.seats id)
      → IsActed world id action after → Answers link log later after result

  -- the node that acted
  node-there : (world : World) (after : After) → Stands link log code world → CanBeTold action (parts_at link log code.seats id)
      → IsActed world id action after → NodeActed link log code later world id action after acted
  node-there world after stands can happens =
      node-acted link log code later world id action after stands leader addresses acted seats can happens acts same

  -- it acted with this answer
  acts-so : (world : World) (after : After) (a : NodeActed link log code later world id action after acted) (said : Answer)
      → acted.answer ≡ said → DoesAction a.old action said a.new
  acts-so world after a said is = subst (λ s. DoesAction a.old action s a.new) is a.acts

  -- a call that it performed
  performed : (world : World) (after : After) (a : NodeActed link log code later world id action after acted) (said : Answer)
      → acted.answer ≡ said → IsOfCallAlone said → HasPerformed world a.node after a.old said a.new
  performed world after a said is alone =
      has-performed world a.node action after a.old said a.new a.stood a.leads alone (acts-so world after a said is)

  -- it refused
  pub refused-answers : (refusal : Refusal) → acted.answer ≡ Refused refusal → later.traffic ≡ code.traffic → TellsLine result (refusal_word refusal)
      → AnswersAll
  refused-answers refusal is traffic tells world after stands can happens =
      let a = node-there world after stands can happens in
      let was = was-refused world a.node action after a.old a.new a.stood a.leads refusal (acts-so world after a (Refused refusal) is) in
      line-answers link log later world (refusal_word refusal) result after
      (stands-still link log code later world id action after stands leader addresses acted a was.0 traffic) tells.0 tells.1 was.1

  -- it crashed
  pub down-answers : acted.answer ≡ Down → later.traffic ≡ code.traffic → TellsLine result (codes "down " ++ decimal id) → AnswersAll
  down-answers is traffic tells world after stands can happens =
      let a = node-there world after stands can happens in
      let has = has-crashed world a.node action after a.old a.new a.stood a.leads (acts-so world after a Down is) in
      line-answers link log later (crashed world a.node).world (codes "down " ++ decimal id) result after
      (crashed-stands link log code later world a.node after a.old a.new a.put traffic stands a.found a.stood happens.1 has) tells.0 tells.1
      (has.leads ∙ ap (λ n. answer (crashed world a.node).world (codes "down " ++ decimal n)) a.mine)

  -- its log is armed
  pub armed-answers : (b : ℕ) → acted.answer ≡ Armed b → later.traffic ≡ code.traffic → TellsLine result (codes "armed " ++ decimal b) → AnswersAll
  armed-answers b is traffic tells world after stands can happens =
      let a = node-there world after stands can happens in
      let has = has-armed world a.node action after b a.old a.new a.leads (acts-so world after a (Armed b) is) in
      line-answers link log later (tear_at world b (Some a.node)).world (codes "armed " ++ decimal b) result after
      (armed-stands link log code later world a.node after b a.old a.new a.put traffic stands a.found a.stood happens.1 has) tells.0 tells.1
      has.leads

  -- it came back
  pub back-answers : acted.answer ≡ Back → later.traffic ≡ code.traffic → TellsBack link log later id result
      → IfErr result (λ fault. fault ≡ faults.Memory) → AnswersAll
  back-answers is traffic tells memory world after stands can happens =
      let a = node-there world after stands can happens in
      let has = has-come-back world a.node action after a.old a.new a.stood a.leads (acts-so world after a Back is) in
      let state : State = restored (contents_of world) a.node.own a.node.entries in
      let value = back-value world a.node action after a.old a.new stands.reached a.found a.stood a.told has in
      line-answers link log later (came_back world a.node).world (restart_line state) result after
      (back-stands link log code later world a.node action after a.old a.new a.put traffic stands a.found a.stood happens.1 a.told has)
      (subst (λ word. IfOk result (λ text. string_bytes text ≡ ended word)) (back-named (contents_of world) a.node.own state)
      (tells a.new (node_for (contents_of world) a.node.own state) a.now value)) memory has.leads

  -- its log didn't bring it back
  pub stopped-answers : (reason : Why) → acted.answer ≡ Stopped reason → (reason ≡ why.Log → result ≡ Err faults.Log)
      → (reason ≡ why.Memory → result ≡ Err faults.Memory) → AnswersAll
  stopped-answers reason is on_log on_memory world after stands can happens =
      let a = node-there world after stands can happens in
      elim (stopped-why world a.node action reason a.old a.new a.stood a.told
      (has-stayed-down a.old action reason a.new (acts-so world after a (Stopped reason) is))) [
        | inl failed ↦ err-answers link log later result faults.Log after (on_log failed) tt
        | inr wanting ↦ err-answers link log later result faults.Memory after (on_memory wanting) tt
      ]

  -- what was armed tore its write
  pub torn-answers : acted.answer ≡ Torn → later.traffic ≡ code.traffic → TellsLine result (codes "stopped log") → AnswersAll
  torn-answers is traffic tells world after stands can happens =
      let a = node-there world after stands can happens in
      let p = performed world after a Torn is tt in
      let value : ANode = node_for (contents_of world) a.node.own p.state in
      let ends : Ends = p.performs.ends in
      let put : HasPut link log code later a.node.own.id (parts_of ends) = subst (HasPut link log code later a.node.own.id) p.performs.parts a.put in
      let torn_call = was-torn value a.old p.call Torn a.new p.performs refl in
      let says = torn-says link log code later world a.node p.state p.step (effects_at value p.call) stands a.found p.was_up p.is_step.0 p.is_step.1
      a.old ends a.stood put traffic p.performs.well.again torn_call in
      let then = torn-stands link log code later world a.node p.state p.step (effects_at value p.call) stands a.found p.was_up p.is_step.0 p.is_step.1
      a.old ends a.stood put traffic p.performs.well.again torn_call (subst (λ (w : After). IsReached w.world) p.leads happens.1) in
      line-answers link log later (commit world a.node p.step).world (codes "stopped log") result after then tells.0 tells.1 (p.leads ∙ says)

  -- it took its step
  pub noted-answers : (note : Note) → acted.answer ≡ Noted note → is_fault note ≡ false
      → TellsNote link log code later seats Names id acted.earlier note result → AnswersAll
  noted-answers note is fine tells world after stands can happens =
      let a = node-there world after stands can happens in
      let p = performed world after a (Noted note) is tt in
      let value : ANode = node_for (contents_of world) a.node.own p.state in
      let effects : Effects = effects_at value p.call in
      let ends : Ends = p.performs.ends in
      let put : HasPut link log code later a.node.own.id (parts_of ends) = subst (HasPut link log code later a.node.own.id) p.performs.parts a.put in
      let done = was-done value a.old p.call (Noted note) a.new p.performs note refl fine in
      let leads : after ≡ took world a.node p.step =
      p.leads ∙ untorn world a.node p.step effects.entry a.old.log ends.log p.is_step.0.entry a.stood.log.armed done.1.1.1 in
      let packets = step-packets world a.node p.state p.step effects code.traffic stands.traffic stands.reached a.found p.is_step.0 p.is_step.1 in
      let behind = sent-behind-so_many acted.earlier effects.sends a.old.link.sent a.new.link.sent a.earlier
      (ap (λ (q : Parts). q.link.sent) p.performs.parts ∙ ap (λ (l : LinkTold). l.sent) done.1.2) in
      let there : parts_at link log seats id ≡ Some a.new = ap (λ s. parts_at link log s id) (sym same) ∙ a.now in
      let said : note ≡ effects.note = sym done.0 ∙ done.1.0 in
      let posts = subst (λ n. IfOk result (λ t. Posts Names effects.sends code.traffic later.traffic (text_of (note_lines n)) (string_bytes t))) said
      (tells.text effects.sends a.new packets there behind) in
      let whole = (is-up world a.node p.state (stands.reached.nodes a.node.own.id a.node a.found) p.was_up).whole in
      subst (λ outcome. Answers {A = A} link log later outcome result) (sym leads)
      (step-answers link log code later world a.node p.state p.step effects stands a.found whole p.is_step.0 p.is_step.1 a.old ends a.stood put
      done.1.1 done.1.2 result posts (tells.fault effects.sends a.new packets there behind))
