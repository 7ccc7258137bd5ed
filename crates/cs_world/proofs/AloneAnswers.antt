-- What is told of an action on the one node, by the node's answer: what the definition tells.
use Rattle.std.proofs.Common.{◌≡◌, ◌≢◌, ◌∙◌, ℕ, ◌+◌, ◌<◌, List, [], ◌∷◌, ◌++◌, length, map, false}
use Rattle.std.proofs.Common.{Option, Some, None, Result, Ok, Err, IfOk, IfErr, codes, decimal, refl, sym, ap, subst, append-nil}
use Rattle.std.specs.Option.{option_map}
use Rattle.std.specs.String.{string_bytes}
use Rattle.std.specs.declared.string.String.{String}
use Rattle.std.proofs.lemmas.List.{length-map, map-append}
use Rattle.std.proofs.lemmas.List.Concat.{flat_map-append}
use Rattle.std.proofs.lemmas.Result.{IfErr-weaker, IfOk-weaker}
use Rattle.cs_base.specs.Address.{Address}
use Rattle.cs_base.specs.Limits.{most_sent}
use Rattle.cs_base.proofs.Elements.{All-weaker}
use Rattle.cs_link.specs.declared.link.Link.{Ghosts as LinkGhosts}
use Rattle.cs_log.specs.declared.log.Log.{Ghosts as LogGhosts}
use Rattle.cs_machine.specs.Lines.{note_lines}
use Rattle.cs_node.specs.Calls.{Ends}
use Rattle.cs_node.specs.Placed.{Placed}
use Rattle.cs_node.specs.Sound.{IsSound}
use Rattle.cs_node.specs.Told.{LinkTold}
use Rattle.cs_node.specs.declared.effects.Effects.{Effects}
use Rattle.cs_node.specs.declared.node.Node.{Node}
use Rattle.cs_node.specs.declared.note.Note.{Note}
use Rattle.cs_node.specs.declared.stopped.Why.{Why}
use Rattle.cs_node.specs.declared.stopped.Why.TheVariants as why
use Rattle.cs_packet.specs.PacketField.{IsPacket, IsSend}
use Rattle.cs_packet.specs.declared.packet.Packet.{Packet}
use Rattle.cs_show.specs.Text.{ended, text_of}
use Rattle.cs_world.specs.Acting.{ActsAt}
use Rattle.cs_world.specs.Actions.{DoesAction}
use Rattle.cs_world.specs.Alone.{Alone, OneNode, node_named}
use Rattle.cs_world.specs.AloneEvents.{AfterAlone, acted_lines, after_effects, back_word, becomes, called, does, does_if, says, torn_at}
use Rattle.cs_world.specs.AloneEvents.{unless_refused, acts as acts_on}
use Rattle.cs_world.specs.AloneStands.{AnswersAlone, AreAlone, IsLimitAlone, IsOneNode, KeepsSent}
use Rattle.cs_world.specs.Calls.{effects_at, refusal_word}
use Rattle.cs_world.specs.Happening.{CanBeTold}
use Rattle.cs_world.specs.Posting.{ArePackets, IsPostFault, Posts, sent_lines}
use Rattle.cs_world.specs.Processes.{Parts}
use Rattle.cs_world.specs.Seats.{parts_at}
use Rattle.cs_world.specs.Sending.{bytes_in, datagram_of}
use Rattle.cs_world.specs.declared.action.Action.{Action}
use Rattle.cs_world.specs.declared.acting.Acted.{Acted}
use Rattle.cs_world.specs.declared.call.Answer.{Answer}
use Rattle.cs_world.specs.declared.call.Answer.TheVariants.{Armed, Back, Down, Noted, Refused, Stopped, Torn}
use Rattle.cs_world.specs.declared.call.Refusal.{Refusal}
use Rattle.cs_world.specs.declared.fault.WorldFault.{WorldFault}
use Rattle.cs_world.specs.declared.fault.WorldFault.TheVariants as faults
use Rattle.cs_world.specs.declared.nodes.Nodes.{Nodes}
use Rattle.cs_world.specs.declared.seats.Seats.{Seats}
use Rattle.cs_world.specs.declared.telling.Telling.TheVariants.{Bytes}
use Rattle.cs_world.specs.declared.traffic.Traffic.{Traffic}
use Rattle.cs_world.proofs.Acted.{WasCalled, was-called}
use Rattle.cs_world.proofs.AloneActs.{armed-alone, back-alone, crashed-alone, refused-alone, stayed-alone}
use Rattle.cs_world.proofs.AloneNodes.{named-node, nobody-under, one-under, put-alone, sent-kept, still-alone}
use Rattle.cs_world.proofs.AloneWrites.{done-alone, torn-alone, torn-own, torn-sent}
use Rattle.cs_world.proofs.Answering.{TellsBack, TellsLine}
use Rattle.cs_world.proofs.Causes.{is_fault}
use Rattle.cs_world.proofs.Failed.{done-sound, torn-sound, was-done, was-torn}
use Rattle.cs_world.proofs.Performed.{seen-alike}
use Rattle.cs_world.proofs.Told.{sent-behind-so_many}
use Rattle.cs_world.proofs.Replies.{TellsNote}
use Rattle.cs_world.proofs.Traffics.{bytes-append}

-- ---- what is told

-- want of memory is no limit
memory-limit : {T : Type 0} (alone : Alone) (result : Result T WorldFault) → IfErr result (λ fault. fault ≡ faults.Memory)
    → IfErr result (IsLimitAlone alone)
memory-limit alone (Ok x) is = tt
memory-limit alone (Err fault) is = subst (IsLimitAlone alone) (sym is) tt

module _ {L G A : Type 0} (link : LinkGhosts L) (log : LogGhosts G) (later : Nodes L G) (result : Result (String A) WorldFault) where
  -- one line, and what the code has then
  pub line-told : (after : AfterAlone) (line : List ℕ) → after.lines ≡ line ∷ [] → AreAlone link log later after.alone → TellsLine result line
      → AnswersAlone link log later after result
  line-told after line is are tells = (
    IfOk-weaker result (λ text. string_bytes text ≡ ended line)
        (λ text. (string_bytes text ≡ text_of after.lines) × AreAlone link log later after.alone)
        (λ text said. (said ∙ sym (append-nil (ended line)) ∙ ap text_of (sym is), are)) tells.0,
    memory-limit after.alone result tells.1,
  )

  -- the same where it is what an event leads to
  pub answers-line : (leads after : AfterAlone) (line : List ℕ) → leads ≡ after → after.lines ≡ line ∷ [] → AreAlone link log later after.alone
      → TellsLine result line → AnswersAlone link log later leads result
  answers-line leads after line same is are tells =
      subst (λ a. AnswersAlone link log later a result) (sym same) (line-told after line is are tells)

  -- a fault that is no limit
  pub answers-fault : (leads : AfterAlone) (fault : WorldFault) → result ≡ Err fault → IsLimitAlone leads.alone fault
      → AnswersAlone link log later leads result
  answers-fault leads fault is limit = subst (λ r. AnswersAlone link log later leads r) (sym is) (tt, limit)

-- ---- who acted

-- the one node, before and now
pub record OneActed {L G : Type 0} (link : LinkGhosts L) (log : LogGhosts G) (code later : Nodes L G) (alone : Alone) (id : ℕ)
    (action : Action) (acted : Acted) : Type 0 where
  pub old : Parts
  pub new : Parts
  pub n : OneNode
  pub there : alone.node ≡ Some n
  pub named : node_named alone id ≡ Some n
  pub mine : n.own.id ≡ id
  pub stood : IsOneNode n old
  pub acts : DoesAction old action acted.answer new
  pub earlier : Some acted.earlier ≡ option_map length old.link.sent
  pub can : CanBeTold action (Some old)
  pub before : parts_at link log code.seats n.own.id ≡ Some old
  pub now : parts_at link log later.seats n.own.id ≡ Some new
  pub others : (q : ℕ) → q ≢ n.own.id → parts_at link log later.seats q ≡ parts_at link log code.seats q

module _ {L G A : Type 0} (link : LinkGhosts L) (log : LogGhosts G) (code later : Nodes L G) (seats : Seats (Placed L G)) (id : ℕ)
    (action : Action) (same : later.seats ≡ seats) (result : Result (String A) WorldFault) where
  -- it answers, whatever the node
  abbrev AnswersAll : Type 0
  AnswersAll = (alone : Alone) → AreAlone link log code alone → CanBeTold action (parts_at link log code.seats id)
      → AnswersAlone link log later (acts_on alone id action) result

  -- nobody was there
  pub nobody-answers : ActsAt link log id action None code.seats seats → later.traffic ≡ code.traffic → TellsLine result (codes "no node")
      → AnswersAll
  nobody-answers acts traffic tells alone are can =
      let was : ℕ → Option Parts = parts_at link log code.seats in
      let now : ℕ → Option Parts = parts_at link log seats in
      let seen = seen-alike was now id (acts.node.1 ∙ sym acts.node.0) acts.others in
      let none = nobody-under (node_named alone id) (was id) acts.node.0 (are.nodes id) in
      answers-line link log later result (acts_on alone id action) (says alone (codes "no node")) (codes "no node")
      (ap (does_if alone action) none) refl
      (still-alone link log code later alone are (λ q. ap (λ s. parts_at link log s q) same ∙ seen q) traffic) tells

  module _ (acted : Acted) (acts : ActsAt link log id action (Some acted) code.seats seats) where
    -- the node that acted
    one-acted : (alone : Alone) → AreAlone link log code alone → CanBeTold action (parts_at link log code.seats id)
        → OneActed link log code later alone id action acted
    one-acted alone are can =
        let old : Parts = acts.node.0 in
        let found = one-under (node_named alone id) (parts_at link log code.seats id) old acts.node.2 (are.nodes id) in
        let named = named-node alone id found.0 found.1 in
        record {
          old = old;
          new = acts.node.1;
          n = found.0;
          there = named.0;
          named = found.1;
          mine = named.1;
          stood = found.2;
          acts = acts.node.4.acts;
          earlier = acts.node.4.earlier;
          can = subst (CanBeTold action) acts.node.2 can;
          before = ap (parts_at link log code.seats) named.1 ∙ acts.node.2;
          now = ap (parts_at link log later.seats) named.1 ∙ ap (λ s. parts_at link log s id) same ∙ acts.node.3;
          others = λ q other. ap (λ s. parts_at link log s q) same ∙ acts.others q (λ is. other (is ∙ sym named.1));
        }

    module _ (alone : Alone) (are : AreAlone link log code alone) (can : CanBeTold action (parts_at link log code.seats id)) where
      -- the node that acted
      abbrev a : OneActed link log code later alone id action acted
      a = one-acted alone are can

      -- what it did is what is done
      leads-as : (after : AfterAlone) → does alone action a.n ≡ after → acts_on alone id action ≡ after
      leads-as after leads = ap (does_if alone action) a.named ∙ leads

      -- it acted with this answer
      acts-so : (said : Answer) → acted.answer ≡ said → DoesAction a.old action said a.new
      acts-so said is = subst (λ s. DoesAction a.old action s a.new) is a.acts

      -- nothing has changed
      as-before : a.new ≡ a.old → later.traffic ≡ code.traffic → AreAlone link log later alone
      as-before still traffic =
          still-alone link log code later alone are
          (seen-alike (parts_at link log code.seats) (parts_at link log later.seats) a.n.own.id
          (a.now ∙ ap (λ p. Some p) still ∙ sym a.before) a.others) traffic

      -- the node is another one now
      as-now : (next : OneNode) → next.own ≡ a.n.own → IsOneNode next a.new → KeepsSent later.traffic next.sent
          → AreAlone link log later (record alone { node = Some next })
      as-now next own stands sent =
          put-alone link log code later alone are a.n a.there next a.new (ap (λ o. o.id) own) a.now a.others stands sent

      -- what it had sent is kept
      sent-still : later.traffic ≡ code.traffic → KeepsSent later.traffic a.n.sent
      sent-still traffic = subst (λ t. KeepsSent t a.n.sent) (sym traffic) (sent-kept link log code later alone are a.n a.there)

    -- it refused
    pub refused-answers : (refusal : Refusal) → acted.answer ≡ Refused refusal → later.traffic ≡ code.traffic
        → TellsLine result (refusal_word refusal) → AnswersAll
    refused-answers refusal is traffic tells alone are can =
        let node = a alone are can in
        let was = refused-alone alone node.n action node.old node.new node.stood refusal (acts-so alone are can (Refused refusal) is) in
        answers-line link log later result (acts_on alone id action) (says alone (refusal_word refusal)) (refusal_word refusal)
        (leads-as alone are can (says alone (refusal_word refusal)) was.1) refl (as-before alone are can was.0 traffic) tells

    -- it crashed
    pub down-answers : acted.answer ≡ Down → later.traffic ≡ code.traffic → TellsLine result (codes "down " ++ decimal id) → AnswersAll
    down-answers is traffic tells alone are can =
        let node = a alone are can in
        let next : OneNode = record node.n { node = None } in
        let was = crashed-alone alone node.n action node.old node.new node.stood (acts-so alone are can Down is) in
        let line = codes "down " ++ decimal node.n.own.id in
        answers-line link log later result (acts_on alone id action) (becomes alone next (line ∷ [])) (codes "down " ++ decimal id)
        (leads-as alone are can (becomes alone next (line ∷ [])) was.0) (ap (λ q. (codes "down " ++ decimal q) ∷ []) node.mine)
        (as-now alone are can next refl was.1 (sent-still alone are can traffic)) tells

    -- its log is armed
    pub armed-answers : (b : ℕ) → acted.answer ≡ Armed b → later.traffic ≡ code.traffic → TellsLine result (codes "armed " ++ decimal b)
        → AnswersAll
    armed-answers b is traffic tells alone are can =
        let node = a alone are can in
        let next : OneNode = record node.n { armed = Some b } in
        let line = codes "armed " ++ decimal b in
        let was = armed-alone alone node.n action node.old node.new node.stood b (acts-so alone are can (Armed b) is) in
        answers-line link log later result (acts_on alone id action) (becomes alone next (line ∷ [])) line
        (leads-as alone are can (becomes alone next (line ∷ [])) was.0) refl
        (as-now alone are can next refl was.1 (sent-still alone are can traffic)) tells

    -- it came back
    pub back-answers : acted.answer ≡ Back → later.traffic ≡ code.traffic → TellsBack link log later id result
        → IfErr result (λ fault. fault ≡ faults.Memory) → AnswersAll
    back-answers is traffic tells memory alone are can =
        let node = a alone are can in
        let was = back-alone alone node.n action node.old node.new node.stood node.can (acts-so alone are can Back is) in
        let next : OneNode = record node.n { node = Some was.node; tail = [] } in
        answers-line link log later result (acts_on alone id action) (becomes alone next (back_word was.node ∷ [])) (back_word was.node)
        (leads-as alone are can (becomes alone next (back_word was.node ∷ [])) was.leads) refl
        (as-now alone are can next refl was.stands (sent-still alone are can traffic))
        (tells node.new was.node (ap (parts_at link log later.seats) (sym node.mine) ∙ node.now) was.up, memory)

    -- its log didn't bring it back
    pub stopped-answers : (reason : Why) → acted.answer ≡ Stopped reason → later.traffic ≡ code.traffic
        → IfOk result (λ text. string_bytes text ≡ ended (codes "stopped log")) → ((reason ≡ why.Log → ⊥)
        → IfErr result (λ fault. fault ≡ faults.Memory)) → (reason ≡ why.Log → result ≡ Err faults.Log)
        → (reason ≡ why.Memory → result ≡ Err faults.Memory) → AnswersAll
    stopped-answers why.Log is traffic text memory on_log on_memory alone are can =
        answers-fault link log later result (acts_on alone id action) faults.Log (on_log refl) tt
    stopped-answers why.Memory is traffic text memory on_log on_memory alone are can =
        answers-fault link log later result (acts_on alone id action) faults.Memory (on_memory refl) tt
    stopped-answers reason is traffic text memory on_log on_memory alone are can =
        let node = a alone are can in
        let no_log : (reason ≡ why.Log) → ⊥ = λ e. (let same = e in cc) in
        let no_memory : (reason ≡ why.Memory) → ⊥ = λ e. (let same = e in cc) in
        let was = stayed-alone alone node.n action node.old node.new node.stood reason node.can
        (acts-so alone are can (Stopped reason) is) no_log no_memory in
        answers-line link log later result (acts_on alone id action) (says alone (codes "stopped log")) (codes "stopped log")
        (leads-as alone are can (says alone (codes "stopped log")) was.0) refl
        (put-same alone are can was.1 traffic) (text, memory no_log)
      where
        put-same : (alone : Alone) (are : AreAlone link log code alone) (can : CanBeTold action (parts_at link log code.seats id))
            → IsOneNode (a alone are can).n (a alone are can).new → later.traffic ≡ code.traffic → AreAlone link log later alone
        put-same alone are can stands traffic =
            subst (λ o. AreAlone link log later (record alone { node = o })) (sym (a alone are can).there)
            (as-now alone are can (a alone are can).n refl stands (sent-still alone are can traffic))

    -- what a call led to, where the node is up
    called-as : (alone : Alone) (are : AreAlone link log code alone) (can : CanBeTold action (parts_at link log code.seats id))
        → (said : Answer) → (was : WasCalled (a alone are can).old action said (a alone are can).new) → (after : AfterAlone)
        → unless_refused alone (a alone are can).n was.node was.call None ≡ after → acts_on alone id action ≡ after
    called-as alone are can said was after leads =
        let node = a alone are can in
        let up : node.n.node ≡ Some was.node = sym node.stood.node ∙ was.up in
        leads-as alone are can after
        (ap (λ act. does alone act node.n) was.is ∙ ap (called alone node.n was.call) up
        ∙ ap (unless_refused alone node.n was.node was.call) was.performs.allowed ∙ leads)

    -- what was armed tore its write
    pub torn-answers : acted.answer ≡ Torn → later.traffic ≡ code.traffic → TellsLine result (codes "stopped log") → AnswersAll
    torn-answers is traffic tells alone are can =
        let node = a alone are can in
        let was = was-called node.old action Torn node.new tt (acts-so alone are can Torn is) in
        let up : node.n.node ≡ Some was.node = sym node.stood.node ∙ was.up in
        let effects : Effects = effects_at was.node was.call in
        let ends : Ends = was.performs.ends in
        let sound = torn-sound was.node node.old was.call Torn node.new was.performs refl in
        let torn = was-torn was.node node.old was.call Torn node.new was.performs refl in
        let next : OneNode = torn_at torn.entry torn.b node.n in
        let did = torn-alone alone node.n was.node effects node.old ends node.stood up sound torn in
        answers-line link log later result (acts_on alone id action) (becomes alone next (codes "stopped log" ∷ [])) (codes "stopped log")
        (called-as alone are can Torn was (becomes alone next (codes "stopped log" ∷ [])) did.0) refl
        (as-now alone are can next (torn-own alone node.n was.node effects node.old ends node.stood up sound torn)
        (subst (IsOneNode next) (sym was.performs.parts) did.1)
        (subst (KeepsSent later.traffic) (sym (torn-sent alone node.n was.node effects node.old ends node.stood up sound torn))
        (sent-still alone are can traffic))) tells

    -- ---- it did what it decided

    -- packets that are kept behind others
    kept-more : (sent more : List (Address × Packet)) (traffic now : Traffic) (said told : List ℕ) → KeepsSent traffic sent
        → Posts Bytes more traffic now said told → KeepsSent now (sent ++ more)
    kept-more sent more traffic now said told kept posts = record {
      datagrams = posts.datagrams ∙ ap (λ ds. ds ++ map datagram_of more) kept.datagrams ∙ sym (map-append datagram_of sent more);
      bytes = posts.bytes ∙ ap (λ m. m + bytes_in more) kept.bytes ∙ sym (bytes-append sent more);
    }

    -- and what is told of them
    text-more : (n : OneNode) (effects : Effects) (traffic now : Traffic) (told : List ℕ) → KeepsSent traffic n.sent
        → Posts Bytes effects.sends traffic now (text_of (note_lines effects.note)) told → told ≡ text_of (acted_lines n effects)
    text-more n effects traffic now told kept posts =
        posts.text
        ∙ ap (λ m. text_of (note_lines effects.note) ++ text_of (sent_lines Bytes (m + 1) effects.sends))
        (ap length kept.datagrams ∙ length-map n.sent datagram_of)
        ∙ sym (flat_map-append ended (note_lines effects.note) (sent_lines Bytes (length n.sent + 1) effects.sends))

    -- a fault of posting for the limit is one of the event
    limit-more : (alone : Alone) (n : OneNode) (node : Node) (effects : Effects) (traffic : Traffic) (lines : List (List ℕ))
        → KeepsSent traffic n.sent → (fault : WorldFault) → IsPostFault traffic effects.sends fault
        → IsLimitAlone (becomes alone (after_effects node effects n) lines).alone fault
    limit-more alone n node effects traffic lines kept faults.Limit beyond =
        subst (λ m. most_sent < m) (ap (λ m. m + bytes_in effects.sends) kept.bytes ∙ sym (bytes-append n.sent effects.sends)) beyond
    limit-more alone n node effects traffic lines kept faults.Link none = absurd none
    limit-more alone n node effects traffic lines kept faults.Log none = absurd none
    limit-more alone n node effects traffic lines kept faults.Memory any = tt

    -- it took its step
    pub noted-answers : (note : Note) → acted.answer ≡ Noted note → is_fault note ≡ false
        → TellsNote link log code later seats Bytes id acted.earlier note result → AnswersAll
    noted-answers note is fine tells alone are can =
        let node = a alone are can in
        let was = was-called node.old action (Noted note) node.new tt (acts-so alone are can (Noted note) is) in
        let up : node.n.node ≡ Some was.node = sym node.stood.node ∙ was.up in
        let effects : Effects = effects_at was.node was.call in
        let ends : Ends = was.performs.ends in
        let sound : IsSound effects = done-sound was.node node.old was.call (Noted note) node.new was.performs note refl fine in
        let done = was-done was.node node.old was.call (Noted note) node.new was.performs note refl fine in
        let did = done-alone alone node.n was.node effects node.old ends node.stood up sound done.1.1.0 done.1.1.1 done.1.2 in
        let next : OneNode = after_effects was.node effects node.n in
        let after : AfterAlone = becomes alone next (acted_lines node.n effects) in
        let kept = sent-kept link log code later alone are node.n node.there in
        let packets : ArePackets effects.sends =
        All-weaker IsSend (λ (send : Address × Packet). IsPacket send.1) (λ send allowed. allowed.1) effects.sends sound.sends in
        let behind = sent-behind-so_many acted.earlier effects.sends node.old.link.sent node.new.link.sent node.earlier
        (ap (λ (q : Parts). q.link.sent) was.performs.parts ∙ ap (λ (l : LinkTold). l.sent) done.1.2) in
        let there : parts_at link log seats id ≡ Some node.new =
        ap (λ s. parts_at link log s id) (sym same) ∙ ap (parts_at link log later.seats) (sym node.mine) ∙ node.now in
        let said : note ≡ effects.note = sym done.0 ∙ done.1.0 in
        let Told : String A → Type 0 =
        λ t. Posts Bytes effects.sends code.traffic later.traffic (text_of (note_lines effects.note)) (string_bytes t) in
        let posts : IfOk result Told =
        subst (λ m. IfOk result (λ t. Posts Bytes effects.sends code.traffic later.traffic (text_of (note_lines m)) (string_bytes t))) said
        (tells.text effects.sends node.new packets there behind) in
        subst (λ w. AnswersAlone link log later w result) (sym (called-as alone are can (Noted note) was after did.0)) (
          IfOk-weaker result Told (λ t. (string_bytes t ≡ text_of after.lines) × AreAlone link log later after.alone)
              (λ t posted. (
                text-more node.n effects code.traffic later.traffic (string_bytes t) kept posted,
                as-now alone are can next refl (subst (IsOneNode next) (sym was.performs.parts) did.1)
                    (kept-more node.n.sent effects.sends code.traffic later.traffic (text_of (note_lines effects.note)) (string_bytes t) kept posted),
              )) posts,
          IfErr-weaker result (IsPostFault code.traffic effects.sends) (IsLimitAlone after.alone)
              (limit-more alone node.n was.node effects code.traffic (acted_lines node.n effects) kept)
              (tells.fault effects.sends node.new packets there behind),
        )
