-- What the events of a node alone lead to: it starts, an action is done, and who leads stays.
use Rattle.std.proofs.Common.{◌≡◌, ◌≢◌, ◌∙◌, ◌==◌, ℕ, Bool, true, false, cond, Bor, List, slice_get, [], ◌∷◌, ◌++◌}
use Rattle.std.proofs.Common.{Option, Some, None, Result, Ok, Err, IfOk, OnOk, IfSome, IsSome, MatchOption, codes, decimal, refl, sym, ap, subst, append-nil}
use Rattle.std.specs.Option.{is_some, option_and_then, option_map, option_map_or}
use Rattle.std.specs.String.{string_bytes}
use Rattle.std.specs.declared.string.String.{String}
use Rattle.std.proofs.lemmas.Bool.{eq-eqb, false≢true, ne_eqb}
use Rattle.std.proofs.lemmas.Option.{none-some, same_Some}
use Rattle.std.proofs.lemmas.Result.{IfOk-weaker}
use Rattle.cs_base.specs.Address.{Address}
use Rattle.cs_base.specs.Axes.{Axes}
use Rattle.cs_base.specs.declared.change.Mode.{Mode}
use Rattle.cs_base.specs.declared.change.Mode.TheVariants.{Full}
use Rattle.cs_base.specs.declared.member.Member.{Member}
use Rattle.cs_core.specs.Node.{Following as Membership}
use Rattle.cs_link.specs.Maps.{ById}
use Rattle.cs_link.specs.Sent.{Datagram}
use Rattle.cs_link.specs.declared.link.Link.{Ghosts as LinkGhosts}
use Rattle.cs_log.specs.Frames.{framed}
use Rattle.cs_log.specs.declared.log.Log.{Ghosts as LogGhosts}
use Rattle.cs_log.proofs.Torn.{nothing_is_torn}
use Rattle.cs_node.specs.Appending.{entry_frame}
use Rattle.cs_node.specs.Effects.{on_bytes}
use Rattle.cs_node.specs.Placed.{Placed}
use Rattle.cs_node.specs.declared.effects.Effects.{Effects}
use Rattle.cs_node.specs.declared.folding.Folded.{Folded}
use Rattle.cs_node.specs.declared.folding.Folded.TheVariants.{Gives}
use Rattle.cs_node.specs.declared.node.Node.{Node}
use Rattle.cs_node.specs.declared.node.Node.TheVariants as nodes
use Rattle.cs_packet.specs.BootField.{IsLedBy}
use Rattle.cs_packet.specs.EntryField.{IsEntry, entry_bytes}
use Rattle.cs_packet.specs.declared.entry.Entry.{Entry}
use Rattle.cs_packet.specs.declared.own.Own.{Own}
use Rattle.cs_script.specs.declared.event.Event.{Event}
use Rattle.cs_script.specs.declared.event.Event.TheVariants as events
use Rattle.cs_show.specs.Text.{ended, text_of}
use Rattle.cs_world.specs.Alone.{Alone, OneNode, given_by, if_named, log_of, nobody, node_named, starting}
use Rattle.cs_world.specs.AloneEvents.{AfterAlone, acts, called, came_back, carried_out, closes, closes_if, crashed, does, does_if}
use Rattle.cs_world.specs.AloneEvents.{happens_alone, own_of, receives, receives_if, restarted_as, says, starts, torn_write, unless_refused}
use Rattle.cs_world.specs.AloneEvents.{unless_torn}
use Rattle.cs_world.specs.AloneStands.{AnswersAlone, AnswersSingle, AreAlone, IsAlone, IsLogAlone, IsOneIf, IsOneNode}
use Rattle.cs_world.specs.AloneStands.{IsTrafficAlone, KeepsSent}
use Rattle.cs_world.specs.Calls.{effects_at, refused, refused_by_follower}
use Rattle.cs_world.specs.Desk.{AreKept}
use Rattle.cs_world.specs.Events.{action_for}
use Rattle.cs_world.specs.Processes.{Parts, parts_in}
use Rattle.cs_world.specs.Seats.{parts_at, place_at, seats_of, state_at, state_under}
use Rattle.cs_world.specs.Starting.{StartsAs, boot_entry}
use Rattle.cs_world.specs.declared.action.Action.{Action}
use Rattle.cs_world.specs.declared.action.Action.TheVariants as actions
use Rattle.cs_world.specs.declared.call.Call.{Call}
use Rattle.cs_world.specs.declared.call.Call.TheVariants as calls
use Rattle.cs_world.specs.declared.call.Refusal.{Refusal}
use Rattle.cs_world.specs.declared.fault.WorldFault.{WorldFault}
use Rattle.cs_world.specs.declared.fault.WorldFault.TheVariants as faults
use Rattle.cs_world.specs.declared.home.Home.{Home}
use Rattle.cs_world.specs.declared.nodes.Nodes.{Nodes}
use Rattle.cs_world.specs.declared.seats.Seats.{Seats}
use Rattle.cs_world.proofs.AloneAnswers.{line-told}
use Rattle.cs_world.proofs.Answering.{TellsLine}
use Rattle.cs_world.proofs.AloneNodes.{named-itself, named-node, none-alone, one-under}
use Rattle.cs_world.proofs.HandedBack.{kept-log, kept-sent}

-- ---- actions

-- what is done as one action is done as what equals it
acts-moved : (alone : Alone) (q : ℕ) (a : Action) (id : ℕ) (action : Action) → ◌≡◌ {A = Option (ℕ × Action)} (Some (q, a)) (Some (id, action))
    → acts alone q a ≡ acts alone id action
acts-moved alone q a id action is = ap (λ (x : ℕ × Action). acts alone x.0 x.1) (same_Some (q, a) (id, action) is)

-- an event that is an action on a node is done
pub event-does : (alone : Alone) (event : Event) (id : ℕ) (action : Action) → action_for event ≡ Some (id, action)
    → happens_alone alone event ≡ acts alone id action
event-does alone (events.Join q) id action is = acts-moved alone q (actions.Call calls.Join) id action is
event-does alone (events.Leave q) id action is = acts-moved alone q (actions.Call calls.Leave) id action is
event-does alone (events.Flush q) id action is = acts-moved alone q (actions.Call calls.Flush) id action is
event-does alone (events.Move q at) id action is = acts-moved alone q (actions.Call (calls.Move at)) id action is
event-does alone (events.Need q to region) id action is = acts-moved alone q (actions.Call (calls.Need to region)) id action is
event-does alone (events.Crash q) id action is = acts-moved alone q actions.Crash id action is
event-does alone (events.Restart q) id action is = acts-moved alone q actions.Restart id action is
event-does alone (events.Tear q b) id action is = acts-moved alone q (actions.Arm b) id action is
event-does alone event id action is = absurd (none-some (id, action) is)

-- ---- what stays

-- who leads stays at an action
abbrev Stays : Alone → AfterAlone → Type 0
Stays alone after = after.alone.home ≡ alone.home

carried-stays : (alone : Alone) (n : OneNode) (node : Node) (effects : Effects) → Stays alone (carried_out alone n node effects)
carried-stays alone n node effects = go (torn_write effects.entry n.armed)
  where
    go : (o : Option (Entry × ℕ)) → Stays alone (unless_torn alone n node effects o)
    go None = refl
    go (Some tear) = refl

called-stays : (alone : Alone) (n : OneNode) (call : Call) (o : Option Node) → Stays alone (called alone n call o)
called-stays alone n call None = refl
called-stays alone n call (Some node) = go (refused node call)
  where
    go : (o : Option Refusal) → Stays alone (unless_refused alone n node call o)
    go None = carried-stays alone n node (effects_at node call)
    go (Some refusal) = refl

back-stays : (alone : Alone) (n : OneNode) (folded : Folded) → Stays alone (came_back alone n folded)
back-stays alone n (Gives node) = refl
back-stays alone n folded = refl

does-stays : (alone : Alone) (action : Action) (n : OneNode) → Stays alone (does alone action n)
does-stays alone (actions.Call call) n = called-stays alone n call n.node
does-stays alone actions.Crash n = go n.node
  where
    go : (o : Option Node) → Stays alone (crashed alone n o)
    go None = refl
    go (Some node) = refl
does-stays alone actions.Restart n = go n.node
  where
    go : (o : Option Node) → Stays alone (restarted_as alone n o)
    go None = back-stays alone n (given_by n)
    go (Some node) = refl
does-stays alone (actions.Arm b) n = refl

pub acts-stays : (alone : Alone) (id : ℕ) (action : Action) → Stays alone (acts alone id action)
acts-stays alone id action = go (node_named alone id)
  where
    go : (o : Option OneNode) → Stays alone (does_if alone action o)
    go None = refl
    go (Some n) = does-stays alone action n

-- ---- bytes, and a close

-- without a seat there is no state
pub state-empty : {S : Type 0} (seats : Seats S) (id : ℕ) → seats.items.items ≡ [] → state_at seats id ≡ None
state-empty seats id empty =
    ap (λ items. option_and_then (state_under id) (option_and_then (slice_get items) (place_at seats id))) empty ∙ go (place_at seats id)
  where
    go : {S : Type 0} (o : Option ℕ) → option_and_then (state_under {S = S} id) (option_and_then (slice_get []) o) ≡ None
    go None = refl
    go (Some place) = refl

-- every node that is up takes bytes
takes-bytes : (node : Node) (bytes : Bor (List ℕ)) → refused node (calls.Deliver bytes) ≡ None
takes-bytes (nodes.Follower f) bytes = go f.following
  where
    go : (o : Option Membership) → refused_by_follower o (calls.Deliver bytes) ≡ None
    go None = refl
    go (Some m) = refl
takes-bytes (nodes.Leader leader) bytes = refl
takes-bytes nodes.Left bytes = refl

-- bytes that come are an action on the node
pub receives-acts : (alone : Alone) (bytes : List ℕ) (call : Bor (List ℕ)) → call.now ≡ bytes → (id : ℕ)
    → receives_if alone bytes (node_named alone id) ≡ acts alone id (actions.Call (calls.Deliver call))
receives-acts alone bytes call same id = go (node_named alone id)
  where
    up : (n : OneNode) (o : Option Node) → receives alone bytes n o ≡ called alone n (calls.Deliver call) o
    up n None = refl
    up n (Some node) =
        ap (λ b. carried_out alone n node (on_bytes node b)) (sym same)
        ∙ ap (unless_refused alone n node (calls.Deliver call)) (sym (takes-bytes node call))

    go : (o : Option OneNode) → receives_if alone bytes o ≡ does_if alone (actions.Call (calls.Deliver call)) o
    go None = refl
    go (Some n) = up n n.node

module _ {L G : Type 0} (link : LinkGhosts L) (log : LogGhosts G) (code : Nodes L G) (alone : Alone)
    (are : AreAlone link log code alone) where
  -- the node that is there is the one node
  pub there-one : (id : ℕ) → IsSome (state_at code.seats id) → (n : OneNode) × (alone.node ≡ Some n) × (n.own.id ≡ id)
      × (parts : Parts) × (parts_at link log code.seats id ≡ Some parts) × IsOneNode n parts
  there-one id some = go (parts_at link log code.seats id) refl (mapped (state_at code.seats id) some)
    where
      mapped : (o : Option (Placed L G)) → IsSome o → IsSome (option_map (parts_in link log) o)
      mapped None none = none
      mapped (Some process) there = refl

      go : (o : Option Parts) → parts_at link log code.seats id ≡ o → IsSome (parts_at link log code.seats id)
          → (n : OneNode) × (alone.node ≡ Some n) × (n.own.id ≡ id) × (parts : Parts) × (parts_at link log code.seats id ≡ Some parts)
          × IsOneNode n parts
      go None is there = absurd (let e = subst IsSome is there in cc)
      go (Some parts) is there =
          let found = one-under (node_named alone id) (parts_at link log code.seats id) parts is (are.nodes id) in
          let named = named-node alone id found.0 found.1 in
          (found.0, named.0, named.1, parts, is, found.2)

  -- where the code has no seat, no node was started
  pub none-started : code.seats.items.items ≡ [] → alone.node ≡ None
  none-started empty = go alone.node refl
    where
      go : (o : Option OneNode) → alone.node ≡ o → alone.node ≡ None
      go None is = is
      go (Some n) is =
          let named : node_named alone n.own.id ≡ Some n = ap (option_and_then (if_named n.own.id)) is ∙ named-itself n in
          let gone : parts_at link log code.seats n.own.id ≡ None = ap (option_map (parts_in link log)) (state-empty code.seats n.own.id empty) in
          absurd (subst (IsOneIf (Some n)) gone (subst (λ o. IsOneIf o (parts_at link log code.seats n.own.id)) named (are.nodes n.own.id)))

  -- a node that isn't up closes nothing, nor does one that isn't there
  pub closes-none : code.seats.items.items ≡ [] → closes_if alone alone.node ≡ says alone (codes "no leader")
  closes-none empty = ap (closes_if alone) (none-started empty)

  pub closes-down : (id : ℕ) → IsSome (state_at code.seats id)
      → is_some (option_and_then (λ (p : Parts). p.node) (parts_at link log code.seats id)) ≡ false
      → closes_if alone alone.node ≡ says alone (codes "no leader")
  closes-down id some down =
      let there = there-one id some in
      let none : is_some there.0.node ≡ false =
      ap is_some (sym there.5.node) ∙ ap (λ o. is_some (option_and_then (λ (p : Parts). p.node) o)) (sym there.4) ∙ down in
      ap (closes_if alone) there.1 ∙ go there.0 there.0.node none
    where
      go : (n : OneNode) (o : Option Node) → is_some o ≡ false → closes alone n o ≡ says alone (codes "no leader")
      go n None is = refl
      go n (Some node) is = absurd (false≢true (sym is))

  -- one that is up does what it does at the call
  pub closes-up : (id : ℕ) → IsSome (state_at code.seats id)
      → is_some (option_and_then (λ (p : Parts). p.node) (parts_at link log code.seats id)) ≡ true
      → closes_if alone alone.node ≡ acts alone id (actions.Call calls.Close)
  closes-up id some up =
      let there = there-one id some in
      let n = there.0 in
      let some_node : is_some n.node ≡ true =
      ap is_some (sym there.5.node) ∙ ap (λ o. is_some (option_and_then (λ (p : Parts). p.node) o)) (sym there.4) ∙ up in
      let named : node_named alone id ≡ Some n =
      ap (node_named alone) (sym there.2) ∙ ap (option_and_then (if_named n.own.id)) there.1 ∙ named-itself n in
      ap (closes_if alone) there.1 ∙ go n n.node some_node ∙ sym (ap (does_if alone (actions.Call calls.Close)) named)
    where
      go : (n : OneNode) (o : Option Node) → is_some o ≡ true → closes alone n o ≡ called alone n calls.Close o
      go n None is = absurd (false≢true is)
      go n (Some node) is = refl

-- nodes without a seat, which have sent nothing, are nobody
pub nobody-there : {L G : Type 0} (link : LinkGhosts L) (log : LogGhosts G) (code : Nodes L G) → code.seats.items.items ≡ []
    → code.traffic.datagrams.items ≡ [] → code.traffic.bytes ≡ 0 → IsAlone link log None code nobody
nobody-there link log code empty datagrams bytes = record {
  home = refl;
  nodes = record {
    nodes = λ id. subst (IsOneIf None) (sym (ap (option_map (parts_in link log)) (state-empty code.seats id empty))) tt;
    traffic = record { datagrams = datagrams; bytes = bytes };
  };
}

-- ---- a node starts

-- a node at its start is what the definition says
starting-stands : (own : Own) (parts : Parts) → IsEntry (boot_entry own) → StartsAs own parts → IsOneNode (starting own) parts
starting-stands own parts formed starts_so = record {
  node = starts_so.node;
  link = record { sent = starts_so.sent; faults = starts_so.link_faults; taken = starts_so.taken; dry = starts_so.dry };
  log = record {
    bytes = subst (λ (wanted : List ℕ). IfSome parts.log.bytes (λ bytes. bytes ≡ wanted))
        (sym (append-nil (framed (entry_bytes (boot_entry own) ∷ [])) ∙ append-nil (entry_frame (boot_entry own)))) starts_so.bytes;
    own_faults = starts_so.own_faults;
    armed = starts_so.unarmed;
  };
  formed = record { entries = (formed, tt); torn = nothing_is_torn; whole = λ some. refl };
}

module _ {L G A : Type 0} (link : LinkGhosts L) (log : LogGhosts G) (code later : Nodes L G) (home now : Option Home) (alone : Alone)
    (is : IsAlone link log home code alone) (result : Result (String A) WorldFault) where
  -- a line that changes nothing in the code but who leads
  pub answers-says : (after : AfterAlone) (line : List ℕ) → after.lines ≡ line ∷ [] → now ≡ after.alone.home
      → AreAlone link log later after.alone → TellsLine result line → AnswersSingle link log now later after result
  answers-says after line lines home_is are tells =
      let told = line-told link log later result after line lines are tells in (
        IfOk-weaker result (λ text. (string_bytes text ≡ text_of after.lines) × AreAlone link log later after.alone)
            (λ text. (string_bytes text ≡ text_of after.lines) × IsAlone link log now later after.alone)
            (λ text both. (both.0, record { home = home_is; nodes = both.1 })) told.0,
        told.1,
      )

  -- an action
  pub answers-acts : (leads : AfterAlone) (id : ℕ) (action : Action) → leads ≡ acts alone id action → now ≡ home
      → AnswersAlone link log later (acts alone id action) result → AnswersSingle link log now later leads result
  answers-acts leads id action same home_is told =
      subst (λ after. AnswersSingle link log now later after result) (sym same) (
        IfOk-weaker result (λ text. (string_bytes text ≡ text_of (acts alone id action).lines) × AreAlone link log later (acts alone id action).alone)
            (λ text. (string_bytes text ≡ text_of (acts alone id action).lines) × IsAlone link log now later (acts alone id action).alone)
            (λ text both. (both.0, record { home = home_is ∙ is.home ∙ sym (acts-stays alone id action); nodes = both.1 })) told.0,
        told.1,
      )

  -- the seat of a node that was started, among those that were there
  abbrev pub IsStarted : Own → Type 0
  IsStarted own = (parts : Parts) × StartsAs own parts × ((id : ℕ)
      → parts_at link log later.seats id ≡ cond (own.id == id) (Some parts) (parts_at link log code.seats id))

  -- the node was started, or a fault came that is no limit
  pub answers-starts : (own : Own) → alone.node ≡ None → now ≡ home → IsEntry (boot_entry own)
      → later.traffic ≡ code.traffic → IfOk result (λ text. string_bytes text ≡ ended (codes "up " ++ decimal own.id))
      → (result ≡ Err faults.Limit → ⊥) → OnOk result (IsStarted own) → AnswersSingle link log now later (starts alone own) result
  answers-starts own none home_is formed traffic text unlimited started = go result text unlimited started
    where
      nodes-now : (parts : Parts) → StartsAs own parts
          → ((id : ℕ) → parts_at link log later.seats id ≡ cond (own.id == id) (Some parts) (parts_at link log code.seats id))
          → AreAlone link log later (starts alone own).alone
      nodes-now parts starts_so seen = record {
        nodes = λ id. by id (own.id == id) refl;
        traffic = subst (λ t. KeepsSent t []) (sym traffic)
            (subst (λ o. KeepsSent code.traffic (option_map_or (λ (n : OneNode). n.sent) o [])) none is.nodes.traffic);
      }
        where
          absent : (id : ℕ) → parts_at link log code.seats id ≡ None
          absent id =
              none-alone (node_named alone id) (parts_at link log code.seats id) (ap (option_and_then (if_named id)) none) (is.nodes.nodes id)

          by : (id : ℕ) (b : Bool) → (own.id == id) ≡ b → IsOneIf (cond b (Some (starting own)) None) (parts_at link log later.seats id)
          by id true here =
              subst (IsOneIf (Some (starting own)))
              (sym (seen id ∙ ap (λ b. cond b (Some parts) (parts_at link log code.seats id)) here)) (starting-stands own parts formed starts_so)
          by id false other =
              subst (IsOneIf None)
              (sym (seen id ∙ ap (λ b. cond b (Some parts) (parts_at link log code.seats id)) other ∙ absent id)) tt

      go : (r : Result (String A) WorldFault) → IfOk r (λ text. string_bytes text ≡ ended (codes "up " ++ decimal own.id))
          → (r ≡ Err faults.Limit → ⊥) → OnOk r (IsStarted own) → AnswersSingle link log now later (starts alone own) r
      go (Ok text) said none_so so = (
        (
          said ∙ sym (append-nil (ended (codes "up " ++ decimal own.id))),
          record { home = home_is ∙ is.home; nodes = nodes-now so.0 so.1 so.2 },
        ),
        tt,
      )
      go (Err faults.Limit) said none_so so = absurd (none_so refl)
      go (Err faults.Link) said none_so so = (tt, tt)
      go (Err faults.Log) said none_so so = (tt, tt)
      go (Err faults.Memory) said none_so so = (tt, tt)

-- ---- who a node is

-- one that leads itself
pub leads-itself : (me : Member) → IsLedBy (me.id == me.id) (own_of (record { id = me.id; addr = me.addr }) me Full)
leads-itself me =
    subst (λ b. IsLedBy b (own_of (record { id = me.id; addr = me.addr }) me Full)) (sym (eq-eqb me.id me.id refl)) (refl, refl, refl)

-- one under another
pub led-by : (home : Home) (me : Member) (mode : Mode) → (home.id == me.id) ≡ false → IsLedBy (me.id == home.id) (own_of home me mode)
led-by home me mode other =
    let apart : home.id ≢ me.id = λ same. false≢true (sym other ∙ eq-eqb home.id me.id same) in
    subst (λ b. IsLedBy b (own_of home me mode)) (sym (ne_eqb me.id home.id (λ same. apart (sym same)))) apart

-- whether a line said that this one leads
pub home-leads : (o : Option Home) (to : ℕ) (b : Bool) → MatchOption o (b ≡ false) (λ home. b ≡ (home.id == to))
    → b ≡ option_map_or (λ (home : Home). home.id == to) o false
home-leads None to b is = is
home-leads (Some home) to b is = is

-- what is there has a value
pub some-of : (o : Option ℕ) → is_some o ≡ true → (x : ℕ) × (o ≡ Some x)
some-of None is = absurd (false≢true is)
some-of (Some x) is = (x, refl)

-- an outcome is answered where its parts are those of a call that answers it
pub single-in : {L G A : Type 0} (link : LinkGhosts L) (log : LogGhosts G) (home told : Option Home) (code told_by : Nodes L G)
    (result call : Result (String A) WorldFault) (after outcome : AfterAlone) → home ≡ told → code ≡ told_by → result ≡ call → after ≡ outcome
    → AnswersSingle link log told told_by outcome call → AnswersSingle link log home code after result
single-in link log home told code told_by result call after outcome home_is same is leads answers =
    subst (λ h. AnswersSingle link log h code after result) (sym home_is)
    (subst (λ c. AnswersSingle link log told c after result) (sym same)
    (subst (λ r. AnswersSingle link log told told_by after r) (sym is)
    (subst (λ a. AnswersSingle link log told told_by a call) (sym leads) answers)))

-- what is left is for many nodes
pub never-alone : (alone : Alone) (event : Event) → action_for event ≡ None
    → ((id : ℕ) (addr : Address) → event ≡ events.Home id addr → ⊥)
    → ((id : ℕ) (addr : Address) (at : Axes) → event ≡ events.Lead id addr at → ⊥)
    → ((id : ℕ) (addr : Address) (at : Axes) (mode : Mode) → event ≡ events.Boot id addr at mode → ⊥)
    → (event ≡ events.Close → ⊥) → ((id to : ℕ) → event ≡ events.Ask id to → ⊥)
    → ((id : ℕ) (bytes : List ℕ) → event ≡ events.Packet id bytes → ⊥) → ((id : ℕ) → event ≡ events.Print id → ⊥)
    → happens_alone alone event ≡ says alone (codes "not here")
never-alone alone (events.Home id addr) none home lead boot close ask packet print = absurd (home id addr refl)
never-alone alone (events.Lead id addr at) none home lead boot close ask packet print = absurd (lead id addr at refl)
never-alone alone (events.Boot id addr at mode) none home lead boot close ask packet print = absurd (boot id addr at mode refl)
never-alone alone events.Close none home lead boot close ask packet print = absurd (close refl)
never-alone alone (events.Ask id to) none home lead boot close ask packet print = absurd (ask id to refl)
never-alone alone (events.Packet id bytes) none home lead boot close ask packet print = absurd (packet id bytes refl)
never-alone alone (events.Print id) none home lead boot close ask packet print = absurd (print id refl)
never-alone alone (events.Deliver number) none home lead boot close ask packet print = refl
never-alone alone (events.Lose number) none home lead boot close ask packet print = refl
never-alone alone (events.Settle most) none home lead boot close ask packet print = refl
never-alone alone (events.Noise id size) none home lead boot close ask packet print = refl
never-alone alone event none home lead boot close ask packet print = absurd (none-some _ (sym none))

-- ---- what a desk has once the link and the log were handed back

module _ {L G : Type 0} (link : LinkGhosts L) (log : LogGhosts G) (code : Nodes L G) (alone : Alone) (are : AreAlone link log code alone) where
  -- what the code has of the node
  one-there : (n : OneNode) → alone.node ≡ Some n → (parts : Parts) × (parts_at link log code.seats n.own.id ≡ Some parts) × IsOneNode n parts
  one-there n is = go (parts_at link log code.seats n.own.id) refl
    where
      named : node_named alone n.own.id ≡ Some n
      named = ap (option_and_then (if_named n.own.id)) is ∙ named-itself n

      here : IsOneIf (Some n) (parts_at link log code.seats n.own.id)
      here = subst (λ o. IsOneIf o (parts_at link log code.seats n.own.id)) named (are.nodes n.own.id)

      go : (o : Option Parts) → parts_at link log code.seats n.own.id ≡ o
          → (parts : Parts) × (parts_at link log code.seats n.own.id ≡ Some parts) × IsOneNode n parts
      go None gone = absurd (subst (IsOneIf (Some n)) gone here)
      go (Some parts) there = (parts, there, subst (IsOneIf (Some n)) there here)

  -- its log
  pub kept-one : (logs : ById (List ℕ)) → AreKept (λ seat. seat.parts.log.bytes) (seats_of link log code.seats) logs
      → ((store : G) → IsSome (log.bytes store)) → IsLogAlone alone logs
  kept-one logs kept tell n is =
      let there = one-there n is in
      kept-log link log code.seats n.own.id there.0 there.1 logs kept tell (log_of n) there.2.log.bytes

  -- and what it sent
  pub sent-one : (traffic : ById (List Datagram)) → AreKept (λ seat. seat.parts.link.sent) (seats_of link log code.seats) traffic
      → IsTrafficAlone alone traffic
  sent-one traffic kept n is =
      let there = one-there n is in
      kept-sent link log code.seats n.own.id there.0 there.1 traffic kept ∙ there.2.link.sent
