-- What an action made of the one node, by its answer: it refused, crashed, was armed, came back or stayed down.
use Rattle.std.proofs.Common.{◌≡◌, ◌∙◌, inl, inr, ℕ, List, [], ◌∷◌, ◌++◌, Option, Some, None, IfSome, IsSome, codes, decimal, refl, sym, ap, subst}
use Rattle.std.specs.List.{AllByRecursion}
use Rattle.cs_base.proofs.Elements.{All-changed}
use Rattle.cs_log.specs.Frames.{Fits, framed}
use Rattle.cs_log.specs.Tears.{armed_number}
use Rattle.cs_log.proofs.Torn.{nothing_is_torn}
use Rattle.cs_node.specs.Folding.{FoldsTo}
use Rattle.cs_node.specs.Recovery.{AreWhole, Explains, IsLeft}
use Rattle.cs_node.specs.Told.{LogTold}
use Rattle.cs_node.specs.declared.folding.Folded.{Folded}
use Rattle.cs_node.specs.declared.folding.Folded.TheVariants.{Bad, Empty, Gives}
use Rattle.cs_node.specs.declared.node.Node.{Node}
use Rattle.cs_node.specs.declared.stopped.Why.{Why}
use Rattle.cs_node.specs.declared.stopped.Why.TheVariants as why
use Rattle.cs_node.proofs.Entered.{entry-fits}
use Rattle.cs_packet.specs.EntryField.{IsEntry, entry_bytes}
use Rattle.cs_world.specs.Actions.{BringsBack, CallsAs, CrashesAs, DoesAction, Recovers, RestartsAs, rearmed, tear_for}
use Rattle.cs_world.specs.Alone.{Alone, OneNode, given_by, log_of, payloads}
use Rattle.cs_world.specs.AloneEvents.{AfterAlone, back_word, becomes, called, came_back, crashed, does, restarted_as, says, unless_refused}
use Rattle.cs_world.specs.AloneStands.{IsFormed, IsOneNode, LinkIsOf, LogIsOf}
use Rattle.cs_world.specs.Calls.{refusal_word}
use Rattle.cs_world.specs.Happening.{CanBeTold}
use Rattle.cs_world.specs.Processes.{Parts}
use Rattle.cs_world.specs.declared.action.Action.{Action}
use Rattle.cs_world.specs.declared.action.Action.TheVariants as actions
use Rattle.cs_world.specs.declared.call.Answer.TheVariants.{Armed, Back, Down, Refused, Stopped}
use Rattle.cs_world.specs.declared.call.Call.{Call}
use Rattle.cs_world.specs.declared.call.Refusal.{Refusal}
use Rattle.cs_world.specs.declared.call.Refusal.TheVariants as refusals
use Rattle.cs_world.proofs.Acted.{armed-for, declines-or-performs, performs-alone, says as can-say}
use Rattle.cs_world.proofs.LogFrames.{folds-payloads, told-bytes, whole-payloads}

-- four bytes can say the length of each entry of a node that can be
pub entries-fit : (n : OneNode) → IsFormed n → AllByRecursion Fits (payloads n)
entries-fit n formed = All-changed IsEntry Fits entry_bytes entry-fits n.entries formed.entries

-- what waits for an append still does where it is armed anew
pub rearmed-same : (armed : Option ℕ) (log : LogTold) → log.tear ≡ tear_for armed → (rearmed log).tear ≡ tear_for armed
rearmed-same armed log is = ap (λ tear. tear_for (armed_number tear)) is ∙ ap tear_for (armed-for armed)

module _ (alone : Alone) (n : OneNode) (action : Action) (old new : Parts) (stood : IsOneNode n old) where
  -- ---- it refused

  -- what the code and the definition do then
  abbrev IsRefusedAs : Refusal → AfterAlone → Type 0
  IsRefusedAs refusal after = (new ≡ old) × (after ≡ says alone (refusal_word refusal))

  -- a refusal has its word
  word-of : (refusal said : Refusal) → Refused refusal ≡ Refused said → says alone (refusal_word said) ≡ says alone (refusal_word refusal)
  word-of refusal said same = (let one : said ≡ refusal = (let e = same in cc) in ap (λ r. says alone (refusal_word r)) one)

  -- a call
  call-refused : (call : Call) (refusal : Refusal) (o : Option Node) → n.node ≡ o → CallsAs o old call (Refused refusal) new
      → IsRefusedAs refusal (called alone n call o)
  call-refused call refusal None is down = (down.1, word-of refusal refusals.Down down.0)
  call-refused call refusal (Some node) is up = elim (declines-or-performs node old call (Refused refusal) new up) [
    | inl declines ↦ (
      declines.same ∙ ap {B = Parts} (λ m. record old { node = m }) (sym (stood.node ∙ is)),
      ap (unless_refused alone n node call) declines.is ∙ word-of refusal declines.refusal declines.answers,
    )
    | inr performs ↦ absurd (performs-alone node old call (Refused refusal) new performs)
  ]

  -- a crash
  crash-refused : (refusal : Refusal) (o : Option Node) → CrashesAs o old (Refused refusal) new → IsRefusedAs refusal (crashed alone n o)
  crash-refused refusal None down = (down.1, word-of refusal refusals.Down down.0)
  crash-refused refusal (Some node) up = absurd (let e = up.0 in cc)

  -- a restart
  restart-refused : (refusal : Refusal) (o : Option Node) → RestartsAs o old (Refused refusal) new
      → IsRefusedAs refusal (restarted_as alone n o)
  restart-refused refusal None down = absurd down.1
  restart-refused refusal (Some node) up = (up.1, word-of refusal refusals.Up up.0)

  -- so is any action
  pub refused-alone : (refusal : Refusal) → DoesAction old action (Refused refusal) new → IsRefusedAs refusal (does alone action n)
  refused-alone refusal acts = by action acts
    where
      by : (a : Action) → DoesAction old a (Refused refusal) new → IsRefusedAs refusal (does alone a n)
      by (actions.Call call) so =
          call-refused call refusal n.node refl (subst (λ o. CallsAs o old call (Refused refusal) new) stood.node so)
      by actions.Crash so = crash-refused refusal n.node (subst (λ o. CrashesAs o old (Refused refusal) new) stood.node so)
      by actions.Restart so = restart-refused refusal n.node (subst (λ o. RestartsAs o old (Refused refusal) new) stood.node so)
      by (actions.Arm b) so = absurd (let e = so.0 in cc)

  -- ---- it crashed

  -- the node is this one now, with a line
  abbrev Becomes : OneNode → List ℕ → AfterAlone → Type 0
  Becomes next line after = (after ≡ becomes alone next (line ∷ [])) × IsOneNode next new

  -- with nothing but its log and its link
  down-now : new ≡ record old { node = None } → IsOneNode (record n { node = None }) new
  down-now same =
      subst (IsOneNode (record n { node = None })) (sym same) (record {
        node = refl;
        link = stood.link;
        log = stood.log;
        formed = record { entries = stood.formed.entries; torn = stood.formed.torn; whole = λ some. absurd (let e = some in cc) };
      })

  -- so it did where it says so
  pub crashed-alone : DoesAction old action Down new
      → Becomes (record n { node = None }) (codes "down " ++ decimal n.own.id) (does alone action n)
  crashed-alone acts = by action acts
    where
      go : (o : Option Node) → CrashesAs o old Down new
          → Becomes (record n { node = None }) (codes "down " ++ decimal n.own.id) (crashed alone n o)
      go None down = absurd (let e = down.0 in cc)
      go (Some node) up = (refl, down-now up.1)

      by : (a : Action) → DoesAction old a Down new → Becomes (record n { node = None }) (codes "down " ++ decimal n.own.id) (does alone a n)
      by (actions.Call call) so = absurd (can-say old (actions.Call call) Down new so)
      by actions.Crash so = go n.node (subst (λ o. CrashesAs o old Down new) stood.node so)
      by actions.Restart so = absurd (can-say old actions.Restart Down new so)
      by (actions.Arm b) so = absurd (can-say old (actions.Arm b) Down new so)

  -- ---- it was armed

  -- with this number
  armed-now : (b : ℕ) → new ≡ record old { log = record old.log { tear = tear_for (Some b) } } → IsOneNode (record n { armed = Some b }) new
  armed-now b same =
      subst (IsOneNode (record n { armed = Some b })) (sym same) (record {
        node = stood.node;
        link = stood.link;
        log = record { bytes = stood.log.bytes; own_faults = stood.log.own_faults; armed = refl };
        formed = record { entries = stood.formed.entries; torn = stood.formed.torn; whole = stood.formed.whole };
      })

  -- so it was where it says so
  pub armed-alone : (b : ℕ) → DoesAction old action (Armed b) new
      → Becomes (record n { armed = Some b }) (codes "armed " ++ decimal b) (does alone action n)
  armed-alone b acts = by action acts
    where
      by : (a : Action) → DoesAction old a (Armed b) new → Becomes (record n { armed = Some b }) (codes "armed " ++ decimal b) (does alone a n)
      by (actions.Call call) so = absurd (can-say old (actions.Call call) (Armed b) new so)
      by actions.Crash so = absurd (can-say old actions.Crash (Armed b) new so)
      by actions.Restart so = absurd (can-say old actions.Restart (Armed b) new so)
      by (actions.Arm c) so =
          let same : c ≡ b = (let e = so.0 in cc) in
          subst (λ d. Becomes (record n { armed = Some d }) (codes "armed " ++ decimal d) (does alone (actions.Arm c) n)) same
          (refl, armed-now c so.1)

  -- ---- it came back

  -- what the log gives, where it tells its bytes
  module _ (bytes : List ℕ) (told : old.log.bytes ≡ Some bytes) where
    -- they are those of the node's log
    bytes_are : bytes ≡ log_of n
    bytes_are = subst (λ o. IfSome o (λ b. b ≡ log_of n)) told stood.log.bytes

    -- so they give what its entries give
    given : (folded : Folded) → FoldsTo bytes folded → given_by n ≡ folded
    given folded folds =
        folds-payloads (payloads n) n.tail bytes (entries-fit n stood.formed) stood.formed.torn bytes_are folded folds

    -- a log that brings a node back leaves the node with it
    back-now : (node : Node) → new.node ≡ Some node → new.link ≡ old.link → BringsBack (rearmed old.log) node new.log
        → (given_by n ≡ Gives node) × IsOneNode (record n { node = Some node; tail = [] }) new
    back-now node up link brings =
        let whole : (w : List ℕ) × (new.log.bytes ≡ Some w) × AreWhole bytes w =
        subst (λ o. IfSome o (λ b. (w : List ℕ) × (new.log.bytes ≡ Some w) × AreWhole b w)) told brings.whole in
        let left = whole-payloads (payloads n) n.tail bytes (entries-fit n stood.formed) stood.formed.torn bytes_are whole.0 whole.2 in (
          given (Gives node) (subst (λ o. IfSome o (λ b. FoldsTo b (Gives node))) told brings.gives),
          record {
            node = up;
            link = subst (LinkIsOf n.sent) (sym link) stood.link;
            log = record {
              bytes = subst (λ o. IfSome o (λ b. b ≡ framed (payloads n) ++ [])) (sym whole.1) left;
              own_faults = brings.quiet.own_faults ∙ stood.log.own_faults;
              armed = brings.quiet.tear ∙ rearmed-same n.armed old.log stood.log.armed;
            };
            formed = record { entries = stood.formed.entries; torn = nothing_is_torn; whole = λ some. refl };
          },
        )

  -- the node that came back
  pub record CameBack : Type 0 where
    pub node : Node
    pub up : new.node ≡ Some node
    pub leads : does alone action n ≡ becomes alone (record n { node = Some node; tail = [] }) (back_word node ∷ [])
    pub stands : IsOneNode (record n { node = Some node; tail = [] }) new

  -- so it did where it says so
  pub back-alone : CanBeTold action (Some old) → DoesAction old action Back new → CameBack
  back-alone can acts = by action refl can acts
    where
      there : (o : Option Node) → new.node ≡ o → Recovers (rearmed old.log) Back o new.log
          → (node : Node) × (new.node ≡ Some node) × BringsBack (rearmed old.log) node new.log
      there None is none = absurd none
      there (Some node) is brings = (node, is, brings)

      go : (o : Option Node) → n.node ≡ o → action ≡ actions.Restart → IsSome old.log.bytes → RestartsAs o old Back new → CameBack
      go None is restarts some down =
          let back = there new.node refl down.1 in
          let told = told-bytes old.log.bytes some in
          let now = back-now told.0 told.1 back.0 back.1 down.0 back.2 in
          record {
            node = back.0;
            up = back.1;
            leads = ap (λ a. does alone a n) restarts ∙ ap (restarted_as alone n) is ∙ ap (came_back alone n) now.0;
            stands = now.1;
          }
      go (Some node) is restarts some up = absurd (let e = up.0 in cc)

      by : (a : Action) → action ≡ a → CanBeTold a (Some old) → DoesAction old a Back new → CameBack
      by (actions.Call call) is told so = absurd (can-say old (actions.Call call) Back new so)
      by actions.Crash is told so = absurd (can-say old actions.Crash Back new so)
      by actions.Restart is told so = go n.node refl is told (subst (λ o. RestartsAs o old Back new) stood.node so)
      by (actions.Arm b) is told so = absurd (can-say old (actions.Arm b) Back new so)

  -- ---- it stayed down

  -- with its log as it was, in which what is armed is armed anew
  pub down-still : n.node ≡ None → new.node ≡ None → new.link ≡ old.link → new.log ≡ rearmed old.log → IsOneNode n new
  down-still is none link log = record {
    node = none ∙ sym is;
    link = subst (LinkIsOf n.sent) (sym link) stood.link;
    log = subst (LogIsOf (log_of n) n.armed) (sym log) (record {
      bytes = stood.log.bytes;
      own_faults = stood.log.own_faults;
      armed = rearmed-same n.armed old.log stood.log.armed;
    });
    formed = stood.formed;
  }

  -- where its log gives no node
  pub stayed-alone : (reason : Why) → CanBeTold action (Some old) → DoesAction old action (Stopped reason) new
      → ((reason ≡ why.Log) → ⊥) → ((reason ≡ why.Memory) → ⊥)
      → (does alone action n ≡ says alone (codes "stopped log")) × IsOneNode n new
  stayed-alone reason can acts no_log no_memory = by action refl can acts
    where
      -- why it gives none
      explained : (bytes : List ℕ) → old.log.bytes ≡ Some bytes → (r : Why) → reason ≡ r → Explains r bytes → IsLeft r (rearmed old.log) new.log
          → (came_back alone n (given_by n) ≡ says alone (codes "stopped log")) × (new.log ≡ rearmed old.log)
      explained bytes told why.Log is explains left = absurd (no_log is)
      explained bytes told why.Memory is explains left = absurd (no_memory is)
      explained bytes told why.Empty is explains left = (ap (came_back alone n) (given bytes told Empty explains), left)
      explained bytes told (why.Bad place) is explains left = (ap (came_back alone n) (given bytes told (Bad place) explains), left)

      kept : (o : Option Node) → new.node ≡ o → Recovers (rearmed old.log) (Stopped reason) o new.log
          → (new.node ≡ None) × IfSome old.log.bytes (Explains reason) × IsLeft reason (rearmed old.log) new.log
      kept None is recovers = (is, recovers.0, recovers.1)
      kept (Some node) is none = absurd none

      go : (o : Option Node) → n.node ≡ o → action ≡ actions.Restart → IsSome old.log.bytes → RestartsAs o old (Stopped reason) new
          → (does alone action n ≡ says alone (codes "stopped log")) × IsOneNode n new
      go None is restarts some down =
          let told = told-bytes old.log.bytes some in
          let left = kept new.node refl down.1 in
          let why_so = explained told.0 told.1 reason refl (subst (λ o. IfSome o (Explains reason)) told.1 left.1) left.2 in (
            ap (λ a. does alone a n) restarts ∙ ap (restarted_as alone n) is ∙ why_so.0,
            down-still is left.0 down.0 why_so.1,
          )
      go (Some node) is restarts some up = absurd (let e = up.0 in cc)

      by : (a : Action) → action ≡ a → CanBeTold a (Some old) → DoesAction old a (Stopped reason) new
          → (does alone action n ≡ says alone (codes "stopped log")) × IsOneNode n new
      by (actions.Call call) is told so = absurd (can-say old (actions.Call call) (Stopped reason) new so)
      by actions.Crash is told so = absurd (can-say old actions.Crash (Stopped reason) new so)
      by actions.Restart is told so = go n.node refl is told (subst (λ o. RestartsAs o old (Stopped reason) new) stood.node so)
      by (actions.Arm b) is told so = absurd (can-say old (actions.Arm b) (Stopped reason) new so)
