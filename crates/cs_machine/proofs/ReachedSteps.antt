-- A step of a node that fits the world keeps what every reached world has, and so do reports, snapshots and the calls of
-- members.
use Rattle.std.proofs.Common.{◌≡◌, ℕ, ◌+◌, ◌≤◌, ◌==◌, ltb, List, [], ◌∷◌, length, take, drop, Some}
use Rattle.std.proofs.Common.{refl, sym, ap, ◌∙◌, subst, arith, length-take}
use Rattle.std.specs.List.{AllByRecursion}
use Rattle.std.proofs.lemmas.Bool.{cond_both, eqb-false, ltb-false, or_parts}
use Rattle.cs_base.specs.Axes.{Axes, IsPoint}
use Rattle.cs_base.specs.Limits.{last_id, most_changes}
use Rattle.cs_base.specs.Ranges.{IsChange}
use Rattle.cs_base.specs.declared.change.Change.{Change}
use Rattle.cs_base.specs.declared.change.Change.TheVariants.{Join, Move, Leave}
use Rattle.cs_base.proofs.Elements.{All-drop, All-take, All-weaker}
use Rattle.cs_fields.specs.Changes.{IsChanges}
use Rattle.cs_item.specs.PictureField.{IsPicture}
use Rattle.cs_node.specs.declared.note.Note.{Note}
use Rattle.cs_node.specs.declared.note.Note.TheVariants as notes
use Rattle.cs_packet.specs.declared.own.Own.{Own}
use Rattle.cs_packet.specs.Own.{member_of_own}
use Rattle.cs_pending.specs.Counting.{all_offered}
use Rattle.cs_pending.specs.Pending.{after_offer, offer_of}
use Rattle.cs_pending.specs.Reportable.{CanBeReported}
use Rattle.cs_pending.proofs.Offers.{All-all_offered, IsPending-take}
use Rattle.cs_pending.proofs.Reportable.{reportable-all_offered, reportable-drop}
use Rattle.cs_machine.specs.Changes.{flush_step, is_reporter, join_step, kept_as, leave_step, move_step, pending_with, report_step, reporter, reports}
use Rattle.cs_machine.specs.Contents.{Contents, contents_of, group_of, items, view_at}
use Rattle.cs_machine.specs.Entries.{entries_of}
use Rattle.cs_machine.specs.Entries as entries
use Rattle.cs_machine.specs.Outcome.{after_step, commit, committed, sent_by, with_node}
use Rattle.cs_machine.specs.Names.{Report, State, Joining, Following, Leading, Left, Membership, Node, World, node_of}
use Rattle.cs_machine.specs.Reached.{AreAsked, AreRegionsOf, CanWait, IsAsked, IsLogged, IsReached, IsSent, IsStarted}
use Rattle.cs_machine.specs.Reached.{MemberFits, StateFits}
use Rattle.cs_machine.specs.Restoring.{lasting, resumed_by}
use Rattle.cs_machine.specs.Snapshots.{at_snapshot, is_old, jumps, snapshot_step, untold}
use Rattle.cs_machine.specs.Step.{Step, quiet}
use Rattle.cs_machine.proofs.Commits.{Appends-step, Follows-changed, items_by}
use Rattle.cs_machine.proofs.Follows.{Follows, IsSent-later, is-up}
use Rattle.cs_machine.proofs.Lasts.{AreHeld-none, CanWait-none, resumed_by-append}
use Rattle.cs_machine.proofs.Nodes.{id-found}
use Rattle.cs_machine.proofs.ReachedChanges.{HasState-quiet, Reaches, StepFits, WriteFits-quiet, commit-keeps, committed-keeps}
use Rattle.cs_machine.proofs.ReachedTargets.{IsNodeThere-leader, IsSent-to, IsThere, reporter-there}
use Rattle.cs_machine.proofs.Rises.{IsAtLeast-restored, RisesTo, rises-member}

-- a step of a node in a state, which adds no item: the state after it fits the world as it is, and so does its entry. It
-- makes of what lasts of the state what lasts of the next one, which is no earlier
pub record IsQuiet (world : World) (own : Own) (before : State) (step : Step) : Type 0 where
  pub no_items : items_by step ≡ []
  pub state : StateFits world own step.state
  pub entry : AllByRecursion (IsLogged world) (entries_of step.entry)
  pub lasts : lasting step.state ≡ resumed_by (contents_of world) own (lasting before) (entries_of step.entry)
  pub rises : RisesTo before step.state
  pub sends : AllByRecursion (IsSent world) (sent_by own.id step.sends)

module _ (world : World) (node : Node) (id : ℕ) (state : State) (step : Step) (reached : IsReached world) (there : node_of world id ≡ Some node)
    (is_up : node.state ≡ Some state) (is_quiet : IsQuiet world node.own state step) where
  -- the node is found by its own id
  found : node_of world node.own.id ≡ Some node
  found = subst (λ q. node_of world q ≡ Some node) (sym (id-found world id node there)) there

  -- the step fits
  pub StepFits-quiet : StepFits world node step
  StepFits-quiet =
      let is = reached.nodes id node there in
      let up = is-up world node state is is_up in
      let bare : World = with_node node.own.id (after_step step) world in
      let follows : Follows world bare = Follows-changed world node.own.id (after_step step) (entries_of step.entry) (Appends-step step) in
      record {
        whole = up.whole;
        writes = WriteFits-quiet world node reached found (entries_of step.entry) is_quiet.no_items is_quiet.entry;
        has = HasState-quiet world node reached found (entries_of step.entry) is_quiet.no_items step.state is_quiet.state
            (is_quiet.lasts ∙ (ap (λ s. resumed_by (contents_of world) node.own s (entries_of step.entry)) up.lasts
            ∙ sym (resumed_by-append (contents_of world) node.own Joining node.entries (entries_of step.entry))));
        rises = λ n at. is_quiet.rises n ((IsAtLeast-restored world node state is is_up).1 n at);
        sends = All-weaker (IsSent world) (IsSent bare) (IsSent-later world bare follows is.leader is.led)
            (sent_by node.own.id step.sends) is_quiet.sends;
      }

  -- so it keeps the laws, by whatever id the node is found
  pub quiet-keeps : Reaches world (committed world node step)
  quiet-keeps = committed-keeps world node step reached found StepFits-quiet

  -- and so it does where its write may be torn
  pub quiet-commits : Reaches world (commit world node step).world
  quiet-commits = commit-keeps world node step reached found StepFits-quiet

-- a step at which the node logs and sends nothing
pub IsQuiet-stays : (world : World) (own : Own) (state : State) (note : Note) → StateFits world own state
    → IsQuiet world own state (quiet state note)
IsQuiet-stays world own state note fits =
    record { no_items = refl; state = fits; entry = tt; lasts = refl; rises = λ n at. at; sends = tt }

-- a change alone is a report
IsChanges-one : (change : Change) → IsChange change → IsChanges 1 (change ∷ [])
IsChanges-one change allowed = record { enough = omega arith; few = omega arith; allowed = (allowed, tt); distinct = (tt, tt) }

-- and so are the first of some pending ones
IsChanges-front : (change : Change) (changes : List Change) → CanBeReported (change ∷ changes)
    → IsChanges 1 (take most_changes (change ∷ changes))
IsChanges-front change changes is = record {
  enough = omega (arith, length-take most_changes (change ∷ changes));
  few = omega (arith, length-take most_changes (change ∷ changes));
  allowed = All-take IsChange most_changes (change ∷ changes) is.changes;
  distinct = (IsPending-take most_changes (change ∷ changes) is.pending).distinct;
}

module _ (world : World) where
  -- ---- reports

  -- pending changes can wait with those that are offered
  pub CanWait-offered : (pending given : List Change) → CanWait world pending → AllByRecursion IsChange given → AreAsked world given
      → CanWait world (all_offered pending given).0
  CanWait-offered pending given can allowed asked = record {
    reportable = reportable-all_offered pending given can.reportable allowed;
    asked = All-all_offered (IsAsked world) pending given can.asked asked;
  }

  -- a member fits with other pending changes
  pub MemberFits-pending : (m : Membership) (pending : List Change) → MemberFits world m → CanWait world pending
      → MemberFits world (record m { pending = pending })
  MemberFits-pending m pending fits can = record {
    epoch = fits.epoch;
    known = fits.known;
    held = fits.held;
    used = fits.used;
    pending = can;
    seq = fits.seq;
    past = fits.past;
  }

  -- a report comes
  pub IsQuiet-report : (own : Own) (state : State) (given : List Change) → IsChanges 1 given → AreAsked world given → StateFits world own state
      → IsQuiet world own state (report_step state given)
  IsQuiet-report own Joining given are asked fits = IsQuiet-stays world own Joining notes.Idle tt
  IsQuiet-report own (Following m) given are asked fits = record {
    no_items = refl;
    state = MemberFits-pending m (all_offered m.pending given).0 fits (CanWait-offered m.pending given fits.pending are.allowed asked);
    entry = tt;
    lasts = refl;
    rises = λ n at. at;
    sends = tt;
  }
  IsQuiet-report own (Leading epoch pending) given are asked fits = record {
    no_items = refl;
    state = record { last = fits.last; leads = fits.leads; waiting = CanWait-offered pending given fits.waiting are.allowed asked };
    entry = tt;
    lasts = refl;
    rises = λ n at. at;
    sends = tt;
  }
  IsQuiet-report own Left given are asked fits = IsQuiet-stays world own Left notes.Departed tt

  -- ---- snapshots

  -- a member fits by its snapshot
  pub MemberFits-snapshot : (epoch : ℕ) (known : List ℕ) (pending : List Change) (seq : ℕ) → epoch ≤ length (items world)
      → AreRegionsOf (group_of world epoch) known → CanWait world pending → seq ≤ last_id → MemberFits world (at_snapshot epoch known pending seq)
  MemberFits-snapshot epoch known pending seq so_far are can few = record {
    epoch = so_far;
    known = are;
    held = AreHeld-none world epoch;
    used = record { later = λ some. absurd (some refl); regions = record { ascending = tt; there = tt } };
    pending = can;
    seq = few;
    past = tt;
  }

  -- a snapshot comes
  pub IsQuiet-snapshot : (own : Own) (state : State) (epoch : ℕ) (known : List ℕ) → epoch ≤ length (items world)
      → AreRegionsOf (group_of world epoch) known → IsPicture (view_at (contents_of world) epoch known) → StateFits world own state
      → IsQuiet world own state (snapshot_step state epoch known)
  IsQuiet-snapshot own Joining epoch known so_far are picture fits = record {
    no_items = refl;
    state = MemberFits-snapshot epoch known [] 0 so_far are (CanWait-none world) (omega arith);
    entry = (record { fits = (so_far, are); formed = picture }, tt);
    lasts = refl;
    rises = λ n at. omega (arith, at);
    sends = tt;
  }
  IsQuiet-snapshot own (Following m) epoch known so_far are picture fits =
      cond_both (is_old m epoch known) (quiet (Following m) (notes.Stale m.epoch epoch)) (jumps epoch known m.pending m.seq)
      (IsQuiet world own (Following m))
      (λ old. IsQuiet-stays world own (Following m) (notes.Stale m.epoch epoch) fits)
      (λ new. record {
        no_items = refl;
        state = MemberFits-snapshot epoch known m.pending m.seq so_far are fits.pending fits.seq;
        entry = (record { fits = (so_far, are); formed = picture }, tt);
        lasts = refl;
        rises = rises-member m (at_snapshot epoch known m.pending m.seq) (ltb-false epoch m.epoch (or_parts (ltb epoch m.epoch) _ new).0);
        sends = tt;
      })
  IsQuiet-snapshot own (Leading have pending) epoch known so_far are picture fits =
      IsQuiet-stays world own (Leading have pending) (untold have epoch) fits
  IsQuiet-snapshot own Left epoch known so_far are picture fits = IsQuiet-stays world own Left notes.Departed tt

-- ---- calls

module _ (world : World) (reached : IsReached world) (node : Node) (is : IsStarted world node) where
  abbrev own : Own
  own = node.own

  abbrev c : Contents
  c = contents_of world

  -- the leader is there, under the id that the node knows
  leader-there : IsThere world reached own.leader
  leader-there = (let there = IsNodeThere-leader world reached node is in (there.node, there.found))

  -- a report to a node that is there is sent
  sent-report : (to : ℕ) (given : List Change) → IsThere world reached to → IsChanges 1 given → AreAsked world given
      → IsSent world (record { from = own.id; to = to; name = Report given })
  sent-report to given there are asked =
      IsSent-to world reached own.id to (Report given) there.0 is.allowed.id there.1 (are, asked) are

  -- a joining node asks the leader to let it in
  pub IsQuiet-join : node_of world own.id ≡ Some node → IsQuiet world own Joining (join_step own)
  IsQuiet-join found =
      let asked : IsAsked world (Join (member_of_own own)) = record { node = node; found = found; same = refl } in
      record {
        no_items = refl;
        state = tt;
        entry = tt;
        lasts = refl;
        rises = λ n at. at;
        sends = (
          sent-report own.leader (Join (member_of_own own) ∷ []) leader-there (IsChanges-one (Join (member_of_own own)) is.allowed) (asked, tt),
          tt,
        );
      }

  module _ (m : Membership) (fits : MemberFits world m) where
    -- a member's own change can wait with its pending ones
    own-waits : (change : Change) → IsChange change → IsAsked world change → CanWait world (pending_with c own m change)
    own-waits change allowed asked =
        cond_both (is_reporter c own m) (after_offer (offer_of m.pending change) m.pending change) m.pending (CanWait world)
        (λ _. CanWait-offered world m.pending (change ∷ []) fits.pending (allowed, tt) (asked, tt)) (λ _. fits.pending)

    -- or it goes to a node that is there
    own-reports : (change : Change) → IsChange change → IsAsked world change
        → AllByRecursion (IsSent world) (sent_by own.id (reports c own m change))
    own-reports change allowed asked =
        cond_both (is_reporter c own m) [] ((reporter c own m, Report (change ∷ [])) ∷ [])
        (λ sends. AllByRecursion (IsSent world) (sent_by own.id sends)) (λ _. tt)
        (λ _. (
          sent-report (reporter c own m) (change ∷ []) (reporter-there world reached own m.epoch m.known leader-there)
              (IsChanges-one change allowed) (asked, tt),
          tt,
        ))

    -- the member moves
    pub IsQuiet-move : (at : Axes) → IsPoint at → IsQuiet world own (Following m) (move_step c own at m)
    IsQuiet-move at point =
        let change : Change = Move own.id (m.seq + 1) at in
        let after : Step = record {
          state = Following (record m { pending = pending_with c own m change; seq = m.seq + 1 });
          entry = Some (entries.Seq (m.seq + 1) at);
          note = notes.Moved (m.seq + 1) (kept_as c own m change);
          sends = reports c own m change;
        } in
        cond_both (m.seq == last_id) (quiet (Following m) notes.SeqSpent) after (IsQuiet world own (Following m))
        (λ _. IsQuiet-stays world own (Following m) notes.SeqSpent fits)
        (λ left.
        let other = eqb-false m.seq last_id left in
        let few = fits.seq in
        let next : m.seq + 1 ≤ last_id = omega (arith, other, few) in
        let allowed : IsChange change = (is.allowed.id, (omega arith, next), point) in
        record {
          no_items = refl;
          state = record {
            epoch = fits.epoch;
            known = fits.known;
            held = fits.held;
            used = fits.used;
            pending = own-waits change allowed allowed;
            seq = next;
            past = fits.past;
          };
          entry = (record { fits = tt; formed = (allowed.1, point) }, tt);
          lasts = refl;
          rises = λ n at. at;
          sends = own-reports change allowed allowed;
        })

    -- the member wants to leave
    pub IsQuiet-leave : IsQuiet world own (Following m) (leave_step c own m)
    IsQuiet-leave =
        let change : Change = Leave own.id in
        record {
          no_items = refl;
          state = MemberFits-pending world m (pending_with c own m change) fits (own-waits change is.allowed.id is.allowed.id);
          entry = tt;
          lasts = refl;
          rises = λ n at. at;
          sends = own-reports change is.allowed.id is.allowed.id;
        }

    -- its pending changes go to the leader
    pub IsQuiet-flush : (pending : List Change) → CanWait world pending → IsQuiet world own (Following m) (flush_step own m pending)
    IsQuiet-flush [] can = IsQuiet-stays world own (Following m) notes.Nothing fits
    IsQuiet-flush (change ∷ changes) can =
        let all : List Change = change ∷ changes in
        let front : List Change = take most_changes all in
        let rest : List Change = drop most_changes all in
        record {
          no_items = refl;
          state = MemberFits-pending world m rest fits (record {
            reportable = reportable-drop most_changes all can.reportable;
            asked = All-drop (IsAsked world) most_changes all can.asked;
          });
          entry = tt;
          lasts = refl;
          rises = λ n at. at;
          sends = (
            sent-report own.leader front leader-there
                (IsChanges-front change changes can.reportable)
                (All-take (IsAsked world) most_changes all can.asked),
            tt,
          );
        }
