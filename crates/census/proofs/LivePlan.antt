-- How far a live run has come in its plan.
use Rattle.std.proofs.Common.{◌≡◌, ℕ, ◌+◌, ◌<◌, false, List, [], ◌∷◌, ◌++◌, length, get_or, drop, map, sum, Option, Result, Ok, Err, OnOk}
use Rattle.std.proofs.Common.{refl, ap, sym, subst, ◌∙◌, append_assoc, append-nil, arith}
use Rattle.std.specs.Prelude.{IfErr, IsSome}
use Rattle.std.specs.List.{AllByRecursion, range_with_len}
use Rattle.std.proofs.lemmas.List.Sums.{sum_by_push}
use Rattle.cs_base.specs.Ranges.{IsFromTo}
use Rattle.cs_base.proofs.Elements.{All-append, All-drop, All-map}
use Rattle.cs_drill.specs.Plan.{booted, each, live_close, live_ends, live_joins, live_plan, live_starts}
use Rattle.cs_drill.specs.Schedule.{asked, others}
use Rattle.cs_drill.specs.declared.plan.Planned.{Planned}
use Rattle.cs_drill.specs.declared.plan.Planned.TheVariants as planned
use Rattle.cs_machine.specs.Names.{World, empty_world, node_of}
use Rattle.cs_script.specs.Event.{IsEvent}
use Rattle.cs_script.specs.declared.event.Event.{Event}
use Rattle.cs_script.specs.declared.event.Event.TheVariants as events
use Rattle.census.specs.declared.status.Status.{Status}
use Rattle.census.specs.declared.status.Status.TheVariants.{Done, Memory}
use Rattle.census.specs.Drilled.{world_behind}
use Rattle.census.specs.Lived.{AreOfPolls, AreReceipts, AreReceived, AreTold, IsFrontIn, IsFrontOf, Lives, StopsIn, WritesLife}
use Rattle.census.specs.Lived.{dry_in_poll, dry_in_polls, lived, passes_by, told_events}
use Rattle.census.specs.Restarts.{brings_back}
use Rattle.census.specs.Run.{IsLineStop, status_in}
use Rattle.census.specs.Streams.{Appends}
use Rattle.census.proofs.Drills.{first-left}
use Rattle.census.proofs.LiveStarts.{IsStarting, IsStarting-all, IsStarting-end, IsStarting-event, IsStarting-none, IsStarting-poll}
use Rattle.census.proofs.RunLemmas.{Appends-nothing}
use Rattle.census.proofs.ToldEvents.{AreTold-more, AreTold-none, StopsIn-behind, behind-append}

-- ---- fronts of a plan

-- polls that tell of nothing
abbrev silent_polls : List Planned → List (List Event)
silent_polls [] = []
silent_polls (planned.Event event ∷ more) = silent_polls more
silent_polls (planned.Poll ∷ more) = [] ∷ silent_polls more

-- those of a plan
silent-are : (plan : List Planned) → AreOfPolls plan (silent_polls plan)
silent-are [] = record { all = refl; receipts = tt }
silent-are (planned.Event event ∷ more) = let are = silent-are more in record { all = are.all; receipts = are.receipts }
silent-are (planned.Poll ∷ more) =
    let are = silent-are more in record { all = omega (arith, are.all); receipts = (tt, are.receipts) }

-- at first no event of a plan happens
pub IsFrontOf-none : (plan : List Planned) → IsFrontOf plan []
IsFrontOf-none plan = (silent_polls plan, silent-are plan, (lived plan (silent_polls plan), refl))

-- then its first event, or not
front-event : (event : Event) (left : List Planned) (told : List Event) → IsFrontIn (event ∷ []) told
    → IsFrontOf (planned.Event event ∷ left) told
front-event event left told (rest, is) =
    let are = silent-are left in
    let later = lived left (silent_polls left) in (
      silent_polls left,
      record { all = are.all; receipts = are.receipts },
      (rest ++ later, ap (λ l. l ++ later) is ∙ append_assoc told rest later),
    )

-- or what its first poll tells of
front-poll : (left : List Planned) (told : List Event) → AreReceipts told → IsFrontOf (planned.Poll ∷ left) told
front-poll left told are_receipts =
    let are = silent-are left in (
      told ∷ silent_polls left,
      record { all = omega (arith, are.all); receipts = (are_receipts, are.receipts) },
      (lived left (silent_polls left), refl),
    )

-- ---- how far a run has come

-- events and polls of a plan were told and some steps are left, of which the first start the nodes that aren't there
pub record IsOnPlan (StandsNow : World → Type 0) (IsThere : ℕ → Type 0) (HaveRisen : (came missed : ℕ) → Type 0) (nodes port : ℕ)
    (left : List Planned) (written : ℕ) (before now : Option (List ℕ)) : Type 0 where
  pub told : List Event
  pub polls : List (List Event)
  pub whole : (later : List (List Event)) → AreOfPolls left later → AreOfPolls (live_plan nodes port) (polls ++ later)
      × (lived (live_plan nodes port) (polls ++ later) ≡ told ++ lived left later)
  pub are : AreTold StandsNow 0 written empty_world told before now
  pub starting : IsStarting nodes port IsThere (world_behind empty_world told) left
  pub rose : HaveRisen (sum (map length polls)) (dry_in_polls nodes polls)

-- none was told
pub IsOnPlan-none : (StandsNow : World → Type 0) (IsThere : ℕ → Type 0) (HaveRisen : (came missed : ℕ) → Type 0) (nodes port written : ℕ)
    (before : Option (List ℕ)) → 0 < nodes → StandsNow empty_world → written ≡ 0 → HaveRisen 0 0
    → IsOnPlan StandsNow IsThere HaveRisen nodes port (live_plan nodes port) written before before
IsOnPlan-none StandsNow IsThere HaveRisen nodes port written before some stands none rose = record {
  told = [];
  polls = [];
  whole = λ later are. (are, refl);
  are = AreTold-none StandsNow 0 written empty_world before stands none;
  starting = IsStarting-none nodes port IsThere some;
  rose = rose;
}

-- one element more in a list of values
map-more : {X Y : Type 0} (f : X → Y) (xs : List X) (x : X) → map f (xs ++ x ∷ []) ≡ map f xs ++ f x ∷ []
map-more f [] x = refl
map-more f (y ∷ xs) x = ap (λ l. f y ∷ l) (map-more f xs x)

-- and in their sum
sum-more : {X : Type 0} (f : X → ℕ) (xs : List X) (x : X) → sum (map f (xs ++ x ∷ [])) ≡ sum (map f xs) + f x
sum-more f xs x = ap sum (map-more f xs x) ∙ sum_by_push (λ n. n) (map f xs) (f x)

module _ (nodes port : ℕ) (left : List Planned) (mid : ℕ) (StandsMid : World → Type 0) (WasThere : ℕ → Type 0)
    (HadRisen : (came missed : ℕ) → Type 0) (before between after : Option (List ℕ)) where
  -- what begins the steps that are left begins the plan behind what was told
  front-behind : (steps : List Planned) (so_far : IsOnPlan StandsMid WasThere HadRisen nodes port steps mid before between) (more : List Event)
      → IsFrontOf steps more → IsFrontOf (live_plan nodes port) (so_far.told ++ more)
  front-behind steps so_far more (later, are, (rest, is)) =
      let w = so_far.whole later are in (
        so_far.polls ++ later,
        w.0,
        (rest, w.1 ∙ ap (λ l. so_far.told ++ l) is ∙ sym (append_assoc so_far.told more rest)),
      )

  module _ (event : Event) (so_far : IsOnPlan StandsMid WasThere HadRisen nodes port (planned.Event event ∷ left) mid before between) where
    -- the next step is an event, which was told
    pub IsOnPlan-event : (StandsNow : World → Type 0) (IsThere : ℕ → Type 0) (HaveRisen : (came missed : ℕ) → Type 0) (new : ℕ)
        → ((id : ℕ) → WasThere id → IsThere id) → ((world : World) → StandsNow world → (id : ℕ) → IsSome (node_of world id) → IsThere id)
        → AreTold StandsNow mid new (world_behind empty_world so_far.told) (event ∷ []) between after
        → HaveRisen (sum (map length so_far.polls)) (dry_in_polls nodes so_far.polls)
        → IsOnPlan StandsNow IsThere HaveRisen nodes port left new before after
    IsOnPlan-event StandsNow IsThere HaveRisen new stay stood told rose = record {
      told = so_far.told ++ event ∷ [];
      polls = so_far.polls;
      whole = λ later are.
          let w = so_far.whole later (record { all = are.all; receipts = are.receipts }) in
          (w.0, w.1 ∙ sym (append_assoc so_far.told (event ∷ []) (lived left later)));
      are = AreTold-more 0 mid empty_world so_far.told StandsMid before between after so_far.are StandsNow new (event ∷ []) told;
      starting = subst (λ w. IsStarting nodes port IsThere w left) (sym (behind-append so_far.told (event ∷ []) empty_world))
          (IsStarting-event nodes port WasThere IsThere stay (world_behind empty_world so_far.told) event left so_far.starting
          (stood _ told.stands));
      rose = rose;
    }

    -- or ended the run
    pub IsOnPlan-event_stopped : (status : Status)
        → StopsIn (IsFrontIn (event ∷ [])) status mid (world_behind empty_world so_far.told) between after
        → StopsIn (IsFrontOf (live_plan nodes port)) status 0 empty_world before after
    IsOnPlan-event_stopped status stops =
        StopsIn-behind 0 mid empty_world so_far.told StandsMid before between after so_far.are (IsFrontIn (event ∷ []))
        (IsFrontOf (live_plan nodes port))
        (λ more front. front-behind (planned.Event event ∷ left) so_far more (front-event event left more front)) status stops

  module _ (so_far : IsOnPlan StandsMid WasThere HadRisen nodes port (planned.Poll ∷ left) mid before between) where
    -- the next step is a poll, and what came was told
    pub IsOnPlan-poll : (StandsNow : World → Type 0) (IsThere : ℕ → Type 0) (HaveRisen : (came missed : ℕ) → Type 0) (new came : ℕ)
        → ((id : ℕ) → WasThere id → IsThere id)
        → AreReceived StandsNow mid new (world_behind empty_world so_far.told) came between after
        → HaveRisen (sum (map length so_far.polls) + came) (dry_in_polls nodes so_far.polls + dry_in_poll nodes came)
        → IsOnPlan StandsNow IsThere HaveRisen nodes port left new before after
    IsOnPlan-poll StandsNow IsThere HaveRisen new came stay received rose = record {
      told = so_far.told ++ received.events;
      polls = so_far.polls ++ received.events ∷ [];
      whole = λ later are.
          let w = so_far.whole (received.events ∷ later)
          (record { all = omega (arith, are.all); receipts = (received.receipts, are.receipts) }) in
          let grouped = append_assoc so_far.polls (received.events ∷ []) later in (
            subst (AreOfPolls (live_plan nodes port)) (sym grouped) w.0,
            ap (lived (live_plan nodes port)) grouped ∙ w.1 ∙ sym (append_assoc so_far.told received.events (lived left later)),
          );
      are = AreTold-more 0 mid empty_world so_far.told StandsMid before between after so_far.are StandsNow new received.events received.told;
      starting = IsStarting-poll nodes port WasThere (world_behind empty_world so_far.told) left so_far.starting IsThere _ stay;
      rose =
          let some = sum-more length so_far.polls received.events ∙ ap (λ n. sum (map length so_far.polls) + n) received.count in
          let none = sum-more (λ (told : List Event). dry_in_poll nodes (length told)) so_far.polls received.events
          ∙ ap (λ n. dry_in_polls nodes so_far.polls + dry_in_poll nodes n) received.count in
          subst (λ n. HaveRisen n (dry_in_polls nodes (so_far.polls ++ received.events ∷ []))) (sym some)
          (subst (HaveRisen (sum (map length so_far.polls) + came)) (sym none) rose);
    }

    -- or one of them ended the run
    pub IsOnPlan-poll_stopped : (status : Status) → StopsIn AreReceipts status mid (world_behind empty_world so_far.told) between after
        → StopsIn (IsFrontOf (live_plan nodes port)) status 0 empty_world before after
    IsOnPlan-poll_stopped status stops =
        StopsIn-behind 0 mid empty_world so_far.told StandsMid before between after so_far.are AreReceipts (IsFrontOf (live_plan nodes port))
        (λ more are. front-behind (planned.Poll ∷ left) so_far more (front-poll left more are)) status stops

-- no step is left
pub IsOnPlan-all : (StandsNow : World → Type 0) (IsThere : ℕ → Type 0) (HaveRisen : (came missed : ℕ) → Type 0) (nodes port written : ℕ)
    (before now : Option (List ℕ)) → IsOnPlan StandsNow IsThere HaveRisen nodes port [] written before now
    → Lives nodes port before now HaveRisen
IsOnPlan-all StandsNow IsThere HaveRisen nodes port written before now on =
    let w = on.whole [] (record { all = refl; receipts = tt }) in
    let polls = append-nil on.polls in
    let same : on.told ≡ lived (live_plan nodes port) on.polls =
    sym (ap (lived (live_plan nodes port)) (sym polls) ∙ w.1 ∙ append-nil on.told) in
    record {
      polls = on.polls;
      told = subst (AreOfPolls (live_plan nodes port)) polls w.0;
      allowed = subst (AllByRecursion IsEvent) same on.are.allowed;
      within = ap (passes_by 0 empty_world) (sym same) ∙ on.are.within;
      text = subst (λ told. Appends before now (told_events empty_world told)) same on.are.text;
      counts = on.rose;
    }

-- all nodes are there where the next step is a poll
pub IsOnPlan-there : (StandsNow : World → Type 0) (IsThere : ℕ → Type 0) (HaveRisen : (came missed : ℕ) → Type 0) (nodes port written : ℕ)
    (left : List Planned) (before now : Option (List ℕ)) → IsOnPlan StandsNow IsThere HaveRisen nodes port (planned.Poll ∷ left) written before now
    → (id : ℕ) → IsFromTo 1 nodes id → IsThere id
IsOnPlan-there StandsNow IsThere HaveRisen nodes port written left before now on = IsStarting-all nodes port IsThere _ left on.starting

-- and where none is left
pub IsOnPlan-end : (StandsNow : World → Type 0) (IsThere : ℕ → Type 0) (HaveRisen : (came missed : ℕ) → Type 0) (nodes port written : ℕ)
    (before now : Option (List ℕ)) → IsOnPlan StandsNow IsThere HaveRisen nodes port [] written before now
    → (id : ℕ) → IsFromTo 1 nodes id → IsThere id
IsOnPlan-end StandsNow IsThere HaveRisen nodes port written before now on = IsStarting-end nodes port IsThere _ on.starting

-- ---- its events

-- the step brings no node back
abbrev IsQuietStep : Planned → Type 0
IsQuietStep (planned.Event event) = brings_back (Ok event) ≡ false
IsQuietStep planned.Poll = Unit {0}

-- so it is with all steps of the plan
quiet-plan : (nodes port : ℕ) → AllByRecursion IsQuietStep (live_plan nodes port)
quiet-plan nodes port =
    let starts : AllByRecursion IsQuietStep (live_starts nodes port) =
    (refl, All-map IsQuietStep (λ node. planned.Event (booted port node)) (λ node. refl) (others nodes)) in
    let joins = All-append IsQuietStep (each events.Join (others nodes)) (planned.Poll ∷ [])
    (All-map IsQuietStep (λ node. planned.Event (events.Join node)) (λ node. refl) (others nodes)) (tt, tt) in
    let prints = All-map IsQuietStep (λ node. planned.Event (events.Print node)) (λ node. refl) (range_with_len 1 nodes) in
    let ends = All-append IsQuietStep (each asked (others nodes)) (planned.Poll ∷ each events.Print (range_with_len 1 nodes))
    (All-map IsQuietStep (λ node. planned.Event (asked node)) (λ node. refl) (others nodes)) (tt, prints) in
    let front = live_starts nodes port ++ live_joins nodes in
    let all_fronts = All-append IsQuietStep (live_starts nodes port) (live_joins nodes) starts joins in
    let closes = All-append IsQuietStep front live_close all_fronts (refl, (tt, tt)) in
    All-append IsQuietStep (front ++ live_close ++ live_close) (live_ends nodes)
    (All-append IsQuietStep (front ++ live_close) live_close closes (refl, (tt, tt))) ends

-- the first of the steps that are left
pub step-left : (items all : List Planned) (i : ℕ) (step same : Planned) → items ≡ all → i < length items → step ≡ get_or items i step
    → step ≡ same → drop i all ≡ same ∷ drop (i + 1) all
step-left items all i step same is below at is_step =
    subst (λ l. drop i l ≡ same ∷ drop (i + 1) l) is
    (subst (λ s. drop i items ≡ s ∷ drop (i + 1) items) is_step (first-left items i step below at))

-- it brings no node back
pub step-quiet : (nodes port i : ℕ) (event : Event) → drop i (live_plan nodes port) ≡ planned.Event event ∷ drop (i + 1) (live_plan nodes port)
    → brings_back (Ok event) ≡ false
step-quiet nodes port i event next =
    (subst (AllByRecursion IsQuietStep) next (All-drop IsQuietStep i (live_plan nodes port) (quiet-plan nodes port))).0

-- ---- how it ends

-- memory ran out before anything was told
pub StopsIn-memory : (nodes port : ℕ) (before : Option (List ℕ))
    → StopsIn (IsFrontOf (live_plan nodes port)) Memory 0 empty_world before before
StopsIn-memory nodes port before =
    record { events = []; end = IsFrontOf-none (live_plan nodes port); allowed = tt; within = refl; text = Appends-nothing before }

-- an event or a poll stopped it
pub WritesLife-stopped : (status : Status) (nodes port : ℕ) (before after : Option (List ℕ)) (HaveRisen : (came missed : ℕ) → Type 0)
    → StopsIn (IsFrontOf (live_plan nodes port)) status 0 empty_world before after → WritesLife status nodes port before after HaveRisen
WritesLife-stopped Done nodes port before after HaveRisen stops = absurd stops.end
WritesLife-stopped status nodes port before after HaveRisen stops = stops

-- where it came to its end, other counts rose with those of its nodes
pub WritesLife-risen : {There : Type 0} (nodes port : ℕ) (before after : Option (List ℕ)) (HaveRisen RoseToo : (came missed : ℕ) → Type 0)
    (result : Result (Unit {0}) Status) (unwritten unlinked unlogged : Type 0) → OnOk result There
    → IfErr result (IsLineStop unwritten unlinked unlogged)
    → (There → (came missed : ℕ) → HaveRisen came missed → RoseToo came missed)
    → WritesLife (status_in result) nodes port before after HaveRisen → WritesLife (status_in result) nodes port before after RoseToo
WritesLife-risen nodes port before after HaveRisen RoseToo (Ok done) unwritten unlinked unlogged there stop rises lives = record {
  polls = lives.polls;
  told = lives.told;
  allowed = lives.allowed;
  within = lives.within;
  text = lives.text;
  counts = rises there _ _ lives.counts;
}
WritesLife-risen nodes port before after HaveRisen RoseToo (Err Done) unwritten unlinked unlogged there stop rises life = absurd stop
WritesLife-risen nodes port before after HaveRisen RoseToo (Err status) unwritten unlinked unlogged there stop rises life = life
