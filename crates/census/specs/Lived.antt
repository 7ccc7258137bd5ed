-- What a live run tells: the events of its plan, and in the place of each poll those of the datagrams that came.
use Rattle.std.specs.Prelude.{◌≡◌, ℕ, ◌+◌, ◌≤◌, Bool, true, false, ◌||◌, nat_lt, List, [], ◌∷◌, ◌++◌}
use Rattle.std.specs.Prelude.{length, map, sum, Option, if◌then◌else◌}
use Rattle.std.specs.List.{AllByRecursion}
use Rattle.cs_drill.specs.Plan.{live_plan}
use Rattle.cs_drill.specs.declared.plan.Planned.{Planned}
use Rattle.cs_drill.specs.declared.plan.Planned.TheVariants as planned
use Rattle.cs_link.specs.Counts.{counted}
use Rattle.cs_link.specs.declared.link.Link.{Ghosts as LinkGhosts}
use Rattle.cs_log.specs.declared.log.Log.{Ghosts as LogGhosts}
use Rattle.cs_machine.specs.Happens.{happens}
use Rattle.cs_machine.specs.Names.{World, empty_world}
use Rattle.cs_script.specs.Event.{IsEvent}
use Rattle.cs_script.specs.Spelling.{spelling}
use Rattle.cs_script.specs.declared.event.Event.{Event}
use Rattle.cs_world.specs.Desk.{DeskTold}
use Rattle.cs_world.specs.Receiving.{IsReceipt, dry_of, taken_of}
use Rattle.cs_world.specs.Seats.{seats_of}
use Rattle.cs_world.specs.declared.nodes.Nodes.{Nodes}
use Rattle.census.specs.declared.status.Status.{Status}
use Rattle.census.specs.declared.status.Status.TheVariants.{Done, Limit, Link, Log, Memory, Write}
use Rattle.census.specs.Drilled.{world_behind}
use Rattle.census.specs.Run.{WritesFront, event_passes}
use Rattle.census.specs.Streams.{Appends}
use Rattle.census.specs.Systems.{Many, happens_in}
use Rattle.census.specs.Transcript.{Said, output, told}

-- ---- events that are told

-- an event with its line
abbrev pub said_of : Event → Said
said_of event = (spelling event, event)

-- what is written of an event that happens in a world
abbrev pub output_of : World → Event → List ℕ
output_of world event = output (spelling event) (happens_in (Many world) event)

-- and of events, one after the other
abbrev pub told_events : World → List Event → List ℕ
told_events world events = told (Many world) (map said_of events)

-- where so many bytes are written, an event goes beyond a limit
abbrev pub passes_with : ℕ → World → Event → Bool
passes_with written world event = event_passes written (spelling event) (happens_in (Many world) event)

-- and one of some events does
abbrev pub passes_by : ℕ → World → List Event → Bool
passes_by written world [] = false
passes_by written world (event ∷ events) =
    passes_with written world event
    || passes_by (written + length (output_of world event)) (happens world event).world events

-- an event happened within the limits, and this is to be written: the code stands for the next world
pub record Happened (StandsNow : World → Type 0) (old new : ℕ) (world : World) (event : Event) (text : List ℕ) : Type 0
  where
    pub said : text ≡ output_of world event
    pub stands : StandsNow (happens world event).world
    pub written : new ≡ old + length (output_of world event)
    pub within : passes_with old world event ≡ false

-- events that lines can say happened in a world, where so many bytes were written, and were told within the limits: the
-- code stands for the world behind them
pub record AreTold (StandsNow : World → Type 0) (old new : ℕ) (world : World) (events : List Event)
    (before after : Option (List ℕ)) : Type 0 where
  pub allowed : AllByRecursion IsEvent events
  pub stands : StandsNow (world_behind world events)
  pub written : new ≡ old + length (told_events world events)
  pub within : passes_by old world events ≡ false
  pub text : Appends before after (told_events world events)

-- events of a kind ended with a status: at a limit the next one goes beyond it
abbrev pub EndIn : (AreSuch : List Event → Type 0) → Status → ℕ → World → List Event → Type 0
EndIn AreSuch Limit written world events =
    (next : Event) × AreSuch (events ++ next ∷ []) × (passes_by written world (events ++ next ∷ []) ≡ true)
EndIn AreSuch Write written world events = AreSuch events
EndIn AreSuch Link written world events = AreSuch events
EndIn AreSuch Log written world events = AreSuch events
EndIn AreSuch Memory written world events = AreSuch events
EndIn AreSuch status written world events = ⊥

-- the text was written, or a front of it where writing failed
abbrev pub WritesBy : Status → List ℕ → Option (List ℕ) → Option (List ℕ) → Type 0
WritesBy Write text before after = WritesFront text before after
WritesBy status text before after = Appends before after text

-- events of a kind were told within the limits, until they ended with a status
pub record StopsIn (AreSuch : List Event → Type 0) (status : Status) (written : ℕ) (world : World)
    (before after : Option (List ℕ)) : Type 0 where
  pub events : List Event
  pub end : EndIn AreSuch status written world events
  pub allowed : AllByRecursion IsEvent events
  pub within : passes_by written world events ≡ false
  pub text : WritesBy status (told_events world events) before after

-- ---- the plan

-- each of the events says that a datagram came
abbrev pub AreReceipts : List Event → Type 0
AreReceipts events = AllByRecursion IsReceipt events

-- these events are no others than the first of these
abbrev pub IsFrontIn : List Event → List Event → Type 0
IsFrontIn all events = (rest : List Event) × (all ≡ events ++ rest)

-- the events of a plan, with what each poll told in its place
abbrev pub lived : List Planned → List (List Event) → List Event
lived [] polls = []
lived (planned.Event event ∷ more) polls = event ∷ lived more polls
lived (planned.Poll ∷ more) [] = lived more []
lived (planned.Poll ∷ more) (first ∷ polls) = first ++ lived more polls

-- how many polls a plan has
abbrev pub polls_in : List Planned → ℕ
polls_in [] = 0
polls_in (planned.Event event ∷ more) = polls_in more
polls_in (planned.Poll ∷ more) = 1 + polls_in more

-- what its polls may have told: each told of datagrams that came, and of nothing else
pub record AreOfPolls (plan : List Planned) (polls : List (List Event)) : Type 0 where
  pub all : length polls ≡ polls_in plan
  pub receipts : AllByRecursion AreReceipts polls

-- the events of a run of the plan begin so
abbrev pub IsFrontOf : List Planned → List Event → Type 0
IsFrontOf plan events = (polls : List (List Event)) × AreOfPolls plan polls × IsFrontIn (lived plan polls) events

-- ---- what is received

-- datagrams that a pass takes from one link, and passes of one poll
abbrev pub most_taken : ℕ
most_taken = 64

abbrev pub most_passes : ℕ
most_passes = 64

-- how often nothing was waiting at a link, at least, where a pass took so many datagrams from it
abbrev pub dry_behind : ℕ → ℕ
dry_behind came = if nat_lt came most_taken then 1 else 0

-- at the first so many links, where a pass took so many from them
abbrev pub dry_in_pass : ℕ → ℕ → ℕ
dry_in_pass nodes came = if nat_lt 0 came then 0 else nodes

-- and where a poll did: with fewer datagrams than it has passes, it ends behind a pass that took nothing
abbrev pub dry_in_poll : ℕ → ℕ → ℕ
dry_in_poll nodes came = if nat_lt came most_passes then nodes else 0

-- at all polls
abbrev pub dry_in_polls : ℕ → List (List Event) → ℕ
dry_in_polls nodes polls = sum (map (λ told. dry_in_poll nodes (length told)) polls)

-- so many datagrams came, and each was told
pub record AreReceived (StandsNow : World → Type 0) (old new : ℕ) (world : World) (came : ℕ)
    (before after : Option (List ℕ)) : Type 0 where
  pub events : List Event
  pub receipts : AreReceipts events
  pub count : length events ≡ came
  pub told : AreTold StandsNow old new world events before after

-- two counts rose: the one by just so much, the other by at least so much
pub record Rose (taken_before taken_now dry_before dry_now : ℕ) (came missed : ℕ) : Type 0 where
  pub taken : taken_now ≡ counted taken_before came
  pub dry : counted dry_before missed ≤ dry_now

-- those of nodes: how many datagrams they received, and how often nothing was waiting
abbrev pub NodesRose : {L G : Type 0} → LinkGhosts L → LogGhosts G → (before now : Nodes L G) → (came missed : ℕ)
    → Type 0
NodesRose link log before now =
    Rose (taken_of (seats_of link log before.seats)) (taken_of (seats_of link log now.seats))
    (dry_of (seats_of link log before.seats)) (dry_of (seats_of link log now.seats))

-- those of a field
abbrev pub FieldRose : (before now : DeskTold) → (came missed : ℕ) → Type 0
FieldRose before now = Rose before.taken now.taken before.dry now.dry

-- ---- a whole run

-- a run of the plan came to its end: each event was told, with what the polls told in their places, and within the
-- limits; just so many datagrams were received; and for each poll with few of them nothing was waiting at least as
-- often as there are nodes, all links together
pub record Lives (nodes port : ℕ) (before after : Option (List ℕ)) (HaveRisen : (came missed : ℕ) → Type 0) : Type 0
  where
    pub polls : List (List Event)
    pub told : AreOfPolls (live_plan nodes port) polls
    pub allowed : AllByRecursion IsEvent (lived (live_plan nodes port) polls)
    pub within : passes_by 0 empty_world (lived (live_plan nodes port) polls) ≡ false
    pub text : Appends before after (told_events empty_world (lived (live_plan nodes port) polls))
    pub counts : HaveRisen (sum (map length polls)) (dry_in_polls nodes polls)

-- by the status: it came to its end; or a front of its events was told, and at a limit the next one passes it
abbrev pub WritesLife : Status → (nodes port : ℕ) → (before after : Option (List ℕ))
    → (HaveRisen : (came missed : ℕ) → Type 0) → Type 0
WritesLife Done nodes port before after HaveRisen = Lives nodes port before after HaveRisen
WritesLife status nodes port before after HaveRisen =
    StopsIn (IsFrontOf (live_plan nodes port)) status 0 empty_world before after
