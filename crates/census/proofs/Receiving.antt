-- What a world's nodes are once one of them received.
use Rattle.std.proofs.Common.{◌≡◌, ◌≢◌, ◌⊎◌, ℕ, ◌<◌, ◌≤◌, List, [], map, Option, Some, None, Result, Ok, Err, refl, ap, sym, subst, ◌∙◌, ⊎_elim, arith}
use Rattle.std.specs.Prelude.{◌↔◌, Contains, IsSome, is_some}
use Rattle.std.specs.Option.{option_map}
use Rattle.std.proofs.lemmas.Bool.{cases_eq}
use Rattle.cs_link.specs.Counts.{counted, last_count}
use Rattle.cs_link.specs.Received.{dry_after, taken_after}
use Rattle.cs_link.specs.declared.link.Link.{Ghosts as LinkGhosts}
use Rattle.cs_link.specs.declared.link.LinkFailed.{LinkFailed}
use Rattle.cs_log.specs.declared.log.Log.{Ghosts as LogGhosts}
use Rattle.cs_machine.specs.Names.{Node, World, node_of}
use Rattle.cs_node.specs.Placed.{Placed}
use Rattle.cs_script.specs.declared.event.Event.{Event}
use Rattle.cs_world.specs.Desk.{DeskTold, OnlyGrants}
use Rattle.cs_world.specs.Processes.{Parts, parts_in}
use Rattle.cs_world.specs.Receiving.{IsSaid, Receives, dry_of, taken_of}
use Rattle.cs_world.specs.Seats.{AreOut, Seated, ids_of, link_faults_of, parts_at, seated, seats_of, state_at}
use Rattle.cs_world.specs.Stands.{IsCounted, Stands, StandsIf}
use Rattle.cs_world.specs.declared.fault.WorldFault.{WorldFault}
use Rattle.cs_world.specs.declared.fault.WorldFault.TheVariants as faults
use Rattle.cs_world.specs.declared.nodes.Nodes.{Nodes}
use Rattle.census.specs.Lived.{FieldRose, NodesRose}

-- a count of datagrams is no more than its last value
pub taken-few : (seats : List Seated) → taken_of seats ≤ last_count
taken-few seats = omega arith

-- a field counts what nodes counted that had no seat before
pub FieldRose-nodes : {L G : Type 0} (link : LinkGhosts L) (log : LogGhosts G) (before now : Nodes L G) (old mid new : DeskTold)
    (came missed : ℕ) → before.seats.items.items ≡ [] → OnlyGrants old mid
    → new.taken ≡ counted mid.taken (taken_of (seats_of link log now.seats)) → new.dry ≡ counted mid.dry (dry_of (seats_of link log now.seats))
    → NodesRose link log before now came missed → FieldRose old new came missed
FieldRose-nodes link log before now old mid new came missed none grants taken dry rose =
    let none_taken = ap (λ items. taken_of (map (seated link log) items)) none in
    let none_dry = ap (λ items. dry_of (map (seated link log) items)) none in
    let same_taken = ap (λ (told : DeskTold). told.taken) grants.others in
    let same_dry = ap (λ (told : DeskTold). told.dry) grants.others in
    record {
      taken = omega (arith, rose.taken, none_taken, taken, same_taken);
      dry = omega (arith, rose.dry, none_dry, dry, same_dry);
    }

-- what is there is there in another form, and the other way round
form-there : {S T : Type 0} (f : S → T) (o : Option S) → IsSome o → IsSome (option_map f o)
form-there f None there = there
form-there f (Some x) there = there

there-by-form : {S T : Type 0} (f : S → T) (o : Option S) → IsSome (option_map f o) → IsSome o
there-by-form f None there = there
there-by-form f (Some x) there = there

-- who is there in a world is there in the code that stands for it
pub stands-there : {L G : Type 0} (link : LinkGhosts L) (log : LogGhosts G) (code : Nodes L G) (world : World) → Stands link log code world
    → (id : ℕ) → IsSome (node_of world id) → IsSome (state_at code.seats id)
stands-there link log code world stands id there =
    there-by-form (parts_in link log) (state_at code.seats id) (by_both (node_of world id) (parts_at link log code.seats id) (stands.nodes id) there)
  where
    by_both : (node : Option Node) (parts : Option Parts) → StandsIf world node parts → IsSome node → IsSome parts
    by_both None parts both there = absurd (cc)
    by_both (Some node) None both there = absurd both
    by_both (Some node) (Some parts) both there = refl

-- a link that failed counts it
pub failed-counts : (fault : WorldFault) (seats : List Seated) → fault ≡ faults.Link → IsCounted ⊥ seats fault → 0 < link_faults_of seats
failed-counts fault seats is counted =
    ⊎_elim (λ none. absurd none) (λ above. above) (subst (IsCounted ⊥ seats) is counted)

module _ {L G : Type 0} (link : LinkGhosts L) (log : LogGhosts G) (IsNamed : List ℕ → Event → Type 0) (id : ℕ) (buffer : List ℕ)
    (before now : Nodes L G) where
  -- what was counted by an answer
  abbrev TakenBy : Result (Option ℕ) LinkFailed → Type 0
  TakenBy answer = taken_of (seats_of link log now.seats) ≡ taken_after answer (taken_of (seats_of link log before.seats))

  abbrev DryBy : Result (Option ℕ) LinkFailed → Type 0
  DryBy answer = dry_of (seats_of link log now.seats) ≡ dry_after answer (dry_of (seats_of link log before.seats))

  -- one datagram came
  pub received-one : (event : Event) → Receives link log IsNamed id buffer (Ok (Some event)) before now → NodesRose link log before now 1 0
  received-one event r = by_answer r.answer r.said r.seats.taken r.seats.dry
    where
      by_answer : (answer : Result (Option ℕ) LinkFailed) → IsSaid IsNamed buffer answer (Ok (Some event)) → TakenBy answer → DryBy answer
          → NodesRose link log before now 1 0
      by_answer (Ok (Some n)) said taken dry = record { taken = taken; dry = omega (arith, dry) }
      by_answer (Ok None) said taken dry = absurd said
      by_answer (Err failed) said taken dry = absurd said

  -- nothing was waiting
  pub received-none : Receives link log IsNamed id buffer (Ok None) before now → NodesRose link log before now 0 1
  received-none r = by_answer r.answer r.said r.seats.taken r.seats.dry
    where
      by_answer : (answer : Result (Option ℕ) LinkFailed) → IsSaid IsNamed buffer answer (Ok None) → TakenBy answer → DryBy answer
          → NodesRose link log before now 0 1
      by_answer (Ok (Some n)) said taken dry = absurd said
      by_answer (Ok None) said taken dry = record { taken = omega (arith, taken); dry = omega (arith, dry) }
      by_answer (Err failed) said taken dry = absurd said

  module _ (result : Result (Option Event) WorldFault) (r : Receives link log IsNamed id buffer result before now) where
    -- who was there is there
    pub received-stay : (other : ℕ) → IsSome (state_at before.seats other) → IsSome (state_at now.seats other)
    received-stay other there =
        there-by-form (parts_in link log) (state_at now.seats other)
        (⊎_elim
        (λ same. let (old, new, was, is, changed) = r.seats.node in subst (λ i. IsSome (parts_at link log now.seats i)) (sym same) (ap is_some is))
        (λ differ. subst IsSome (sym (r.seats.others other differ)) (form-there (parts_in link log) (state_at before.seats other) there))
        (cases_eq other id))

    -- under the same ids
    pub received-out : (out : List ℕ) → AreOut out before.seats → AreOut out now.seats
    received-out out are = λ other. subst (λ ids. Contains out other ↔ Contains ids other) (sym r.seats.ids) (are other)
