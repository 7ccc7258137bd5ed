-- How a node starts: whose links and logs are out then, what its seat tells, and why it stopped, if it did.
use Rattle.std.proofs.Common.{◌≡◌, ◌∙◌, ◌↔◌, ◌||◌, ◌==◌, inl, inr, ℕ, ◌<◌, Bool, true, false, cond, eqb, List, [], ◌∷◌, ◌++◌, map, sum}
use Rattle.std.proofs.Common.{Option, None, Some, Result, Ok, Err, IfOk, IfErr, OnOk, IfSome, IsSome, Contains, length, refl, sym, ap, subst, arith}
use Rattle.std.proofs.lemmas.Cmp.{nat_eq_equiv}
use Rattle.std.specs.List.{list_any, slice_get}
use Rattle.std.specs.Option.{option_map}
use Rattle.std.proofs.lemmas.Bool.{eqb-true, false≢true}
use Rattle.std.proofs.lemmas.Bool.Decides.{nat_tests}
use Rattle.std.proofs.lemmas.List.{length-map, map-append}
use Rattle.std.proofs.lemmas.Map.Views.{Contains-from_any, list_any-from_Contains}
use Rattle.std.proofs.lemmas.Option.{get_or_from_slice_get, none-some, same_Some, slice_get-get_or, slice_get-map, slice_get_within}
use Rattle.cs_base.specs.Ascending.{placed_by}
use Rattle.cs_fields.proofs.Codec.{sum-append}
use Rattle.cs_link.specs.declared.link.Link.{Ghosts as LinkGhosts}
use Rattle.cs_link.specs.Received.{IsNothing}
use Rattle.cs_log.specs.Bytes.{appended}
use Rattle.cs_log.specs.declared.armed.Tear.{Tear}
use Rattle.cs_log.specs.declared.armed.Tear.TheVariants.{Nothing}
use Rattle.cs_log.specs.declared.log.Log.{Ghosts as LogGhosts}
use Rattle.cs_machine.proofs.Nodes.{list_any-push}
use Rattle.cs_node.specs.Appending.{FailsToKeep, IsLeftByArm, Keeps, entry_frame}
use Rattle.cs_node.specs.Booting.{HasNotBooted}
use Rattle.cs_node.specs.Placed.{Placed, running}
use Rattle.cs_node.specs.Told.{LogTold}
use Rattle.cs_node.specs.declared.node.Node.{Node}
use Rattle.cs_node.specs.declared.stopped.Why.{Why}
use Rattle.cs_node.specs.declared.stopped.Why.TheVariants as why
use Rattle.cs_packet.specs.declared.entry.Entry.{Entry}
use Rattle.cs_packet.specs.declared.own.Own.{Own}
use Rattle.cs_world.specs.Processes.{Parts, parts_in}
use Rattle.cs_world.specs.Seats.{AreOut, Seated, ids_of, log_faults_of, parts_at, place_at, seated, seats_of, state_at}
use Rattle.cs_world.specs.Stands.{IsCounted}
use Rattle.cs_world.specs.Starting.{StartsAs, boot_entry, start_fault, started_as}
use Rattle.cs_world.specs.declared.fault.WorldFault.{WorldFault}
use Rattle.cs_world.specs.declared.fault.WorldFault.TheVariants as faults
use Rattle.cs_world.specs.declared.seat.Seat.{Seat}
use Rattle.cs_world.specs.declared.seats.Seats.{Seats}
use Rattle.cs_world.proofs.Places.{not_seated, seat_of}

-- ---- which are out

-- two lists have the same elements where a search finds the same in both
same-elements : (xs ys : List ℕ) → ((q : ℕ) → list_any (eqb q) xs ≡ list_any (eqb q) ys) → (q : ℕ) → Contains xs q ↔ Contains ys q
same-elements xs ys same q = (
  λ has. Contains-from_any (λ x y is. eqb-true x y is) q ys (sym (same q) ∙ list_any-from_Contains nat_eq_equiv q xs has),
  λ has. Contains-from_any (λ x y is. eqb-true x y is) q xs (same q ∙ list_any-from_Contains nat_eq_equiv q ys has),
)

-- two tests that hold together are the same
same-tests : (a b : Bool) → (a ≡ true → b ≡ true) → (b ≡ true → a ≡ true) → a ≡ b
same-tests true b there back = sym (there refl)
same-tests false true there back = back refl
same-tests false false there back = refl

-- and a search finds the same in lists with the same elements
same-found : (xs ys : List ℕ) → ((q : ℕ) → Contains xs q ↔ Contains ys q) → (q : ℕ) → list_any (eqb q) xs ≡ list_any (eqb q) ys
same-found xs ys same q =
    same-tests (list_any (eqb q) xs) (list_any (eqb q) ys)
    (λ found. list_any-from_Contains nat_eq_equiv q ys ((same q).0 (Contains-from_any (λ x y is. eqb-true x y is) q xs found)))
    (λ found. list_any-from_Contains nat_eq_equiv q xs ((same q).1 (Contains-from_any (λ x y is. eqb-true x y is) q ys found)))

-- a test or none
or_false : (b : Bool) → (b || false) ≡ b
or_false true = refl
or_false false = refl

-- what is placed in a list is found in it, and all else as before
found-placed : (x q : ℕ) (xs : List ℕ) → list_any (eqb q) (placed_by (λ n. n) x xs) ≡ (list_any (eqb q) xs || eqb q x)
found-placed x q [] = or_false (eqb q x)
found-placed x q (y ∷ ys) = grind (arith, nat_tests, found-placed x q ys)

-- seats of the same nodes
pub out-same : {S : Type 0} (out next : List ℕ) (before now : Seats S) → next ≡ out → now.items.items ≡ before.items.items
    → AreOut out before → AreOut next now
out-same {S} out next before now stays items are q =
    subst (λ o. Contains o q ↔ Contains (ids_of now) q) (sym stays)
    (subst (λ (seats : List (Seat S)). Contains out q ↔ Contains (map (λ seat. seat.id) seats) q) (sym items) (are q))

-- and with one seat more, whose link and log are granted
pub out-more : {S : Type 0} (out next : List ℕ) (before now : Seats S) (id : ℕ) (state : S) → next ≡ placed_by (λ n. n) id out
    → now.items.items ≡ before.items.items ++ record { id = id; state = state } ∷ [] → AreOut out before → AreOut next now
out-more {S} out next before now id state placed items are =
    let ids : ids_of now ≡ ids_of before ++ id ∷ [] =
    ap (λ (seats : List (Seat S)). map (λ seat. seat.id) seats) items ∙ map-append (λ (seat : Seat S). seat.id) before.items.items _ in
    same-elements next (ids_of now) (λ q.
    ap (list_any (eqb q)) placed ∙ found-placed id q out ∙ ap (λ b. b || eqb q id) (same-found out (ids_of before) are q)
    ∙ sym (ap (list_any (eqb q)) ids ∙ list_any-push (eqb q) (ids_of before) id))

-- who isn't there has no seat
pub unseated : {S : Type 0} (seats : Seats S) (id : ℕ) → state_at seats id ≡ None → Contains (ids_of seats) id → ⊥
unseated seats id none has =
    not_seated seats.items.items (place_at seats) id has.0 seats.placed none
    (slice_get-get_or (ids_of seats) has.0 id has.1 ∙ ap (λ x. Some x) has.2)

-- ---- what its seat tells

module _ {L G : Type 0} (link : LinkGhosts L) (log : LogGhosts G) where
  -- the new one is found, and the others as before
  pub parts-pushed : (before mid now : Seats (Placed L G)) (id : ℕ) (state : Placed L G)
      → ((other : ℕ) → state_at mid other ≡ state_at before other)
      → ((other : ℕ) → state_at now other ≡ cond (id == other) (Some state) (state_at mid other))
      → (other : ℕ) → parts_at link log now other ≡ cond (id == other) (Some (parts_in link log state)) (parts_at link log before other)
  parts-pushed before mid now id state same pushed other =
      ap (option_map (parts_in link log)) (pushed other ∙ ap (cond (id == other) (Some state)) (same other)) ∙ go (id == other)
    where
      go : (b : Bool) → option_map (parts_in link log) (cond b (Some state) (state_at before other))
          ≡ cond b (Some (parts_in link log state)) (parts_at link log before other)
      go true = refl
      go false = refl

  -- a log of the seats failed by itself where that of the new one did
  pub faults-pushed : (before now : Seats (Placed L G)) (id : ℕ) (state : Placed L G)
      → now.items.items ≡ before.items.items ++ record { id = id; state = state } ∷ []
      → 0 < (parts_in link log state).log.own_faults → 0 < log_faults_of (seats_of link log now)
  faults-pushed before now id state items some =
      let faults = λ (seat : Seated). seat.parts.log.own_faults in
      let all : log_faults_of (seats_of link log now)
      ≡ sum (map faults (map (seated link log) before.items.items) ++ (parts_in link log state).log.own_faults ∷ []) =
      ap (λ (seats : List (Seat (Placed L G))). sum (map faults (map (seated link log) seats))) items
      ∙ ap (λ (seats : List Seated). sum (map faults seats)) (map-append (seated link log) before.items.items _)
      ∙ ap sum (map-append faults (map (seated link log) before.items.items) _) in
      let parts = sum-append (map faults (map (seated link log) before.items.items)) ((parts_in link log state).log.own_faults ∷ []) in
      omega (arith, all, parts)

-- a node that didn't stop is what it started as
started-node : (status : Result Node Why) (node : Node) → None ≡ start_fault status → IfOk status (λ n. n ≡ node) → status ≡ Ok node
started-node (Ok n) node fine is = ap (λ n. Ok n) is
started-node (Err why.Log) node fine is = absurd (none-some faults.Log fine)
started-node (Err (why.Bad at)) node fine is = absurd (none-some faults.Memory fine)
started-node (Err why.Empty) node fine is = absurd (none-some faults.Memory fine)
started-node (Err why.Memory) node fine is = absurd (none-some faults.Memory fine)

-- and what held where it didn't stop holds
started-so : (status : Result Node Why) (A : Type 0) → None ≡ start_fault status → OnOk status A → A
started-so (Ok n) A fine is = is
started-so (Err why.Log) A fine is = absurd (none-some faults.Log fine)
started-so (Err (why.Bad at)) A fine is = absurd (none-some faults.Memory fine)
started-so (Err why.Empty) A fine is = absurd (none-some faults.Memory fine)
started-so (Err why.Memory) A fine is = absurd (none-some faults.Memory fine)

-- a log that had nothing has the frame
first-frame : (before now : Option (List ℕ)) (frame : List ℕ) → IsNothing before → now ≡ appended before frame
    → IfSome now (λ bytes. bytes ≡ frame)
first-frame None now frame nothing is = subst (λ o. IfSome o (λ bytes. bytes ≡ frame)) (sym is) tt
first-frame (Some bytes) now frame nothing is =
    subst (λ o. IfSome o (λ bytes. bytes ≡ frame)) (sym is) (ap (λ (b : List ℕ). b ++ frame) nothing)

-- what holds holds where a call ended well
pub on-ok : {T E A : Type 0} (result : Result T E) → A → OnOk result A
on-ok (Ok x) holds = holds
on-ok (Err e) holds = tt

-- a node that started, with a new link and an empty log
pub starts-as : (own : Own) (status : Result Node Why) (parts : Parts) (before : LogTold) → None ≡ start_fault status
    → parts.node ≡ running status → IfOk status (λ node. node ≡ started_as own)
    → OnOk status (Keeps (entry_frame (boot_entry own)) before parts.log)
    → parts.link.sent ≡ Some [] → parts.link.faults ≡ 0 → parts.link.taken ≡ 0 → parts.link.dry ≡ 0
    → IsNothing before.bytes → before.own_faults ≡ 0 → StartsAs own parts
starts-as own status parts before fine up node keeps sent link_faults taken dry nothing own_faults =
    let kept = started-so status (Keeps (entry_frame (boot_entry own)) before parts.log) fine keeps in
    record {
      node = up ∙ ap running (started-node status (started_as own) fine node);
      sent = sent;
      link_faults = link_faults;
      taken = taken;
      dry = dry;
      bytes = first-frame before.bytes parts.log.bytes (entry_frame (boot_entry own)) nothing kept.bytes;
      own_faults = kept.own_faults ∙ own_faults;
      unarmed = kept.still;
    }

-- ---- why it stopped

-- a log that never failed before failed by itself, where nothing was armed
failed-itself : (frame : List ℕ) (before now : LogTold) → FailsToKeep frame before now → before.own_faults ≡ 0 → before.tear ≡ Nothing
    → 0 < now.own_faults
failed-itself frame before now fails none unarmed = elim fails.cause [
  | inl itself ↦ elim itself.risen [ inl more ↦ omega arith | inr most ↦ omega arith ]
  | inr armed ↦ absurd (subst (λ (tear : Tear). IsLeftByArm tear frame before.bytes now.bytes) unarmed armed.left)
]

-- so is it counted
pub stopped-counts : (ungranted : Type 0) (seats : List Seated) (fault : WorldFault) (status : Result Node Why) (before now : LogTold)
    → start_fault status ≡ Some fault → IfErr status (λ why. (entry : Entry) × HasNotBooted entry why before now)
    → before.own_faults ≡ 0 → before.tear ≡ Nothing → (0 < now.own_faults → 0 < log_faults_of seats) → IsCounted ungranted seats fault
stopped-counts ungranted seats fault (Ok node) before now is stopped none unarmed so = absurd (none-some fault is)
stopped-counts ungranted seats fault (Err why.Log) before now is stopped none unarmed so =
    subst (IsCounted ungranted seats) (same_Some faults.Log fault is)
    (so (failed-itself (entry_frame stopped.0) before now stopped.1 none unarmed))
stopped-counts ungranted seats fault (Err (why.Bad at)) before now is stopped none unarmed so = absurd stopped.1
stopped-counts ungranted seats fault (Err why.Empty) before now is stopped none unarmed so = absurd stopped.1
stopped-counts ungranted seats fault (Err why.Memory) before now is stopped none unarmed so =
    subst (IsCounted ungranted seats) (same_Some faults.Memory fault is) tt

-- and it never stops for the limit
pub no-limit : {T : Type 0} (status : Result Node Why) (fault : WorldFault) → start_fault status ≡ Some fault
    → ◌≡◌ {A = Result T WorldFault} (Err fault) (Err faults.Limit) → ⊥
no-limit (Ok node) fault is limit = none-some fault is
no-limit (Err why.Log) fault is limit = absurd (cc)
no-limit (Err (why.Bad at)) fault is limit = absurd (cc)
no-limit (Err why.Empty) fault is limit = absurd (cc)
no-limit (Err why.Memory) fault is limit = absurd (cc)

-- ---- which stay out

-- a call that leaves the ids and what is out as they were
pub out-ids : {S : Type 0} (out next : List ℕ) (before now : Seats S) → next ≡ out → ids_of now ≡ ids_of before
    → AreOut out before → AreOut next now
out-ids {S} out next before now stays ids are q =
    subst (λ o. Contains o q ↔ Contains (ids_of now) q) (sym stays) (subst (λ o. Contains out q ↔ Contains o q) (sym ids) (are q))

-- what is out of seats is out of what equals them
pub out-same-at : {S : Type 0} (out next : List ℕ) (before now : Seats S) → next ≡ out → now ≡ before → AreOut out before → AreOut next now
out-same-at {S} out next before now stays same are =
    subst (λ o. AreOut o now) (sym stays) (subst (λ seats. AreOut out seats) (sym same) are)

-- ---- who stays

-- who has a state has a seat
pub seated-out : {S : Type 0} (seats : Seats S) (id : ℕ) → IsSome (state_at seats id) → Contains (ids_of seats) id
seated-out {S} seats id some = go (state_at seats id) refl some
  where
    go : (o : Option S) → state_at seats id ≡ o → IsSome o → Contains (ids_of seats) id
    go None at there = absurd (false≢true there)
    go (Some state) at there =
        let found = seat_of seats.items.items id (place_at seats id) state at in
        let its : slice_get (ids_of seats) found.place ≡ Some id =
        slice_get-map (λ seat. seat.id) seats.items.items found.place ∙ ap (option_map (λ seat. seat.id)) found.at ∙ ap (λ x. Some x) found.own in
        (found.place, slice_get_within (ids_of seats) found.place id its, get_or_from_slice_get (ids_of seats) found.place id id its)

-- so some seat is there
pub seated-some : {S : Type 0} (seats : Seats S) (id : ℕ) → IsSome (state_at seats id) → 0 < length seats.items.items
seated-some seats id some =
    let has = seated-out seats id some in
    let all = length-map seats.items.items (λ seat. seat.id) in
    omega (arith, has.1, all)

-- where the same ids have seats, who was there is there
pub ids-stay : {S : Type 0} (before now : Seats S) → ids_of now ≡ ids_of before → (id : ℕ) → IsSome (state_at before id)
    → IsSome (state_at now id)
ids-stay {S} before now ids id some = go (state_at now id) refl
  where
    go : (o : Option S) → state_at now id ≡ o → IsSome o
    go None none = absurd (unseated now id none (subst (λ l. Contains l id) (sym ids) (seated-out before id some)))
    go (Some state) at = refl

-- so is who was there before one more came
pub pushed-stay : {S : Type 0} (before now : Seats S) (id : ℕ) (state : S)
    → ((other : ℕ) → state_at now other ≡ cond (id == other) (Some state) (state_at before other))
    → (other : ℕ) → IsSome (state_at before other) → IsSome (state_at now other)
pushed-stay {S} before now id state pushed other some =
    subst (λ o. IsSome o) (sym (pushed other)) (go (id == other))
  where
    go : (b : Bool) → IsSome (cond b (Some state) (state_at before other))
    go true = refl
    go false = some
