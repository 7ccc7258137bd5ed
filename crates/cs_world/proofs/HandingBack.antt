-- Seats that are handed back one by one, from the last to the first.
use Rattle.std.proofs.Common.{◌≡◌, ℕ, zero, suc, ◌+◌, ◌<◌, ◌≢◌, ◌↔◌, List}
use Rattle.std.proofs.Common.{[], ◌∷◌, ◌++◌, length, map, sum, get_or, Contains, arith}
use Rattle.std.proofs.Common.{◌∙◌, ◌⊎◌, append_assoc, ap, Option, Some, None, IfSome, IsSome, refl, sym, subst, inl, inr}
use Rattle.std.specs.List.{slice_get}
use Rattle.std.specs.Option.{IsSomeAnd, option_map}
use Rattle.std.proofs.lemmas.Bool.{cases_eq, false≢true}
use Rattle.std.proofs.lemmas.Bool.Decides.{nat_tests}
use Rattle.std.proofs.lemmas.List.{map-append, append-nil}
use Rattle.std.proofs.lemmas.List.Elements.{Contains-append_left, Contains-push, Contains-push_cases}
use Rattle.std.proofs.lemmas.List.Sums.{sum_by-cons}
use Rattle.std.proofs.lemmas.Option.{slice_get-map, same_Some, none-some}
use Rattle.cs_base.specs.Ascending.{without_key}
use Rattle.cs_link.specs.Counts.{RisesWith, counted}
use Rattle.cs_link.specs.Maps.{ById, EntersTold}
use Rattle.cs_link.specs.Sent.{Datagram}
use Rattle.cs_link.specs.declared.link.Link.{Ghosts as LinkGhosts}
use Rattle.cs_log.specs.declared.log.Log.{Ghosts as LogGhosts}
use Rattle.cs_node.specs.Placed.{Placed}
use Rattle.cs_world.specs.Desk.{AreKept, DeskTold}
use Rattle.cs_world.specs.Places.{ArePlaced}
use Rattle.cs_world.specs.Seats.{AreOut, Seated, link_faults_of, log_faults_of, seated, seats_of}
use Rattle.cs_world.specs.declared.seat.Seat.{Seat}
use Rattle.cs_world.specs.declared.seats.Seats.{Seats}
use Rattle.cs_world.specs.Tapped.{TellsSame}

-- no two places have the same id
abbrev pub AreApart : List ℕ → Type 0
AreApart ids = (i j id : ℕ) → slice_get ids i ≡ Some id → slice_get ids j ≡ Some id → i ≡ j

-- ids that are placed are apart
pub apart-placed : (ids : List ℕ) (place_of : ℕ → Option ℕ) → ArePlaced ids place_of → AreApart ids
apart-placed ids place_of placed i j id at_i at_j = same_Some i j (sym (placed i id at_i) ∙ placed j id at_j)

-- what stands between two lists stands at its place
at-seam : (xs : List ℕ) (x : ℕ) (ys : List ℕ) → slice_get (xs ++ x ∷ ys) (length xs) ≡ Some x
at-seam [] x ys = refl
at-seam (z ∷ zs) x ys = at-seam zs x ys

-- what stands in the first list stands at the same place
at-front : (xs ys : List ℕ) (k x : ℕ) → k < length xs → get_or xs k x ≡ x → slice_get (xs ++ ys) k ≡ Some x
at-front [] ys k x lt is = absurd (omega arith)
at-front (z ∷ zs) ys zero x lt is = ap Some is
at-front (z ∷ zs) ys (suc k) x lt is = at-front zs ys k x (omega arith) is

-- what stands behind stands as much further on
at-back : (xs : List ℕ) (x : ℕ) (ys : List ℕ) (k y : ℕ) → slice_get ys k ≡ Some y
    → slice_get (xs ++ x ∷ ys) (suc (length xs + k)) ≡ Some y
at-back [] x ys k y is = let e : k ≡ 0 + k = omega arith in subst (λ (j : ℕ). slice_get ys j ≡ Some y) e is
at-back (z ∷ zs) x ys k y is =
    let e : suc (length zs + k) ≡ suc (length zs) + k = omega arith in
    subst (λ (j : ℕ). slice_get (zs ++ x ∷ ys) j ≡ Some y) e (at-back zs x ys k y is)

-- an id that is apart is none of those before it
not-before : (xs : List ℕ) (x : ℕ) (ys : List ℕ) → AreApart (xs ++ x ∷ ys) → Contains xs x → ⊥
not-before xs x ys apart has =
    let same : has.0 ≡ length xs = apart has.0 (length xs) x (at-front xs (x ∷ ys) has.0 x has.1 has.2) (at-seam xs x ys) in
    omega (arith, has.1, same)

-- and none of those behind it
not-behind : (xs : List ℕ) (x : ℕ) (ys : List ℕ) (k y : ℕ) → AreApart (xs ++ x ∷ ys) → slice_get ys k ≡ Some y → y ≢ x
not-behind xs x ys k y apart is e =
    let same : length xs ≡ suc (length xs + k) =
    apart (length xs) (suc (length xs + k)) x (at-seam xs x ys) (at-back xs x ys k x (is ∙ ap Some e)) in
    omega (arith, same)

-- an element of the tail is one of the list
Contains-there : (y : ℕ) (ys : List ℕ) (m : ℕ) → Contains ys m → Contains (y ∷ ys) m
Contains-there y ys m has = (suc has.0, omega (arith, has.1), has.2)

-- the number in front, taken out
without-same : (n y : ℕ) (ys : List ℕ) → y ≡ n → without_key (λ k. k) n (y ∷ ys) ≡ without_key (λ k. k) n ys
without-same n y ys e = grind (arith, nat_tests)

-- another number in front stays
without-other : (n y : ℕ) (ys : List ℕ) → y ≢ n → without_key (λ k. k) n (y ∷ ys) ≡ y ∷ without_key (λ k. k) n ys
without-other n y ys ne = grind (arith, nat_tests)

-- what is left without a number was there and is another one
has-without : (n : ℕ) (out : List ℕ) (m : ℕ) → Contains (without_key (λ k. k) n out) m → Contains out m × (m ≢ n)
has-without n [] m has = absurd (omega (arith, has.1))
has-without n (y ∷ ys) m has = by (has-without n ys m) (cases_eq y n)
  where
    in-cons : (Contains (without_key (λ k. k) n ys) m → Contains ys m × (m ≢ n)) → y ≢ n
        → Contains (y ∷ without_key (λ k. k) n ys) m → Contains (y ∷ ys) m × (m ≢ n)
    in-cons rest ne (zero, lt, at) = ((zero, omega arith, at), λ e. ne (at ∙ e))
    in-cons rest ne (suc k, lt, at) =
        let found = rest (k, omega arith, at) in
        (Contains-there y ys m found.0, found.1)

    by : (Contains (without_key (λ k. k) n ys) m → Contains ys m × (m ≢ n)) → (y ≡ n) ⊎ (y ≢ n) → Contains (y ∷ ys) m × (m ≢ n)
    by rest (inl e) =
        let found = rest (subst (λ (l : List ℕ). Contains l m) (without-same n y ys e) has) in
        (Contains-there y ys m found.0, found.1)
    by rest (inr ne) = in-cons rest ne (subst (λ (l : List ℕ). Contains l m) (without-other n y ys ne) has)

-- every other number stays
stays-without : (n : ℕ) (out : List ℕ) (m : ℕ) → Contains out m → m ≢ n → Contains (without_key (λ k. k) n out) m
stays-without n [] m has ne = absurd (omega (arith, has.1))
stays-without n (y ∷ ys) m has ne = by (λ tail. stays-without n ys m tail ne) has (cases_eq y n)
  where
    by : (Contains ys m → Contains (without_key (λ k. k) n ys) m) → Contains (y ∷ ys) m → (y ≡ n) ⊎ (y ≢ n)
        → Contains (without_key (λ k. k) n (y ∷ ys)) m
    by rest (zero, lt, at) (inl e) = absurd (ne (sym at ∙ e))
    by rest (suc k, lt, at) (inl e) =
        subst (λ (l : List ℕ). Contains l m) (sym (without-same n y ys e)) (rest (k, omega arith, at))
    by rest (zero, lt, at) (inr other) =
        subst (λ (l : List ℕ). Contains l m) (sym (without-other n y ys other)) (zero, omega arith, at)
    by rest (suc k, lt, at) (inr other) =
        subst (λ (l : List ℕ). Contains l m) (sym (without-other n y ys other))
        (Contains-there y _ m (rest (k, omega arith, at)))

-- the ids that are out but for the last are those before it
out-less : (xs : List ℕ) (x : ℕ) (ys out : List ℕ) → AreApart (xs ++ x ∷ ys)
    → ((id : ℕ) → Contains out id ↔ Contains (xs ++ x ∷ []) id)
    → (id : ℕ) → Contains (without_key (λ k. k) x out) id ↔ Contains xs id
out-less xs x ys out apart same id = (
  λ has. (let found = has-without x out id has in by found.1 (Contains-push_cases xs x id ((same id).0 found.0))),
  λ has. stays-without x out id ((same id).1 (Contains-append_left xs (x ∷ []) id has))
      (λ e. not-before xs x ys apart (subst (Contains xs) e has)),
)
  where
    by : id ≢ x → Contains xs id ⊎ (x ≡ id) → Contains xs id
    by ne (inl has) = has
    by ne (inr e) = absurd (ne (sym e))

-- where no id is out, the list is empty
none-out : (out : List ℕ) → ((id : ℕ) → Contains out id ↔ Contains {X = ℕ} [] id) → out ≡ []
none-out [] same = refl
none-out (x ∷ xs) same =
    let has : Contains {X = ℕ} [] x = (same x).0 (zero, omega arith, refl) in
    absurd (omega (arith, has.1))

-- a count that rises with one other and then with a second one rises with their sum
rises-more : (one other before between after : ℕ) → RisesWith one before between → RisesWith other between after
    → RisesWith (other + one) before after
rises-more one other before between after first second = grind arith

-- so it is with a count for each seat
rises-behind : (count : Seated → ℕ) (s : Seated) (back : List Seated) (before between after : ℕ) → RisesWith (sum (map count back)) before between
    → RisesWith (count s) between after → RisesWith (sum (map count (s ∷ back))) before after
rises-behind count s back before between after first second =
    let adds : sum (map count (s ∷ back)) ≡ count s + sum (map count back) = sum_by-cons (λ n. n) (count s) (map count back) in
    subst (λ (n : ℕ). RisesWith n before after) (sym adds) (rises-more (sum (map count back)) (count s) before between after first second)

-- a count with those of seats added to it, up to its last value; with no seat it stays
abbrev pub AddsUp : (Seated → ℕ) → List Seated → ℕ → ℕ → Type 0
AddsUp count [] before now = now ≡ before
AddsUp count (s ∷ seats) before now = now ≡ counted before (sum (map count (s ∷ seats)))

-- so it is with one seat more
adds-behind : (count : Seated → ℕ) (s : Seated) (back : List Seated) (before between after : ℕ) → AddsUp count back before between
    → after ≡ counted between (count s) → AddsUp count (s ∷ back) before after
adds-behind count s [] before between after first second =
    let one : sum (map count (s ∷ [])) ≡ count s + sum (map count []) = sum_by-cons (λ n. n) (count s) (map count []) in
    omega (arith, one, first, second)
adds-behind count s (t ∷ back) before between after first second =
    let all : sum (map count (s ∷ t ∷ back)) ≡ count s + sum (map count (t ∷ back)) = sum_by-cons (λ n. n) (count s) (map count (t ∷ back)) in
    omega (arith, all, first, second)

-- what the link of a seat received
abbrev pub taken_at : Seated → ℕ
taken_at seat = seat.parts.link.taken

-- and how often nothing was waiting there
abbrev pub dry_at : Seated → ℕ
dry_at seat = seat.parts.link.dry

-- what the seat tells is kept under its id too
kept-more : {T : Type 0} (told : Seated → Option T) (s : Seated) (back : List Seated) (first before after : Option (ById T)) (given : Option T)
    → TellsSame given (told s) → (IsSome before → IsSome given)
    → ((place : ℕ) (seat : Seated) → slice_get back place ≡ Some seat → seat.id ≢ s.id)
    → IfSome first (λ at_first. IsSomeAnd before (AreKept told back)) → EntersTold s.id given before after
    → IfSome first (λ at_first. IsSomeAnd after (AreKept told (s ∷ back)))
kept-more told s back None before after given same tells others kept enters = tt
kept-more told s back (Some at_first) None after given same tells others kept enters = absurd kept
kept-more told s back (Some at_first) (Some was) None given same tells others kept enters = absurd enters
kept-more told s back (Some at_first) (Some was) (Some now) None same tells others kept enters = absurd (false≢true (tells refl))
kept-more told s back (Some at_first) (Some was) (Some now) (Some x) same tells others kept enters = by
  where
    by : AreKept told (s ∷ back) now
    by zero seat at =
        let is : s ≡ seat = same_Some s seat at in
        subst (λ (other : Seated). now other.id ≡ told other) is (enters.0 ∙ sym same)
    by (suc place) seat at = enters.1 seat.id (others place seat at) ∙ kept place seat at

-- of no seats each is kept
kept-none : {T : Type 0} (told : Seated → Option T) (first : Option (ById T)) → IfSome first (λ at_first. IsSomeAnd first (AreKept told []))
kept-none told None = tt
kept-none told (Some map_now) = λ place seat at. absurd (none-some seat at)

-- with no other count a count stays
rises-none : (count : ℕ) → RisesWith 0 count count
rises-none count = (omega arith, λ lt. absurd (omega arith), λ e. refl)

-- whose they are
abbrev pub ids_in : List Seated → List ℕ
ids_in seats = map (λ (seat : Seated). seat.id) seats

-- the first seats are still there, and those behind them were handed back
pub record IsHanding (all rest : List Seated) (out : List ℕ) (before now : DeskTold) : Type 0 where
  pub back : List Seated
  pub parts : all ≡ rest ++ back
  pub same_out : (id : ℕ) → Contains out id ↔ Contains (ids_in rest) id
  pub logs : IfSome before.logs (λ at_first. IsSomeAnd now.logs (AreKept (λ seat. seat.parts.log.bytes) back))
  pub traffic : IfSome before.traffic (λ at_first. IsSomeAnd now.traffic (AreKept (λ seat. seat.parts.link.sent) back))
  pub faults : now.faults ≡ before.faults
  pub link_faults : RisesWith (link_faults_of back) before.link_faults now.link_faults
  pub log_faults : RisesWith (log_faults_of back) before.log_faults now.log_faults
  pub taken : AddsUp taken_at back before.taken now.taken
  pub dry : AddsUp dry_at back before.dry now.dry

-- all of them were handed back
pub record IsHandedBack (all : List Seated) (out : List ℕ) (before now : DeskTold) : Type 0 where
  pub none_out : out ≡ []
  pub logs : IfSome before.logs (λ at_first. IsSomeAnd now.logs (AreKept (λ seat. seat.parts.log.bytes) all))
  pub traffic : IfSome before.traffic (λ at_first. IsSomeAnd now.traffic (AreKept (λ seat. seat.parts.link.sent) all))
  pub faults : now.faults ≡ before.faults
  pub link_faults : RisesWith (link_faults_of all) before.link_faults now.link_faults
  pub log_faults : RisesWith (log_faults_of all) before.log_faults now.log_faults
  pub taken : AddsUp taken_at all before.taken now.taken
  pub dry : AddsUp dry_at all before.dry now.dry

-- before the first one is handed back
pub handing-starts : (all : List Seated) (out : List ℕ) (desk : DeskTold) → ((id : ℕ) → Contains out id ↔ Contains (ids_in all) id)
    → IsHanding all all out desk desk
handing-starts all out desk same = record {
  back = [];
  parts = sym (append-nil all);
  same_out = same;
  logs = kept-none (λ seat. seat.parts.log.bytes) desk.logs;
  traffic = kept-none (λ seat. seat.parts.link.sent) desk.traffic;
  faults = refl;
  link_faults = rises-none desk.link_faults;
  log_faults = rises-none desk.log_faults;
  taken = refl;
  dry = refl;
}

-- the last of the seats is handed back
pub handing-goes_on : (all rest : List Seated) (s : Seated) (out out_now : List ℕ) (first before now : DeskTold)
    (bytes : Option (List ℕ)) (sent : Option (List Datagram))
    → AreApart (ids_in all) → TellsSame bytes s.parts.log.bytes → TellsSame sent s.parts.link.sent
    → (IsSome before.logs → IsSome bytes) → (IsSome before.traffic → IsSome sent)
    → IsHanding all (rest ++ s ∷ []) out first before
    → out_now ≡ without_key (λ n. n) s.id out
    → EntersTold s.id bytes before.logs now.logs → EntersTold s.id sent before.traffic now.traffic
    → now.faults ≡ before.faults
    → RisesWith s.parts.link.faults before.link_faults now.link_faults
    → RisesWith s.parts.log.own_faults before.log_faults now.log_faults
    → now.taken ≡ counted before.taken (taken_at s) → now.dry ≡ counted before.dry (dry_at s)
    → IsHanding all rest out_now first now
handing-goes_on all rest s out out_now first before now bytes sent apart same_bytes same_sent tells_bytes tells_sent so_far is_out
    logs traffic faults link_faults log_faults taken dry =
    let parts : all ≡ rest ++ s ∷ so_far.back = so_far.parts ∙ append_assoc rest (s ∷ []) so_far.back in
    let ids : ids_in all ≡ ids_in rest ++ s.id ∷ ids_in so_far.back = ap ids_in parts ∙ map-append (λ (seat : Seated). seat.id) rest (s ∷ so_far.back) in
    let distinct : AreApart (ids_in rest ++ s.id ∷ ids_in so_far.back) = subst AreApart ids apart in
    let same : (id : ℕ) → Contains out id ↔ Contains (ids_in rest ++ s.id ∷ []) id =
    subst (λ (l : List ℕ). (id : ℕ) → Contains out id ↔ Contains l id) (map-append (λ (seat : Seated). seat.id) rest (s ∷ [])) so_far.same_out in
    let others : (place : ℕ) (seat : Seated) → slice_get so_far.back place ≡ Some seat → seat.id ≢ s.id =
    λ place seat at. not-behind (ids_in rest) s.id (ids_in so_far.back) place seat.id distinct
    (slice_get-map (λ (other : Seated). other.id) so_far.back place ∙ ap (option_map (λ (other : Seated). other.id)) at) in
    record {
      back = s ∷ so_far.back;
      parts = parts;
      same_out = subst (λ (l : List ℕ). (id : ℕ) → Contains l id ↔ Contains (ids_in rest) id) (sym is_out)
          (out-less (ids_in rest) s.id (ids_in so_far.back) out distinct same);
      logs = kept-more (λ seat. seat.parts.log.bytes) s so_far.back first.logs before.logs now.logs bytes same_bytes tells_bytes others
          so_far.logs logs;
      traffic = kept-more (λ seat. seat.parts.link.sent) s so_far.back first.traffic before.traffic now.traffic sent same_sent tells_sent others
          so_far.traffic traffic;
      faults = faults ∙ so_far.faults;
      link_faults = rises-behind (λ (seat : Seated). seat.parts.link.faults) s so_far.back _ _ _ so_far.link_faults link_faults;
      log_faults = rises-behind (λ (seat : Seated). seat.parts.log.own_faults) s so_far.back _ _ _ so_far.log_faults log_faults;
      taken = adds-behind taken_at s so_far.back _ _ _ so_far.taken taken;
      dry = adds-behind dry_at s so_far.back _ _ _ so_far.dry dry;
    }

-- what tells the same value, where it tells
tells-same : {T : Type 0} (one other : Option T) → one ≡ other → TellsSame one other
tells-same None other same = tt
tells-same (Some x) other same = sym same

module _ {L G : Type 0} (link : LinkGhosts L) (log : LogGhosts G) where
  -- the ids of the seats, as they are seen
  ids-seated : (items : List (Seat (Placed L G))) → ids_in (map (seated link log) items) ≡ map (λ seat. seat.id) items
  ids-seated [] = refl
  ids-seated (seat ∷ seats) = ap (λ ids. seat.id ∷ ids) (ids-seated seats)

  -- the ids that are out are those of the seats
  pub seats-start : (seats : Seats (Placed L G)) (out : List ℕ) (desk : DeskTold) → AreOut out seats
      → IsHanding (seats_of link log seats) (map (seated link log) seats.items.items) out desk desk
  seats-start seats out desk are =
      handing-starts _ out desk
      (subst (λ (l : List ℕ). (id : ℕ) → Contains out id ↔ Contains l id) (sym (ids-seated seats.items.items)) are)

  -- the id of the last seat is out
  pub last-out : (seats : Seats (Placed L G)) (items rest : List (Seat (Placed L G))) (seat : Seat (Placed L G)) (out : List ℕ)
      (first before : DeskTold) → items ≡ rest ++ seat ∷ []
      → IsHanding (seats_of link log seats) (map (seated link log) items) out first before → Contains out seat.id
  last-out seats items rest seat out first before parts so_far =
      (so_far.same_out seat.id).1 (subst (λ (l : List ℕ). Contains l seat.id) (sym ids) (Contains-push (map (λ seat. seat.id) rest) seat.id))
    where
      ids : ids_in (map (seated link log) items) ≡ map (λ seat. seat.id) rest ++ seat.id ∷ []
      ids = ids-seated items ∙ (ap (map (λ seat. seat.id)) parts ∙ map-append (λ seat. seat.id) rest (seat ∷ []))

  -- the last seat is handed back
  pub seat-goes : (seats : Seats (Placed L G)) (items rest : List (Seat (Placed L G))) (seat : Seat (Placed L G)) (out out_now : List ℕ)
      (first before now : DeskTold) (bytes : Option (List ℕ)) (sent : Option (List Datagram)) (wire_faults store_faults wire_taken wire_dry : ℕ)
      → items ≡ rest ++ seat ∷ []
      → IsHanding (seats_of link log seats) (map (seated link log) items) out first before
      → bytes ≡ log.bytes seat.state.log → TellsSame sent (link.sent seat.state.link)
      → wire_faults ≡ link.faults seat.state.link → store_faults ≡ log.own_faults seat.state.log
      → wire_taken ≡ link.taken seat.state.link → wire_dry ≡ link.dry seat.state.link
      → (IsSome before.logs → IsSome bytes) → (IsSome before.traffic → IsSome sent)
      → out_now ≡ without_key (λ n. n) seat.id out
      → EntersTold seat.id bytes before.logs now.logs → EntersTold seat.id sent before.traffic now.traffic
      → now.faults ≡ before.faults
      → RisesWith wire_faults before.link_faults now.link_faults
      → RisesWith store_faults before.log_faults now.log_faults
      → now.taken ≡ counted before.taken wire_taken → now.dry ≡ counted before.dry wire_dry
      → IsHanding (seats_of link log seats) (map (seated link log) rest) out_now first now
  seat-goes seats items rest seat out out_now first before now bytes sent wire_faults store_faults wire_taken wire_dry parts so_far is_bytes
      same_sent is_wire is_store is_taken is_dry tells_bytes tells_sent is_out logs traffic faults link_faults log_faults taken dry =
      handing-goes_on (seats_of link log seats) (map (seated link log) rest) (seated link log seat) out out_now first before now bytes sent
      (subst AreApart (sym (ids-seated seats.items.items)) (apart-placed _ _ seats.placed))
      (tells-same bytes _ is_bytes) same_sent tells_bytes tells_sent
      (subst (λ (l : List Seated). IsHanding (seats_of link log seats) l out first before)
      (ap (map (seated link log)) parts ∙ map-append (seated link log) rest (seat ∷ [])) so_far)
      is_out logs traffic faults
      (subst (λ (n : ℕ). RisesWith n before.link_faults now.link_faults) is_wire link_faults)
      (subst (λ (n : ℕ). RisesWith n before.log_faults now.log_faults) is_store log_faults)
      (taken ∙ ap (counted before.taken) is_taken) (dry ∙ ap (counted before.dry) is_dry)

-- once none is left all were handed back
pub handing-ends : (all : List Seated) (out : List ℕ) (first now : DeskTold) → IsHanding all [] out first now → IsHandedBack all out first now
handing-ends all out first now so_far = record {
  none_out = none-out out so_far.same_out;
  logs = subst (λ (seats : List Seated). IfSome first.logs (λ at_first. IsSomeAnd now.logs (AreKept (λ seat. seat.parts.log.bytes) seats)))
      (sym so_far.parts) so_far.logs;
  traffic = subst (λ (seats : List Seated). IfSome first.traffic (λ at_first. IsSomeAnd now.traffic (AreKept (λ seat. seat.parts.link.sent) seats)))
      (sym so_far.parts) so_far.traffic;
  faults = so_far.faults;
  link_faults = subst (λ (seats : List Seated). RisesWith (link_faults_of seats) first.link_faults now.link_faults) (sym so_far.parts) so_far.link_faults;
  log_faults = subst (λ (seats : List Seated). RisesWith (log_faults_of seats) first.log_faults now.log_faults) (sym so_far.parts) so_far.log_faults;
  taken = subst (λ (seats : List Seated). AddsUp taken_at seats first.taken now.taken) (sym so_far.parts) so_far.taken;
  dry = subst (λ (seats : List Seated). AddsUp dry_at seats first.dry now.dry) (sym so_far.parts) so_far.dry;
}

-- so it is with the seats
pub seats-end : {L G : Type 0} (link : LinkGhosts L) (log : LogGhosts G) (seats : Seats (Placed L G)) (items : List (Seat (Placed L G)))
    (out : List ℕ) (first now : DeskTold) → length items ≡ 0
    → IsHanding (seats_of link log seats) (map (seated link log) items) out first now → IsHandedBack (seats_of link log seats) out first now
seats-end link log seats [] out first now none so_far = handing-ends (seats_of link log seats) out first now so_far
seats-end link log seats (seat ∷ items) out first now none so_far = absurd (omega arith)

-- what was added of some seats is the sum of theirs
pub adds-some : (count : Seated → ℕ) (seats : List Seated) (before now : ℕ) → 0 < length seats → AddsUp count seats before now
    → now ≡ counted before (counted 0 (sum (map count seats)))
adds-some count [] before now some adds = absurd (omega arith)
adds-some count (s ∷ seats) before now some adds = omega (arith, adds)

-- and of none nothing
pub adds-none : (count : Seated → ℕ) (seats : List Seated) (before now : ℕ) → length seats ≡ 0 → AddsUp count seats before now → now ≡ before
adds-none count [] before now none adds = adds
adds-none count (s ∷ seats) before now none adds = absurd (omega arith)
