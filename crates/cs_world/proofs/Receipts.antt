-- What links received, as one of them receives, and as none does.
use Rattle.std.proofs.Common.{◌≡◌, ◌∙◌, inl, inr, ℕ, zero, suc, ◌+◌, ◌≤◌, List, [], ◌∷◌, ◌++◌, map, sum, set, slice_get}
use Rattle.std.proofs.Common.{Option, None, Some, Result, Ok, Err, refl, sym, ap, subst, arith}
use Rattle.std.proofs.lemmas.List.{map-append}
use Rattle.std.proofs.lemmas.Option.{none-some, same_Some, slice_get-map}
use Rattle.std.specs.Option.{option_map}
use Rattle.cs_fields.proofs.Codec.{sum-append, sum-cons}
use Rattle.cs_link.specs.Counts.{counted}
use Rattle.cs_link.specs.Received.{dry_after, taken_after}
use Rattle.cs_link.specs.declared.link.Link.{Ghosts as LinkGhosts}
use Rattle.cs_link.specs.declared.link.LinkFailed.{LinkFailed}
use Rattle.cs_log.specs.declared.log.Log.{Ghosts as LogGhosts}
use Rattle.cs_node.specs.Placed.{Placed}
use Rattle.cs_node.specs.Told.{LinkTold}
use Rattle.cs_node.specs.declared.node.Node.{Node}
use Rattle.cs_world.specs.Actions.{CallsAs, CrashesAs, DoesAction, RestartsAs}
use Rattle.cs_world.specs.Processes.{Parts, parts_in}
use Rattle.cs_world.specs.Receiving.{dry_of, received_of, taken_of}
use Rattle.cs_world.specs.Seats.{Seated, seated}
use Rattle.cs_world.specs.declared.action.Action.{Action}
use Rattle.cs_world.specs.declared.action.Action.TheVariants as actions
use Rattle.cs_world.specs.declared.call.Answer.{Answer}
use Rattle.cs_world.specs.declared.call.Call.{Call}
use Rattle.cs_world.specs.declared.seat.Seat.{Seat}
use Rattle.cs_world.proofs.Acted.{Performs, declines-or-performs}
use Rattle.cs_world.proofs.Causes.{one-of-all}

-- ---- an action receives nothing

-- the counts of a link are what they were
abbrev pub HasReceivedNone : Parts → Parts → Type 0
HasReceivedNone old new = (new.link.taken ≡ old.link.taken) × (new.link.dry ≡ old.link.dry)

-- so they are where the links are told the same
same-link : (old new : Parts) → new.link ≡ old.link → HasReceivedNone old new
same-link old new same = (ap (λ (l : LinkTold). l.taken) same, ap (λ (l : LinkTold). l.dry) same)

-- a call that is performed receives nothing, however it ends
performed-none : (node : Node) (old : Parts) (call : Call) (answered : Answer) (new : Parts) → Performs node old call answered new
    → HasReceivedNone old new
performed-none node old call answered new p =
    subst (λ (q : Parts). HasReceivedNone old q) (sym p.parts) (elim p.well.ended [
      | inl done ↦ (ap (λ (l : LinkTold). l.taken) done.2, ap (λ (l : LinkTold). l.dry) done.2)
      | inr (inl failed) ↦ (failed.3.taken, failed.3.dry)
      | inr (inr (inl failed)) ↦ (ap (λ (l : LinkTold). l.taken) failed.2, ap (λ (l : LinkTold). l.dry) failed.2)
      | inr (inr (inr wanting)) ↦ (ap (λ (l : LinkTold). l.taken) wanting.2, ap (λ (l : LinkTold). l.dry) wanting.2)
    ])

-- nor does any call
called-none : (node : Option Node) (old : Parts) (call : Call) (answered : Answer) (new : Parts) → CallsAs node old call answered new
    → HasReceivedNone old new
called-none None old call answered new acts = same-link old new (ap (λ (q : Parts). q.link) acts.1)
called-none (Some node) old call answered new acts = elim (declines-or-performs node old call answered new acts) [
  | inl declines ↦ same-link old new (ap (λ (q : Parts). q.link) declines.same)
  | inr performs ↦ performed-none node old call answered new performs
]

-- nor a crash
crashed-none : (node : Option Node) (old : Parts) (answered : Answer) (new : Parts) → CrashesAs node old answered new → HasReceivedNone old new
crashed-none None old answered new acts = same-link old new (ap (λ (q : Parts). q.link) acts.1)
crashed-none (Some node) old answered new acts = same-link old new (ap (λ (q : Parts). q.link) acts.1)

-- nor a restart
restarted-none : (node : Option Node) (old : Parts) (answered : Answer) (new : Parts) → RestartsAs node old answered new → HasReceivedNone old new
restarted-none None old answered new acts = same-link old new acts.0
restarted-none (Some node) old answered new acts = same-link old new (ap (λ (q : Parts). q.link) acts.1)

-- so no action does
pub acted-none : (old : Parts) (action : Action) (answered : Answer) (new : Parts) → DoesAction old action answered new → HasReceivedNone old new
acted-none old (actions.Call call) answered new acts = called-none old.node old call answered new acts
acted-none old actions.Crash answered new acts = crashed-none old.node old answered new acts
acted-none old actions.Restart answered new acts = restarted-none old.node old answered new acts
acted-none old (actions.Arm b) answered new acts = same-link old new (ap (λ (q : Parts). q.link) acts.1)

-- ---- all links

-- of a count of each seat the sum
abbrev pub sum_of : (Seated → ℕ) → List Seated → ℕ
sum_of count seats = sum (map count seats)

module _ {L G : Type 0} (link : LinkGhosts L) (log : LogGhosts G) where
  -- where one seat is another, the sum differs by what the two differ
  pub sum-set : (count : Seated → ℕ) (items : List (Seat (Placed L G))) (place : ℕ) (old new : Seat (Placed L G))
      → slice_get items place ≡ Some old
      → sum_of count (map (seated link log) (set items place new)) + count (seated link log old)
      ≡ sum_of count (map (seated link log) items) + count (seated link log new)
  sum-set count [] place old new at = absurd (none-some old at)
  sum-set count (x ∷ items) zero old new at =
      let same : count (seated link log x) ≡ count (seated link log old) =
      ap (λ s. count (seated link log s)) (same_Some x old at) in
      let before : sum_of count (map (seated link log) (x ∷ items)) ≡ count (seated link log x) + sum_of count (map (seated link log) items) =
      sum-cons (count (seated link log x)) (map count (map (seated link log) items)) in
      let after : sum_of count (map (seated link log) (new ∷ items)) ≡ count (seated link log new) + sum_of count (map (seated link log) items) =
      sum-cons (count (seated link log new)) (map count (map (seated link log) items)) in
      omega (arith, same, before, after)
  sum-set count (x ∷ items) (suc place) old new at =
      let rest = sum-set count items place old new at in
      let before : sum_of count (map (seated link log) (x ∷ items)) ≡ count (seated link log x) + sum_of count (map (seated link log) items) =
      sum-cons (count (seated link log x)) (map count (map (seated link log) items)) in
      let after : sum_of count (map (seated link log) (x ∷ set items place new))
      ≡ count (seated link log x) + sum_of count (map (seated link log) (set items place new)) =
      sum-cons (count (seated link log x)) (map count (map (seated link log) (set items place new))) in
      omega (arith, rest, before, after)

  -- and a new seat whose link received nothing adds nothing
  pub received-pushed : (items : List (Seat (Placed L G))) (new : Seat (Placed L G)) → (parts_in link log new.state).link.taken ≡ 0
      → (parts_in link log new.state).link.dry ≡ 0
      → received_of (map (seated link log) (items ++ new ∷ [])) ≡ received_of (map (seated link log) items)
  received-pushed items new taken dry = λ i. (
    counted 0 (more (λ (seat : Seated). seat.parts.link.taken) taken i),
    counted 0 (more (λ (seat : Seated). seat.parts.link.dry) dry i),
  )
    where
      more : (count : Seated → ℕ) → count (seated link log new) ≡ 0
          → sum_of count (map (seated link log) (items ++ new ∷ [])) ≡ sum_of count (map (seated link log) items)
      more count none =
          let all : sum_of count (map (seated link log) (items ++ new ∷ []))
          ≡ sum (map count (map (seated link log) items) ++ count (seated link log new) ∷ []) =
          ap (λ (seats : List Seated). sum (map count seats)) (map-append (seated link log) items (new ∷ []))
          ∙ ap sum (map-append count (map (seated link log) items) (seated link log new ∷ [])) in
          let parts = sum-append (map count (map (seated link log) items)) (count (seated link log new) ∷ []) in
          omega (arith, all, parts, none)

  -- one seat counts no more than all
  within-all : (count : Seated → ℕ) (items : List (Seat (Placed L G))) (place : ℕ) (seat : Seat (Placed L G)) → slice_get items place ≡ Some seat
      → count (seated link log seat) ≤ sum_of count (map (seated link log) items)
  within-all count items place seat at =
      one-of-all count (map (seated link log) items) place (seated link log seat)
      (slice_get-map (seated link log) items place ∙ ap (option_map (seated link log)) at)

  -- where a seat counts one more, up to the last value, so do all of them
  pub one-more : (count : Seated → ℕ) (items : List (Seat (Placed L G))) (place : ℕ) (old new : Seat (Placed L G)) → slice_get items place ≡ Some old
      → count (seated link log new) ≡ counted (count (seated link log old)) 1
      → counted 0 (sum_of count (map (seated link log) (set items place new))) ≡ counted (counted 0 (sum_of count (map (seated link log) items))) 1
  one-more count items place old new at is =
      let moved = sum-set count items place old new at in
      let within = within-all count items place old at in
      omega (arith, moved, within, is)

  -- and where it counts no more
  pub none-more : (count : Seated → ℕ) (items : List (Seat (Placed L G))) (place : ℕ) (old new : Seat (Placed L G)) → slice_get items place ≡ Some old
      → count (seated link log new) ≡ count (seated link log old)
      → counted 0 (sum_of count (map (seated link log) (set items place new))) ≡ counted 0 (sum_of count (map (seated link log) items))
  none-more count items place old new at is =
      let moved = sum-set count items place old new at in
      let same : sum_of count (map (seated link log) (set items place new)) ≡ sum_of count (map (seated link log) items) =
      omega (arith, moved, is) in
      ap (counted 0) same

  -- where the seat's link counted an answer, so did all of them
  pub taken-set : (answer : Result (Option ℕ) LinkFailed) (items : List (Seat (Placed L G))) (place : ℕ) (old new : Seat (Placed L G))
      → slice_get items place ≡ Some old
      → (parts_in link log new.state).link.taken ≡ taken_after answer (parts_in link log old.state).link.taken
      → taken_of (map (seated link log) (set items place new)) ≡ taken_after answer (taken_of (map (seated link log) items))
  taken-set (Ok (Some n)) items place old new at is = one-more (λ (seat : Seated). seat.parts.link.taken) items place old new at is
  taken-set (Ok None) items place old new at is = none-more (λ (seat : Seated). seat.parts.link.taken) items place old new at is
  taken-set (Err failed) items place old new at is = none-more (λ (seat : Seated). seat.parts.link.taken) items place old new at is

  -- and the same of an answer None
  pub dry-set : (answer : Result (Option ℕ) LinkFailed) (items : List (Seat (Placed L G))) (place : ℕ) (old new : Seat (Placed L G))
      → slice_get items place ≡ Some old
      → (parts_in link log new.state).link.dry ≡ dry_after answer (parts_in link log old.state).link.dry
      → dry_of (map (seated link log) (set items place new)) ≡ dry_after answer (dry_of (map (seated link log) items))
  dry-set (Ok (Some n)) items place old new at is = none-more (λ (seat : Seated). seat.parts.link.dry) items place old new at is
  dry-set (Ok None) items place old new at is = one-more (λ (seat : Seated). seat.parts.link.dry) items place old new at is
  dry-set (Err failed) items place old new at is = none-more (λ (seat : Seated). seat.parts.link.dry) items place old new at is

  -- so where a seat received nothing, all of them received what they had
  pub received-set : (items : List (Seat (Placed L G))) (place : ℕ) (old new : Seat (Placed L G)) → slice_get items place ≡ Some old
      → HasReceivedNone (parts_in link log old.state) (parts_in link log new.state)
      → received_of (map (seated link log) (set items place new)) ≡ received_of (map (seated link log) items)
  received-set items place old new at none = λ i. (
    none-more (λ (seat : Seated). seat.parts.link.taken) items place old new at none.0 i,
    none-more (λ (seat : Seated). seat.parts.link.dry) items place old new at none.1 i,
  )
