-- Packets that are delivered, lost or settled keep what every reached world has.
use Rattle.std.proofs.Common.{◌≡◌, ℕ, zero, suc, ◌-◌, ◌≤◌, cond, true, false, eqb, List, [], ◌∷◌, length, Option, Some, None}
use Rattle.std.proofs.Common.{refl, sym, ap, ◌∙◌, append-nil, arith}
use Rattle.std.specs.List.{slice_get}
use Rattle.std.proofs.lemmas.Option.{none-some, slice_get_within}
use Rattle.cs_base.proofs.Elements.{All-get}
use Rattle.cs_machine.specs.Contents.{contents_of}
use Rattle.cs_machine.specs.Delivering.{deliver_as, deliver_at, deliver_to, delivered, lost, noted_delivery, passed_over}
use Rattle.cs_machine.specs.Delivering.{sent_at}
use Rattle.cs_machine.specs.Machine.{deliver_step}
use Rattle.cs_machine.specs.Names.{Node, Sent, World, node_of}
use Rattle.cs_machine.specs.Reached.{IsReached, IsSent}
use Rattle.cs_machine.specs.Settling.{deliveries, open_numbers, round, rounds}
use Rattle.cs_machine.proofs.Follows.{Follows, is-up, slice_get-append}
use Rattle.cs_machine.proofs.HeldFits.{keeps-held}
use Rattle.cs_machine.proofs.ReachedPieces.{IsQuiet-deliver}
use Rattle.cs_machine.proofs.ReachedChanges.{Reaches, Reaches-more, Reaches-same, rest-keeps, unless_down-keeps}
use Rattle.cs_machine.proofs.ReachedSteps.{quiet-commits}

-- ---- packets by their numbers

-- a packet stands at the place before its number
sent-place : (world : World) (number : ℕ) (sent : Sent) → sent_at world number ≡ Some sent → slice_get world.sent (number - 1) ≡ Some sent
sent-place world number sent is =
    elim (eqb number 0) as (λ b. cond b None (slice_get world.sent (number - 1)) ≡ Some sent → slice_get world.sent (number - 1) ≡ Some sent) [
      | true ↦ λ none. absurd (none-some sent none)
      | false ↦ λ got. got
    ] is

-- so no number is beyond the count of the packets
pub sent-within : (world : World) (number : ℕ) (sent : Sent) → sent_at world number ≡ Some sent → number ≤ length world.sent
sent-within world number sent is =
    let within = slice_get_within world.sent (number - 1) sent (sent-place world number sent is) in omega (arith, within)

-- a packet that is sent is one
pub sent-found : (world : World) (number : ℕ) (sent : Sent) → IsReached world → sent_at world number ≡ Some sent → IsSent world sent
sent-found world number sent reached is =
    All-get (IsSent world) world.sent (number - 1) sent reached.sent (sent-place world number sent is)

-- and keeps its number
pub sent_at-later : (world later : World) → Follows world later → (number : ℕ) (sent : Sent) → sent_at world number ≡ Some sent
    → sent_at later number ≡ Some sent
sent_at-later world later follows number sent is =
    let place : ℕ = number - 1 in
    elim (eqb number 0) as (λ b. cond b None (slice_get world.sent place) ≡ Some sent → cond b None (slice_get later.sent place) ≡ Some sent) [
      | true ↦ λ none. absurd (none-some sent none)
      | false ↦ λ got.
          ap (λ all. slice_get all place) follows.sent.1
          ∙ (slice_get-append world.sent follows.sent.0 place (slice_get_within world.sent place sent got) ∙ got)
    ] is

-- ---- packets that settling passes over

-- to pass over a sent packet keeps the laws: it has a receiver, so somebody leads
pub passed_over-keeps : (world : World) (number : ℕ) (sent : Sent) → IsReached world → sent_at world number ≡ Some sent
    → Reaches world (passed_over number world)
passed_over-keeps world number sent reached is =
    let is_sent = sent-found world number sent reached is in
    let receiver = reached.nodes sent.to is_sent.node is_sent.receiver in
    rest-keeps world reached receiver.leader receiver.led world.sent [] (number ∷ world.settled) world.delivered
    (sym (append-nil world.sent)) tt (sent-within world number sent is, reached.settled) reached.delivered

-- and so does to note that it was delivered
pub noted_delivery-keeps : (world : World) (number : ℕ) (sent : Sent) → IsReached world → sent_at world number ≡ Some sent
    → Reaches world (noted_delivery number world)
noted_delivery-keeps world number sent reached is =
    let is_sent = sent-found world number sent reached is in
    let receiver = reached.nodes sent.to is_sent.node is_sent.receiver in
    rest-keeps world reached receiver.leader receiver.led world.sent [] world.settled (number ∷ world.delivered)
    (sym (append-nil world.sent)) tt reached.settled (sent-within world number sent is, reached.delivered)

-- ---- deliveries

-- a packet comes to the node with an id, or to none
pub deliver_to-keeps : (world : World) (sent : Sent) (o : Option Node) → IsReached world → IsSent world sent → node_of world sent.to ≡ o
    → Reaches world (deliver_to world sent o).world
deliver_to-keeps world sent None reached is found = Reaches-same world reached
deliver_to-keeps world sent (Some node) reached is found =
    unless_down-keeps world node (deliver_as world sent node) reached
    (λ state is_up.
    let is_started = reached.nodes sent.to node found in
    let up = is-up world node state is_started is_up in
    quiet-commits world node sent.to state (deliver_step (contents_of world) node.own state sent.from sent.name) reached found is_up
    (IsQuiet-deliver world reached node is_started state up.fits sent.to sent.from sent.name (keeps-held world) is.name))

-- whether a packet has the number or none; it is passed over from then on
delivered-keeps : (world : World) (number : ℕ) (o : Option Sent) → IsReached world → sent_at world number ≡ o
    → Reaches world (delivered world number o).world
delivered-keeps world number None reached is = Reaches-same world reached
delivered-keeps world number (Some sent) reached is =
    let next : World = (deliver_to world sent (node_of world sent.to)).world in
    let keeps = deliver_to-keeps world sent (node_of world sent.to) reached (sent-found world number sent reached is) refl in
    let later = sent_at-later world next keeps.follows number sent is in
    let passed = passed_over-keeps next number sent keeps.reached later in
    Reaches-more world (passed_over number next) (noted_delivery number (passed_over number next))
    (Reaches-more world next (passed_over number next) keeps passed)
    (noted_delivery-keeps (passed_over number next) number sent passed.reached later)

-- so a delivery keeps the laws
pub deliver_at-keeps : (world : World) (number : ℕ) → IsReached world → Reaches world (deliver_at world number).world
deliver_at-keeps world number reached = delivered-keeps world number (sent_at world number) reached refl

-- and so does a loss
pub lost-keeps : (world : World) (number : ℕ) (o : Option Sent) → IsReached world → sent_at world number ≡ o
    → Reaches world (lost world number o).world
lost-keeps world number None reached is = Reaches-same world reached
lost-keeps world number (Some sent) reached is = passed_over-keeps world number sent reached is

-- ---- settling

-- deliveries keep the laws, one after the other
pub deliveries-keeps : (world : World) (numbers : List ℕ) → IsReached world → Reaches world (deliveries world numbers).world
deliveries-keeps world [] reached = Reaches-same world reached
deliveries-keeps world (number ∷ numbers) reached =
    let next : World = (deliver_at world number).world in
    let keeps = deliver_at-keeps world number reached in
    Reaches-more world next (deliveries next numbers).world keeps (deliveries-keeps next numbers keeps.reached)

-- and so do rounds
pub rounds-keeps : (world : World) (most : ℕ) → IsReached world → Reaches world (rounds world most).world
rounds-keeps world zero reached = Reaches-same world reached
rounds-keeps world (suc more) reached =
    let next : World = (round world).world in
    let keeps = deliveries-keeps world (open_numbers world) reached in
    Reaches-more world next (rounds next more).world keeps (rounds-keeps next more keeps.reached)
