-- A fault of one seat is one of all, and no decision answers with a fault.
use Rattle.std.proofs.Common.{◌≡◌, ℕ, zero, suc, ◌<◌, ◌≤◌, Bool, true, false, List, [], ◌∷◌, map, sum, slice_get}
use Rattle.std.proofs.Common.{Some, inl, inr, refl, ap, arith}
use Rattle.std.proofs.lemmas.Option.{none-some, same_Some}
use Rattle.cs_core.specs.Decision.{bytes_plan as follower_plan, plan_of as follow}
use Rattle.cs_core.specs.declared.plan.Call.TheVariants as own_calls
use Rattle.cs_core.specs.declared.plan.FollowNote.{FollowNote}
use Rattle.cs_core.specs.declared.plan.FollowNote.TheVariants as follow_notes
use Rattle.cs_fields.proofs.Codec.{sum-cons}
use Rattle.cs_lead.specs.Decision.{bytes_plan as leader_plan, plan_of as lead}
use Rattle.cs_lead.specs.declared.plan.LeadCall.TheVariants.{Close}
use Rattle.cs_lead.specs.declared.plan.LeadNote.{LeadNote}
use Rattle.cs_lead.specs.declared.plan.LeadNote.TheVariants as lead_notes
use Rattle.cs_link.specs.declared.link.Link.{Ghosts as LinkGhosts}
use Rattle.cs_log.specs.Faults.{HasRisen}
use Rattle.cs_log.specs.declared.log.Log.{Ghosts as LogGhosts}
use Rattle.cs_node.specs.Notes.{note_of_follower, note_of_leader}
use Rattle.cs_node.specs.Placed.{Placed}
use Rattle.cs_node.specs.declared.node.Node.{Node}
use Rattle.cs_node.specs.declared.node.Node.TheVariants as nodes
use Rattle.cs_node.specs.declared.note.Note.{Note}
use Rattle.cs_node.specs.declared.note.Note.TheVariants as notes
use Rattle.cs_packet.specs.PacketField.{packet_of}
use Rattle.cs_world.specs.Calls.{asking, effects_at}
use Rattle.cs_world.specs.Processes.{Parts, parts_in}
use Rattle.cs_world.specs.Seats.{Seated, link_faults_of, log_faults_of, parts_at, seated, seats_of}
use Rattle.cs_world.specs.declared.call.Call.{Call}
use Rattle.cs_world.specs.declared.call.Call.TheVariants as calls
use Rattle.cs_world.specs.declared.seats.Seats.{Seats}
use Rattle.cs_world.proofs.Places.{SeatThere, seat-there}

-- a count that has risen is some
pub risen-some : (before now : ℕ) → HasRisen before now → 0 < now
risen-some before now (inl more) = omega (arith, more)
risen-some before now (inr last) = omega (arith, last)

-- what one has is no more than what all have together
pub one-of-all : {X : Type 0} (f : X → ℕ) (xs : List X) (i : ℕ) (x : X) → slice_get xs i ≡ Some x → f x ≤ sum (map f xs)
one-of-all f [] i x at = absurd (none-some x at)
one-of-all f (y ∷ xs) zero x at =
    let same : f y ≡ f x = ap f (same_Some y x at) in
    let all = sum-cons (f y) (map f xs) in omega (arith, same, all)
one-of-all f (y ∷ xs) (suc i) x at =
    let behind = one-of-all f xs i x at in
    let all = sum-cons (f y) (map f xs) in omega (arith, behind, all)

module _ {L G : Type 0} (link : LinkGhosts L) (log : LogGhosts G) (seats : Seats (Placed L G)) (id : ℕ) (parts : Parts)
    (there : parts_at link log seats id ≡ Some parts) where
  -- the seat under the id is one of all, and has what is under the id
  its : SeatThere link log seats id parts
  its = seat-there link log seats id parts there

  -- so a fault of its link is one of all links
  pub link-fault-counts : 0 < parts.link.faults → 0 < link_faults_of (seats_of link log seats)
  link-fault-counts some =
      let within = one-of-all (λ (s : Seated). s.parts.link.faults) (seats_of link log seats) its.place (seated link log its.seat) its.there in
      let same : parts.link.faults ≡ (parts_in link log its.seat.state).link.faults = ap (λ (p : Parts). p.link.faults) its.has in
      omega (arith, within, same, some)

  -- and a fault of its log one of all logs
  pub log-fault-counts : 0 < parts.log.own_faults → 0 < log_faults_of (seats_of link log seats)
  log-fault-counts some =
      let within = one-of-all (λ (s : Seated). s.parts.log.own_faults) (seats_of link log seats) its.place (seated link log its.seat) its.there in
      let same : parts.log.own_faults ≡ (parts_in link log its.seat.state).log.own_faults = ap (λ (p : Parts). p.log.own_faults) its.has in
      omega (arith, within, same, some)

-- whether an answer tells of a fault of the link, of the log or of memory
abbrev pub is_fault : Note → Bool
is_fault (notes.LinkFault n) = true
is_fault notes.LogFault = true
is_fault notes.Memory = true
is_fault note = false

-- no answer of a node that isn't the leader does
follower-decides : (note : FollowNote) → is_fault (note_of_follower note) ≡ false
follower-decides (follow_notes.Told kept) = refl
follower-decides (follow_notes.Moved seq kept) = refl
follower-decides follow_notes.SeqSpent = refl
follower-decides (follow_notes.Flushed count) = refl
follower-decides follow_notes.Nothing = refl
follower-decides (follow_notes.Unknown to) = refl
follower-decides follow_notes.Held = refl
follower-decides follow_notes.Passed = refl
follower-decides follow_notes.Already = refl
follower-decides (follow_notes.Advanced epoch) = refl
follower-decides (follow_notes.Jumped epoch) = refl
follower-decides follow_notes.Departed = refl
follower-decides (follow_notes.Stale have given) = refl
follower-decides (follow_notes.Early have given) = refl
follower-decides follow_notes.Answered = refl
follower-decides follow_notes.Silent = refl
follower-decides (follow_notes.Noted counts) = refl
follower-decides follow_notes.Idle = refl
follower-decides (follow_notes.NotMine to) = refl
follower-decides (follow_notes.Bad fault) = refl
follower-decides (follow_notes.Unfit reason) = refl
follower-decides follow_notes.Spent = refl

-- nor any of the leader
leader-decides : (note : LeadNote) → is_fault (note_of_leader note) ≡ false
leader-decides (lead_notes.Stale have given) = refl
leader-decides (lead_notes.Early have given) = refl
leader-decides lead_notes.Answered = refl
leader-decides lead_notes.Silent = refl
leader-decides (lead_notes.Noted counts) = refl
leader-decides lead_notes.Idle = refl
leader-decides (lead_notes.NotMine to) = refl
leader-decides (lead_notes.Bad fault) = refl
leader-decides (lead_notes.Closed epoch verdicts) = refl
leader-decides lead_notes.Spent = refl

-- so what a node decides at a call has no such answer
pub decides : (node : Node) (call : Call) → is_fault (effects_at node call).note ≡ false
decides (nodes.Follower f) calls.Join = follower-decides (follow f.own f.following own_calls.Join).note
decides (nodes.Follower f) calls.Leave = follower-decides (follow f.own f.following own_calls.Leave).note
decides (nodes.Follower f) calls.Flush = follower-decides (follow f.own f.following own_calls.Flush).note
decides (nodes.Follower f) (calls.Move at) = follower-decides (follow f.own f.following (own_calls.Moved at)).note
decides (nodes.Follower f) calls.Close = refl
decides (nodes.Follower f) (calls.Ask to leads) = follower-decides (follow f.own f.following (asking (nodes.Follower f) to)).note
decides (nodes.Follower f) (calls.Need to region) = follower-decides (follow f.own f.following (own_calls.Need to region)).note
decides (nodes.Follower f) (calls.Deliver bytes) = follower-decides (follower_plan f (packet_of bytes.now)).note
decides (nodes.Leader leader) calls.Join = refl
decides (nodes.Leader leader) calls.Leave = refl
decides (nodes.Leader leader) calls.Flush = refl
decides (nodes.Leader leader) (calls.Move at) = refl
decides (nodes.Leader leader) calls.Close = leader-decides (lead leader Close).note
decides (nodes.Leader leader) (calls.Ask to leads) = refl
decides (nodes.Leader leader) (calls.Need to region) = refl
decides (nodes.Leader leader) (calls.Deliver bytes) = leader-decides (leader_plan leader (packet_of bytes.now)).note
decides nodes.Left calls.Join = refl
decides nodes.Left calls.Leave = refl
decides nodes.Left calls.Flush = refl
decides nodes.Left (calls.Move at) = refl
decides nodes.Left calls.Close = refl
decides nodes.Left (calls.Ask to leads) = refl
decides nodes.Left (calls.Need to region) = refl
decides nodes.Left (calls.Deliver bytes) = refl
