-- A plan that logs nothing leaves what a restart brings back as it was, and a plan that logs something changes the node.
use Rattle.std.proofs.Common.{◌≢◌, ◌+◌, ◌==◌, ◌&&◌, ℕ, nat_le, nat_lt, not, is_some, Bool, List, [], ◌∷◌, length}
use Rattle.std.proofs.Common.{Option, Some, None, Result, Ok, Err, IfOk, refl}
use Rattle.std.specs.Option.{option_or}
use Rattle.std.specs.Prelude.{if◌then◌else◌, MatchOption, ⊤}
use Rattle.std.proofs.lemmas.Bool.{cond_both}
use Rattle.cs_base.specs.Address.{Address}
use Rattle.cs_base.specs.Axes.{Axes}
use Rattle.cs_base.specs.Limits.{last_id, last_number}
use Rattle.cs_base.specs.declared.change.Change.{Change}
use Rattle.cs_base.specs.declared.change.Change.TheVariants.{Move}
use Rattle.cs_fields.specs.declared.fault.PacketFault.{PacketFault}
use Rattle.cs_hold.specs.Held.{of_region, piece_in}
use Rattle.cs_item.specs.declared.picture.Picture.{Picture}
use Rattle.cs_item.specs.declared.slice.Slice.{Slice}
use Rattle.cs_packet.specs.NamedPiece.{NamedPiece}
use Rattle.cs_packet.specs.PacketField.{packet_of}
use Rattle.cs_packet.specs.declared.entry.Entry.TheVariants as entries
use Rattle.cs_packet.specs.declared.own.Own.{Own}
use Rattle.cs_packet.specs.declared.packet.Body.{Body}
use Rattle.cs_packet.specs.declared.packet.Body.TheVariants as bodies
use Rattle.cs_packet.specs.declared.packet.Packet.{Packet}
use Rattle.cs_view.specs.Taking.{taken}
use Rattle.cs_view.specs.declared.fault.ViewFault.{ViewFault}
use Rattle.cs_view.specs.declared.next.Next.{Next}
use Rattle.cs_view.specs.declared.next.Next.TheVariants as next
use Rattle.cs_core.specs.Asking.{answer, asked, asked_address, late_snapshot, least_wanted, need_of, used_slice}
use Rattle.cs_core.specs.Changes.{flush_plan, kept_as, move_plan, pending_with, sends_of}
use Rattle.cs_core.specs.Decision.{body_plan, bytes_plan, joining_plan, member_plan, plan_of}
use Rattle.cs_core.specs.Holding.{least_slice}
use Rattle.cs_core.specs.Laws.{IsAsItWas}
use Rattle.cs_core.specs.Node.{Following, Past, has_pair, lists}
use Rattle.cs_core.specs.Pieces.{late_plan, next_piece_plan, next_slice_plan, pass_plan, piece_plan, slice_plan}
use Rattle.cs_core.specs.Plans.{early, goes_on, only, or_unfit, stale, unfit_by, unlisted, ◌>>=◌}
use Rattle.cs_core.specs.Snapshots.{first_snap_plan, first_view, jump, knows, next_view, snap_plan, taken_view}
use Rattle.cs_core.specs.Taking.{Gain, gain_of_piece, gain_of_slice, gain_plan, piece_gained, plan_by, progress_from, progress_with, step_with, stepped}
use Rattle.cs_core.specs.Taking.{used_with}
use Rattle.cs_core.specs.declared.plan.Call.{Call}
use Rattle.cs_core.specs.declared.plan.Call.TheVariants as calls
use Rattle.cs_core.specs.declared.plan.FollowNote.TheVariants as notes
use Rattle.cs_core.specs.declared.plan.Outcome.{Outcome}
use Rattle.cs_core.specs.declared.plan.Outcome.TheVariants as outcomes
use Rattle.cs_core.specs.declared.plan.Plan.{Plan}
use Rattle.cs_core.specs.declared.plan.Unfit.{Unfit}
use Rattle.cs_core.specs.declared.plan.Unfit.TheVariants as unfit

-- the node is another one, or it left
abbrev pub LeadsOn : Outcome → Type 0
LeadsOn outcomes.Same = ⊥
LeadsOn (outcomes.Next node) = ⊤
LeadsOn outcomes.Gone = ⊤

-- then it isn't the same
pub LeadsOn-other : (outcome : Outcome) → LeadsOn outcome → outcome ≢ outcomes.Same
LeadsOn-other outcomes.Same on = absurd on
LeadsOn-other (outcomes.Next node) on = λ same. cc
LeadsOn-other outcomes.Gone on = λ same. cc

-- without an entry a restart brings back what it did before, and an entry leads on
abbrev pub LosesNothing : Own → Option Following → Plan → Type 0
LosesNothing own f plan =
    MatchOption plan.entry (IsAsItWas (record { own = own; following = f }) plan.after) (λ entry. LeadsOn plan.after)

-- where something doesn't fit the node stays the same
by_reason : (own : Own) (f : Option Following) (r : Result Plan Unfit) → IfOk r (LosesNothing own f) → LosesNothing own f (or_unfit r)
by_reason own f (Ok plan) keeps = keeps
by_reason own f (Err reason) keeps = tt

-- ---- snapshots
first_snap-keeps : (own : Own) (picture : Picture) → LosesNothing own None (first_snap_plan own picture)
first_snap-keeps own picture = by_reason own None (first_view own picture) (by_view (taken own.id own.mode picture))
  where
    by_view : (r : Result Picture ViewFault) → IfOk (unfit_by unfit.View r >>= λ view. Ok (jump own [] 0 view)) (LosesNothing own None)
    by_view (Ok view) = tt
    by_view (Err fault) = tt

snap-keeps : (own : Own) (m : Following) (picture : Picture) → LosesNothing own (Some m) (snap_plan own m picture)
snap-keeps own m picture =
    cond_both (nat_lt picture.epoch m.view.epoch) (stale m picture.epoch) (or_unfit (next_view own m picture)) (LosesNothing own (Some m))
    (λ below. tt) (λ level. by_reason own (Some m) (next_view own m picture) (by_view (taken own.id own.mode picture)))
  where
    by_view : (r : Result Picture ViewFault) → IfOk (unfit_by unfit.View r >>= λ view. Ok (taken_view own m view)) (LosesNothing own (Some m))
    by_view (Ok view) =
        cond_both ((view.epoch == m.view.epoch) && knows m.view.rolls view.rolls) (stale m view.epoch) (jump own m.pending m.seq view)
        (LosesNothing own (Some m)) (λ known. tt) (λ new. tt)
    by_view (Err fault) = tt

-- ---- steps
stepped-keeps : (own : Own) (m : Following) (gain : Gain) (used : List Slice) (after : Next)
    → LosesNothing own (Some m) (stepped own m gain used after)
stepped-keeps own m gain used (next.Member view) = tt
stepped-keeps own m gain used next.Departed = tt

gain-keeps : (own : Own) (m : Following) (gain : Gain) → IfOk (gain_plan own m gain) (LosesNothing own (Some m))
gain-keeps own m gain = by_least (least_slice gain.held)
  where
    by_step : (used : List Slice) (r : Result Next Unfit)
        → IfOk (r >>= (λ after. Ok (Some (used, after))) >>= λ made. Ok (plan_by own m gain made)) (LosesNothing own (Some m))
    by_step used (Ok after) = stepped-keeps own m gain used after
    by_step used (Err reason) = tt

    by_used : (w : Slice) (o : Option (List Slice))
        → IfOk (progress_with own m.view w o >>= λ made. Ok (plan_by own m gain made)) (LosesNothing own (Some m))
    by_used w None = refl
    by_used w (Some used) = by_step used (step_with own m.view w used)

    by_least : (o : Option Slice) → IfOk (progress_from own m.view gain.held o >>= λ made. Ok (plan_by own m gain made)) (LosesNothing own (Some m))
    by_least None = refl
    by_least (Some w) = by_used w (used_with m.view gain.held w)

piece_gained-keeps : (own : Own) (m : Following) (piece : NamedPiece) → IfOk (piece_gained own m piece) (LosesNothing own (Some m))
piece_gained-keeps own m piece = by_gain (gain_of_piece m piece.region piece.colour piece.bytes)
  where
    by_gain : (r : Result Gain Unfit) → IfOk (r >>= gain_plan own m) (LosesNothing own (Some m))
    by_gain (Ok gain) = gain-keeps own m gain
    by_gain (Err reason) = tt

-- ---- pieces and slices
late-keeps : (own : Own) (m : Following) (piece : NamedPiece) (past : Option Past) → LosesNothing own (Some m) (late_plan own m piece past)
late-keeps own m piece None = tt
late-keeps own m piece (Some past) =
    let had : Plan = if has_pair past.had piece.region piece.colour then only notes.Already else pass_plan own m past piece in
    cond_both (not (lists past.view piece.region)) (unlisted piece.region) had (LosesNothing own (Some m)) (λ no. tt)
    (λ yes. cond_both (has_pair past.had piece.region piece.colour) (only notes.Already) (pass_plan own m past piece) (LosesNothing own (Some m))
    (λ had. tt) (λ new. refl))

next_piece-keeps : (own : Own) (m : Following) (piece : NamedPiece) → LosesNothing own (Some m) (next_piece_plan own m piece)
next_piece-keeps own m piece =
    let taking : Plan = or_unfit (piece_gained own m piece) in
    let held : Bool = is_some (piece_in piece.region piece.colour m.held) in
    cond_both (not (lists m.view piece.region)) (unlisted piece.region) (if held then only notes.Already else taking) (LosesNothing own (Some m))
    (λ no. tt)
    (λ yes. cond_both held (only notes.Already) taking (LosesNothing own (Some m)) (λ had. tt)
    (λ new. by_reason own (Some m) (piece_gained own m piece) (piece_gained-keeps own m piece)))

piece-keeps : (own : Own) (m : Following) (piece : NamedPiece) → LosesNothing own (Some m) (piece_plan own m piece)
piece-keeps own m piece =
    let later : Plan = if nat_lt (m.view.epoch + 1) piece.epoch then early m piece.epoch else next_piece_plan own m piece in
    let level : Plan = if piece.epoch == m.view.epoch then late_plan own m piece m.past else later in
    cond_both (nat_lt piece.epoch m.view.epoch) (stale m piece.epoch) level (LosesNothing own (Some m)) (λ below. tt)
    (λ above. cond_both (piece.epoch == m.view.epoch) (late_plan own m piece m.past) later (LosesNothing own (Some m))
    (λ same. late-keeps own m piece m.past)
    (λ other. cond_both (nat_lt (m.view.epoch + 1) piece.epoch) (early m piece.epoch) (next_piece_plan own m piece) (LosesNothing own (Some m))
    (λ far. tt) (λ near. next_piece-keeps own m piece)))

next_slice-keeps : (own : Own) (m : Following) (slice : Slice) → LosesNothing own (Some m) (next_slice_plan own m slice)
next_slice-keeps own m slice =
    let gained : Result Plan Unfit = gain_plan own m (gain_of_slice m slice) in
    let whole : Bool = length (of_region slice.part.region m.held) == 4 in
    cond_both (not (lists m.view slice.part.region)) (unlisted slice.part.region) (if whole then only notes.Already else or_unfit gained)
    (LosesNothing own (Some m)) (λ no. tt)
    (λ yes. cond_both whole (only notes.Already) (or_unfit gained) (LosesNothing own (Some m)) (λ had. tt)
    (λ new. by_reason own (Some m) gained (gain-keeps own m (gain_of_slice m slice))))

slice-keeps : (own : Own) (m : Following) (slice : Slice) → LosesNothing own (Some m) (slice_plan own m slice)
slice-keeps own m slice =
    let later : Plan = if nat_lt (m.view.epoch + 1) slice.head.epoch then early m slice.head.epoch else next_slice_plan own m slice in
    cond_both (nat_le slice.head.epoch m.view.epoch) (stale m slice.head.epoch) later (LosesNothing own (Some m)) (λ low. tt)
    (λ high. cond_both (nat_lt (m.view.epoch + 1) slice.head.epoch) (early m slice.head.epoch) (next_slice_plan own m slice)
    (LosesNothing own (Some m)) (λ far. tt) (λ near. next_slice-keeps own m slice))

-- ---- changes and requests
move-keeps : (own : Own) (m : Following) (at : Axes) → LosesNothing own (Some m) (move_plan own m at)
move-keeps own m at =
    let change : Change = Move own.id (m.seq + 1) at in
    let moved : Plan = record {
      entry = Some (entries.Seq (m.seq + 1) at);
      sends = sends_of own m change;
      note = notes.Moved (m.seq + 1) (kept_as own m change);
      after = goes_on own (record m { pending = pending_with own m change; seq = m.seq + 1 });
    } in
    cond_both (m.seq == last_id) (only notes.SeqSpent) moved (LosesNothing own (Some m)) (λ spent. tt) (λ left. tt)

flush-keeps : (own : Own) (m : Following) (pending : List Change) → LosesNothing own (Some m) (flush_plan own m pending)
flush-keeps own m [] = tt
flush-keeps own m (change ∷ changes) = refl

asked-keeps : (own : Own) (f : Option Following) (to : ℕ) (body : Body) (addr : Option Address) → LosesNothing own f (asked own to body addr)
asked-keeps own f to body None = tt
asked-keeps own f to body (Some addr) = tt

need-keeps : (own : Own) (m : Following) (to region : ℕ) (addr : Option Address) → LosesNothing own (Some m) (need_of own m to region addr)
need-keeps own m to region None = tt
need-keeps own m to region (Some addr) =
    let body : Body = bodies.Need own.addr own.mode (m.view.epoch + 1) region in
    cond_both (m.view.epoch == last_number) (only notes.Spent) (asked own to body (Some addr)) (LosesNothing own (Some m)) (λ spent. tt)
    (λ left. tt)

answer-keeps : (own : Own) (f : Option Following) (addr : Address) (asker : ℕ) (body : Option Body) → LosesNothing own f (answer own addr asker body)
answer-keeps own f addr asker None = tt
answer-keeps own f addr asker (Some body) = tt

-- ---- packets and calls
member-keeps : (own : Own) (m : Following) (from : ℕ) (body : Body) → LosesNothing own (Some m) (member_plan own m from body)
member-keeps own m from (bodies.Report changes) = refl
member-keeps own m from (bodies.Piece epoch region colour bytes) =
    piece-keeps own m (record { epoch = epoch; region = region; colour = colour; bytes = bytes })
member-keeps own m from (bodies.Need addr mode epoch region) =
    answer-keeps own (Some m) addr from (option_or (used_slice m epoch region) (late_snapshot m.view from mode epoch))
member-keeps own m from (bodies.Slice slice) = slice-keeps own m slice
member-keeps own m from (bodies.Ask addr mode least) = answer-keeps own (Some m) addr from (late_snapshot m.view from mode least)
member-keeps own m from (bodies.Snap picture) = snap-keeps own m picture
member-keeps own m from (bodies.Bye epoch) = tt

joining-keeps : (own : Own) (body : Body) → LosesNothing own None (joining_plan own body)
joining-keeps own (bodies.Report changes) = tt
joining-keeps own (bodies.Piece epoch region colour bytes) = tt
joining-keeps own (bodies.Need addr mode epoch region) = tt
joining-keeps own (bodies.Slice slice) = tt
joining-keeps own (bodies.Ask addr mode least) = tt
joining-keeps own (bodies.Snap picture) = first_snap-keeps own picture
joining-keeps own (bodies.Bye epoch) = tt

body-keeps : (own : Own) (f : Option Following) (from : ℕ) (body : Body) → LosesNothing own f (body_plan own f from body)
body-keeps own None from body = joining-keeps own body
body-keeps own (Some m) from body = member-keeps own m from body

bytes-keeps : (own : Own) (f : Option Following) (r : Result Packet PacketFault)
    → LosesNothing own f (bytes_plan (record { own = own; following = f }) r)
bytes-keeps own f (Ok packet) =
    cond_both (packet.to == own.id) (body_plan own f packet.from packet.body) (only (notes.NotMine packet.to)) (LosesNothing own f)
    (λ mine. body-keeps own f packet.from packet.body) (λ other. tt)
bytes-keeps own f (Err fault) = tt

-- of any call
pub call-keeps : (own : Own) (f : Option Following) (call : Call) → LosesNothing own f (plan_of own f call)
call-keeps own None calls.Join = tt
call-keeps own None calls.AskLeader = tt
call-keeps own None (calls.Moved at) = tt
call-keeps own None calls.Leave = tt
call-keeps own None calls.Flush = tt
call-keeps own None (calls.Ask to) = tt
call-keeps own None (calls.Need to region) = tt
call-keeps own None (calls.Deliver bytes) = bytes-keeps own None (packet_of bytes.now)
call-keeps own (Some m) calls.Join = tt
call-keeps own (Some m) calls.AskLeader = tt
call-keeps own (Some m) (calls.Moved at) = move-keeps own m at
call-keeps own (Some m) calls.Leave = refl
call-keeps own (Some m) calls.Flush = flush-keeps own m m.pending
call-keeps own (Some m) (calls.Ask to) =
    asked-keeps own (Some m) to (bodies.Ask own.addr own.mode (least_wanted own m.view)) (asked_address own m.view to)
call-keeps own (Some m) (calls.Need to region) = need-keeps own m to region (asked_address own m.view to)
call-keeps own (Some m) (calls.Deliver bytes) = bytes-keeps own (Some m) (packet_of bytes.now)
