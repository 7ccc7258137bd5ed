-- What a plan logs gives the node again that the plan leads to.
use Rattle.std.proofs.Common.{◌≡◌, ◌∙◌, ℕ, ◌+◌, ◌<◌, ◌==◌, ◌&&◌, nat_le, nat_lt, not, is_some, Bool, true, false, List, [], ◌∷◌, length, Option, Some, None}
use Rattle.std.proofs.Common.{Result, Ok, Err, IfOk, IfSome, refl, sym, ap, arith}
use Rattle.std.specs.Option.{option_or}
use Rattle.std.specs.Prelude.{if◌then◌else◌}
use Rattle.std.proofs.lemmas.Bool.{cond_both, eq-eqb}
use Rattle.cs_base.specs.Address.{Address}
use Rattle.cs_base.specs.Axes.{Axes}
use Rattle.cs_base.specs.Limits.{last_id, last_number}
use Rattle.cs_base.specs.declared.change.Change.{Change}
use Rattle.cs_base.specs.declared.change.Change.TheVariants.{Move}
use Rattle.cs_base.specs.declared.change.Mode.{Mode}
use Rattle.cs_fields.specs.declared.fault.PacketFault.{PacketFault}
use Rattle.cs_hold.specs.Held.{of_region, piece_in}
use Rattle.cs_item.specs.declared.picture.Picture.{Picture}
use Rattle.cs_item.specs.declared.slice.Slice.{Slice}
use Rattle.cs_packet.specs.PacketField.{packet_of}
use Rattle.cs_packet.specs.declared.entry.Entry.{Entry}
use Rattle.cs_packet.specs.declared.entry.Entry.TheVariants as entries
use Rattle.cs_packet.specs.declared.own.Own.{Own}
use Rattle.cs_packet.specs.declared.packet.Body.{Body}
use Rattle.cs_packet.specs.declared.packet.Body.TheVariants as bodies
use Rattle.cs_packet.specs.declared.packet.Packet.{Packet}
use Rattle.cs_view.specs.Taking.{picture_fault, taken, view_from}
use Rattle.cs_view.specs.declared.fault.ViewFault.{ViewFault}
use Rattle.cs_view.specs.declared.next.Next.{Next}
use Rattle.cs_view.specs.declared.next.Next.TheVariants as next
use Rattle.cs_view.proofs.Again.{taken-again}
use Rattle.cs_view.proofs.Outcomes.{without_fault}
use Rattle.cs_core.specs.Asking.{answer, asked, asked_address, late_snapshot, least_wanted, need_of, used_slice}
use Rattle.cs_core.specs.Changes.{flush_plan, move_plan, pending_with, sends_of, kept_as}
use Rattle.cs_core.specs.Decision.{body_plan, bytes_plan, joining_call, joining_plan, member_call, member_plan, packet_plan, plan_of}
use Rattle.cs_core.specs.Laws.{as_logged}
use Rattle.cs_core.specs.Node.{Following, Node, Past, has_pair, lists}
use Rattle.cs_core.specs.Pieces.{late_plan, next_piece_plan, next_slice_plan, pass_plan, piece_plan, slice_plan}
use Rattle.cs_core.specs.Plans.{early, goes_on, only, or_unfit, stale, unfit_by, unlisted, ◌>>=◌}
use Rattle.cs_core.specs.Resume.{after_seq, as_stepped, as_taken, by_slices, is_below, resumed_by, resumes_as, seq_of}
use Rattle.cs_packet.specs.NamedPiece.{NamedPiece}
use Rattle.cs_core.specs.Snapshots.{at_view, first_snap_plan, first_view, jump, knows, next_view, snap_plan, taken_view}
use Rattle.cs_core.specs.Taking.{Gain, gain_of_piece, gain_of_slice, gain_plan, piece_gained, plan_by, progress_from, progress_with, step_with, stepped}
use Rattle.cs_core.specs.Taking.{used_with}
use Rattle.cs_core.specs.Holding.{least_slice}
use Rattle.cs_core.specs.declared.plan.Call.{Call}
use Rattle.cs_core.specs.declared.plan.Call.TheVariants as calls
use Rattle.cs_core.specs.declared.plan.FollowNote.TheVariants as notes
use Rattle.cs_core.specs.declared.plan.Plan.{Plan}
use Rattle.cs_core.specs.declared.plan.Resumed.TheVariants as resumed
use Rattle.cs_core.specs.declared.plan.Unfit.{Unfit}
use Rattle.cs_core.specs.declared.plan.Unfit.TheVariants as unfit
use Rattle.cs_core.proofs.StepParts.{some_used, step_by_first}

-- what is logged, if anything, gives again what the plan leads to
abbrev pub GivesAgain : Own → Option Following → Plan → Type 0
GivesAgain own f plan = IfSome plan.entry (λ entry. resumed_by own f entry ≡ as_logged plan.after)

-- where something doesn't fit nothing is logged
by_reason : (own : Own) (f : Option Following) (r : Result Plan Unfit) → IfOk r (GivesAgain own f) → GivesAgain own f (or_unfit r)
by_reason own f (Ok plan) again = again
by_reason own f (Err reason) again = tt

-- ---- snapshots
-- a view that is taken has the epoch of its picture
epoch_taken : (me : ℕ) (mode : Mode) (picture view : Picture) → taken me mode picture ≡ Ok view → view.epoch ≡ picture.epoch
epoch_taken me mode picture view took =
    sym (ap (λ (p : Picture). p.epoch) (without_fault (picture_fault me picture) (view_from me mode picture) view took).1)

-- a view that was taken is taken whole
jump-again : (own : Own) (f : Option Following) (pending : List Change) (picture view : Picture) → is_below view.epoch f ≡ false
    → taken own.id own.mode picture ≡ Ok view → GivesAgain own f (jump own pending (seq_of f) view)
jump-again own f pending picture view level took =
    ap (λ (b : Bool). if b then resumed.Breaks else as_taken own (seq_of f) view (taken own.id own.mode view)) level
    ∙ (ap (as_taken own (seq_of f) view) (taken-again own.id own.mode picture view took)
    ∙ ap (λ (b : Bool). if b then resumes_as own (at_view [] (seq_of f) view) else resumed.Breaks)
    (eq-eqb (length view.rolls) (length view.rolls) refl))

first_snap-again : (own : Own) (picture : Picture) → GivesAgain own None (first_snap_plan own picture)
first_snap-again own picture = by_reason own None (first_view own picture) (by_view (taken own.id own.mode picture) refl)
  where
    by_view : (r : Result Picture ViewFault) → taken own.id own.mode picture ≡ r
        → IfOk (unfit_by unfit.View r >>= λ view. Ok (jump own [] 0 view)) (GivesAgain own None)
    by_view (Ok view) took = jump-again own None [] picture view refl took
    by_view (Err fault) took = tt

snap-again : (own : Own) (m : Following) (picture : Picture) → GivesAgain own (Some m) (snap_plan own m picture)
snap-again own m picture =
    cond_both (nat_lt picture.epoch m.view.epoch) (stale m picture.epoch) (or_unfit (next_view own m picture)) (GivesAgain own (Some m))
    (λ below. tt) (λ level. by_reason own (Some m) (next_view own m picture) (by_view level (taken own.id own.mode picture) refl))
  where
    by_view : nat_lt picture.epoch m.view.epoch ≡ false → (r : Result Picture ViewFault) → taken own.id own.mode picture ≡ r
        → IfOk (unfit_by unfit.View r >>= λ view. Ok (taken_view own m view)) (GivesAgain own (Some m))
    by_view level (Ok view) took =
        let same = epoch_taken own.id own.mode picture view took in
        cond_both ((view.epoch == m.view.epoch) && knows m.view.rolls view.rolls) (stale m view.epoch) (jump own m.pending m.seq view)
        (GivesAgain own (Some m)) (λ known. tt)
        (λ new. jump-again own (Some m) m.pending picture view (ap (λ e. nat_lt e m.view.epoch) same ∙ level) took)
    by_view level (Err fault) took = tt

-- ---- steps
-- slices that step the view to another one do so again
slices-again : (own : Own) (m : Following) (w : Slice) (used : List Slice) (view : Picture) → 0 < length used
    → step_with own m.view w used ≡ Ok (next.Member view) → by_slices own m used ≡ as_stepped own m used (Ok (next.Member view))
slices-again own m w [] view some is = absurd (omega (arith, some))
slices-again own m w (s ∷ rest) view some is = ap (as_stepped own m (s ∷ rest)) (step_by_first own m.view w s rest (next.Member view) is)

stepped-again : (own : Own) (m : Following) (gain : Gain) (w : Slice) (used : List Slice) (after : Next) → 0 < length used
    → step_with own m.view w used ≡ Ok after → GivesAgain own (Some m) (stepped own m gain used after)
stepped-again own m gain w used (next.Member view) some is = slices-again own m w used view some is
stepped-again own m gain w used next.Departed some is = refl

gain-again : (own : Own) (m : Following) (gain : Gain) → IfOk (gain_plan own m gain) (GivesAgain own (Some m))
gain-again own m gain = by_least (least_slice gain.held)
  where
    by_step : (w : Slice) (used : List Slice) → 0 < length used → (r : Result Next Unfit) → step_with own m.view w used ≡ r
        → IfOk (r >>= (λ after. Ok (Some (used, after))) >>= λ made. Ok (plan_by own m gain made)) (GivesAgain own (Some m))
    by_step w used some (Ok after) is = stepped-again own m gain w used after some is
    by_step w used some (Err reason) is = tt

    by_used : (w : Slice) (o : Option (List Slice)) → used_with m.view gain.held w ≡ o
        → IfOk (progress_with own m.view w o >>= λ made. Ok (plan_by own m gain made)) (GivesAgain own (Some m))
    by_used w None there = tt
    by_used w (Some used) there = by_step w used (some_used m.view gain.held w used there) (step_with own m.view w used) refl

    by_least : (o : Option Slice) → IfOk (progress_from own m.view gain.held o >>= λ made. Ok (plan_by own m gain made)) (GivesAgain own (Some m))
    by_least None = tt
    by_least (Some w) = by_used w (used_with m.view gain.held w) refl

piece_gained-again : (own : Own) (m : Following) (piece : NamedPiece) → IfOk (piece_gained own m piece) (GivesAgain own (Some m))
piece_gained-again own m piece = by_gain (gain_of_piece m piece.region piece.colour piece.bytes)
  where
    by_gain : (r : Result Gain Unfit) → IfOk (r >>= gain_plan own m) (GivesAgain own (Some m))
    by_gain (Ok gain) = gain-again own m gain
    by_gain (Err reason) = tt

-- ---- pieces and slices
late-again : (own : Own) (m : Following) (piece : NamedPiece) (past : Option Past) → GivesAgain own (Some m) (late_plan own m piece past)
late-again own m piece None = tt
late-again own m piece (Some past) =
    let had : Plan = if has_pair past.had piece.region piece.colour then only notes.Already else pass_plan own m past piece in
    cond_both (not (lists past.view piece.region)) (unlisted piece.region) had (GivesAgain own (Some m)) (λ no. tt)
    (λ yes. cond_both (has_pair past.had piece.region piece.colour) (only notes.Already) (pass_plan own m past piece) (GivesAgain own (Some m))
    (λ had. tt) (λ new. tt))

next_piece-again : (own : Own) (m : Following) (piece : NamedPiece) → GivesAgain own (Some m) (next_piece_plan own m piece)
next_piece-again own m piece =
    let taking : Plan = or_unfit (piece_gained own m piece) in
    let held : Bool = is_some (piece_in piece.region piece.colour m.held) in
    cond_both (not (lists m.view piece.region)) (unlisted piece.region) (if held then only notes.Already else taking) (GivesAgain own (Some m))
    (λ no. tt)
    (λ yes. cond_both held (only notes.Already) taking (GivesAgain own (Some m)) (λ had. tt)
    (λ new. by_reason own (Some m) (piece_gained own m piece) (piece_gained-again own m piece)))

piece-again : (own : Own) (m : Following) (piece : NamedPiece) → GivesAgain own (Some m) (piece_plan own m piece)
piece-again own m piece =
    let later : Plan = if nat_lt (m.view.epoch + 1) piece.epoch then early m piece.epoch else next_piece_plan own m piece in
    let level : Plan = if piece.epoch == m.view.epoch then late_plan own m piece m.past else later in
    cond_both (nat_lt piece.epoch m.view.epoch) (stale m piece.epoch) level (GivesAgain own (Some m)) (λ below. tt)
    (λ above. cond_both (piece.epoch == m.view.epoch) (late_plan own m piece m.past) later (GivesAgain own (Some m))
    (λ same. late-again own m piece m.past)
    (λ other. cond_both (nat_lt (m.view.epoch + 1) piece.epoch) (early m piece.epoch) (next_piece_plan own m piece) (GivesAgain own (Some m))
    (λ far. tt) (λ near. next_piece-again own m piece)))

next_slice-again : (own : Own) (m : Following) (slice : Slice) → GivesAgain own (Some m) (next_slice_plan own m slice)
next_slice-again own m slice =
    let gained : Result Plan Unfit = gain_plan own m (gain_of_slice m slice) in
    let whole : Bool = length (of_region slice.part.region m.held) == 4 in
    cond_both (not (lists m.view slice.part.region)) (unlisted slice.part.region) (if whole then only notes.Already else or_unfit gained)
    (GivesAgain own (Some m)) (λ no. tt)
    (λ yes. cond_both whole (only notes.Already) (or_unfit gained) (GivesAgain own (Some m)) (λ had. tt)
    (λ new. by_reason own (Some m) gained (gain-again own m (gain_of_slice m slice))))

slice-again : (own : Own) (m : Following) (slice : Slice) → GivesAgain own (Some m) (slice_plan own m slice)
slice-again own m slice =
    let later : Plan = if nat_lt (m.view.epoch + 1) slice.head.epoch then early m slice.head.epoch else next_slice_plan own m slice in
    cond_both (nat_le slice.head.epoch m.view.epoch) (stale m slice.head.epoch) later (GivesAgain own (Some m)) (λ low. tt)
    (λ high. cond_both (nat_lt (m.view.epoch + 1) slice.head.epoch) (early m slice.head.epoch) (next_slice_plan own m slice)
    (GivesAgain own (Some m)) (λ far. tt) (λ near. next_slice-again own m slice))

-- ---- changes and requests
-- the number of a move is one higher than the last
move-again : (own : Own) (m : Following) (at : Axes) → GivesAgain own (Some m) (move_plan own m at)
move-again own m at =
    let change : Change = Move own.id (m.seq + 1) at in
    let moved : Plan = record {
      entry = Some (entries.Seq (m.seq + 1) at);
      sends = sends_of own m change;
      note = notes.Moved (m.seq + 1) (kept_as own m change);
      after = goes_on own (record m { pending = pending_with own m change; seq = m.seq + 1 });
    } in
    cond_both (m.seq == last_id) (only notes.SeqSpent) moved (GivesAgain own (Some m)) (λ spent. tt)
    (λ left. ap (λ (b : Bool). if b then resumes_as own (record m { seq = m.seq + 1 }) else resumed.Breaks)
    (eq-eqb (m.seq + 1) (m.seq + 1) refl))

flush-again : (own : Own) (m : Following) (pending : List Change) → GivesAgain own (Some m) (flush_plan own m pending)
flush-again own m [] = tt
flush-again own m (change ∷ changes) = tt

asked-again : (own : Own) (f : Option Following) (to : ℕ) (body : Body) (addr : Option Address) → GivesAgain own f (asked own to body addr)
asked-again own f to body None = tt
asked-again own f to body (Some addr) = tt

need-again : (own : Own) (m : Following) (to region : ℕ) (addr : Option Address) → GivesAgain own (Some m) (need_of own m to region addr)
need-again own m to region None = tt
need-again own m to region (Some addr) =
    let body : Body = bodies.Need own.addr own.mode (m.view.epoch + 1) region in
    cond_both (m.view.epoch == last_number) (only notes.Spent) (asked own to body (Some addr)) (GivesAgain own (Some m)) (λ spent. tt)
    (λ left. tt)

answer-again : (own : Own) (f : Option Following) (addr : Address) (asker : ℕ) (body : Option Body) → GivesAgain own f (answer own addr asker body)
answer-again own f addr asker None = tt
answer-again own f addr asker (Some body) = tt

-- ---- packets and calls
member-again : (own : Own) (m : Following) (from : ℕ) (body : Body) → GivesAgain own (Some m) (member_plan own m from body)
member-again own m from (bodies.Report changes) = tt
member-again own m from (bodies.Piece epoch region colour bytes) =
    piece-again own m (record { epoch = epoch; region = region; colour = colour; bytes = bytes })
member-again own m from (bodies.Need addr mode epoch region) =
    answer-again own (Some m) addr from (option_or (used_slice m epoch region) (late_snapshot m.view from mode epoch))
member-again own m from (bodies.Slice slice) = slice-again own m slice
member-again own m from (bodies.Ask addr mode least) = answer-again own (Some m) addr from (late_snapshot m.view from mode least)
member-again own m from (bodies.Snap picture) = snap-again own m picture
member-again own m from (bodies.Bye epoch) = refl

joining-again : (own : Own) (body : Body) → GivesAgain own None (joining_plan own body)
joining-again own (bodies.Report changes) = tt
joining-again own (bodies.Piece epoch region colour bytes) = tt
joining-again own (bodies.Need addr mode epoch region) = tt
joining-again own (bodies.Slice slice) = tt
joining-again own (bodies.Ask addr mode least) = tt
joining-again own (bodies.Snap picture) = first_snap-again own picture
joining-again own (bodies.Bye epoch) = refl

body-again : (own : Own) (f : Option Following) (from : ℕ) (body : Body) → GivesAgain own f (body_plan own f from body)
body-again own None from body = joining-again own body
body-again own (Some m) from body = member-again own m from body

bytes-again : (own : Own) (f : Option Following) (r : Result Packet PacketFault)
    → GivesAgain own f (bytes_plan (record { own = own; following = f }) r)
bytes-again own f (Ok packet) =
    cond_both (packet.to == own.id) (body_plan own f packet.from packet.body) (only (notes.NotMine packet.to)) (GivesAgain own f)
    (λ mine. body-again own f packet.from packet.body) (λ other. tt)
bytes-again own f (Err fault) = tt

-- of any call
pub call-again : (own : Own) (f : Option Following) (call : Call) → GivesAgain own f (plan_of own f call)
call-again own None calls.Join = tt
call-again own None calls.AskLeader = tt
call-again own None (calls.Moved at) = tt
call-again own None calls.Leave = tt
call-again own None calls.Flush = tt
call-again own None (calls.Ask to) = tt
call-again own None (calls.Need to region) = tt
call-again own None (calls.Deliver bytes) = bytes-again own None (packet_of bytes.now)
call-again own (Some m) calls.Join = tt
call-again own (Some m) calls.AskLeader = tt
call-again own (Some m) (calls.Moved at) = move-again own m at
call-again own (Some m) calls.Leave = tt
call-again own (Some m) calls.Flush = flush-again own m m.pending
call-again own (Some m) (calls.Ask to) =
    asked-again own (Some m) to (bodies.Ask own.addr own.mode (least_wanted own m.view)) (asked_address own m.view to)
call-again own (Some m) (calls.Need to region) = need-again own m to region (asked_address own m.view to)
call-again own (Some m) (calls.Deliver bytes) = bytes-again own (Some m) (packet_of bytes.now)
