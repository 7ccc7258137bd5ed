-- Which lines of a transcript have no LF, aren't `end`, and don't begin a block.
use Rattle.std.proofs.Common.{◌≡◌, ℕ, zero, suc, ◌+◌, ◌==◌, Bool, true, false, not, ◌&&◌, List, [], ◌∷◌, ◌++◌}
use Rattle.std.proofs.Common.{length, map, codes, decimal, bytes_eq, get_or, Option, Some, None}
use Rattle.std.proofs.Common.{refl, subst, append-nil, inl, arith}
use Rattle.std.specs.List.{AllByRecursion, join_with_byte, list_any, onto_first, slice_split}
use Rattle.std.proofs.lemmas.Bool.{and_left, and_parts, cond_both, false≢true, not-true, or_parts, true≢false}
use Rattle.cs_base.specs.Address.{Address}
use Rattle.cs_base.specs.Axes.{Axes}
use Rattle.cs_base.specs.Changes.{id_of}
use Rattle.cs_base.specs.declared.change.Change.{Change}
use Rattle.cs_base.specs.declared.change.Change.TheVariants.{Join, Move, Leave}
use Rattle.cs_base.specs.declared.change.Mode.{Mode}
use Rattle.cs_base.proofs.Elements.{All-append, All-map}
use Rattle.cs_core.specs.declared.plan.Unfit.{Unfit}
use Rattle.cs_core.specs.declared.plan.Unfit.TheVariants as unfit
use Rattle.cs_fields.specs.declared.fault.PacketFault.{PacketFault}
use Rattle.cs_fields.specs.declared.fault.PacketFault.TheVariants as packet_faults
use Rattle.cs_group.specs.declared.verdict.Verdict.{Verdict}
use Rattle.cs_group.specs.declared.verdict.Verdict.TheVariants as verdicts
use Rattle.cs_node.specs.declared.note.Note.{Note}
use Rattle.cs_node.specs.declared.note.Note.TheVariants as notes
use Rattle.cs_packet.specs.declared.own.Own.{Own}
use Rattle.cs_packet.specs.declared.packet.Body.{Body}
use Rattle.cs_packet.specs.declared.packet.Body.TheVariants as bodies
use Rattle.cs_packet.specs.declared.packet.Packet.{Packet}
use Rattle.cs_pending.specs.Counting.{counted, no_counts}
use Rattle.cs_pending.specs.declared.offer.Counts.{Counts}
use Rattle.cs_pending.specs.declared.offer.Offer.{Offer}
use Rattle.cs_piece.specs.declared.fault.PieceFault.{PieceFault}
use Rattle.cs_piece.specs.declared.fault.PieceFault.TheVariants as piece_faults
use Rattle.cs_script.specs.declared.event.Event.{Event}
use Rattle.cs_script.specs.declared.event.Event.TheVariants as events
use Rattle.cs_script.specs.declared.fault.LineFault.{LineFault}
use Rattle.cs_script.specs.declared.fault.LineFault.TheVariants as faults
use Rattle.cs_show.proofs.BlockOfText.{IsLine}
use Rattle.cs_show.proofs.BlocksInLines.{IsQuiet}
use Rattle.cs_show.proofs.Words.{Lacks, Lacks-decimal}
use Rattle.cs_view.specs.declared.fault.ViewFault.{ViewFault}
use Rattle.cs_view.specs.declared.fault.ViewFault.TheVariants as view_faults
use Rattle.cs_machine.specs.Asking.{ask_leader_step, ask_step, need_step}
use Rattle.cs_machine.specs.Changes.{flush_step, join_step, leave_step, move_step}
use Rattle.cs_machine.specs.Closing.{close_step}
use Rattle.cs_machine.specs.Contents.{Contents, contents_of}
use Rattle.cs_machine.specs.Delivering.{deliver_as, deliver_at, deliver_to, delivered, lost, sent_at}
use Rattle.cs_machine.specs.Happens.{ask_as, ask_at, boot_in, booted, close_as, close_at, crash_at, crashed, happens, is_used, join_as, join_at, led}
use Rattle.cs_machine.specs.Happens.{member_as, member_at, noise_at, restart_as, restart_at, restart_line, tear_at}
use Rattle.cs_machine.specs.Entries.{Entry}
use Rattle.cs_machine.specs.Outcome.{After, answer, commit, torn_entry, unless_down, unless_torn}
use Rattle.cs_machine.specs.Restoring.{restored}
use Rattle.cs_machine.specs.Lines.{body_text, counts_line, fault_line, fault_text, kept_lines, note_lines, packet_line, packet_lines, pair_line}
use Rattle.cs_machine.specs.Lines.{piece_fault_line, reason_of, unfit_line, verdict_line, view_fault_line, word_of}
use Rattle.cs_machine.specs.Machine.{deliver_step}
use Rattle.cs_machine.specs.Names.{Membership, Sent, State, Joining, Following, Leading, Left, Node, World, node_of, leader_of}
use Rattle.cs_machine.specs.Settling.{deliveries, open_numbers, round, rounds, settled}
use Rattle.cs_machine.specs.Step.{Step}
use Rattle.census.specs.Transcript.{kind_of}

-- the line has no LF, isn't `end`, and its first word isn't `epoch`
pub record IsQuietLine (text : List ℕ) : Type 0 where
  pub line : IsLine text
  pub quiet : IsQuiet text

-- a text in which the byte isn't found
pub Lacks-tested : (byte : ℕ) (text : List ℕ) → list_any (λ b. b == byte) text ≡ false → Lacks byte text
Lacks-tested byte [] none = tt
Lacks-tested byte (b ∷ text) none =
    let parts = or_parts (b == byte) (list_any (λ b. b == byte) text) none in (parts.0, Lacks-tested byte text parts.1)

-- two texts in a row
pub IsLine-append : (a b : List ℕ) → IsLine a → IsLine b → IsLine (a ++ b)
IsLine-append a b front behind = All-append (λ b. (b == 10) ≡ false) a b front behind

-- two texts with a space between
IsLine-spaced : (a b : List ℕ) → IsLine a → IsLine b → IsLine (a ++ codes " " ++ b)
IsLine-spaced a b front behind = IsLine-append (a ++ codes " ") b (IsLine-append a (codes " ") front (refl, tt)) behind

-- a number has no LF
pub IsLine-decimal : (n : ℕ) → IsLine (decimal n)
IsLine-decimal n = Lacks-decimal 10 n (inl (omega arith))

-- lines with a byte between two
pub IsLine-joined : (byte : ℕ) (lines : List (List ℕ)) → (byte == 10) ≡ false → AllByRecursion IsLine lines → IsLine (join_with_byte byte lines)
IsLine-joined byte [] other all = tt
IsLine-joined byte (line ∷ []) other all = all.0
IsLine-joined byte (line ∷ next ∷ more) other all =
    IsLine-append line (byte ∷ join_with_byte byte (next ∷ more)) all.0 (other, IsLine-joined byte (next ∷ more) other all.1)

-- numbers with a byte between two
pub IsLine-numbers : (byte : ℕ) (numbers : List ℕ) → (byte == 10) ≡ false → IsLine (join_with_byte byte (map decimal numbers))
IsLine-numbers byte numbers other = IsLine-joined byte (map decimal numbers) other (All-map IsLine decimal IsLine-decimal numbers)

-- the first word begins with the first byte
first_word-other : (b : ℕ) (words : List (List ℕ)) → (b == 101) ≡ false → bytes_eq (get_or (onto_first b words) 0 []) (codes "epoch") ≡ false
first_word-other b [] other = and_left (b == 101) (bytes_eq [] (codes "poch")) other
first_word-other b (word ∷ words) other = and_left (b == 101) (bytes_eq word (codes "poch")) other

-- a line with another first byte than that of `end` and `epoch`
quiet_by_first : (b : ℕ) (rest : List ℕ) → (b == 101) ≡ false → IsLine (b ∷ rest) → IsQuietLine (b ∷ rest)
quiet_by_first b rest other is =
    let words = slice_split (λ b. b == 32) rest in
    record {
      line = is;
      quiet = record {
        no_end = and_left (b == 101) (bytes_eq rest (codes "nd")) other;
        no_epoch = cond_both (b == 32) ([] ∷ words) (onto_first b words) (λ found. bytes_eq (get_or found 0 []) (codes "epoch") ≡ false)
            (λ space. refl) (λ letter. first_word-other b words other);
      };
    }

-- the text has no LF and another first byte than that of `end` and `epoch`
abbrev is_other : List ℕ → Bool
is_other [] = false
is_other (b ∷ text) = not (b == 101) && not (list_any (λ b. b == 10) (b ∷ text))

-- a line that begins with such a text
quiet_by_word : (word rest : List ℕ) → is_other word ≡ true → IsLine rest → IsQuietLine (word ++ rest)
quiet_by_word [] rest other is = absurd (false≢true other)
quiet_by_word (b ∷ text) rest other is =
    let parts = and_parts (not (b == 101)) (not (list_any (λ b. b == 10) (b ∷ text))) other in
    quiet_by_first b (text ++ rest) (not-true (b == 101) parts.0)
    (IsLine-append (b ∷ text) rest (Lacks-tested 10 (b ∷ text) (not-true (list_any (λ b. b == 10) (b ∷ text)) parts.1)) is)

-- the second byte tells `early` from `epoch`
second_byte-other : (words : List (List ℕ)) → bytes_eq (get_or (onto_first 101 (onto_first 97 words)) 0 []) (codes "epoch") ≡ false
second_byte-other [] = refl
second_byte-other (word ∷ words) = refl

-- a line that begins with `ea`
quiet_by_second : (rest : List ℕ) → IsLine rest → IsQuietLine (codes "ea" ++ rest)
quiet_by_second rest is = record {
  line = (refl, (refl, is));
  quiet = record { no_end = refl; no_epoch = second_byte-other (slice_split (λ b. b == 32) rest) };
}

-- the line that is said again
pub quiet-echo : (line : List ℕ) → IsLine line → IsQuietLine (codes "> " ++ line)
quiet-echo line is = quiet_by_word (codes "> ") line refl is

-- such a text alone
quiet_word : (word : List ℕ) → is_other word ≡ true → IsQuietLine word
quiet_word word other = subst IsQuietLine (append-nil word) (quiet_by_word word [] other tt)

-- a word and a number
quiet-number : (word : List ℕ) (n : ℕ) → is_other word ≡ true → IsQuietLine (word ++ decimal n)
quiet-number word n other = quiet_by_word word (decimal n) other (IsLine-decimal n)

-- what stands behind the word of two numbers
IsLine-pair : (a b : ℕ) → IsLine (pair_line [] a b)
IsLine-pair a b = (refl, IsLine-spaced (decimal a) (decimal b) (IsLine-decimal a) (IsLine-decimal b))

-- the word of a change
IsLine-change : (change : Change) → IsLine (word_of change)
IsLine-change (Join member) = Lacks-tested 10 (codes "join") refl
IsLine-change (Move id seq at) = Lacks-tested 10 (codes "move") refl
IsLine-change (Leave id) = Lacks-tested 10 (codes "leave") refl

-- the end of a verdict's line
IsLine-reason : (verdict : Verdict) → IsLine (reason_of verdict)
IsLine-reason verdicts.Accepted = tt
IsLine-reason verdicts.Retired = Lacks-tested 10 (codes " retired") refl
IsLine-reason verdicts.Present = Lacks-tested 10 (codes " present") refl
IsLine-reason verdicts.Full = Lacks-tested 10 (codes " full") refl
IsLine-reason verdicts.Absent = Lacks-tested 10 (codes " absent") refl
IsLine-reason verdicts.Leader = Lacks-tested 10 (codes " leader") refl
IsLine-reason verdicts.Stale = Lacks-tested 10 (codes " stale") refl

-- what stands behind the first word of a verdict's line
abbrev judged_text : Change → Verdict → List ℕ
judged_text change verdict = decimal (id_of change) ++ codes " " ++ word_of change ++ reason_of verdict

-- it has no LF
IsLine-judged : (change : Change) (verdict : Verdict) → IsLine (judged_text change verdict)
IsLine-judged change verdict =
    IsLine-append (decimal (id_of change) ++ codes " " ++ word_of change) (reason_of verdict)
    (IsLine-spaced (decimal (id_of change)) (word_of change) (IsLine-decimal (id_of change)) (IsLine-change change)) (IsLine-reason verdict)

-- the line of a verdict
quiet-verdict : (judged : Change × Verdict) → IsQuietLine (verdict_line judged)
quiet-verdict (change, verdicts.Accepted) =
    quiet_by_word (codes "accepted ") (judged_text change verdicts.Accepted) refl (IsLine-judged change verdicts.Accepted)
quiet-verdict (change, verdict) = quiet_by_word (codes "refused ") (judged_text change verdict) refl (IsLine-judged change verdict)

-- a word and a number have no LF
IsLine-numbered : (word : List ℕ) (n : ℕ) → list_any (λ b. b == 10) word ≡ false → IsLine (word ++ decimal n)
IsLine-numbered word n none = IsLine-append word (decimal n) (Lacks-tested 10 word none) (IsLine-decimal n)

-- nor have a word and two numbers
IsLine-worded : (word : List ℕ) (a b : ℕ) → list_any (λ b. b == 10) word ≡ false → IsLine (word ++ pair_line [] a b)
IsLine-worded word a b none = IsLine-append word (pair_line [] a b) (Lacks-tested 10 word none) (IsLine-pair a b)

-- how many offers met what
quiet-counts : (c : Counts) → IsQuietLine (counts_line c)
quiet-counts c =
    quiet_by_word (codes "noted") (pair_line [] c.fresh c.replaced ++ pair_line [] c.weaker c.full) refl
    (IsLine-append (pair_line [] c.fresh c.replaced) (pair_line [] c.weaker c.full) (IsLine-pair c.fresh c.replaced) (IsLine-pair c.weaker c.full))

-- what one's own offer met, where it was kept
quiet-kept : (kept : Option Offer) → AllByRecursion IsQuietLine (kept_lines kept)
quiet-kept None = tt
quiet-kept (Some offer) = (quiet-counts (counted no_counts offer), tt)

-- why a picture or a slice doesn't fit a view
quiet-view_fault : (fault : ViewFault) → IsQuietLine (view_fault_line fault)
quiet-view_fault (view_faults.Epoch have given) = quiet_word (codes "memory") refl
quiet-view_fault (view_faults.Region region) = quiet-number (codes "unfit region ") region refl
quiet-view_fault (view_faults.Missing region) = quiet_word (codes "memory") refl
quiet-view_fault (view_faults.Part region) = quiet-number (codes "unfit part ") region refl
quiet-view_fault view_faults.Size = quiet_word (codes "unfit size") refl
quiet-view_fault (view_faults.Roll region) = quiet-number (codes "unfit roll ") region refl
quiet-view_fault view_faults.Absent = quiet_word (codes "unfit absent") refl
quiet-view_fault view_faults.Memory = quiet_word (codes "memory") refl

-- why three pieces don't give the bytes of a slice
quiet-piece_fault : (fault : PieceFault) → IsQuietLine (piece_fault_line fault)
quiet-piece_fault piece_faults.Index = quiet_word (codes "memory") refl
quiet-piece_fault piece_faults.Length = quiet_word (codes "unfit piece length") refl
quiet-piece_fault piece_faults.Padding = quiet_word (codes "unfit piece padding") refl
quiet-piece_fault piece_faults.Memory = quiet_word (codes "memory") refl

-- the first fault of bytes
IsLine-fault : (fault : PacketFault) → IsLine (fault_text fault)
IsLine-fault (packet_faults.Short place) = IsLine-numbered (codes "short ") place refl
IsLine-fault (packet_faults.Extra place) = IsLine-numbered (codes "extra ") place refl
IsLine-fault (packet_faults.Version version) = IsLine-numbered (codes "version ") version refl
IsLine-fault (packet_faults.Kind kind) = IsLine-numbered (codes "kind ") kind refl
IsLine-fault (packet_faults.Value place) = IsLine-numbered (codes "value ") place refl
IsLine-fault packet_faults.Memory = Lacks-tested 10 (codes "memory") refl

-- why bytes are no packet
quiet-bad : (fault : PacketFault) → IsQuietLine (fault_line fault)
quiet-bad fault = quiet_by_word (codes "bad ") (fault_text fault) refl (IsLine-fault fault)

-- why a packet that was read is of no use
quiet-unfit : (reason : Unfit) → IsQuietLine (unfit_line reason)
quiet-unfit (unfit.View fault) = quiet-view_fault fault
quiet-unfit (unfit.Piece fault) = quiet-piece_fault fault
quiet-unfit (unfit.Bytes fault) = quiet_by_word (codes "unfit bytes ") (fault_text fault) refl (IsLine-fault fault)
quiet-unfit unfit.Name = quiet_word (codes "unfit name") refl
quiet-unfit (unfit.Heads region) = quiet-number (codes "unfit heads ") region refl

-- the lines of an answer
quiet-note : (note : Note) → AllByRecursion IsQuietLine (note_lines note)
quiet-note (notes.Told kept) = (quiet_word (codes "told") refl, quiet-kept kept)
quiet-note (notes.Moved seq kept) = (quiet-number (codes "moved ") seq refl, quiet-kept kept)
quiet-note notes.SeqSpent = (quiet_word (codes "spent") refl, tt)
quiet-note (notes.Flushed count) = (quiet-number (codes "flushed ") count refl, tt)
quiet-note notes.Nothing = (quiet_word (codes "nothing") refl, tt)
quiet-note (notes.Unknown to) = (quiet-number (codes "unknown ") to refl, tt)
quiet-note notes.Held = (quiet_word (codes "held") refl, tt)
quiet-note notes.Passed = (quiet_word (codes "passed") refl, tt)
quiet-note notes.Already = (quiet_word (codes "already") refl, tt)
quiet-note (notes.Advanced epoch) = (quiet-number (codes "advanced ") epoch refl, tt)
quiet-note (notes.Jumped epoch) = (quiet-number (codes "jumped ") epoch refl, tt)
quiet-note notes.Departed = (quiet_word (codes "departed") refl, tt)
quiet-note (notes.Stale have given) = (quiet_by_word (codes "stale") (pair_line [] have given) refl (IsLine-pair have given), tt)
quiet-note (notes.Early have given) = (
  quiet_by_second (codes "rly" ++ pair_line [] have given) (IsLine-worded (codes "rly") have given refl),
  tt,
)
quiet-note notes.Answered = (quiet_word (codes "answered") refl, tt)
quiet-note notes.Silent = (quiet_word (codes "silent") refl, tt)
quiet-note (notes.Noted c) = (quiet-counts c, tt)
quiet-note notes.Idle = (quiet_word (codes "idle") refl, tt)
quiet-note (notes.NotMine to) = (quiet-number (codes "not mine ") to refl, tt)
quiet-note (notes.Bad fault) = (quiet-bad fault, tt)
quiet-note (notes.Unfit reason) = (quiet-unfit reason, tt)
quiet-note (notes.Closed epoch judged) =
    All-append IsQuietLine (map verdict_line judged) ((codes "closed " ++ decimal epoch) ∷ []) (All-map IsQuietLine verdict_line quiet-verdict judged)
    (quiet-number (codes "closed ") epoch refl, tt)
quiet-note notes.Spent = (quiet_word (codes "spent") refl, tt)
quiet-note (notes.LinkFault sent) = (quiet_word (codes "link") refl, tt)
quiet-note notes.LogFault = (quiet_word (codes "stopped log") refl, tt)
quiet-note notes.Memory = (quiet_word (codes "memory") refl, tt)

-- what a packet says
IsLine-body : (body : Body) → IsLine (body_text body)
IsLine-body (bodies.Report changes) = IsLine-numbered (codes "report ") (length changes) refl
IsLine-body (bodies.Piece epoch region colour text) =
    IsLine-spaced (pair_line (codes "piece") epoch region) (decimal colour) (IsLine-worded (codes "piece") epoch region refl) (IsLine-decimal colour)
IsLine-body (bodies.Need addr mode epoch region) = IsLine-worded (codes "need") epoch region refl
IsLine-body (bodies.Slice slice) = IsLine-worded (codes "slice") slice.head.epoch slice.part.region refl
IsLine-body (bodies.Ask addr mode least) = IsLine-numbered (codes "ask ") least refl
IsLine-body (bodies.Snap picture) =
    let known = map (λ pair. pair.0) picture.rolls in
    IsLine-spaced (codes "snap " ++ decimal picture.epoch) (join_with_byte 44 (map decimal known)) (IsLine-numbered (codes "snap ") picture.epoch refl)
    (IsLine-numbers 44 known refl)
IsLine-body (bodies.Bye epoch) = IsLine-numbered (codes "bye ") epoch refl

-- the line of a packet
quiet-packet : (number : ℕ) (packet : Packet) → IsQuietLine (packet_line number packet)
quiet-packet number packet =
    let from = decimal number ++ codes " " ++ decimal packet.from in
    let to = from ++ codes ">" ++ decimal packet.to in
    quiet_by_word (codes "#") (to ++ codes " " ++ body_text packet.body) refl
    (IsLine-spaced to (body_text packet.body)
    (IsLine-append (from ++ codes ">") (decimal packet.to)
    (IsLine-append from (codes ">") (IsLine-spaced (decimal number) (decimal packet.from) (IsLine-decimal number) (IsLine-decimal packet.from))
    (refl, tt)) (IsLine-decimal packet.to)) (IsLine-body packet.body))

-- the lines of packets
quiet-packets : (number : ℕ) (packets : List Packet) → AllByRecursion IsQuietLine (packet_lines number packets)
quiet-packets number [] = tt
quiet-packets number (packet ∷ more) = (quiet-packet number packet, quiet-packets (number + 1) more)

-- what happens writes quiet lines
abbrev IsQuietly : After → Type 0
IsQuietly after = AllByRecursion IsQuietLine after.lines

-- a literal line
quiet-answer : (world : World) (line : List ℕ) → is_other line ≡ true → IsQuietly (answer world line)
quiet-answer world line other = (quiet_word line other, tt)

-- the lines of a step, and the one where its write is torn
quiet-unless_torn : (world : World) (node : Node) (step : Step) (tear : Option (Entry × ℕ)) → IsQuietly (unless_torn world node step tear)
quiet-unless_torn world node step None = All-append IsQuietLine (note_lines step.note) _ (quiet-note step.note) (quiet-packets _ _)
quiet-unless_torn world node step (Some tear) = (quiet_word (codes "stopped log") refl, tt)

-- whether it is torn or not
quiet-commit : (world : World) (node : Node) (step : Step) → IsQuietly (commit world node step)
quiet-commit world node step = quiet-unless_torn world node step (torn_entry step.entry node.armed)

-- a node that says so where it is down
quiet-unless_down : (world : World) (next : State → After) → ((state : State) → IsQuietly (next state)) → (state : Option State)
    → IsQuietly (unless_down world next state)
quiet-unless_down world next quiet None = quiet-answer world (codes "down") refl
quiet-unless_down world next quiet (Some state) = quiet state

-- the line of a start
quiet-started : (id : ℕ) → AllByRecursion IsQuietLine ((codes "up " ++ decimal id) ∷ [])
quiet-started id = (quiet-number (codes "up ") id refl, tt)

-- the start of a leader
quiet-led : (world : World) (leader : Option Node) (id : ℕ) (addr : Address) (at : Axes) → IsQuietly (led world leader id addr at)
quiet-led world (Some leader) id addr at = quiet-answer world (codes "second leader") refl
quiet-led world None id addr at = quiet-started id

-- the start of another node
quiet-booted : (world : World) (leader : Option Node) (id : ℕ) (addr : Address) (at : Axes) (mode : Mode)
    → IsQuietly (booted world leader id addr at mode)
quiet-booted world None id addr at mode = quiet-answer world (codes "no leader") refl
quiet-booted world (Some leader) id addr at mode = quiet-started id

-- a node that asks to be let in
quiet-join_as : (world : World) (node : Node) (state : State) → IsQuietly (join_as world node state)
quiet-join_as world node Joining = quiet-commit world node (join_step node.own)
quiet-join_as world node (Following m) = quiet-answer world (codes "member") refl
quiet-join_as world node (Leading epoch pending) = quiet-answer world (codes "member") refl
quiet-join_as world node Left = quiet-answer world (codes "departed") refl

-- the same where there may be no node
quiet-join_at : (world : World) (node : Option Node) → IsQuietly (join_at world node)
quiet-join_at world None = quiet-answer world (codes "no node") refl
quiet-join_at world (Some node) = quiet-unless_down world (join_as world node) (quiet-join_as world node) node.state

-- a call that members alone have
quiet-member_as : (world : World) (node : Node) (step : Membership → Step) (state : State) → IsQuietly (member_as world node step state)
quiet-member_as world node step Joining = quiet-answer world (codes "joining") refl
quiet-member_as world node step (Following m) = quiet-commit world node (step m)
quiet-member_as world node step (Leading epoch pending) = quiet-answer world (codes "leader") refl
quiet-member_as world node step Left = quiet-answer world (codes "departed") refl

-- the same where there may be no node
quiet-member_at : (world : World) (step : Contents → Own → Membership → Step) (node : Option Node) → IsQuietly (member_at world step node)
quiet-member_at world step None = quiet-answer world (codes "no node") refl
quiet-member_at world step (Some node) =
    let own_step = step (contents_of world) node.own in
    quiet-unless_down world (member_as world node own_step) (quiet-member_as world node own_step) node.state

-- a packet that comes to a node
quiet-deliver_to : (world : World) (sent : Sent) (node : Option Node) → IsQuietly (deliver_to world sent node)
quiet-deliver_to world sent None = quiet-answer world (codes "no node") refl
quiet-deliver_to world sent (Some node) =
    quiet-unless_down world (deliver_as world sent node)
    (λ state. quiet-commit world node (deliver_step (contents_of world) node.own state sent.from sent.name)) node.state

-- the same where there may be no packet
quiet-delivered : (world : World) (number : ℕ) (sent : Option Sent) → IsQuietly (delivered world number sent)
quiet-delivered world number None = quiet-answer world (codes "no packet") refl
quiet-delivered world number (Some sent) = quiet-deliver_to world sent (node_of world sent.to)

-- a packet that is lost
quiet-lost : (world : World) (number : ℕ) (sent : Option Sent) → IsQuietly (lost world number sent)
quiet-lost world number None = quiet-answer world (codes "no packet") refl
quiet-lost world number (Some sent) = quiet-answer world (codes "lost") refl

-- packets that are delivered, one after the other
quiet-deliveries : (numbers : List ℕ) (world : World) → AllByRecursion IsQuietLine (deliveries world numbers).lines
quiet-deliveries [] world = tt
quiet-deliveries (number ∷ numbers) world =
    let after = deliver_at world number in
    All-append IsQuietLine ((codes "- deliver " ++ decimal number) ∷ after.lines) (deliveries after.world numbers).lines
    (quiet-number (codes "- deliver ") number refl, quiet-delivered world number (sent_at world number)) (quiet-deliveries numbers after.world)

-- rounds of deliveries
quiet-rounds : (most : ℕ) (world : World) → AllByRecursion IsQuietLine (rounds world most).lines
quiet-rounds zero world = tt
quiet-rounds (suc more) world =
    let first = round world in
    All-append IsQuietLine first.lines (rounds first.world more).lines (quiet-deliveries (open_numbers world) world) (quiet-rounds more first.world)

-- settling
quiet-settled : (world : World) (most : ℕ) → IsQuietly (settled world most)
quiet-settled world most =
    let all = rounds world most in
    All-append IsQuietLine all.lines ((codes "settled " ++ decimal all.count) ∷ []) (quiet-rounds most world)
    (quiet-number (codes "settled ") all.count refl, tt)

-- bytes that a node doesn't get
quiet-noise : (world : World) (node : Option Node) → IsQuietly (noise_at world node)
quiet-noise world None = quiet-answer world (codes "no node") refl
quiet-noise world (Some node) = tt

-- a node that closes the epoch
quiet-close_as : (world : World) (node : Node) (state : State) → IsQuietly (close_as world node state)
quiet-close_as world node Joining = quiet-answer world (codes "no leader") refl
quiet-close_as world node (Following m) = quiet-answer world (codes "no leader") refl
quiet-close_as world node (Leading epoch pending) = quiet-commit world node (close_step (contents_of world) node.own.id epoch pending)
quiet-close_as world node Left = quiet-answer world (codes "no leader") refl

-- the same where there may be no leader
quiet-close_at : (world : World) (leader : Option Node) → IsQuietly (close_at world leader)
quiet-close_at world None = quiet-answer world (codes "no leader") refl
quiet-close_at world (Some node) = quiet-unless_down world (close_as world node) (quiet-close_as world node) node.state

-- a node that crashes
quiet-crash_at : (world : World) (node : Option Node) → IsQuietly (crash_at world node)
quiet-crash_at world None = quiet-answer world (codes "no node") refl
quiet-crash_at world (Some node) =
    quiet-unless_down world (λ state. crashed world node) (λ state. (quiet-number (codes "down ") node.own.id refl, tt)) node.state

-- how a node says what it came back as
quiet-restart_line : (state : State) → IsQuietLine (restart_line state)
quiet-restart_line Joining = quiet_word (codes "joining") refl
quiet-restart_line (Following m) = quiet-number (codes "member ") m.epoch refl
quiet-restart_line (Leading epoch pending) = quiet-number (codes "leader ") epoch refl
quiet-restart_line Left = quiet_word (codes "departed") refl

-- a node that comes back, unless it is up
quiet-restart_as : (world : World) (node : Node) (state : Option State) → IsQuietly (restart_as world node state)
quiet-restart_as world node None = (quiet-restart_line (restored (contents_of world) node.own node.entries), tt)
quiet-restart_as world node (Some state) = quiet-answer world (codes "up") refl

-- the same where there may be no node
quiet-restart_at : (world : World) (node : Option Node) → IsQuietly (restart_at world node)
quiet-restart_at world None = quiet-answer world (codes "no node") refl
quiet-restart_at world (Some node) = quiet-restart_as world node node.state

-- a node whose next write is to tear
quiet-tear_at : (world : World) (b : ℕ) (node : Option Node) → IsQuietly (tear_at world b node)
quiet-tear_at world b None = quiet-answer world (codes "no node") refl
quiet-tear_at world b (Some node) = (quiet-number (codes "armed ") b refl, tt)

-- the start of a node in a mode
quiet-boot_in : (world : World) (id : ℕ) (addr : Address) (at : Axes) (mode : Mode) → IsQuietly (boot_in world id addr at mode)
quiet-boot_in world id addr at mode =
    cond_both (is_used id addr world) (answer world (codes "taken")) (booted world (leader_of world) id addr at mode) IsQuietly
    (λ used. quiet-answer world (codes "taken") refl) (λ free. quiet-booted world (leader_of world) id addr at mode)

-- a node that asks another for a snapshot
quiet-ask_as : (world : World) (node : Node) (to : ℕ) (state : State) → IsQuietly (ask_as world node to state)
quiet-ask_as world node to Joining =
    cond_both (to == node.own.leader) (commit world node (ask_leader_step node.own)) (answer world (codes "unknown " ++ decimal to)) IsQuietly
    (λ leads. quiet-commit world node (ask_leader_step node.own)) (λ other. (quiet-number (codes "unknown ") to refl, tt))
quiet-ask_as world node to (Following m) = quiet-commit world node (ask_step (contents_of world) node.own to m)
quiet-ask_as world node to (Leading epoch pending) = quiet-answer world (codes "leader") refl
quiet-ask_as world node to Left = quiet-answer world (codes "departed") refl

-- the same where there may be no node
quiet-ask_at : (world : World) (to : ℕ) (node : Option Node) → IsQuietly (ask_at world to node)
quiet-ask_at world to None = quiet-answer world (codes "no node") refl
quiet-ask_at world to (Some node) = quiet-unless_down world (ask_as world node to) (quiet-ask_as world node to) node.state

-- a print is the one event that writes a block
abbrev pub is_print : Event → Bool
is_print (events.Print id) = true
is_print event = false

-- an event that isn't a print writes quiet lines
pub quiet-happens : (world : World) (event : Event) → is_print event ≡ false → AllByRecursion IsQuietLine (happens world event).lines
quiet-happens world (events.Lead id addr at) other =
    cond_both (is_used id addr world) (answer world (codes "taken")) (led world (leader_of world) id addr at) IsQuietly
    (λ used. quiet-answer world (codes "taken") refl) (λ free. quiet-led world (leader_of world) id addr at)
quiet-happens world (events.Boot id addr at mode) other = quiet-boot_in world id addr at mode
quiet-happens world (events.Join id) other = quiet-join_at world (node_of world id)
quiet-happens world (events.Ask id to) other = quiet-ask_at world to (node_of world id)
quiet-happens world (events.Need id to region) other =
    quiet-member_at world (λ c own m. need_step c own to region m) (node_of world id)
quiet-happens world (events.Leave id) other = quiet-member_at world leave_step (node_of world id)
quiet-happens world (events.Flush id) other = quiet-member_at world (λ c own m. flush_step own m m.pending) (node_of world id)
quiet-happens world (events.Move id at) other = quiet-member_at world (λ c own m. move_step c own at m) (node_of world id)
quiet-happens world events.Close other = quiet-close_at world (leader_of world)
quiet-happens world (events.Deliver number) other = quiet-delivered world number (sent_at world number)
quiet-happens world (events.Lose number) other = quiet-lost world number (sent_at world number)
quiet-happens world (events.Settle most) other = quiet-settled world most
quiet-happens world (events.Noise id size) other = quiet-noise world (node_of world id)
quiet-happens world (events.Crash id) other = quiet-crash_at world (node_of world id)
quiet-happens world (events.Restart id) other = quiet-restart_at world (node_of world id)
quiet-happens world (events.Tear id b) other = quiet-tear_at world b (node_of world id)
quiet-happens world (events.Print id) other = absurd (true≢false other)
quiet-happens world event other = quiet-answer world (codes "not here") refl

-- the line of a print of no node
pub quiet-no_node : IsQuietLine (codes "no node")
quiet-no_node = quiet_word (codes "no node") refl

-- the line of a print of one that is down
pub quiet-down : IsQuietLine (codes "down")
quiet-down = quiet_word (codes "down") refl

-- the line of a print of a node without a view
pub quiet-joining : IsQuietLine (codes "joining")
quiet-joining = quiet_word (codes "joining") refl

-- the line of a print of a node that has left
pub quiet-departed : IsQuietLine (codes "departed")
quiet-departed = quiet_word (codes "departed") refl

-- the word of a fault
IsLine-kind : (fault : LineFault) → IsLine (kind_of fault)
IsLine-kind faults.Word = Lacks-tested 10 (codes "word") refl
IsLine-kind faults.Count = Lacks-tested 10 (codes "count") refl
IsLine-kind faults.Number = Lacks-tested 10 (codes "number") refl
IsLine-kind faults.Point = Lacks-tested 10 (codes "point") refl
IsLine-kind faults.Address = Lacks-tested 10 (codes "address") refl
IsLine-kind faults.Bytes = Lacks-tested 10 (codes "bytes") refl
IsLine-kind faults.Memory = tt

-- the line of a fault
pub quiet-fault : (number : ℕ) (fault : LineFault) → IsQuietLine (codes "fault " ++ decimal number ++ codes " " ++ kind_of fault)
quiet-fault number fault =
    quiet_by_word (codes "fault ") (decimal number ++ codes " " ++ kind_of fault) refl
    (IsLine-spaced (decimal number) (kind_of fault) (IsLine-decimal number) (IsLine-kind fault))
