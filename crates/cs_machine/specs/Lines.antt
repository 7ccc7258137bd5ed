-- The lines of a transcript, without their LF: of an answer, and of the packets that are sent.
use Rattle.std.specs.Prelude.{ℕ, ◌+◌, List, [], ◌∷◌, ◌++◌, length, map, Option, Some, None, decimal, codes}
use Rattle.std.specs.Prelude.{if◌then◌else◌}
use Rattle.std.specs.List.{join_with_byte}
use Rattle.cs_base.specs.declared.change.Change.{Change}
use Rattle.cs_base.specs.declared.change.Change.TheVariants.{Join, Move, Leave}
use Rattle.cs_base.specs.Changes.{id_of}
use Rattle.cs_core.specs.declared.plan.Unfit.{Unfit}
use Rattle.cs_core.specs.declared.plan.Unfit.TheVariants as unfit
use Rattle.cs_fields.specs.declared.fault.PacketFault.{PacketFault}
use Rattle.cs_fields.specs.declared.fault.PacketFault.TheVariants as packet_faults
use Rattle.cs_group.specs.Judging.{is_accepted}
use Rattle.cs_group.specs.declared.verdict.Verdict.{Verdict}
use Rattle.cs_group.specs.declared.verdict.Verdict.TheVariants as verdicts
use Rattle.cs_node.specs.declared.note.Note.{Note}
use Rattle.cs_node.specs.declared.note.Note.TheVariants as notes
use Rattle.cs_packet.specs.declared.packet.Packet.{Packet}
use Rattle.cs_packet.specs.declared.packet.Body.{Body}
use Rattle.cs_packet.specs.declared.packet.Body.TheVariants as bodies
use Rattle.cs_pending.specs.Counting.{counted, no_counts}
use Rattle.cs_pending.specs.declared.offer.Counts.{Counts}
use Rattle.cs_pending.specs.declared.offer.Offer.{Offer}
use Rattle.cs_piece.specs.declared.fault.PieceFault.{PieceFault}
use Rattle.cs_piece.specs.declared.fault.PieceFault.TheVariants as piece_faults
use Rattle.cs_view.specs.declared.fault.ViewFault.{ViewFault}
use Rattle.cs_view.specs.declared.fault.ViewFault.TheVariants as view_faults

-- the kind of a change
abbrev pub word_of : Change → List ℕ
word_of (Join member) = codes "join"
word_of (Move id seq at) = codes "move"
word_of (Leave id) = codes "leave"

-- why a change is refused
abbrev pub reason_of : Verdict → List ℕ
reason_of verdicts.Accepted = []
reason_of verdicts.Retired = codes " retired"
reason_of verdicts.Present = codes " present"
reason_of verdicts.Full = codes " full"
reason_of verdicts.Absent = codes " absent"
reason_of verdicts.Leader = codes " leader"
reason_of verdicts.Stale = codes " stale"

-- the verdict on a change
abbrev pub verdict_line : Change × Verdict → List ℕ
verdict_line (change, verdict) =
    (if is_accepted verdict then codes "accepted " else codes "refused ")
    ++ decimal (id_of change) ++ codes " " ++ word_of change ++ reason_of verdict

-- a word and two numbers
abbrev pub pair_line : List ℕ → ℕ → ℕ → List ℕ
pair_line word a b = word ++ codes " " ++ decimal a ++ codes " " ++ decimal b

-- how many offers met what
abbrev pub counts_line : Counts → List ℕ
counts_line c = pair_line (codes "noted") c.fresh c.replaced ++ pair_line [] c.weaker c.full

-- the lines of verdicts and of the epoch that was closed
abbrev pub closed_lines : ℕ → List (Change × Verdict) → List (List ℕ)
closed_lines epoch judged = map verdict_line judged ++ (codes "closed " ++ decimal epoch) ∷ []

-- why a picture or a slice doesn't fit a view; a head of another epoch, a missing part and want of memory are no
-- answers
abbrev pub view_fault_line : ViewFault → List ℕ
view_fault_line (view_faults.Epoch have given) = codes "memory"
view_fault_line (view_faults.Region region) = codes "unfit region " ++ decimal region
view_fault_line (view_faults.Missing region) = codes "memory"
view_fault_line (view_faults.Part region) = codes "unfit part " ++ decimal region
view_fault_line view_faults.Size = codes "unfit size"
view_fault_line (view_faults.Roll region) = codes "unfit roll " ++ decimal region
view_fault_line view_faults.Absent = codes "unfit absent"
view_fault_line view_faults.Memory = codes "memory"

-- why three pieces don't give the bytes of a slice; pieces of one colour and want of memory are no answers
abbrev pub piece_fault_line : PieceFault → List ℕ
piece_fault_line piece_faults.Index = codes "memory"
piece_fault_line piece_faults.Length = codes "unfit piece length"
piece_fault_line piece_faults.Padding = codes "unfit piece padding"
piece_fault_line piece_faults.Memory = codes "memory"

-- the first fault of bytes; want of memory is no answer
abbrev pub fault_text : PacketFault → List ℕ
fault_text (packet_faults.Short place) = codes "short " ++ decimal place
fault_text (packet_faults.Extra place) = codes "extra " ++ decimal place
fault_text (packet_faults.Version version) = codes "version " ++ decimal version
fault_text (packet_faults.Kind kind) = codes "kind " ++ decimal kind
fault_text (packet_faults.Value place) = codes "value " ++ decimal place
fault_text packet_faults.Memory = codes "memory"

-- why bytes are no packet
abbrev pub fault_line : PacketFault → List ℕ
fault_line fault = codes "bad " ++ fault_text fault

-- why a packet that was read is of no use
abbrev pub unfit_line : Unfit → List ℕ
unfit_line (unfit.View fault) = view_fault_line fault
unfit_line (unfit.Piece fault) = piece_fault_line fault
unfit_line (unfit.Bytes fault) = codes "unfit bytes " ++ fault_text fault
unfit_line unfit.Name = codes "unfit name"
unfit_line (unfit.Heads region) = codes "unfit heads " ++ decimal region

-- then the counts of one's own offer are told, where the node keeps its change itself
abbrev pub kept_lines : Option Offer → List (List ℕ)
kept_lines None = []
kept_lines (Some offer) = counts_line (counted no_counts offer) ∷ []

-- the lines of an answer; a fault of the link and want of memory are no answers
abbrev pub note_lines : Note → List (List ℕ)
note_lines (notes.Told kept) = codes "told" ∷ kept_lines kept
note_lines (notes.Moved seq kept) = (codes "moved " ++ decimal seq) ∷ kept_lines kept
note_lines notes.SeqSpent = codes "spent" ∷ []
note_lines (notes.Flushed count) = (codes "flushed " ++ decimal count) ∷ []
note_lines notes.Nothing = codes "nothing" ∷ []
note_lines (notes.Unknown to) = (codes "unknown " ++ decimal to) ∷ []
note_lines notes.Held = codes "held" ∷ []
note_lines notes.Passed = codes "passed" ∷ []
note_lines notes.Already = codes "already" ∷ []
note_lines (notes.Advanced epoch) = (codes "advanced " ++ decimal epoch) ∷ []
note_lines (notes.Jumped epoch) = (codes "jumped " ++ decimal epoch) ∷ []
note_lines notes.Departed = codes "departed" ∷ []
note_lines (notes.Stale have given) = pair_line (codes "stale") have given ∷ []
note_lines (notes.Early have given) = pair_line (codes "early") have given ∷ []
note_lines notes.Answered = codes "answered" ∷ []
note_lines notes.Silent = codes "silent" ∷ []
note_lines (notes.Noted c) = counts_line c ∷ []
note_lines notes.Idle = codes "idle" ∷ []
note_lines (notes.NotMine to) = (codes "not mine " ++ decimal to) ∷ []
note_lines (notes.Bad fault) = fault_line fault ∷ []
note_lines (notes.Unfit reason) = unfit_line reason ∷ []
note_lines (notes.Closed epoch judged) = closed_lines epoch judged
note_lines notes.Spent = codes "spent" ∷ []
note_lines (notes.LinkFault sent) = codes "link" ∷ []
note_lines notes.LogFault = codes "stopped log" ∷ []
note_lines notes.Memory = codes "memory" ∷ []

-- the line of a packet: its number, from whom and to whom, and what it says
abbrev pub numbered_line : ℕ → ℕ → ℕ → List ℕ → List ℕ
numbered_line number from to text =
    codes "#" ++ decimal number ++ codes " " ++ decimal from ++ codes ">" ++ decimal to ++ codes " " ++ text

-- a line for each, numbered from a number on
abbrev pub numbered : {T : Type 0} → (ℕ → T → List ℕ) → ℕ → List T → List (List ℕ)
numbered line number [] = []
numbered line number (x ∷ more) = line number x ∷ numbered line (number + 1) more

-- what a packet says
abbrev pub body_text : Body → List ℕ
body_text (bodies.Report changes) = codes "report " ++ decimal (length changes)
body_text (bodies.Piece epoch region colour text) =
    pair_line (codes "piece") epoch region ++ codes " " ++ decimal colour
body_text (bodies.Need addr mode epoch region) = pair_line (codes "need") epoch region
body_text (bodies.Slice slice) = pair_line (codes "slice") slice.head.epoch slice.part.region
body_text (bodies.Ask addr mode least) = codes "ask " ++ decimal least
body_text (bodies.Snap picture) =
    codes "snap " ++ decimal picture.epoch ++ codes " "
    ++ join_with_byte 44 (map decimal (map (λ pair. pair.0) picture.rolls))
body_text (bodies.Bye epoch) = codes "bye " ++ decimal epoch

-- the line of the packet with this number
abbrev pub packet_line : ℕ → Packet → List ℕ
packet_line number packet = numbered_line number packet.from packet.to (body_text packet.body)

-- the lines of packets
abbrev pub packet_lines : ℕ → List Packet → List (List ℕ)
packet_lines number packets = numbered packet_line number packets
