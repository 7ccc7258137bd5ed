-- The blocks among the bytes that a live run writes are good, however it ends.
use Rattle.std.proofs.Common.{◌≡◌, ℕ, suc, ◌==◌, ℤ, pos, negsuc, true, false, List, [], ◌∷◌, ◌++◌, map, Option, Ok, codes, decimal}
use Rattle.std.proofs.Common.{refl, ap, sym, subst, ◌∙◌, append-nil, arith}
use Rattle.std.specs.Fmt.{signed_decimal}
use Rattle.std.specs.List.{AllByRecursion, join_with_byte, list_all}
use Rattle.std.proofs.lemmas.Bool.{and_parts}
use Rattle.std.proofs.lemmas.Bool.Decides.{nat_tests}
use Rattle.cs_base.specs.Address.{Address}
use Rattle.cs_base.specs.Axes.{Axes}
use Rattle.cs_base.specs.Canonical.{address_text}
use Rattle.cs_base.specs.declared.change.Mode.{Mode}
use Rattle.cs_base.specs.declared.change.Mode.TheVariants.{Partial, Full}
use Rattle.cs_drill.specs.Plan.{live_plan}
use Rattle.cs_script.specs.Event.{IsEvent, IsShown}
use Rattle.cs_script.specs.Kinds.{is_lower_digit}
use Rattle.cs_script.specs.Spelling.{bytes_text, mode_text, spelling, words_for}
use Rattle.cs_script.specs.declared.event.Event.{Event}
use Rattle.cs_script.specs.declared.event.Event.TheVariants as events
use Rattle.cs_script.proofs.Events.{spelling-said}
use Rattle.cs_script.proofs.Lower.{lower-encode}
use Rattle.cs_script.proofs.Values.{bytes-at}
use Rattle.cs_show.proofs.BlockOfText.{IsLine}
use Rattle.hex.specs.Hex.{encode_lower}
use Rattle.cs_machine.specs.Names.{empty_world}
use Rattle.census.specs.declared.status.Status.{Status}
use Rattle.census.specs.declared.status.Status.TheVariants.{Done, Write}
use Rattle.census.specs.Lived.{IsFrontOf, StopsIn, WritesBy, WritesLife, lived, said_of, told_events}
use Rattle.census.specs.Run.{WritesFront}
use Rattle.census.specs.Streams.{Appends}
use Rattle.census.proofs.QuietLines.{IsLine-append, IsLine-decimal, IsLine-joined, IsLine-numbers, Lacks-tested}
use Rattle.census.proofs.RunBlocks.{WritesGoodBlocks, good_written}
use Rattle.census.proofs.ToldBlocks.{IsSaid}
use Rattle.census.proofs.TranscriptBlocks.{said_is_good}

-- ---- the line of an event has no LF

-- a number with a sign
line-signed : (n : ℤ) → IsLine (signed_decimal n)
line-signed (pos n) = IsLine-decimal n
line-signed (negsuc n) = (refl, IsLine-decimal (suc n))

-- an address
line-address : (addr : Address) → IsLine (address_text addr)
line-address addr =
    IsLine-append (join_with_byte 46 (map decimal addr.ip)) (58 ∷ decimal addr.port) (IsLine-numbers 46 addr.ip refl)
    (refl, IsLine-decimal addr.port)

-- a mode
line-mode : (mode : Mode) → IsLine (mode_text mode)
line-mode Partial = Lacks-tested 10 (codes "partial") refl
line-mode Full = Lacks-tested 10 (codes "full") refl

-- digits in lower case
line-lower : (word : List ℕ) → list_all is_lower_digit word ≡ true → IsLine word
line-lower [] lower = tt
line-lower (b ∷ word) lower =
    let both = and_parts (is_lower_digit b) (list_all is_lower_digit word) lower in
    let low = both.0 in
    let other : (b == 10) ≡ false = grind (arith, nat_tests) in (other, line-lower word both.1)

-- bytes
line-bytes : (bytes : List ℕ) → IsShown bytes → IsLine (bytes_text bytes)
line-bytes [] shown = (refl, tt)
line-bytes (b ∷ bytes) shown = line-lower (encode_lower (b ∷ bytes)) (lower-encode (b ∷ bytes) (bytes-at (b ∷ bytes) shown.1))

-- three numbers with a sign
abbrev point_words : Axes → List (List ℕ) → List (List ℕ)
point_words at more = signed_decimal at.x ∷ signed_decimal at.y ∷ signed_decimal at.z ∷ more

-- before other words
line-point : (at : Axes) (more : List (List ℕ)) → AllByRecursion IsLine more → AllByRecursion IsLine (point_words at more)
line-point at more are = (line-signed at.x, (line-signed at.y, (line-signed at.z, are)))

-- an event's words
line-words : (event : Event) → IsEvent event → AllByRecursion IsLine (words_for event)
line-words (events.Lead id addr at) is =
    (Lacks-tested 10 (codes "lead") refl, (IsLine-decimal id, (line-address addr, line-point at [] tt)))
line-words (events.Boot id addr at mode) is =
    (Lacks-tested 10 (codes "boot") refl, (IsLine-decimal id, (line-address addr, line-point at (mode_text mode ∷ []) (line-mode mode, tt))))
line-words (events.Home id addr) is = (Lacks-tested 10 (codes "home") refl, (IsLine-decimal id, (line-address addr, tt)))
line-words (events.Join id) is = (Lacks-tested 10 (codes "join") refl, (IsLine-decimal id, tt))
line-words (events.Leave id) is = (Lacks-tested 10 (codes "leave") refl, (IsLine-decimal id, tt))
line-words (events.Flush id) is = (Lacks-tested 10 (codes "flush") refl, (IsLine-decimal id, tt))
line-words (events.Move id at) is = (Lacks-tested 10 (codes "move") refl, (IsLine-decimal id, line-point at [] tt))
line-words events.Close is = (Lacks-tested 10 (codes "close") refl, tt)
line-words (events.Ask id to) is = (Lacks-tested 10 (codes "ask") refl, (IsLine-decimal id, (IsLine-decimal to, tt)))
line-words (events.Need id to region) is =
    (Lacks-tested 10 (codes "need") refl, (IsLine-decimal id, (IsLine-decimal to, (IsLine-decimal region, tt))))
line-words (events.Deliver number) is = (Lacks-tested 10 (codes "deliver") refl, (IsLine-decimal number, tt))
line-words (events.Lose number) is = (Lacks-tested 10 (codes "lose") refl, (IsLine-decimal number, tt))
line-words (events.Settle rounds) is = (Lacks-tested 10 (codes "settle") refl, (IsLine-decimal rounds, tt))
line-words (events.Packet id bytes) is = (Lacks-tested 10 (codes "packet") refl, (IsLine-decimal id, (line-bytes bytes is.1, tt)))
line-words (events.Noise id size) is = (Lacks-tested 10 (codes "noise") refl, (IsLine-decimal id, (IsLine-decimal size, tt)))
line-words (events.Crash id) is = (Lacks-tested 10 (codes "crash") refl, (IsLine-decimal id, tt))
line-words (events.Restart id) is = (Lacks-tested 10 (codes "restart") refl, (IsLine-decimal id, tt))
line-words (events.Tear id size) is = (Lacks-tested 10 (codes "tear") refl, (IsLine-decimal id, (IsLine-decimal size, tt)))
line-words (events.Print id) is = (Lacks-tested 10 (codes "print") refl, (IsLine-decimal id, tt))

-- with a space between two
line-spelling : (event : Event) → IsEvent event → IsLine (spelling event)
unfolding spelling
line-spelling event is = IsLine-joined 32 (words_for event) refl (line-words event is)

-- each event is said by its line
events-said : (all : List Event) → AllByRecursion IsEvent all → AllByRecursion IsSaid (map said_of all)
events-said [] are = tt
events-said (event ∷ all) are = ((spelling-said event are.0, line-spelling event are.0), events-said all are.1)

-- ---- what is written

-- a front of what is told of events was written
front-written : (all : List Event) (before after : Option (List ℕ)) → AllByRecursion IsEvent all
    → WritesFront (told_events empty_world all) before after → WritesGoodBlocks before after
front-written all before after are (front, rest, is, written) =
    good_written front before after written (said_is_good (map said_of all) (events-said all are) front rest is)

-- all of it is a front
all-front : (text : List ℕ) (before after : Option (List ℕ)) → Appends before after text → WritesFront text before after
all-front text before after written = (text, [], sym (append-nil text), written)

-- what is written by a status is a front
by-front : (status : Status) (text : List ℕ) (before after : Option (List ℕ)) → WritesBy status text before after → WritesFront text before after
by-front Write text before after written = written
by-front status text before after written = all-front text before after written

-- where a live run stopped
stop-written : (Such : List Event → Type 0) (status : Status) (before after : Option (List ℕ))
    → StopsIn Such status 0 empty_world before after → WritesGoodBlocks before after
stop-written Such status before after stops =
    front-written stops.events before after stops.allowed (by-front status _ before after stops.text)

-- however it ended
pub life-written : (status : Status) (nodes port : ℕ) (before after : Option (List ℕ)) (HaveRisen : (came missed : ℕ) → Type 0)
    → WritesLife status nodes port before after HaveRisen → WritesGoodBlocks before after
life-written Done nodes port before after HaveRisen lives =
    front-written (lived (live_plan nodes port) lives.polls) before after lives.allowed (all-front _ before after lives.text)
life-written status nodes port before after HaveRisen stops = stop-written (IsFrontOf (live_plan nodes port)) status before after stops
