-- The one spelling of an event.
use Rattle.std.specs.Prelude.{ℕ, List, [], ◌∷◌, decimal, codes}
use Rattle.std.specs.Fmt.{signed_decimal}
use Rattle.std.specs.List.{join_with_byte}
use Rattle.cs_base.specs.Canonical.{address_text}
use Rattle.cs_base.specs.declared.change.Mode.{Mode}
use Rattle.cs_base.specs.declared.change.Mode.TheVariants.{Partial, Full}
use Rattle.cs_script.specs.declared.event.Event.{Event}
use Rattle.cs_script.specs.declared.event.Event.TheVariants as events
use Rattle.hex.specs.Hex.{encode_lower}

-- how much of the group a node wants to know
abbrev pub mode_text : Mode → List ℕ
mode_text Partial = codes "partial"
mode_text Full = codes "full"

-- two digits in lower case for each byte, or `-` where there is none
abbrev pub bytes_text : List ℕ → List ℕ
bytes_text [] = codes "-"
bytes_text (b ∷ bytes) = encode_lower (b ∷ bytes)

-- an event's words
abbrev pub words_for : Event → List (List ℕ)
words_for (events.Lead id addr at) =
    codes "lead" ∷ decimal id ∷ address_text addr
    ∷ signed_decimal at.x ∷ signed_decimal at.y ∷ signed_decimal at.z ∷ []
words_for (events.Boot id addr at mode) =
    codes "boot" ∷ decimal id ∷ address_text addr
    ∷ signed_decimal at.x ∷ signed_decimal at.y ∷ signed_decimal at.z ∷ mode_text mode ∷ []
words_for (events.Home id addr) = codes "home" ∷ decimal id ∷ address_text addr ∷ []
words_for (events.Join id) = codes "join" ∷ decimal id ∷ []
words_for (events.Leave id) = codes "leave" ∷ decimal id ∷ []
words_for (events.Flush id) = codes "flush" ∷ decimal id ∷ []
words_for (events.Move id at) =
    codes "move" ∷ decimal id ∷ signed_decimal at.x ∷ signed_decimal at.y ∷ signed_decimal at.z ∷ []
words_for events.Close = codes "close" ∷ []
words_for (events.Ask id to) = codes "ask" ∷ decimal id ∷ decimal to ∷ []
words_for (events.Need id to region) = codes "need" ∷ decimal id ∷ decimal to ∷ decimal region ∷ []
words_for (events.Deliver number) = codes "deliver" ∷ decimal number ∷ []
words_for (events.Lose number) = codes "lose" ∷ decimal number ∷ []
words_for (events.Settle rounds) = codes "settle" ∷ decimal rounds ∷ []
words_for (events.Packet id bytes) = codes "packet" ∷ decimal id ∷ bytes_text bytes ∷ []
words_for (events.Noise id size) = codes "noise" ∷ decimal id ∷ decimal size ∷ []
words_for (events.Crash id) = codes "crash" ∷ decimal id ∷ []
words_for (events.Restart id) = codes "restart" ∷ decimal id ∷ []
words_for (events.Tear id size) = codes "tear" ∷ decimal id ∷ decimal size ∷ []
words_for (events.Print id) = codes "print" ∷ decimal id ∷ []

-- the words with one space between two
unfoldable pub spelling : Event → List ℕ
spelling event = join_with_byte 32 (words_for event)
