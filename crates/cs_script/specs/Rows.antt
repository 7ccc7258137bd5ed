-- The lines of a schedule, each by its first word, the kinds of the words behind it, and the event that it says.
use Rattle.std.specs.Prelude.{ℕ, ℤ, List, [], ◌∷◌, ◌++◌, codes}
use Rattle.cs_base.specs.Axes.{Axes}
use Rattle.cs_base.specs.Limits.{last_id, last_number}
use Rattle.cs_script.specs.Kinds.{Kind, Value, ANumber, AnAddress, AnAxis, AMode, SomeBytes}
use Rattle.cs_script.specs.Limits.{most_rounds, most_noise}
use Rattle.cs_script.specs.declared.event.Event.{Event}
use Rattle.cs_script.specs.declared.event.Event.TheVariants as events

-- an event, once each word has said its value
abbrev pub Says : List Kind → Type 0
Says [] = Event
Says (kind ∷ kinds) = Value kind → Says kinds

-- a line: its first word, what the words behind it are, and what they say together
pub record Row : Type 0 where
  pub word : List ℕ
  pub kinds : List Kind
  pub says : Says kinds

-- the same by its parts
abbrev pub row : (word : List ℕ) (kinds : List Kind) → Says kinds → Row
row word kinds says = record { word = word; kinds = kinds; says = says }

-- an id of a node
abbrev pub AnId : Kind
AnId = ANumber 1 last_id

-- an id of a region
abbrev pub ARegion : Kind
ARegion = ANumber 0 last_number

-- a point by its axes
abbrev pub point : ℤ → ℤ → ℤ → Axes
point x y z = record { x = x; y = y; z = z }

-- the lines of several arguments, and the one of none
abbrev pub long_rows : List Row
long_rows =
    row (codes "lead") (AnId ∷ AnAddress ∷ AnAxis ∷ AnAxis ∷ AnAxis ∷ [])
    (λ id addr x y z. events.Lead id addr (point x y z))
    ∷ row (codes "boot") (AnId ∷ AnAddress ∷ AnAxis ∷ AnAxis ∷ AnAxis ∷ AMode ∷ [])
    (λ id addr x y z mode. events.Boot id addr (point x y z) mode)
    ∷ row (codes "home") (AnId ∷ AnAddress ∷ []) events.Home
    ∷ row (codes "move") (AnId ∷ AnAxis ∷ AnAxis ∷ AnAxis ∷ []) (λ id x y z. events.Move id (point x y z))
    ∷ row (codes "close") [] events.Close
    ∷ row (codes "ask") (AnId ∷ AnId ∷ []) events.Ask
    ∷ row (codes "need") (AnId ∷ AnId ∷ ARegion ∷ []) events.Need
    ∷ row (codes "packet") (AnId ∷ SomeBytes ∷ []) events.Packet
    ∷ row (codes "noise") (AnId ∷ ANumber 0 most_noise ∷ []) events.Noise
    ∷ row (codes "tear") (AnId ∷ ANumber 0 last_id ∷ []) events.Tear
    ∷ []

-- the lines of one id
abbrev pub id_rows : List Row
id_rows =
    row (codes "join") (AnId ∷ []) events.Join
    ∷ row (codes "leave") (AnId ∷ []) events.Leave
    ∷ row (codes "flush") (AnId ∷ []) events.Flush
    ∷ row (codes "crash") (AnId ∷ []) events.Crash
    ∷ row (codes "restart") (AnId ∷ []) events.Restart
    ∷ row (codes "print") (AnId ∷ []) events.Print
    ∷ []

-- the lines of one other number
abbrev pub number_rows : List Row
number_rows =
    row (codes "deliver") (ANumber 1 last_id ∷ []) events.Deliver
    ∷ row (codes "lose") (ANumber 1 last_id ∷ []) events.Lose
    ∷ row (codes "settle") (ANumber 1 most_rounds ∷ []) events.Settle
    ∷ []

-- all lines
abbrev pub rows : List Row
rows = long_rows ++ id_rows ++ number_rows
