-- What a line says is spelt by the line, and the line that spells an event says it.
use Rattle.std.proofs.Common.{◌≡◌, ℕ, ◌⊎◌, inl, inr, List, [], ◌∷◌, Result, Ok, Err, IfOk, codes, refl, sym, ap, ◌∙◌, arith}
use Rattle.std.specs.List.{AllByRecursion, join_with_byte}
use Rattle.std.proofs.lemmas.List.Splits.{join_with_byte-slice_split}
use Rattle.cs_base.specs.Limits.{last_id}
use Rattle.cs_base.specs.Ranges.{IsId}
use Rattle.cs_script.specs.Event.{IsEvent}
use Rattle.cs_script.specs.Grammar.{event_in, event_of, words_of}
use Rattle.cs_script.specs.Kinds.{ANumber, AnAddress, AnAxis, AMode, SomeBytes}
use Rattle.cs_script.specs.Limits.{most_noise, most_rounds}
use Rattle.cs_script.specs.Rows.{AnId, ARegion, point, rows}
use Rattle.cs_script.specs.Spelling.{spelling, words_for}
use Rattle.cs_script.specs.declared.event.Event.{Event}
use Rattle.cs_script.specs.declared.event.Event.TheVariants as events
use Rattle.cs_script.specs.declared.fault.LineFault.{LineFault}
use Rattle.cs_script.specs.declared.fault.LineFault.TheVariants as faults
use Rattle.cs_script.proofs.Said.{IsRead, IsRow, IsSpelt, row_is_read, among_rows}
use Rattle.cs_script.proofs.Spaces.{IsClean, clean-tested, split-joined}
use Rattle.cs_script.proofs.Values.{IsValue}

-- each row of the grammar
rows-are : AllByRecursion IsRow rows
rows-are = (
  record { spelt = λ v. refl; allowed = λ v is. record { id = is.0.0; addr = is.1.0; at = record { x = is.1.1.0; y = is.1.1.1.0; z = is.1.1.1.1.0 } } },
  (
    record { spelt = λ v. refl; allowed = λ v is. record { id = is.0.0; addr = is.1.0; at = record { x = is.1.1.0; y = is.1.1.1.0; z = is.1.1.1.1.0 } } },
    (
      record { spelt = λ v. refl; allowed = λ v is. (is.0.0, is.1.0) },
      (
        record { spelt = λ v. refl; allowed = λ v is. (is.0.0, record { x = is.1.0; y = is.1.1.0; z = is.1.1.1.0 }) },
        (
          record { spelt = λ v. refl; allowed = λ v is. tt },
          (
            record { spelt = λ v. refl; allowed = λ v is. (is.0.0, is.1.0.0) },
            (
              record { spelt = λ v. refl; allowed = λ v is. (is.0.0, is.1.0.0, is.1.1.0.0) },
              (
                record { spelt = λ v. refl; allowed = λ v is. (is.0.0, is.1.0) },
                (
                  record { spelt = λ v. refl; allowed = λ v is. (is.0.0, is.1.0.0) },
                  (
                    record { spelt = λ v. refl; allowed = λ v is. (is.0.0, is.1.0.0) },
                    (
                      record { spelt = λ v. refl; allowed = λ v is. is.0.0 },
                      (
                        record { spelt = λ v. refl; allowed = λ v is. is.0.0 },
                        (
                          record { spelt = λ v. refl; allowed = λ v is. is.0.0 },
                          (
                            record { spelt = λ v. refl; allowed = λ v is. is.0.0 },
                            (
                              record { spelt = λ v. refl; allowed = λ v is. is.0.0 },
                              (
                                record { spelt = λ v. refl; allowed = λ v is. is.0.0 },
                                (
                                  record { spelt = λ v. refl; allowed = λ v is. is.0.0 },
                                  (
                                    record { spelt = λ v. refl; allowed = λ v is. is.0.0 },
                                    (
                                      record { spelt = λ v. refl; allowed = λ v is. is.0.0 },
                                      tt,
                                    ),
                                  ),
                                ),
                              ),
                            ),
                          ),
                        ),
                      ),
                    ),
                  ),
                ),
              ),
            ),
          ),
        ),
      ),
    ),
  ),
)

-- an id as a value of its kind
id_is : (id : ℕ) → IsId id → IsValue AnId id
id_is id is = (is, is.1)

-- an event's words are read as the event
read-words : (event : Event) → IsEvent event → IsRead (words_for event) event
read-words (events.Lead id addr at) is =
    row_is_read (codes "lead") (AnId ∷ AnAddress ∷ AnAxis ∷ AnAxis ∷ AnAxis ∷ []) (λ id addr x y z. events.Lead id addr (point x y z))
    (id, (addr, (at.x, (at.y, (at.z, tt))))) (id_is id is.id, (is.addr, (is.at.x, (is.at.y, (is.at.z, tt)))))
    (clean-tested (codes "lead") refl) (λ args. refl)
read-words (events.Boot id addr at mode) is =
    row_is_read (codes "boot") (AnId ∷ AnAddress ∷ AnAxis ∷ AnAxis ∷ AnAxis ∷ AMode ∷ []) (λ id addr x y z mode. events.Boot id addr (point x y z) mode)
    (id, (addr, (at.x, (at.y, (at.z, (mode, tt)))))) (id_is id is.id, (is.addr, (is.at.x, (is.at.y, (is.at.z, (tt, tt))))))
    (clean-tested (codes "boot") refl) (λ args. refl)
read-words (events.Home id addr) is =
    row_is_read (codes "home") (AnId ∷ AnAddress ∷ []) (λ id addr. events.Home id addr)
    (id, (addr, tt)) (id_is id is.0, (is.1, tt))
    (clean-tested (codes "home") refl) (λ args. refl)
read-words (events.Join id) is =
    row_is_read (codes "join") (AnId ∷ []) (λ id. events.Join id)
    (id, tt) (id_is id is, tt)
    (clean-tested (codes "join") refl) (λ args. refl)
read-words (events.Leave id) is =
    row_is_read (codes "leave") (AnId ∷ []) (λ id. events.Leave id)
    (id, tt) (id_is id is, tt)
    (clean-tested (codes "leave") refl) (λ args. refl)
read-words (events.Flush id) is =
    row_is_read (codes "flush") (AnId ∷ []) (λ id. events.Flush id)
    (id, tt) (id_is id is, tt)
    (clean-tested (codes "flush") refl) (λ args. refl)
read-words (events.Move id at) is =
    row_is_read (codes "move") (AnId ∷ AnAxis ∷ AnAxis ∷ AnAxis ∷ []) (λ id x y z. events.Move id (point x y z))
    (id, (at.x, (at.y, (at.z, tt)))) (id_is id is.0, (is.1.x, (is.1.y, (is.1.z, tt))))
    (clean-tested (codes "move") refl) (λ args. refl)
read-words events.Close is =
    row_is_read (codes "close") ([]) events.Close
    tt tt
    (clean-tested (codes "close") refl) (λ args. refl)
read-words (events.Ask id to) is =
    row_is_read (codes "ask") (AnId ∷ AnId ∷ []) (λ id to. events.Ask id to)
    (id, (to, tt)) (id_is id is.0, (id_is to is.1, tt))
    (clean-tested (codes "ask") refl) (λ args. refl)
read-words (events.Need id to region) is =
    row_is_read (codes "need") (AnId ∷ AnId ∷ ARegion ∷ []) (λ id to region. events.Need id to region)
    (id, (to, (region, tt))) (id_is id is.0, (id_is to is.1, ((is.2, omega (arith, is.2.1)), tt)))
    (clean-tested (codes "need") refl) (λ args. refl)
read-words (events.Deliver number) is =
    row_is_read (codes "deliver") (ANumber 1 last_id ∷ []) (λ number. events.Deliver number)
    (number, tt) ((is, is.1), tt)
    (clean-tested (codes "deliver") refl) (λ args. refl)
read-words (events.Lose number) is =
    row_is_read (codes "lose") (ANumber 1 last_id ∷ []) (λ number. events.Lose number)
    (number, tt) ((is, is.1), tt)
    (clean-tested (codes "lose") refl) (λ args. refl)
read-words (events.Settle rounds) is =
    row_is_read (codes "settle") (ANumber 1 most_rounds ∷ []) (λ rounds. events.Settle rounds)
    (rounds, tt) ((is, omega (arith, is.1)), tt)
    (clean-tested (codes "settle") refl) (λ args. refl)
read-words (events.Packet id bytes) is =
    row_is_read (codes "packet") (AnId ∷ SomeBytes ∷ []) (λ id bytes. events.Packet id bytes)
    (id, (bytes, tt)) (id_is id is.0, (is.1, tt))
    (clean-tested (codes "packet") refl) (λ args. refl)
read-words (events.Noise id size) is =
    row_is_read (codes "noise") (AnId ∷ ANumber 0 most_noise ∷ []) (λ id size. events.Noise id size)
    (id, (size, tt)) (id_is id is.0, ((is.1, omega (arith, is.1.1)), tt))
    (clean-tested (codes "noise") refl) (λ args. refl)
read-words (events.Crash id) is =
    row_is_read (codes "crash") (AnId ∷ []) (λ id. events.Crash id)
    (id, tt) (id_is id is, tt)
    (clean-tested (codes "crash") refl) (λ args. refl)
read-words (events.Restart id) is =
    row_is_read (codes "restart") (AnId ∷ []) (λ id. events.Restart id)
    (id, tt) (id_is id is, tt)
    (clean-tested (codes "restart") refl) (λ args. refl)
read-words (events.Tear id size) is =
    row_is_read (codes "tear") (AnId ∷ ANumber 0 last_id ∷ []) (λ id size. events.Tear id size)
    (id, (size, tt)) (id_is id is.0, ((is.1, is.1.1), tt))
    (clean-tested (codes "tear") refl) (λ args. refl)
read-words (events.Print id) is =
    row_is_read (codes "print") (AnId ∷ []) (λ id. events.Print id)
    (id, tt) (id_is id is, tt)
    (clean-tested (codes "print") refl) (λ args. refl)

-- the words that say an event spell it
spelt-words : (words : List (List ℕ)) (event : Event) → event_in words ≡ Ok event → IsSpelt words event
spelt-words [] event e = cc
spelt-words (word ∷ args) event e = among_rows rows word args event rows-are e

-- words that say an event are split where they were joined
split-read : (words : List (List ℕ)) (event : Event) → event_in words ≡ Ok event → AllByRecursion IsClean words
    → words_of (join_with_byte 32 words) ≡ words
split-read [] event e are = cc
split-read (word ∷ words) event e are = split-joined word words are.0 are.1

-- the line that says an event is its spelling
pub spelling-found : (line : List ℕ) (event : Event) → event_of line ≡ Ok event → line ≡ spelling event
unfolding event_of spelling
spelling-found line event e =
    sym (join_with_byte-slice_split 32 line) ∙ ap (join_with_byte 32) (sym (spelt-words (words_of line) event e).spelt)

-- the event that a line says is in its ranges
pub IsEvent-said : (line : List ℕ) (event : Event) → event_of line ≡ Ok event → IsEvent event
unfolding event_of
IsEvent-said line event e = (spelt-words (words_of line) event e).allowed

-- the spelling of an event says it
pub spelling-said : (event : Event) → IsEvent event → event_of (spelling event) ≡ Ok event
unfolding event_of spelling
spelling-said event allowed =
    let is = read-words event allowed in
    ap event_in (split-read (words_for event) event is.read is.clean) ∙ is.read

-- what a call gives that reads a line: the event or the fault, or that memory ran out
abbrev pub IsGiven : Result Event LineFault → List ℕ → Type 0
IsGiven given line = (given ≡ Err faults.Memory) ⊎ (given ≡ event_of line)

-- the event that is given is in its ranges
pub given-allowed : (given : Result Event LineFault) (line : List ℕ) → IsGiven given line → IfOk given IsEvent
given-allowed (Ok event) line (inl none) = cc
given-allowed (Ok event) line (inr same) = IsEvent-said line event (sym same)
given-allowed (Err fault) line is = tt

-- and spelt by the line
pub given-found : (given : Result Event LineFault) (line : List ℕ) → IsGiven given line → IfOk given (λ event. line ≡ spelling event)
given-found (Ok event) line (inl none) = cc
given-found (Ok event) line (inr same) = spelling-found line event (sym same)
given-found (Err fault) line is = tt

-- the event that the line spells is given
pub given-only : (given : Result Event LineFault) (line : List ℕ) → IsGiven given line → (event : Event) → IsEvent event
    → line ≡ spelling event → (given ≡ Err faults.Memory) ⊎ (given ≡ Ok event)
given-only given line (inl none) event allowed spelt = inl none
given-only given line (inr same) event allowed spelt = inr (same ∙ ap event_of spelt ∙ spelling-said event allowed)

-- a line that is the spelling of an event says it
pub line-said : (line : List ℕ) (event : Event) → IsEvent event → line ≡ spelling event → event_of line ≡ Ok event
line-said line event allowed spelt = ap event_of spelt ∙ spelling-said event allowed
