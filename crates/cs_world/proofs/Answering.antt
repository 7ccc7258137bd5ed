-- How an action answers: by a line, or by a fault, which is the limit of a run only where more would be sent.
use Rattle.std.proofs.Common.{◌≡◌, ◌≤◌, ◌⊎◌, ◌∙◌, inl, inr, ℕ, List, [], ◌∷◌, ◌++◌, Result, Ok, Err, Some, IfOk, IfErr, sym, ap, subst, append-nil, arith}
use Rattle.std.specs.String.{string_bytes}
use Rattle.std.specs.declared.string.String.{String}
use Rattle.std.proofs.lemmas.Result.{IfErr-weaker, IfOk-weaker}
use Rattle.cs_link.specs.declared.link.Link.{Ghosts as LinkGhosts}
use Rattle.cs_log.specs.declared.log.Log.{Ghosts as LogGhosts}
use Rattle.cs_node.specs.declared.node.Node.{Node}
use Rattle.cs_show.specs.Text.{ended, text_of}
use Rattle.cs_machine.specs.Outcome.{After, answer}
use Rattle.cs_machine.specs.Names.{World}
use Rattle.cs_machine.specs.Packets.{bytes_sent}
use Rattle.cs_world.specs.AloneEvents.{back_word}
use Rattle.cs_world.specs.Processes.{Parts}
use Rattle.cs_world.specs.Seats.{Seated, parts_at}
use Rattle.cs_world.specs.Stands.{Answers, IsCounted, IsLimitOf, Stands, Tells}
use Rattle.cs_world.specs.declared.fault.WorldFault.{WorldFault}
use Rattle.cs_world.specs.declared.fault.WorldFault.TheVariants as faults
use Rattle.cs_world.specs.declared.nodes.Nodes.{Nodes}

-- ---- what is told

-- a line is told, or memory is wanting
abbrev pub TellsLine : {A : Type 0} → Result (String A) WorldFault → List ℕ → Type 0
TellsLine result line = IfOk result (λ text. string_bytes text ≡ ended line) × IfErr result (λ fault. fault ≡ faults.Memory)

-- what a text says of a node that came back, by what the node is
abbrev pub TellsBack : {L G A : Type 0} → LinkGhosts L → LogGhosts G → Nodes L G → ℕ → Result (String A) WorldFault → Type 0
TellsBack link log code id result =
    (parts : Parts) (node : Node) → parts_at link log code.seats id ≡ Some parts → parts.node ≡ Some node
    → IfOk result (λ text. string_bytes text ≡ ended (back_word node))

-- ---- faults

-- want of memory is no limit
memory-limits : {T : Type 0} (world : World) (result : Result T WorldFault) → IfErr result (λ fault. fault ≡ faults.Memory)
    → IfErr result (IsLimitOf world)
memory-limits world (Ok x) is = tt
memory-limits world (Err fault) is = subst (IsLimitOf world) (sym is) tt

-- a limit stays one where no fewer bytes are sent
pub limit-later : (world later : World) → bytes_sent world ≤ bytes_sent later → (fault : WorldFault) → IsLimitOf world fault
    → IsLimitOf later fault
limit-later world later rises faults.Limit is = omega (arith, is, rises)
limit-later world later rises faults.Link is = is
limit-later world later rises faults.Log is = is
limit-later world later rises faults.Memory is = is

-- no count tells of a limit or of want of memory
pub others-count : {T : Type 0} (ungranted : Type 0) (seats : List Seated) (result : Result T WorldFault)
    → IfErr result (λ fault. (fault ≡ faults.Limit) ⊎ (fault ≡ faults.Memory)) → IfErr result (IsCounted ungranted seats)
others-count ungranted seats (Ok x) is = tt
others-count ungranted seats (Err fault) is = elim is [
  | inl same ↦ subst (IsCounted ungranted seats) (sym same) tt
  | inr same ↦ subst (IsCounted ungranted seats) (sym same) tt
]

-- so none does where memory alone may be wanting
pub memory-counts : {T : Type 0} (ungranted : Type 0) (seats : List Seated) (result : Result T WorldFault)
    → IfErr result (λ fault. fault ≡ faults.Memory) → IfErr result (IsCounted ungranted seats)
memory-counts ungranted seats result is =
    others-count ungranted seats result
    (IfErr-weaker result (λ fault. fault ≡ faults.Memory) (λ fault. (fault ≡ faults.Limit) ⊎ (fault ≡ faults.Memory)) (λ fault same. inr same) is)

-- what is counted where nothing was to be granted is counted
pub counted-more : (ungranted more : Type 0) → (ungranted → more) → (seats : List Seated) (fault : WorldFault)
    → IsCounted ungranted seats fault → IsCounted more seats fault
counted-more ungranted more so seats faults.Limit is = is
counted-more ungranted more so seats faults.Link is = elim is [ inl failed ↦ inl (so failed) | inr some ↦ inr some ]
counted-more ungranted more so seats faults.Log is = is
counted-more ungranted more so seats faults.Memory is = is

-- ---- answers

-- one line behind what was there
pub line-behind : (before now line : List ℕ) → now ≡ before ++ ended line → now ≡ before ++ text_of (line ∷ [])
line-behind before now line appended = appended ∙ ap (λ t. before ++ t) (sym (append-nil (ended line)))

module _ {L G : Type 0} (link : LinkGhosts L) (log : LogGhosts G) where
  -- one line, and what the code stands for
  pub line-tells : (code : Nodes L G) (world : World) (before now line : List ℕ) → Stands link log code world
      → now ≡ before ++ ended line → Tells link log code before now (answer world line)
  line-tells code world before now line stands told = record { text = line-behind before now line told; stands = stands }

  -- what answers an outcome answers what equals it
  answers-as : {A : Type 0} (code : Nodes L G) (result : Result (String A) WorldFault) (outcome after : After)
      → after ≡ outcome → Answers link log code outcome result → Answers link log code after result
  answers-as code result outcome after is answers = subst (λ a. Answers link log code a result) (sym is) answers

  -- a text of one line, where that is the outcome
  pub line-answers : {A : Type 0} (code : Nodes L G) (world : World) (line : List ℕ) (result : Result (String A) WorldFault) (after : After)
      → Stands link log code world → IfOk result (λ text. string_bytes text ≡ ended line) → IfErr result (λ fault. fault ≡ faults.Memory)
      → after ≡ answer world line → Answers link log code after result
  line-answers code world line result after stands told memory is =
      answers-as code result (answer world line) after is (
        IfOk-weaker result (λ text. string_bytes text ≡ ended line) (λ text. Tells link log code [] (string_bytes text) (answer world line))
            (λ text said. line-tells code world [] (string_bytes text) line stands said) told,
        memory-limits world result memory,
      )

  -- a fault, which is a limit only where it may be
  pub err-answers : {A : Type 0} (code : Nodes L G) (result : Result (String A) WorldFault) (fault : WorldFault) (after : After)
      → result ≡ Err fault → IsLimitOf after.world fault → Answers link log code after result
  err-answers code result fault after is limit = subst (λ r. Answers link log code after r) (sym is) (tt, limit)

  -- an outcome is answered where its parts are those of a call that answers it
  pub answers-in : {A : Type 0} (code told_by : Nodes L G) (result call : Result (String A) WorldFault) (after outcome : After)
      → code ≡ told_by → result ≡ call → after ≡ outcome → Answers link log told_by outcome call → Answers link log code after result
  answers-in code told_by result call after outcome same is leads answers =
      subst (λ c. Answers link log c after result) (sym same)
      (subst (λ r. Answers link log told_by after r) (sym is) (answers-as told_by call outcome after leads answers))
