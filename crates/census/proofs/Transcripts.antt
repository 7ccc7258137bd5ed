-- The transcript of a text, by its lines and by the source that has it.
use Rattle.std.proofs.Common.{◌≡◌, ℕ, Bool, true, false, ◌||◌, List, Option, Some, None, IfSome, IfErr, Result, Ok, Err, refl, sym, ap, ◌∙◌}
use Rattle.std.proofs.Common.{nat_lt, length, ◌⊎◌, inl, inr, ⊎_elim, subst}
use Rattle.cs_link.specs.Maps.{ById}
use Rattle.census.specs.declared.status.Status.{Status}
use Rattle.census.specs.declared.status.Status.TheVariants.{Done, Script, Read, Write, Link, Log, Memory, Limit}
use Rattle.census.specs.declared.form.Form.{Form}
use Rattle.census.specs.Restarts.{RestartsAreTold, TellsRestarts}
use Rattle.census.specs.Run.{EndsIn, IsLineStop, IsTextStop, LinesAreTold, LinesEndIn, SourceIsTold, WritesTranscript, last_from, status_in}
use Rattle.census.specs.Systems.{System, begun}
use Rattle.census.specs.Text.{counted_lines, is_cut, lines_of, most_lines}
use Rattle.census.specs.Transcript.{AtEnd, AtFault, AtLimit, End, course_of, status_of}

-- ---- the end of a text by that of its lines

-- lines that are done end a text that is cut by its limit
cut-done : (more : Bool) (end : End) → Done ≡ status_of more end → Limit ≡ status_of true end
cut-done more AtEnd is = refl
cut-done more (AtFault number fault) is = cc
cut-done more AtLimit is = refl

-- a fault ends the text wherever it is cut
cut-fault : (cut more : Bool) (end : End) → Script ≡ status_of more end → Script ≡ status_of (cut || more) end
cut-fault cut true AtEnd is = cc
cut-fault cut false AtEnd is = cc
cut-fault cut more (AtFault number fault) is = refl
cut-fault cut more AtLimit is = cc

-- so does a limit
cut-limit : (cut more : Bool) (end : End) → Limit ≡ status_of more end → Limit ≡ status_of (cut || more) end
cut-limit true true AtEnd is = refl
cut-limit false true AtEnd is = refl
cut-limit cut false AtEnd is = cc
cut-limit cut more (AtFault number fault) is = cc
cut-limit cut more AtLimit is = refl

module _ (form : Form) (text : List ℕ) (before after : Option (List ℕ)) where
  -- more lines stand there than count
  abbrev more_lines : Bool
  more_lines = nat_lt most_lines (length (lines_of text))

  -- all lines were told up to the end of the text
  pub WritesTranscript-done : (done : Unit {0}) → is_cut text ≡ false → LinesAreTold (begun form) (lines_of text) before after (Ok done)
      → WritesTranscript form Done text before after
  WritesTranscript-done done whole told = (told.0 ∙ sym (ap (λ cut. status_of (cut || more_lines) (course_of form text).end) whole), told.1)

  -- all lines were told up to the limit
  pub WritesTranscript-limit : (done : Unit {0}) → is_cut text ≡ true → LinesAreTold (begun form) (lines_of text) before after (Ok done)
      → WritesTranscript form Limit text before after
  WritesTranscript-limit done cut told = (
    cut-done more_lines (course_of form text).end told.0 ∙ sym (ap (λ c. status_of (c || more_lines) (course_of form text).end) cut),
    told.1,
  )

  -- the run ended at a line
  pub WritesTranscript-stopped : (unwritten unlinked unlogged : Type 0) (status : Status) → IsLineStop unwritten unlinked unlogged status
      → LinesAreTold (begun form) (lines_of text) before after (Err status) → WritesTranscript form status text before after
  WritesTranscript-stopped unwritten unlinked unlogged Script stop told =
      (cut-fault (is_cut text) more_lines (course_of form text).end told.0, told.1)
  WritesTranscript-stopped unwritten unlinked unlogged Limit stop told =
      (cut-limit (is_cut text) more_lines (course_of form text).end told.0, told.1)
  WritesTranscript-stopped unwritten unlinked unlogged Write stop told = told
  WritesTranscript-stopped unwritten unlinked unlogged Link stop told = told
  WritesTranscript-stopped unwritten unlinked unlogged Log stop told = told
  WritesTranscript-stopped unwritten unlinked unlogged Memory stop told = told
  WritesTranscript-stopped unwritten unlinked unlogged status stop told = absurd stop

-- a last system of one kind is of another
ends_in-weaker : (IsKind IsOther : System → Type 0) (status : Status) (last : System) → (IsKind last → IsOther last)
    → EndsIn IsKind status last → EndsIn IsOther status last
ends_in-weaker IsKind IsOther Done last weaker ends_in = weaker ends_in
ends_in-weaker IsKind IsOther Script last weaker ends_in = weaker ends_in
ends_in-weaker IsKind IsOther status last weaker ends_in = tt

-- so is that of lines
pub LinesEndIn-weaker : (IsKind IsOther : System → Type 0) (start : System) (lines : List (List ℕ)) (result : Result (Unit {0}) Status)
    → ((system : System) → IsKind system → IsOther system) → LinesEndIn start IsKind lines result → LinesEndIn start IsOther lines result
LinesEndIn-weaker IsKind IsOther start lines result weaker =
    ends_in-weaker IsKind IsOther (status_in result) (last_from 1 0 start lines) (weaker (last_from 1 0 start lines))

-- where the run ended at the end of its lines or at one outside the grammar, their last system is of the kind
pub ends_in-told : (IsKind : System → Type 0) (status : Status) (last : System) → EndsIn IsKind status last → (status ≡ Done) ⊎ (status ≡ Script)
    → IsKind last
ends_in-told IsKind status last ends_in (inl done) = subst (λ s. EndsIn IsKind s last) done ends_in
ends_in-told IsKind status last ends_in (inr script) = subst (λ s. EndsIn IsKind s last) script ends_in

-- ---- the text of a source

module _ (form : Form) (text : List ℕ) (now before after : Option (List ℕ)) (unread unwritten unlinked unlogged : Type 0) where
  -- the transcript of what a source has
  pub WritesTranscript-source : (result : Result (Unit {0}) Status) → IfErr result (IsTextStop unread unwritten unlinked unlogged)
      → SourceIsTold (begun form) text now before after result → WritesTranscript form (status_in result) text before after
  WritesTranscript-source (Ok done) stop (whole, spent, told) = WritesTranscript-done form text before after done whole told
  WritesTranscript-source (Err Read) stop told = told.1
  WritesTranscript-source (Err status) stop told =
      ⊎_elim (λ t. WritesTranscript-stopped form text before after unwritten unlinked unlogged status stop t)
      (λ t. subst (λ s. WritesTranscript form s text before after) (sym t.0) (WritesTranscript-limit form text before after tt t.1 t.2)) told

-- what is promised of a text where it is known what brings nodes back
pub with-restarts : (logs : Option (ById (List ℕ))) (left : Option (List ℕ)) (P Q : List ℕ → Type 0) → TellsRestarts logs left
    → IfSome left (λ text. RestartsAreTold logs (counted_lines text) → P text) → ((text : List ℕ) → P text → Q text) → IfSome left Q
with-restarts logs None P Q restarts holds step = tt
with-restarts logs (Some text) P Q (inl told) holds step = step text (holds (inl told))
with-restarts logs (Some text) P Q (inr none) holds step = step text (holds (inr none))

-- what holds of a text leads to what else holds of it
pub if-step : (told : Option (List ℕ)) (P Q : List ℕ → Type 0) → ((text : List ℕ) → P text → Q text) → IfSome told P → IfSome told Q
if-step None P Q step holds = tt
if-step (Some text) P Q step holds = step text holds
