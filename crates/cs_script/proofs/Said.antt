-- A row's line: its values, one behind the other, and the texts of these.
use Rattle.std.proofs.Common.{◌≡◌, ℕ, ◌==◌, List, [], ◌∷◌, length, suc, inl, inr, Ok, Err, bytes_eq, subst, refl, sym, ap, ◌∙◌, arith}
use Rattle.std.specs.List.{AllByRecursion}
use Rattle.std.proofs.lemmas.Bool.{cond-true, eq-eqb, eqb-true}
use Rattle.std.proofs.lemmas.Slice.Eq.{bytes_eq-Decides}
use Rattle.cs_script.specs.Event.{IsEvent}
use Rattle.cs_script.specs.Grammar.{event_among, event_by, event_in, said}
use Rattle.cs_script.specs.Kinds.{Kind, Value, value_of}
use Rattle.cs_script.specs.Rows.{Row, Says, row}
use Rattle.cs_script.specs.Spelling.{words_for}
use Rattle.cs_script.specs.declared.event.Event.{Event}
use Rattle.cs_script.specs.declared.fault.LineFault.TheVariants as faults
use Rattle.cs_script.proofs.Spaces.{IsClean, clean-text}
use Rattle.cs_script.proofs.Steps.{bind_ok, let_through, which_ok}
use Rattle.cs_script.proofs.Values.{IsValue, text_of, value_is, value_said}

-- a value for each kind
abbrev pub Values : List Kind → Type 0
Values [] = Unit {0}
Values (kind ∷ kinds) = Value kind × Values kinds

-- each in its range
abbrev pub AreValues : (kinds : List Kind) → Values kinds → Type 0
AreValues [] values = Unit {0}
AreValues (kind ∷ kinds) values = IsValue kind values.0 × AreValues kinds values.1

-- their texts
abbrev pub texts : (kinds : List Kind) → Values kinds → List (List ℕ)
texts [] values = []
texts (kind ∷ kinds) values = text_of kind values.0 ∷ texts kinds values.1

-- the event that they make
abbrev pub made : (kinds : List Kind) → Says kinds → Values kinds → Event
made [] event values = event
made (kind ∷ kinds) says values = made kinds (says values.0) values.1

-- the texts say it
said-texts : (kinds : List Kind) (says : Says kinds) (values : Values kinds) → AreValues kinds values
    → said kinds says (texts kinds values) ≡ Ok (made kinds says values)
said-texts [] event values are = refl
said-texts (kind ∷ kinds) says values are = rw (value_is kind values.0 are.0) (said-texts kinds (says values.0) values.1 are.1)

-- there are as many texts as kinds
length-texts : (kinds : List Kind) (values : Values kinds) → length (texts kinds values) ≡ length kinds
length-texts [] values = refl
length-texts (kind ∷ kinds) values = ap suc (length-texts kinds values.1)

-- none has a space
clean-texts : (kinds : List Kind) (values : Values kinds) → AreValues kinds values → AllByRecursion IsClean (texts kinds values)
clean-texts [] values are = tt
clean-texts (kind ∷ kinds) values are = (clean-text kind values.0 are.0, clean-texts kinds values.1 are.1)

-- the texts behind the row's word are its line
by_texts : (word : List ℕ) (kinds : List Kind) (says : Says kinds) (values : Values kinds) → AreValues kinds values
    → event_by (row word kinds says) (texts kinds values) ≡ Ok (made kinds says values)
by_texts word kinds says values are =
    cond-true (length (texts kinds values) == length kinds) (said kinds says (texts kinds values)) (Err faults.Count)
    (eq-eqb (length (texts kinds values)) (length kinds) (length-texts kinds values))
    ∙ said-texts kinds says values are

-- words that are read as an event, and have no space
pub record IsRead (words : List (List ℕ)) (event : Event) : Type 0 where
  pub read : event_in words ≡ Ok event
  pub clean : AllByRecursion IsClean words

-- a row's word and the texts of its values are read as the event that these make
pub row_is_read : (word : List ℕ) (kinds : List Kind) (says : Says kinds) (values : Values kinds) → AreValues kinds values → IsClean word
    → ((args : List (List ℕ)) → event_in (word ∷ args) ≡ event_by (row word kinds says) args)
    → IsRead (word ∷ texts kinds values) (made kinds says values)
row_is_read word kinds says values are clean reads = record {
  read = reads (texts kinds values) ∙ by_texts word kinds says values are;
  clean = (clean, clean-texts kinds values are);
}

-- the values that some words say
record Said (kinds : List Kind) (says : Says kinds) (args : List (List ℕ)) (event : Event) : Type 0 where
  values : Values kinds
  are : AreValues kinds values
  spelt : args ≡ texts kinds values
  made_of : made kinds says values ≡ event

-- what was said, word by word
said-found : (kinds : List Kind) (says : Says kinds) (args : List (List ℕ)) (event : Event) → length args ≡ length kinds
    → said kinds says args ≡ Ok event → Said kinds says args event
said-found [] says [] event long e = record { values = tt; are = tt; spelt = refl; made_of = cc }
said-found [] says (word ∷ args) event long e = absurd (omega arith)
said-found (kind ∷ kinds) says [] event long e = absurd (omega arith)
said-found (kind ∷ kinds) says (word ∷ args) event long e =
    let read = bind_ok (value_of kind word) (λ value. said kinds (says value) args) event e in
    let first = value_said kind word read.0 read.1 in
    let others = said-found kinds (says read.0) args event (omega arith) read.2 in
    record {
      values = (read.0, others.values);
      are = (first.range, others.are);
      spelt = ap (λ w. w ∷ args) first.spelt ∙ ap (λ ws. text_of kind read.0 ∷ ws) others.spelt;
      made_of = others.made_of;
    }

-- a row whose events are spelt by its word and the texts of its values, and are in their ranges
pub record IsRow (r : Row) : Type 0 where
  pub spelt : (values : Values r.kinds) → words_for (made r.kinds r.says values) ≡ r.word ∷ texts r.kinds values
  pub allowed : (values : Values r.kinds) → AreValues r.kinds values → IsEvent (made r.kinds r.says values)

-- an event that is in its ranges, and is spelt by these words
pub record IsSpelt (words : List (List ℕ)) (event : Event) : Type 0 where
  pub spelt : words_for event ≡ words
  pub allowed : IsEvent event

-- what a row's line says
by_row : (r : Row) (args : List (List ℕ)) (event : Event) → IsRow r → event_by r args ≡ Ok event → IsSpelt (r.word ∷ args) event
by_row r args event is e =
    let through = let_through (length args == length r.kinds) (said r.kinds r.says args) faults.Count event e in
    let what = said-found r.kinds r.says args event (eqb-true (length args) (length r.kinds) through.0) through.1 in
    record {
      spelt = ap words_for (sym what.made_of) ∙ is.spelt what.values ∙ ap (λ ws. r.word ∷ ws) (sym what.spelt);
      allowed = subst IsEvent what.made_of (is.allowed what.values what.are);
    }

-- what a line of some rows says
pub among_rows : (others : List Row) (word : List ℕ) (args : List (List ℕ)) (event : Event) → AllByRecursion IsRow others
    → event_among others word args ≡ Ok event → IsSpelt (word ∷ args) event
among_rows [] word args event are e = cc
among_rows (r ∷ others) word args event are e =
    elim (which_ok (bytes_eq word r.word) (event_by r args) (event_among others word args) event e) [
      | inl this ↦
          let same = (bytes_eq-Decides word r.word).0 this.0 in
          subst (λ w. IsSpelt (w ∷ args) event) (sym same) (by_row r args event are.0 this.1)
      | inr other ↦ among_rows others word args event are.1 other.1
    ]
