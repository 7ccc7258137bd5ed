-- A text that a reader gives line by line.
use Rattle.std.proofs.Common.{◌≡◌, ℕ, ◌+◌, ◌-◌, ◌<◌, ◌≤◌, ◌==◌, Bool, true, false, cond, not, List, [], ◌∷◌, ◌++◌, length, take, drop}
use Rattle.std.proofs.Common.{Option, Some, None, refl, sym, ap, ◌∙◌, arith}
use Rattle.std.specs.List.{AllByRecursion, position_or_len}
use Rattle.std.specs.Option.{unwrap_or}
use Rattle.std.proofs.lemmas.Bool.{le-ltb, lt-ltb}
use Rattle.std.proofs.lemmas.Bool.Decides.{nat_tests}
use Rattle.std.proofs.lemmas.Grind.{common_steps}
use Rattle.std.proofs.lemmas.List.{append-nil, append_assoc, drop-drop, length-append, length-drop, take-append-drop, take-take, take_all}
use Rattle.std.proofs.lemmas.List.Concat.{flat_map-append}
use Rattle.std.proofs.lemmas.List.Folds.{prefix_len-append}
use Rattle.std.proofs.lemmas.List.Sums.{prefix_len-le-length}
use Rattle.std.proofs.Math.Seq.{drop-append-add, take-add, take-append_seam}
use Rattle.cs_base.specs.Limits.{most_text}
use Rattle.cs_base.proofs.Elements.{All-append}
use Rattle.cs_show.specs.Text.{ended, text_of}
use Rattle.census.specs.Lines.{Gives, GoesOn, Reader, Takes, Waits, first_lf}
use Rattle.census.specs.Text.{is_cut, lines_in, lines_of}
use Rattle.census.proofs.LinesOfText.{lines_in-at, lines_in-none, lines_in-whole}

-- how far a reader is in a text: the lines that it gave, and what it read behind them
pub record IsAt (text : List ℕ) (done : List (List ℕ)) (reader : Reader) (now : Option (List ℕ)) : Type 0 where
  pub within : reader.taken ≤ length text
  pub few : reader.taken ≤ most_text
  pub source : now ≡ Some (drop reader.taken text)
  pub bytes : text_of done ++ reader.rest ≡ take reader.taken text
  pub unended : AllByRecursion (λ line. first_lf line ≡ None) done

-- at first nothing was read
pub IsAt-start : (text : List ℕ) (reader : Reader) (now : Option (List ℕ)) → reader.rest ≡ [] → reader.taken ≡ 0 → now ≡ Some text
    → IsAt text [] reader now
IsAt-start text reader now rest taken source = record {
  within = omega (arith, taken);
  few = omega (arith, taken);
  source = source ∙ ap (λ n. Some (drop n text)) (sym taken);
  bytes = rest ∙ ap (λ n. take n text) (sym taken);
  unended = tt;
}

-- the text of lines and of one more
pub text_of-more : (done : List (List ℕ)) (line rest : List ℕ) → text_of (done ++ line ∷ []) ++ rest ≡ text_of done ++ (line ++ 10 ∷ rest)
text_of-more done line rest =
    ap (λ text. text ++ rest) (flat_map-append ended done (line ∷ []) ∙ ap (λ last. text_of done ++ last) (append-nil (ended line)))
    ∙ append_assoc (text_of done) (ended line) rest
    ∙ ap (λ end. text_of done ++ end) (append_assoc line (10 ∷ []) rest)

module _ (text : List ℕ) (done : List (List ℕ)) (a b : Reader) (now later : Option (List ℕ)) (at : IsAt text done a now)
    (few : b.taken ≤ most_text) where
  within-more : (n : ℕ) → Takes n a b (drop a.taken text) → b.taken ≤ length text
  within-more n takes = let len : length (drop a.taken text) ≡ length text - a.taken = length-drop a.taken text in
      omega (arith, takes.within, takes.taken, len, at.within)

  source-more : (n : ℕ) → Takes n a b (drop a.taken text) → later ≡ Some (drop n (drop a.taken text)) → later ≡ Some (drop b.taken text)
  source-more n takes source = source ∙ ap Some (drop-drop n a.taken text ∙ ap (λ k. drop k text) (sym takes.taken))

  bytes-more : (n : ℕ) (end : List ℕ) → Takes n a b (drop a.taken text) → a.rest ++ take n (drop a.taken text) ≡ end
      → text_of done ++ end ≡ take b.taken text
  bytes-more n end takes bytes =
      ap (λ e. text_of done ++ e) (sym bytes) ∙ sym (append_assoc (text_of done) a.rest (take n (drop a.taken text)))
      ∙ ap (λ front. front ++ take n (drop a.taken text)) at.bytes ∙ sym (take-add a.taken n text) ∙ ap (λ k. take k text) (sym takes.taken)

  -- no line had ended
  pub IsAt-waits : Waits a b (drop a.taken text) later → IsAt text done b later
  IsAt-waits waits = record {
    within = within-more waits.count waits.takes;
    few = few;
    source = source-more waits.count waits.takes waits.source;
    bytes = bytes-more waits.count b.rest waits.takes waits.bytes;
    unended = at.unended;
  }

  -- one more line was given
  pub IsAt-gives : Gives a b (drop a.taken text) later → IsAt text (done ++ b.line ∷ []) b later
  IsAt-gives gives = record {
    within = within-more gives.count gives.takes;
    few = few;
    source = source-more gives.count gives.takes gives.source;
    bytes = text_of-more done b.line b.rest ∙ bytes-more gives.count (b.line ++ 10 ∷ b.rest) gives.takes gives.bytes;
    unended = All-append (λ line. first_lf line ≡ None) done (b.line ∷ []) at.unended (gives.unended, tt);
  }

-- ---- its lines

-- a line without an LF ends at the LF behind it
ended-at : (line rest : List ℕ) → first_lf line ≡ None → first_lf (line ++ 10 ∷ rest) ≡ Some (length line)
ended-at line rest none =
    let far : length line ≤ position_or_len (λ b. b == 10) line = grind (arith, common_steps) in
    let parts = prefix_len-append (λ b. not (b == 10)) line (10 ∷ rest) in
    let at : position_or_len (λ b. b == 10) (line ++ 10 ∷ rest) ≡ length line =
    grind (arith, nat_tests, far, parts, prefix_len-le-length (λ b. not (b == 10)) line) in
    let inside : position_or_len (λ b. b == 10) (line ++ 10 ∷ rest) < length (line ++ 10 ∷ rest) =
    omega (arith, at, length-append line (10 ∷ rest)) in
    ap (λ b. cond b (Some (position_or_len (λ b. b == 10) (line ++ 10 ∷ rest))) None) (lt-ltb _ _ inside) ∙ ap Some at

-- the lines that were given stand before those of what was not
lines-behind : (cut : Bool) (done : List (List ℕ)) (rest : List ℕ) → AllByRecursion (λ line. first_lf line ≡ None) done
    → lines_in cut (text_of done ++ rest) ≡ done ++ lines_in cut rest
lines-behind cut [] rest all = refl
lines-behind cut (line ∷ lines) rest all =
    let behind = text_of lines ++ rest in
    let text = line ++ 10 ∷ behind in
    let same : text_of (line ∷ lines) ++ rest ≡ text =
    append_assoc (ended line) (text_of lines) rest ∙ append_assoc line (10 ∷ []) behind in
    let first = (lines_in-at cut text (length line) (ended-at line behind all.0)).0 in
    let front : take (length line) text ≡ line = take-append_seam line (10 ∷ behind) in
    let end : drop (length line + 1) text ≡ behind = drop-append-add line (10 ∷ behind) 1 in
    ap (lines_in cut) same ∙ first ∙ ap (λ l. l ∷ lines_in cut (drop (length line + 1) text)) front
    ∙ ap (λ t. line ∷ lines_in cut t) end ∙ ap (λ ls. line ∷ ls) (lines-behind cut lines rest all.1)

module _ (text : List ℕ) (done : List (List ℕ)) (reader : Reader) (now : Option (List ℕ)) (at : IsAt text done reader now) where
  -- those that it has still to give
  abbrev pub still : List (List ℕ)
  still = lines_in (is_cut text) (reader.rest ++ drop reader.taken (take most_text text))

  -- they stand behind those that it gave
  pub lines-still : lines_of text ≡ done ++ still
  lines-still =
      let counts = take most_text text in
      let front : take reader.taken counts ≡ text_of done ++ reader.rest = take-take reader.taken most_text text at.few ∙ sym at.bytes in
      ap (lines_in (is_cut text))
      (sym (take-append-drop reader.taken counts) ∙ ap (λ f. f ++ drop reader.taken counts) front
      ∙ append_assoc (text_of done) reader.rest (drop reader.taken counts))
      ∙ lines-behind (is_cut text) done (reader.rest ++ drop reader.taken counts) at.unended

  module _ (none : first_lf reader.rest ≡ None) where
    -- those that ended in what was read are those that it gave
    pub lines-ended : lines_in true (take reader.taken text) ≡ done
    lines-ended =
        ap (lines_in true) (sym at.bytes) ∙ lines-behind true done reader.rest at.unended
        ∙ ap (λ ls. done ++ ls) (lines_in-none true reader.rest none (λ is. absurd (cc))) ∙ append-nil done

    module _ (spent : now ≡ Some []) where
      -- the whole text was read
      all-read : length text ≤ reader.taken
      all-read =
          let empty : drop reader.taken text ≡ [] = ap (λ o. unwrap_or {T = List ℕ} o []) (sym at.source ∙ spent) in
          let len : length (drop reader.taken text) ≡ length text - reader.taken = length-drop reader.taken text in
          omega (arith, len, ap length empty)

      -- it isn't cut
      pub not-cut : is_cut text ≡ false
      not-cut = le-ltb most_text (length text) (omega (arith, all-read, at.few))

      -- its lines are those that were given, and what is left
      pub lines-at-end : lines_of text ≡ done ++ lines_in false reader.rest
      lines-at-end =
          let whole : take most_text text ≡ text = take_all most_text text (omega (arith, all-read, at.few)) in
          let read : text ≡ text_of done ++ reader.rest = sym (take_all reader.taken text all-read) ∙ sym at.bytes in
          ap (λ cut. lines_in cut (take most_text text)) not-cut ∙ ap (lines_in false) (whole ∙ read)
          ∙ lines-behind false done reader.rest at.unended

-- what is left without an LF is no line where it is empty
pub none-left : (rest : List ℕ) → rest ≡ [] → lines_in false rest ≡ []
none-left rest empty = ap (lines_in false) empty

-- and else is one
pub one-left : (rest : List ℕ) → first_lf rest ≡ None → 0 < length rest → lines_in false rest ≡ rest ∷ []
one-left rest none some = lines_in-whole rest none some

-- the text goes on behind what counts
module _ (text : List ℕ) (done : List (List ℕ)) (a b : Reader) (now : Option (List ℕ)) (at : IsAt text done a now)
    (goes_on : GoesOn a b (drop a.taken text)) (none : first_lf b.rest ≡ None) where
  -- it is cut
  pub cut-there : is_cut text ≡ true
  cut-there =
      let len : length (drop a.taken text) ≡ length text - a.taken = length-drop a.taken text in
      lt-ltb most_text (length text) (omega (arith, len, goes_on.more, goes_on.full, goes_on.takes.taken))

  -- and its lines are those that were given
  pub lines-at-limit : lines_of text ≡ done
  lines-at-limit =
      let full : take b.taken text ≡ take most_text text = ap (λ n. take n text) goes_on.full in
      let few : b.taken ≤ most_text = omega (arith, goes_on.full) in
      let read : text_of done ++ b.rest ≡ take b.taken text = bytes-more text done a b now now at few goes_on.count b.rest goes_on.takes goes_on.bytes in
      ap (λ cut. lines_in cut (take most_text text)) cut-there ∙ ap (lines_in true) (sym full ∙ sym read)
      ∙ lines-behind true done b.rest at.unended
      ∙ ap (λ ls. done ++ ls) (lines_in-none true b.rest none (λ is. absurd (cc))) ∙ append-nil done
