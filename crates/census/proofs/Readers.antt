-- What a reader of lines reads and gives.
use Rattle.std.proofs.Common.{◌≡◌, ℕ, zero, suc, ◌+◌, ◌-◌, ◌<◌, ◌≤◌, ◌==◌, Bool, true, false, cond, not}
use Rattle.std.proofs.Common.{◌⊎◌, inl, inr, ⊎_elim, List, [], ◌∷◌, ◌++◌, length, get_or, take, drop}
use Rattle.std.proofs.Common.{Option, Some, None, Result, Ok, Err, IfSome, nat_lt, refl, sym, ap, subst, ◌∙◌, arith}
use Rattle.std.proofs.lemmas.List.{append-nil, append_assoc, drop-append-le, drop-drop, length-drop, length-take, length-append, take-append-drop}
use Rattle.std.proofs.lemmas.List.Quantifiers.{position-Some}
use Rattle.std.proofs.lemmas.List.Sums.{prefix_len-le-length}
use Rattle.std.specs.List.{position_or_len}
use Rattle.std.proofs.lemmas.Grind.{common_steps}
use Rattle.std.proofs.lemmas.List.Folds.{prefix_len-append}
use Rattle.std.proofs.lemmas.Bool.{le-ltb, lt-ltb}
use Rattle.std.proofs.lemmas.Bool.Decides.{nat_tests}
use Rattle.std.proofs.Math.Seq.{drop-cons, take-add}
use Rattle.cs_base.specs.Limits.{most_text}
use Rattle.census.specs.declared.status.Status.{Status}
use Rattle.census.specs.declared.status.Status.TheVariants.{Limit, Read}
use Rattle.census.specs.Lines.{AdvanceIs, FillIs, Gives, GoesOn, IsTakenUp, Reader, Takes, Waits, first_lf, most_piece}
use Rattle.census.specs.Streams.{AddsPiece, TakesAtMost}

-- bytes with an LF are a line, the LF, and what stands behind it
pub at-lf : (bytes : List ℕ) (place : ℕ) → first_lf bytes ≡ Some place
    → (length (take place bytes) ≡ place) × (bytes ≡ take place bytes ++ 10 ∷ drop (place + 1) bytes)
at-lf bytes place is =
    let found = position-Some (λ b. b == 10) bytes place 0 is in
    let lf : get_or bytes place 0 ≡ 10 = grind (arith, nat_tests, found.1) in
    let more : suc place ≡ place + 1 = omega arith in
    let behind : drop place bytes ≡ 10 ∷ drop (place + 1) bytes =
    drop-cons bytes place 0 found.0 ∙ ap (λ b. b ∷ drop (suc place) bytes) lf ∙ ap (λ n. 10 ∷ drop n bytes) more in (
      simp length-take (omega (arith, found.0)),
      sym (take-append-drop place bytes) ∙ ap (λ end. take place bytes ++ end) behind,
    )

-- the next line is taken up from a buffer
pub taken-up : (buffer : List ℕ) (next place : ℕ) → first_lf (drop next buffer) ≡ Some place
    → (first_lf (drop next buffer) ≡ Some (length (take (next + place - next) (drop next buffer))))
    × (drop next buffer ≡ take (next + place - next) (drop next buffer) ++ 10 ∷ drop (next + place + 1) buffer)
taken-up buffer next place is =
    let at = at-lf (drop next buffer) place is in
    let same : next + place - next ≡ place = omega arith in
    let far : next + (place + 1) ≡ next + place + 1 = omega arith in (
      is ∙ ap Some (sym (ap (λ n. length (take n (drop next buffer))) same ∙ at.0)),
      at.1 ∙ ap (λ n. take n (drop next buffer) ++ 10 ∷ drop (place + 1) (drop next buffer)) (sym same)
          ∙ ap (λ end. take (next + place - next) (drop next buffer) ++ 10 ∷ end)
          (drop-drop (place + 1) next buffer ∙ ap (λ n. drop n buffer) far),
    )

-- what was read stands behind what is left of a buffer
waits : (before after : Reader) (left : List ℕ) (now : Option (List ℕ)) (n next : ℕ) (buffer more : List ℕ) → n ≤ length left
    → more ≡ buffer ++ take n left → now ≡ Some (drop n left) → drop next buffer ≡ before.rest → drop next more ≡ after.rest
    → next ≤ length buffer → after.taken ≡ before.taken + n → Waits before after left now
waits before after left now n next buffer more within bytes source old new inside taken = record {
  count = n;
  takes = record { within = within; taken = taken };
  source = source;
  bytes = ap (λ rest. rest ++ take n left) (sym old) ∙ sym (drop-append-le next buffer (take n left) inside) ∙ ap (drop next) (sym bytes) ∙ new;
}

-- a piece was read behind what is left of a buffer
pub filled : (before after : Reader) (told now : Option (List ℕ)) (n next : ℕ) (buffer more : List ℕ) → AddsPiece told now n buffer more
    → drop next buffer ≡ before.rest → drop next more ≡ after.rest → next ≤ length buffer → after.taken ≡ before.taken + n
    → IfSome told (λ left. FillIs before after left now (Ok (nat_lt 0 n)))
unfolding waits
filled before after None now n next buffer more adds old new inside taken = tt
filled before after (Some left) now zero next buffer more (within, bytes, source, end) old new inside taken =
    let spent : left ≡ [] = end refl in
    let waits_now = waits before after left now zero next buffer more within bytes source old new inside taken in
    (waits_now, sym waits_now.bytes ∙ append-nil before.rest, source ∙ ap Some spent)
filled before after (Some left) now (suc n) next buffer more (within, bytes, source, end) old new inside taken =
    subst (λ some. FillIs before after left now (Ok some)) (sym (lt-ltb 0 (suc n) (omega arith)))
    (waits before after left now (suc n) next buffer more within bytes source old new inside taken)

-- ---- one piece behind others

module _ (a b c d : Reader) (left : List ℕ) (now later : Option (List ℕ)) (so_far : Waits a b left now) (rest : c.rest ≡ b.rest)
    (taken : c.taken ≡ b.taken) where
  -- how much is left behind what was taken
  fewer : (n : ℕ) → n ≤ length (drop so_far.count left) → so_far.count + n ≤ length left
  fewer n within = let len : length (drop so_far.count left) ≡ length left - so_far.count = length-drop so_far.count left in
      omega (arith, within, len, so_far.takes.within)

  -- what was taken so far, and then
  takes-more : (n : ℕ) → Takes n c d (drop so_far.count left) → Takes (so_far.count + n) a d left
  takes-more n more = record {
    within = fewer n more.within;
    taken = omega (arith, more.taken, taken, so_far.takes.taken);
  }

  -- it stands behind what was left
  bytes-more : (n : ℕ) (end : List ℕ) → c.rest ++ take n (drop so_far.count left) ≡ end → a.rest ++ take (so_far.count + n) left ≡ end
  bytes-more n end bytes =
      ap (λ more. a.rest ++ more) (take-add so_far.count n left)
      ∙ sym (append_assoc a.rest (take so_far.count left) (take n (drop so_far.count left)))
      ∙ ap (λ front. front ++ take n (drop so_far.count left)) (so_far.bytes ∙ sym rest) ∙ bytes

  -- a further piece was read
  waits-more : Waits c d (drop so_far.count left) later → Waits a d left later
  waits-more more = record {
    count = so_far.count + more.count;
    takes = takes-more more.count more.takes;
    source = more.source ∙ ap Some (drop-drop more.count so_far.count left);
    bytes = bytes-more more.count d.rest more.bytes;
  }

  -- the source goes on behind what counts
  goes-on-more : GoesOn c d (drop so_far.count left) → GoesOn a d left
  goes-on-more more = record {
    count = so_far.count + more.count;
    takes = takes-more more.count more.takes;
    more = let len : length (drop so_far.count left) ≡ length left - so_far.count = length-drop so_far.count left in
        omega (arith, more.more, len, so_far.takes.within);
    full = more.full;
    bytes = bytes-more more.count d.rest more.bytes;
  }

  -- where no line had ended, that is what the reader comes to
  stopped : first_lf c.rest ≡ None → (result : Result Bool Status) → FillIs c d (drop so_far.count left) later result
      → (result ≡ Ok true) ⊎ AdvanceIs a d left later result
  stopped none (Ok true) more = inl refl
  stopped none (Ok false) more = inr (waits-more more.0, ap first_lf more.1 ∙ none, more.2)
  stopped none (Err Limit) more = inr (goes-on-more more.0, ap first_lf more.1 ∙ none)
  stopped none (Err Read) more = inr (waits-more more.0, ap first_lf more.1 ∙ none)
  stopped none (Err status) more = inr tt

  pub advanced : first_lf c.rest ≡ None → (result : Result Bool Status) → (result ≡ Ok true → ⊥)
      → IfSome now (λ more. FillIs c d more later result) → AdvanceIs a d left later result
  advanced none result not_more fills =
      ⊎_elim (λ is. absurd (not_more is)) (λ holds. holds)
      (stopped none result (subst (λ told. IfSome told (λ more. FillIs c d more later result)) so_far.source fills))

  -- or a piece was read
  pub filled-more : IfSome now (λ more. FillIs c d more later (Ok true)) → Waits a d left later
  filled-more fills = waits-more (subst (λ told. IfSome told (λ more. FillIs c d more later (Ok true))) so_far.source fills)

-- what stands before the first LF has none
pub unended : (line rest : List ℕ) → first_lf (line ++ 10 ∷ rest) ≡ Some (length line) → first_lf line ≡ None
unended line rest is =
    let at : position_or_len (λ b. b == 10) (line ++ 10 ∷ rest) ≡ length line = grind (arith, common_steps) in
    let parts = prefix_len-append (λ b. not (b == 10)) line (10 ∷ rest) in
    let far : length line ≤ position_or_len (λ b. b == 10) line = grind (arith, nat_tests, at, parts) in
    ap (λ b. cond b (Some (position_or_len (λ b. b == 10) line)) None) (le-ltb _ _ far)

-- a line that has ended was taken up
pub given : (a b c : Reader) (left : List ℕ) (now : Option (List ℕ)) → Waits a b left now → IsTakenUp b c true → c.taken ≡ b.taken
    → Gives a c left now
given a b c left now so_far (place, up) taken = record {
  count = so_far.count;
  takes = record { within = so_far.takes.within; taken = taken ∙ so_far.takes.taken };
  source = so_far.source;
  bytes = so_far.bytes ∙ up;
  unended = unended c.line c.rest (ap first_lf (sym up) ∙ place);
}

-- how much a reader takes
module _ (a b c : Reader) (told now later : Option (List ℕ)) (few : b.taken ≤ most_text) (taken : c.taken ≡ b.taken) where
  -- up to where it waits
  pub waits-few : IfSome told (λ left. Waits a b left now) → TakesAtMost (most_text + 1 - a.taken) told now
  waits-few so_far = within told so_far
    where
      within : (t : Option (List ℕ)) → IfSome t (λ left. Waits a b left now) → TakesAtMost (most_text + 1 - a.taken) t now
      within None w = tt
      within (Some left) w = (w.count, omega (arith, w.takes.taken, few), w.source)

  -- and behind it
  pub takes-few : IfSome told (λ left. Waits a b left now) → TakesAtMost (most_text + 1 - c.taken) now later
      → TakesAtMost (most_text + 1 - a.taken) told later
  takes-few so_far more = within told so_far
    where
      within : (t : Option (List ℕ)) → IfSome t (λ left. Waits a b left now) → TakesAtMost (most_text + 1 - a.taken) t later
      within None w = tt
      within (Some left) w =
          let behind = subst (λ m. TakesAtMost (most_text + 1 - c.taken) m later) w.source more in
          (w.count + behind.0, omega (arith, w.takes.taken, few, taken, behind.1), behind.2 ∙ ap Some (drop-drop behind.0 w.count left))

-- ---- how much stands behind the first LF

-- at most a piece
abbrev pub IsShort : List ℕ → Type 0
IsShort rest = (place : ℕ) → first_lf rest ≡ Some place → length rest ≤ place + 1 + most_piece

-- an LF stands behind bytes without one
behind-none : (bytes more : List ℕ) (place : ℕ) → first_lf bytes ≡ None → first_lf (bytes ++ more) ≡ Some place → length bytes ≤ place
behind-none bytes more place none is =
    let far : length bytes ≤ position_or_len (λ b. b == 10) bytes = grind (arith, common_steps, none) in
    let at : position_or_len (λ b. b == 10) (bytes ++ more) ≡ place = grind (arith, common_steps, is) in
    let parts = prefix_len-append (λ b. not (b == 10)) bytes more in
    grind (arith, nat_tests, far, at, parts)

-- so it is where a piece was read
pub short-filled : (a b : Reader) (now later : Option (List ℕ)) → IfSome now (λ left. FillIs a b left later (Ok true)) → first_lf a.rest ≡ None
    → length b.rest ≤ length a.rest + most_piece → IfSome now (λ left. IsShort b.rest)
short-filled a b None later fills none piece = tt
short-filled a b (Some left) later fills none piece = λ place is.
    let far = behind-none a.rest (take fills.count left) place none (ap first_lf fills.bytes ∙ is) in
    omega (arith, piece, far)

-- and less where the line is taken up
pub short-taken : (a b : Reader) → IsTakenUp a b true → IsShort a.rest → length b.rest ≤ most_piece
short-taken a b (place, up) short =
    let len = ap (length {A = ℕ}) up in
    let parts = length-append b.line (10 ∷ b.rest) in
    omega (arith, short (length b.line) place, len, parts)

-- ---- the first LF behind bytes without one

module _ (bytes : List ℕ) (clean : ℕ) (within : clean ≤ length bytes) (none : first_lf (take clean bytes) ≡ None) where
  -- it stands there in the rest
  place-behind : position_or_len (λ b. b == 10) (take clean bytes ++ drop clean bytes) ≡ clean + position_or_len (λ b. b == 10) (drop clean bytes)
  place-behind =
      let len : length (take clean bytes) ≡ clean = simp length-take (omega (arith, within)) in
      let far : length (take clean bytes) ≤ position_or_len (λ b. b == 10) (take clean bytes) = grind (arith, common_steps, none) in
      let parts = prefix_len-append (λ b. not (b == 10)) (take clean bytes) (drop clean bytes) in
      grind (arith, nat_tests, far, parts, len, prefix_len-le-length (λ b. not (b == 10)) (take clean bytes))

  -- the rest and all have one
  pub lf-behind : (place : ℕ) → first_lf (drop clean bytes) ≡ Some place → first_lf bytes ≡ Some (clean + place)
  lf-behind place is =
      let inside = (position-Some (λ b. b == 10) (drop clean bytes) place 0 is).0 in
      let at : position_or_len (λ b. b == 10) (drop clean bytes) ≡ place = grind (arith, common_steps, is) in
      let whole = take clean bytes ++ drop clean bytes in
      let far : position_or_len (λ b. b == 10) whole < length whole =
      omega (
        arith,
        place-behind,
        at,
        inside,
        length-append (take clean bytes) (drop clean bytes),
        length-drop clean bytes,
        within,
        ap (length {A = ℕ}) (take-append-drop clean bytes),
      ) in
      ap first_lf (sym (take-append-drop clean bytes))
      ∙ ap (λ b. cond b (Some (position_or_len (λ b. b == 10) whole)) None) (lt-ltb _ _ far) ∙ ap Some (place-behind ∙ ap (λ n. clean + n) at)

  -- or none has
  pub none-behind : first_lf (drop clean bytes) ≡ None → first_lf bytes ≡ None
  none-behind is =
      let at : length (drop clean bytes) ≤ position_or_len (λ b. b == 10) (drop clean bytes) = grind (arith, common_steps, is) in
      let whole = take clean bytes ++ drop clean bytes in
      let far : length whole ≤ position_or_len (λ b. b == 10) whole =
      omega (
        arith,
        place-behind,
        at,
        length-append (take clean bytes) (drop clean bytes),
        length-drop clean bytes,
        within,
        ap (length {A = ℕ}) (take-append-drop clean bytes),
      ) in
      ap first_lf (sym (take-append-drop clean bytes))
      ∙ ap (λ b. cond b (Some (position_or_len (λ b. b == 10) whole)) None) (le-ltb _ _ far)

-- a list is no shorter than a front of it
pub front-within : (front all : List ℕ) → take (length front) all ≡ front → length front ≤ length all
front-within front all is =
    omega (
      arith,
      ap (length {A = ℕ}) is,
      ap (length {A = ℕ}) (take-append-drop (length front) all),
      length-append (take (length front) all) (drop (length front) all),
    )
