-- The block of a view among other lines.
use Rattle.std.proofs.Common.{◌≡◌, Bool, true, false, cond, ltb, List, [], ◌∷◌, ◌++◌, length, take, drop, codes, bytes_eq}
use Rattle.std.proofs.Common.{None, Some, Option, refl, sym, ap, ◌∙◌, append_assoc, append-nil, length-append, arith}
use Rattle.std.specs.List.{AllByRecursion, cons_option, filter_map, last_or, onto_first, position_or_len, slice_split}
use Rattle.std.proofs.Math.Seq.{drop-append_seam, take-append_seam}
use Rattle.std.proofs.lemmas.List.Elements.{All-from_recursion}
use Rattle.std.proofs.lemmas.List.Splits.{slice_split_at}
use Rattle.cs_base.proofs.Elements.{All-append, All-weaker}
use Rattle.cs_item.specs.declared.picture.Picture.{Picture}
use Rattle.cs_show.specs.Agreement.{Block, begins_with, block_in, blocks_in}
use Rattle.cs_show.specs.Block.{block_lines}
use Rattle.cs_show.specs.Text.{Line, all_but_last}
use Rattle.cs_show.proofs.BlockLines.{All-body, body, body-block, whole-block}

-- the line isn't `end`, and its first word isn't `epoch`
pub record IsQuiet (line : Line) : Type 0 where
  pub no_end : bytes_eq line (codes "end") ≡ false
  pub no_epoch : begins_with (codes "epoch") line ≡ false

-- a split has a first part
abbrev Parts : {T : Type 0} → (T → Bool) → List T → Type 0
Parts {T} p xs = (part : List T) × (more : List (List T)) × (slice_split p xs ≡ part ∷ more)

-- so it has
split-some : {T : Type 0} (p : T → Bool) (xs : List T) → Parts p xs
split-some p [] = ([], [], refl)
split-some {T} p (x ∷ xs) =
    let rest = split-some p xs in
    elim (p x) as (λ b. (part : List T) × (more : List (List T)) × (cond b ([] ∷ slice_split p xs) (onto_first x (slice_split p xs)) ≡ part ∷ more)) [
      | true ↦ ([], slice_split p xs, refl)
      | false ↦ (x ∷ rest.0, rest.1, ap (onto_first x) rest.2)
    ]

-- the first line that begins a block stands behind quiet ones
start-at : (quiet : List Line) (first : Line) (more : List Line) → AllByRecursion IsQuiet quiet → begins_with (codes "epoch") first ≡ true
    → position_or_len (begins_with (codes "epoch")) (quiet ++ first ∷ more) ≡ length quiet
start-at [] first more are begins = rw begins refl
start-at (line ∷ quiet) first more are begins =
    let quiet_one : begins_with (codes "epoch") line ≡ false = are.0.no_epoch in
    rw quiet_one (omega (arith, start-at quiet first more are.1 begins))

-- so the block begins there
block_in-behind : (quiet : List Line) (first : Line) (more : List Line) → AllByRecursion IsQuiet quiet
    → begins_with (codes "epoch") first ≡ true → block_in (quiet ++ first ∷ more) ≡ Some (record { call = last_or None quiet; lines = first ∷ more })
block_in-behind quiet first more are begins =
    let lines = quiet ++ first ∷ more in
    let inside : ltb (length quiet) (length lines) ≡ true = grind (arith, length-append quiet (first ∷ more)) in
    ap (λ n. cond (ltb n (length lines)) (Some (record { call = last_or None (take n lines); lines = drop n lines })) None)
    (start-at quiet first more are begins)
    ∙ (ap (λ b. cond b (Some (record { call = last_or None (take (length quiet) lines); lines = drop (length quiet) lines })) None) inside
    ∙ (ap (λ l. Some (record { call = last_or None l; lines = drop (length quiet) lines })) (take-append_seam quiet (first ∷ more))
    ∙ ap (λ l. Some (record { call = last_or None quiet; lines = l })) (drop-append_seam quiet (first ∷ more))))

-- a line between lines, grouped in two ways
around : (front lines behind : List Line) (end : Line) → front ++ (lines ++ end ∷ []) ++ behind ≡ (front ++ lines) ++ end ∷ behind
around front lines behind end = simp append_assoc

-- no line before the last is `end`
no_end : (p : Picture) → AllByRecursion (λ (line : Line). bytes_eq line (codes "end") ≡ false) (body p)
no_end p =
    All-body (λ (line : Line). bytes_eq line (codes "end") ≡ false) p (λ epoch. refl) (λ region s. refl) (λ region m. refl)
    (λ region m. refl) (λ colour tree. refl) (λ region colour tree. refl) (λ digest. refl)

-- behind quiet lines the block of a view is found, with the last of them before it, and then the blocks in the lines behind it
pub block-among : (quiet : List Line) (p : Picture) (more : List Line) → AllByRecursion IsQuiet quiet
    → blocks_in (quiet ++ block_lines p ++ more)
    ≡ record { call = last_or None quiet; lines = all_but_last (block_lines p) } ∷ blocks_in more
block-among quiet p more are =
    let ends = λ (line : Line). bytes_eq line (codes "end") in
    let part = quiet ++ body p in
    let is_part : AllByRecursion (λ (line : Line). ends line ≡ false) part =
    All-append (λ (line : Line). ends line ≡ false) quiet (body p)
    (All-weaker IsQuiet (λ (line : Line). ends line ≡ false) (λ line is. is.no_end) quiet are) (no_end p) in
    let some = split-some ends more in
    let cut : slice_split ends (part ++ codes "end" ∷ more) ≡ part ∷ slice_split ends more =
    slice_split_at ends part (codes "end") more (All-from_recursion (λ (line : Line). ends line ≡ false) part is_part) refl in
    let block : Block = record { call = last_or None quiet; lines = body p } in
    ap (λ (lines : List Line). blocks_in (quiet ++ lines ++ more)) (whole-block p)
    ∙ (ap blocks_in (around quiet (body p) more (codes "end"))
    ∙ (ap (λ parts. filter_map block_in (all_but_last parts)) (cut ∙ ap (λ parts. part ∷ parts) some.2)
    ∙ (ap (λ (o : Option Block). cons_option o (filter_map block_in (all_but_last (some.0 ∷ some.1)))) (block_in-behind quiet _ _ are refl)
    ∙ (ap (λ parts. block ∷ filter_map block_in (all_but_last parts)) (sym some.2)
    ∙ ap (λ (lines : List Line). record { call = last_or None quiet; lines = lines } ∷ blocks_in more) (sym (body-block p))))))

-- of the lines of a view alone it is the one block
pub block-found : (p : Picture) → blocks_in (block_lines p) ≡ record { call = None; lines = all_but_last (block_lines p) } ∷ []
block-found p = ap blocks_in (sym (append-nil (block_lines p))) ∙ block-among [] p [] tt
