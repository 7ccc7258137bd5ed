-- Texts that are cut in two at a byte.
use Rattle.std.proofs.Common.{◌≡◌, ℕ, suc, ◌+◌, ◌<◌, ◌==◌, ◌≢◌, ltb, List, [], ◌∷◌, ◌++◌, length, get_or}
use Rattle.std.proofs.Common.{take, drop, Bool, true, false, cond, if◌then◌else◌, Some, None, refl, ap, ◌∙◌, arith}
use Rattle.std.specs.Option.{option_map}
use Rattle.std.specs.List.{list_any, position, position_or_len, before_first, after_first}
use Rattle.std.proofs.Math.ListN.{get_or-append}
use Rattle.std.proofs.Math.Seq.{take-append_seam, drop-append-add, get_or-append_seam}
use Rattle.std.proofs.lemmas.List.{length-append}
use Rattle.std.proofs.lemmas.Bool.Decides.{nat_tests}
use Rattle.std.proofs.lemmas.List.Sums.{position_or_len_is, passes_at_first, split_at_first}
use Rattle.cs_base.specs.Canonical.{parted}
use Rattle.cs_base.proofs.Numbers.{let_through}

-- some element passes where the first that does has a place
any_is : {T : Type 0} (p : T → Bool) (xs : List T) → list_any p xs ≡ ltb (position_or_len p xs) (length xs)
any_is p [] = refl
any_is p (x ∷ xs) = grind (arith, nat_tests, any_is p xs)

-- the parts by the place of the byte
pub parted-position : (byte : ℕ) (text : List ℕ)
    → parted byte text ≡ option_map (λ i. (take i text, drop (i + 1) text)) (position (λ b. b == byte) text)
parted-position byte text =
    let at = position_or_len (λ b. b == byte) text in
    let parts : List ℕ × List ℕ = (take at text, drop (at + 1) text) in
    rw (any_is (λ b. b == byte) text)
    (elim (ltb at (length text)) as (λ found. (if found then Some parts else None)
    ≡ option_map (λ i. (take i text, drop (i + 1) text)) (cond found (Some at) None)) [ true ↦ refl | false ↦ refl ])

-- the parts that were found, and the byte between them, are the text
pub parted-found : (byte : ℕ) (text before after : List ℕ) → parted byte text ≡ Some (before, after) → text ≡ before ++ byte ∷ after
parted-found byte text before after e =
    let p = λ (b : ℕ). b == byte in
    let parts : List ℕ × List ℕ = (before_first p text, after_first p text) in
    let through = let_through (list_any p text) parts (before, after) e in
    let found : position_or_len p text < length text = (let any = any_is p text in grind (arith, nat_tests)) in
    let is : get_or text (position_or_len p text) 0 ≡ byte = (let passes = passes_at_first p text 0 found in grind (arith, nat_tests)) in
    let whole = rw is at (split_at_first p text 0 found) in
    let front : before_first p text ≡ before = ap (λ (q : List ℕ × List ℕ). q.0) through.1 in
    let back : after_first p text ≡ after = ap (λ (q : List ℕ × List ℕ). q.1) through.1 in
    whole ∙ ap (λ xs. xs ++ byte ∷ after_first p text) front ∙ ap (λ ys. before ++ byte ∷ ys) back

-- the two parts, where the test passes
kept_parts : (b : Bool) (xs ys before after : List ℕ) → b ≡ true → xs ≡ before → ys ≡ after
    → (let parts : List ℕ × List ℕ = (xs, ys) in let wanted : List ℕ × List ℕ = (before, after) in (if b then Some parts else None) ≡ Some wanted)
kept_parts true xs ys before after e front back = cc
kept_parts false xs ys before after e front back = cc

-- a text that is put together of two parts has them, where the byte isn't in the first
pub parted-is : (byte : ℕ) (before after : List ℕ) → ((k : ℕ) → k < length before → get_or before k 0 ≢ byte)
    → parted byte (before ++ byte ∷ after) ≡ Some (before, after)
parted-is byte before after clean =
    let text = before ++ byte ∷ after in
    let p = λ (b : ℕ). b == byte in
    let long : length text ≡ length before + suc (length after) = length-append before (byte ∷ after) in
    let at : position_or_len p text ≡ length before = position_or_len_is p text (length before) 0 (omega arith)
    (λ k lt. (let same = get_or-append before (byte ∷ after) 0 k lt in let other = clean k lt in grind (arith, nat_tests)))
    (λ lt. (let same = get_or-append_seam before byte after 0 in grind (arith, nat_tests))) in
    let any : list_any p text ≡ true = (let is = any_is p text in grind (arith, nat_tests)) in
    let front : before_first p text ≡ before = ap (λ n. take n text) at ∙ take-append_seam before (byte ∷ after) in
    let back : after_first p text ≡ after = ap (λ n. drop (n + 1) text) at ∙ drop-append-add before (byte ∷ after) 1 in
    kept_parts (list_any p text) (before_first p text) (after_first p text) before after any front back
