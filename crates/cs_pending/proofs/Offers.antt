-- Changes that are offered one by one: what so many offers have come to, and what pending changes stay.
use Rattle.std.proofs.Common.{◌≡◌, ◌≢◌, ℕ, zero, suc, ◌+◌, ◌<◌, ◌≤◌, ◌==◌, Bool, true, false, List, [], ◌∷◌, ◌++◌, length, get_or, take, drop}
use Rattle.std.proofs.Common.{Some, None, refl, ap, sym, subst, ◌∙◌, arith, take_all, if◌then◌else◌, length-append, length-take, length-drop}
use Rattle.std.specs.List.{AllByRecursion, fold}
use Rattle.std.proofs.lemmas.Bool.{cond_both, eqb-true, eqb-false}
use Rattle.std.proofs.lemmas.List.Sums.{fold_more}
use Rattle.std.proofs.lemmas.Option.{none-some}
use Rattle.cs_base.proofs.Elements.{All-append}
use Rattle.cs_base.specs.Ascending.{at_key, IsDistinctBy}
use Rattle.cs_base.specs.declared.change.Change.{Change}
use Rattle.cs_pending.specs.Counting.{IsAtMost, IsFrontOffered, all_offered, counted, no_counts, one_offered}
use Rattle.cs_pending.specs.Pending.{after_offer, IsPending, key_of, offer_of, replaced}
use Rattle.cs_pending.specs.declared.offer.Counts.{Counts}
use Rattle.cs_pending.specs.declared.offer.Offer.{Offer}
use Rattle.cs_pending.specs.declared.offer.Offer.TheVariants.{New, Replaced, Weaker, Full, Memory}
use Rattle.cs_pending.proofs.Table.{distinct-take, is_new, length-replaced}

-- ---- offers one by one

-- the first so many changes were offered, and met no more than that
pub record AreOffered (start changes pending : List Change) (counts : Counts) (i : ℕ) : Type 0 where
  pub so_far : all_offered start (take i changes) ≡ (pending, counts)
  pub few : IsAtMost i counts

-- one more answer is at most one more of its kind
IsAtMost-counted : (i : ℕ) (counts : Counts) (offer : Offer) → IsAtMost i counts → IsAtMost (i + 1) (counted counts offer)
IsAtMost-counted i counts New few = record { fresh = omega arith; replaced = omega arith; weaker = omega arith; full = omega arith }
IsAtMost-counted i counts Replaced few = record { fresh = omega arith; replaced = omega arith; weaker = omega arith; full = omega arith }
IsAtMost-counted i counts Weaker few = record { fresh = omega arith; replaced = omega arith; weaker = omega arith; full = omega arith }
IsAtMost-counted i counts Full few = record { fresh = omega arith; replaced = omega arith; weaker = omega arith; full = omega arith }
IsAtMost-counted i counts Memory few = record { fresh = omega arith; replaced = omega arith; weaker = omega arith; full = omega arith }

-- before any offer
pub AreOffered-none : (start changes : List Change) → AreOffered start changes start no_counts 0
AreOffered-none start changes = record {
  so_far = refl;
  few = record { fresh = omega arith; replaced = omega arith; weaker = omega arith; full = omega arith };
}

-- one more offer
pub AreOffered-more : (start changes pending after : List Change) (counts counts_after : Counts) (i : ℕ) (change : Change) (offer : Offer)
    → AreOffered start changes pending counts i → i < length changes → change ≡ get_or changes i change
    → after ≡ after_offer (offer_of pending change) pending change → offer ≡ offer_of pending change → counts_after ≡ counted counts offer
    → AreOffered start changes after counts_after (i + 1)
AreOffered-more start changes pending after counts counts_after i change offer offers lt is made answer met =
    let longer : all_offered start (take (i + 1) changes) ≡ one_offered (all_offered start (take i changes)) change =
    fold_more one_offered (start, no_counts) changes i change lt ∙ ap (one_offered (all_offered start (take i changes))) (sym is) in
    let counted_so : counted counts (offer_of pending change) ≡ counts_after = ap (counted counts) (sym answer) ∙ sym met in
    record {
      so_far = longer ∙ (ap (λ s. one_offered s change) offers.so_far ∙ λ j. (sym made j, counted_so j));
      few = subst (IsAtMost (i + 1)) (sym met) (IsAtMost-counted i counts offer offers.few);
    }

-- after all offers
pub AreOffered-all : (start changes pending : List Change) (counts : Counts) (i : ℕ) → AreOffered start changes pending counts i
    → length changes ≤ i → all_offered start changes ≡ (pending, counts)
AreOffered-all start changes pending counts i offers le = ap (all_offered start) (sym (take_all i changes le)) ∙ offers.so_far

-- before an offer for which there was no memory
pub AreOffered-front : (start changes pending after : List Change) (counts : Counts) (i : ℕ) → AreOffered start changes pending counts i
    → i < length changes → after ≡ pending → IsFrontOffered start changes after
AreOffered-front start changes pending after counts i offers lt same = record {
  count = i;
  fewer = lt;
  front = same ∙ sym (ap (λ s. s.0) offers.so_far);
}

-- ---- what holds of each change

-- what holds of the pending changes and of one more holds where that one takes a place
All-replaced : (P : Change → Type 0) (change : Change) (pending : List Change) → P change → AllByRecursion P pending
    → AllByRecursion P (replaced change pending)
All-replaced P change [] here all = tt
All-replaced P change (c ∷ pending) here all =
    cond_both (key_of c == key_of change) (change ∷ pending) (c ∷ replaced change pending) (AllByRecursion P)
    (λ same. (here, all.1)) (λ other. (all.0, All-replaced P change pending here all.1))

-- whatever the offer meets
All-after_offer : (P : Change → Type 0) (offer : Offer) (pending : List Change) (change : Change) → P change
    → AllByRecursion P pending → AllByRecursion P (after_offer offer pending change)
All-after_offer P New pending change here all = All-append P pending (change ∷ []) all (here, tt)
All-after_offer P Replaced pending change here all = All-replaced P change pending here all
All-after_offer P Weaker pending change here all = all
All-after_offer P Full pending change here all = all
All-after_offer P Memory pending change here all = all

-- and where several more are offered, one behind the other
All-offered : (P : Change → Type 0) (so_far : List Change × Counts) (changes : List Change) → AllByRecursion P so_far.0
    → AllByRecursion P changes → AllByRecursion P (fold one_offered so_far changes).0
All-offered P so_far [] pending all = pending
All-offered P so_far (change ∷ changes) pending all =
    All-offered P (one_offered so_far change) changes
    (All-after_offer P (offer_of so_far.0 change) so_far.0 change all.0 pending) all.1

-- so what holds of the pending changes and of those of a report holds of the pending ones after it
pub All-all_offered : (P : Change → Type 0) (pending changes : List Change) → AllByRecursion P pending → AllByRecursion P changes
    → AllByRecursion P (all_offered pending changes).0
All-all_offered P pending changes before all = All-offered P (pending, no_counts) changes before all

-- ---- few changes with distinct keys

-- one more key that isn't there
distinct-append : (pending : List Change) (change : Change) → IsDistinctBy key_of pending
    → AllByRecursion (λ c. key_of c ≢ key_of change) pending → IsDistinctBy key_of (pending ++ change ∷ [])
distinct-append [] change distinct others = (tt, tt)
distinct-append (c ∷ pending) change distinct others = (
  All-append (λ y. key_of c ≢ key_of y) pending (change ∷ []) distinct.0 (others.0, tt),
  distinct-append pending change distinct.1 others.1,
)

-- a key that isn't found is none of theirs
others_have : (k : ℕ) (pending : List Change) → at_key key_of k pending ≡ None → AllByRecursion (λ c. key_of c ≢ k) pending
others_have k [] absent = tt
others_have k (c ∷ pending) absent = by (key_of c == k) refl absent (others_have k pending)
  where
    by : (b : Bool) → (key_of c == k) ≡ b → (if b then Some c else at_key key_of k pending) ≡ None
        → (at_key key_of k pending ≡ None → AllByRecursion (λ d. key_of d ≢ k) pending) → AllByRecursion (λ d. key_of d ≢ k) (c ∷ pending)
    by true same absent rest = absurd (none-some c (sym absent))
    by false other absent rest = (eqb-false (key_of c) k other, rest absent)

-- a change in the place of the one with its key
distinct-replaced : (change : Change) (pending : List Change) → IsDistinctBy key_of pending → IsDistinctBy key_of (replaced change pending)
distinct-replaced change [] distinct = tt
distinct-replaced change (c ∷ pending) distinct =
    by (key_of c == key_of change) refl (distinct-replaced change pending distinct.1)
  where
    by : (b : Bool) → (key_of c == key_of change) ≡ b → IsDistinctBy key_of (replaced change pending)
        → IsDistinctBy key_of (if b then change ∷ pending else c ∷ replaced change pending)
    by true same rest =
        let key : key_of c ≡ key_of change = eqb-true (key_of c) (key_of change) same in
        (subst (λ (k : ℕ). AllByRecursion (λ y. k ≢ key_of y) pending) key distinct.0, distinct.1)
    by false other rest = (All-replaced (λ y. key_of c ≢ key_of y) change pending (eqb-false (key_of c) (key_of change) other) distinct.0, rest)

-- an offer leaves few changes with distinct keys
IsPending-after_offer : (offer : Offer) (pending : List Change) (change : Change) → IsPending pending → offer ≡ offer_of pending change
    → IsPending (after_offer offer pending change)
IsPending-after_offer New pending change is meets =
    let new_one = is_new change pending (at_key key_of (key_of change) pending) refl meets in
    record {
      few = omega (arith, length-append pending (change ∷ []), new_one.1);
      distinct = distinct-append pending change is.distinct (others_have (key_of change) pending new_one.0);
    }
IsPending-after_offer Replaced pending change is meets = record {
  few = omega (arith, length-replaced change pending, is.few);
  distinct = distinct-replaced change pending is.distinct;
}
IsPending-after_offer Weaker pending change is meets = is
IsPending-after_offer Full pending change is meets = is
IsPending-after_offer Memory pending change is meets = is

-- and so do several
IsPending-offered : (so_far : List Change × Counts) (changes : List Change) → IsPending so_far.0 → IsPending (fold one_offered so_far changes).0
IsPending-offered so_far [] is = is
IsPending-offered so_far (change ∷ changes) is =
    IsPending-offered (one_offered so_far change) changes
    (IsPending-after_offer (offer_of so_far.0 change) so_far.0 change is refl)

pub IsPending-all_offered : (pending changes : List Change) → IsPending pending → IsPending (all_offered pending changes).0
IsPending-all_offered pending changes is = IsPending-offered (pending, no_counts) changes is

-- the first of them are few and distinct
pub IsPending-take : (n : ℕ) (pending : List Change) → IsPending pending → IsPending (take n pending)
IsPending-take n pending is = record { few = omega (arith, length-take n pending, is.few); distinct = distinct-take n pending is.distinct }

-- those behind them are distinct
distinct-drop : (n : ℕ) (pending : List Change) → IsDistinctBy key_of pending → IsDistinctBy key_of (drop n pending)
distinct-drop zero pending distinct = distinct
distinct-drop (suc n) [] distinct = tt
distinct-drop (suc n) (c ∷ pending) distinct = distinct-drop n pending distinct.1

-- and few
pub IsPending-drop : (n : ℕ) (pending : List Change) → IsPending pending → IsPending (drop n pending)
IsPending-drop n pending is = record { few = omega (arith, length-drop n pending, is.few); distinct = distinct-drop n pending is.distinct }
