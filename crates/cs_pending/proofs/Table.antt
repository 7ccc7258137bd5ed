-- A table of changes by their keys, and the list of its changes.
use Rattle.std.proofs.Common.{◌≡◌, ◌≢◌, ℕ, zero, suc, ◌<◌, ◌≤◌, nat_eq, List, [], ◌∷◌, ◌++◌, length, take, drop, Option, Some, None}
use Rattle.std.proofs.Common.{false, IsSome, ◌⊎◌, inl, inr, length-append, subst, refl, sym, ap, ◌∙◌, arith}
use Rattle.std.specs.List.{AllByRecursion}
use Rattle.std.specs.List.{IsDistinct}
use Rattle.std.specs.Map.{keys_of, values_of, lookup}
use Rattle.std.proofs.lemmas.Bool.Decides.{nat_tests}
use Rattle.std.proofs.lemmas.List.{length-map}
use Rattle.indexmap.specs.IndexMap.{insert_entry}
use Rattle.cs_base.proofs.Elements.{All-take}
use Rattle.cs_base.specs.Ascending.{at_key, IsDistinctBy}
use Rattle.cs_base.specs.declared.change.Change.{Change}
use Rattle.cs_base.specs.Limits.{most_pending}
use Rattle.cs_pending.specs.Pending.{after_offer, IsTable, key_of, offer_against, offer_of, replaced}
use Rattle.cs_pending.specs.declared.offer.Offer.{Offer}
use Rattle.cs_pending.specs.declared.offer.Offer.TheVariants.{New, Replaced, Full}

-- the pairs of the table have the keys of their changes
abbrev pub AreKeyed : List (ℕ × Change) → Type 0
AreKeyed es = AllByRecursion (λ e. e.0 ≡ key_of e.1) es

-- what the table finds is the change with the key
pub lookup-keyed : (k : ℕ) (es : List (ℕ × Change)) → AreKeyed es → lookup (nat_eq k) es ≡ at_key key_of k (values_of es)
lookup-keyed k [] keyed = refl
lookup-keyed k (e ∷ es) keyed = grind (arith, nat_tests, lookup-keyed k es keyed.1, keyed.0)

-- where the key is, the change takes the place of the one with its key
pub values_of-insert_present : (change : Change) (es : List (ℕ × Change)) → AreKeyed es → IsSome (at_key key_of (key_of change) (values_of es))
    → values_of (insert_entry nat_eq es (key_of change) change) ≡ replaced change (values_of es)
values_of-insert_present change [] keyed there = absurd (cc)
values_of-insert_present change (e ∷ es) keyed there = grind (arith, nat_tests, values_of-insert_present change es keyed.1, keyed.0)

-- where it isn't, the change goes last
pub values_of-insert_absent : (change : Change) (es : List (ℕ × Change)) → AreKeyed es → at_key key_of (key_of change) (values_of es) ≡ None
    → values_of (insert_entry nat_eq es (key_of change) change) ≡ values_of es ++ change ∷ []
values_of-insert_absent change [] keyed absent = refl
values_of-insert_absent change (e ∷ es) keyed absent = grind (arith, nat_tests, values_of-insert_absent change es keyed.1, keyed.0)

-- an inserted change keeps that pairs are keyed
pub AreKeyed-insert : (change : Change) (es : List (ℕ × Change)) → AreKeyed es → AreKeyed (insert_entry nat_eq es (key_of change) change)
AreKeyed-insert change [] keyed = (refl, tt)
AreKeyed-insert change (e ∷ es) keyed = grind (arith, nat_tests, AreKeyed-insert change es keyed.1, keyed.0)

-- keys that the table tells apart are distinct
pub distinct-keyed : (es : List (ℕ × Change)) → AreKeyed es → IsDistinct nat_eq (keys_of es) → IsDistinctBy key_of (values_of es)
unfolding IsDistinct
distinct-keyed [] keyed distinct = tt
distinct-keyed (e ∷ es) keyed distinct = (apart es keyed.1 distinct.0, distinct-keyed es keyed.1 distinct.1)
  where
    apart : (fs : List (ℕ × Change)) → AreKeyed fs → AllByRecursion (λ y. nat_eq e.0 y ≡ false) (keys_of fs)
        → AllByRecursion (λ y. key_of e.1 ≢ key_of y) (values_of fs)
    apart [] k d = tt
    apart (f ∷ fs) k d = (λ same. grind (arith, nat_tests, keyed.0, k.0, d.0), apart fs k.1 d.1)

-- what is left of keyed pairs is keyed
pub AreKeyed-drop : (n : ℕ) (es : List (ℕ × Change)) → AreKeyed es → AreKeyed (drop n es)
AreKeyed-drop zero es keyed = keyed
AreKeyed-drop (suc n) [] keyed = tt
AreKeyed-drop (suc n) (e ∷ es) keyed = AreKeyed-drop n es keyed.1

-- the first of distinct changes are distinct
pub distinct-take : (n : ℕ) (cs : List Change) → IsDistinctBy key_of cs → IsDistinctBy key_of (take n cs)
distinct-take zero cs distinct = tt
distinct-take (suc n) [] distinct = tt
distinct-take (suc n) (c ∷ cs) distinct = (All-take (λ y. key_of c ≢ key_of y) n cs distinct.0, distinct-take n cs distinct.1)

-- what a change meets, by what the table finds for its key
pub offer_of-found : (k : ℕ) (change : Change) (es : List (ℕ × Change)) (pending : List Change) (found : Option Change)
    → AreKeyed es → k ≡ key_of change → values_of es ≡ pending → found ≡ lookup (nat_eq k) es
    → offer_of pending change ≡ offer_against found (length pending) change
offer_of-found k change es pending found keyed of_change view seen =
    let table : lookup (nat_eq k) es ≡ at_key key_of k (values_of es) = lookup-keyed k es keyed in
    let same : at_key key_of (key_of change) pending ≡ found = ap (λ k. at_key key_of k pending) (sym of_change) ∙ ap (at_key key_of k) (sym view) ∙ sym table
    ∙ sym seen in
    ap (λ found. offer_against found (length pending) change) same

-- a change whose key isn't there is New where there are few
pub offer_of-few : (count : ℕ) (change : Change) → count < most_pending → offer_against None count change ≡ New
offer_of-few count change few = grind (arith, nat_tests)

-- and else there are too many
pub offer_of-many : (count : ℕ) (change : Change) → most_pending ≤ count → offer_against None count change ≡ Full
offer_of-many count change many = grind (arith, nat_tests)

-- a change in the place of another leaves as many
pub length-replaced : (change : Change) (pending : List Change) → length (replaced change pending) ≡ length pending
length-replaced change [] = refl
length-replaced change (c ∷ pending) = grind (arith, nat_tests, length-replaced change pending)

-- a change that meets New is the first with its key, and there are few
pub is_new : (change : Change) (pending : List Change) (found : Option Change) → at_key key_of (key_of change) pending ≡ found
    → New ≡ offer_against found (length pending) change → (found ≡ None) × (length pending < most_pending)
is_new change pending None same new = (refl, grind (arith, nat_tests))
is_new change pending (Some there) same new = absurd (grind (arith, nat_tests))

-- and one that meets Replaced has a change with its key before it
is_replaced : (change : Change) (pending : List Change) (found : Option Change)
    → Replaced ≡ offer_against found (length pending) change → IsSome found
is_replaced change pending None replaces = absurd (grind (arith, nat_tests))
is_replaced change pending (Some there) replaces = refl

-- None isn't some change
no_none : IsSome {T = Change} None → ⊥
no_none there = cc

-- what the table is after a change was put in
pub record IsPut (offer : Offer) (change : Change) (es : List (ℕ × Change)) (pending : List Change) : Type 0 where
  pub table : IsTable es
  pub after : values_of es ≡ after_offer offer pending change

pub put : (offer : Offer) (change : Change) (es new : List (ℕ × Change)) → IsTable es
    → offer ≡ offer_of (values_of es) change → (offer ≡ New) ⊎ (offer ≡ Replaced)
    → new ≡ insert_entry nat_eq es (key_of change) change → IsPut offer change new (values_of es)
put offer change es new table meets (inl is) inserted =
    let new_one = is_new change (values_of es) (at_key key_of (key_of change) (values_of es)) refl (sym is ∙ meets) in
    let list = values_of-insert_absent change es table.keyed new_one.0 in
    let long : length new ≡ length (values_of new) = sym (length-map new (λ e. e.1)) in
    let same : values_of new ≡ values_of es ++ change ∷ [] = ap values_of inserted ∙ list in
    record {
      table = record {
        few = omega (arith, long, ap length same, length-append (values_of es) (change ∷ []), new_one.1, length-map es (λ e. e.1));
        keyed = subst AreKeyed (sym inserted) (AreKeyed-insert change es table.keyed);
      };
      after = same ∙ ap (λ offer. after_offer offer (values_of es) change) (sym is);
    }
put offer change es new table meets (inr is) inserted =
    let there = is_replaced change (values_of es) (at_key key_of (key_of change) (values_of es)) (sym is ∙ meets) in
    let list = values_of-insert_present change es table.keyed there in
    let long : length new ≡ length (values_of new) = sym (length-map new (λ e. e.1)) in
    let same : values_of new ≡ replaced change (values_of es) = ap values_of inserted ∙ list in
    record {
      table = record {
        few = omega (arith, long, ap length same, length-replaced change (values_of es), table.few, length-map es (λ e. e.1));
        keyed = subst AreKeyed (sym inserted) (AreKeyed-insert change es table.keyed);
      };
      after = same ∙ ap (λ offer. after_offer offer (values_of es) change) (sym is);
    }

-- a change that the table has no key for isn't one that replaces
pub new_where_absent : (offer : Offer) (change : Change) (es : List (ℕ × Change)) → IsTable es
    → offer ≡ offer_of (values_of es) change → (offer ≡ New) ⊎ (offer ≡ Replaced)
    → lookup (nat_eq (key_of change)) es ≡ None → offer ≡ New
new_where_absent offer change es table meets (inl is) absent = is
new_where_absent offer change es table meets (inr is) absent =
    let found = offer_of-found (key_of change) change es (values_of es) None table.keyed refl refl (sym absent) in
    absurd (no_none (is_replaced change (values_of es) None (sym is ∙ meets ∙ found)))
