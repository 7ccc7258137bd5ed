-- What is read of a sight, place by place.
use Rattle.std.proofs.Common.{◌≡◌, ◌≢◌, ℕ, zero, suc, ◌+◌, ◌<◌, ◌≤◌, ◌==◌, Bool, true, false, List, [], ◌∷◌, length, drop, Option, Some, None}
use Rattle.std.proofs.Common.{refl, sym, subst, ap, ◌∙◌, arith}
use Rattle.std.specs.List.{AllByRecursion, slice_get}
use Rattle.std.proofs.Common.{Bor, IfSome, IsSome}
use Rattle.std.specs.Option.{option_copied, option_map}
use Rattle.std.proofs.lemmas.Bool.{eq-eqb, ne_eqb}
use Rattle.std.proofs.lemmas.Option.{none-some, same_Some}
use Rattle.cs_base.proofs.Elements.{All-weaker}
use Rattle.cs_base.specs.Limits.{most_summed}
use Rattle.cs_base.specs.declared.member.Member.{Member}
use Rattle.cs_roll.specs.Sight.{IsSight, Rolls, Summaries, at_region}
use Rattle.cs_roll.specs.Summary.{IsSummary, summary_of}

-- a place of a list has an element
pub slice_get-within : {T : Type 0} (ts : List T) (place : ℕ) → place < length ts → (t : T) × (slice_get ts place ≡ Some t)
slice_get-within [] place lt = absurd (omega arith)
slice_get-within (t ∷ ts) zero lt = (t, refl)
slice_get-within (t ∷ ts) (suc place) lt = slice_get-within ts place (omega arith)

-- from a place on stands its element, and then the others
pub drop-place : {T : Type 0} (ts : List T) (place : ℕ) (t : T) → slice_get ts place ≡ Some t → drop place ts ≡ t ∷ drop (place + 1) ts
drop-place [] place t got = absurd (none-some t got)
drop-place (u ∷ us) zero t got = ap (λ v. v ∷ us) (same_Some u t got)
drop-place (u ∷ us) (suc place) t got =
    let next : suc place + 1 ≡ suc (place + 1) = omega arith in
    rw next (drop-place us place t got)

-- what stands beside the first region
pub at_region-first : {T : Type 0} (region : ℕ) (pair : ℕ × T) (pairs : List (ℕ × T)) → pair.0 ≡ region → at_region region (pair ∷ pairs) ≡ Some pair.1
at_region-first region pair pairs same = (let is : (pair.0 == region) ≡ true = eq-eqb pair.0 region same in rw is refl)

-- and beside another one
pub at_region-later : {T : Type 0} (region : ℕ) (pair : ℕ × T) (pairs : List (ℕ × T)) → pair.0 ≢ region
    → at_region region (pair ∷ pairs) ≡ at_region region pairs
at_region-later region pair pairs other = (let isnt : (pair.0 == region) ≡ false = ne_eqb pair.0 region other in rw isnt refl)

-- the region at a place, and what stands beside it, as they are read
pub region-found : {T : Type 0} (region r : ℕ) (t : T) (pairs : List (ℕ × T)) (place : ℕ) → place < length pairs
    → option_map (λ (pair : ℕ × T). pair.0) (slice_get pairs place) ≡ Some r → option_map (λ (pair : ℕ × T). pair.1) (slice_get pairs place) ≡ Some t
    → r ≡ region → at_region region (drop place pairs) ≡ Some t
region-found region r t pairs place lt read beside same =
    let at = slice_get-within pairs place lt in
    let region_is : at.0.0 ≡ r = same_Some at.0.0 r (rw at.1 at read) in
    let beside_is : at.0.1 ≡ t = same_Some at.0.1 t (rw at.1 at beside) in
    ap (at_region region) (drop-place pairs place at.0 at.1)
    ∙ (at_region-first region at.0 (drop (place + 1) pairs) (region_is ∙ same) ∙ ap Some beside_is)

-- where it isn't the one that is looked for, the others are left
pub region-passed : {T : Type 0} (region r : ℕ) (pairs : List (ℕ × T)) (place : ℕ) → place < length pairs
    → option_map (λ (pair : ℕ × T). pair.0) (slice_get pairs place) ≡ Some r → r ≢ region
    → at_region region (drop (place + 1) pairs) ≡ at_region region (drop place pairs)
region-passed region r pairs place lt read other =
    let at = slice_get-within pairs place lt in
    let region_is : at.0.0 ≡ r = same_Some at.0.0 r (rw at.1 at read) in
    sym (ap (at_region region) (drop-place pairs place at.0 at.1) ∙ at_region-later region at.0 (drop (place + 1) pairs) (λ e. other (sym region_is ∙ e)))

-- what holds of all that stands beside regions holds of what is found
pub All-at_region : {T : Type 0} (P : T → Type 0) (region : ℕ) (pairs : List (ℕ × T)) (t : T)
    → AllByRecursion (λ (pair : ℕ × T). P pair.1) pairs → at_region region pairs ≡ Some t → P t
All-at_region P region [] t all found = absurd (none-some t found)
All-at_region {T} P region (pair ∷ pairs) t all found = go (pair.0 == region) refl (All-at_region P region pairs t all.1)
  where
    go : (b : Bool) → (pair.0 == region) ≡ b → (at_region region pairs ≡ Some t → P t) → P t
    go true e later = (let here : at_region region (pair ∷ pairs) ≡ Some pair.1 = rw e refl in subst P (same_Some pair.1 t (sym here ∙ found)) all.0)
    go false e later = (let rest : at_region region (pair ∷ pairs) ≡ at_region region pairs = rw e refl in later (sym rest ∙ found))

-- the roll of a known region has members, few enough to be summed
pub known-sizes : (summaries : Summaries) (rolls : Rolls) (region : ℕ) (roll : List Member) → IsSight summaries rolls
    → at_region region rolls ≡ Some roll → (0 < length roll) × (length roll ≤ most_summed)
known-sizes summaries rolls region roll sight known =
    let P : ℕ × List Member → Type 0 = λ pair. at_region pair.0 summaries ≡ Some (summary_of pair.1) in
    let S : List Member → Type 0 = λ members. (0 < length members) × (length members ≤ most_summed) in
    let sized : (pair : ℕ × List Member) → P pair → S pair.1 = λ pair listed.
    (let is = All-at_region IsSummary pair.0 summaries (summary_of pair.1) sight.summaries_allowed listed in (is.some, is.few)) in
    All-at_region S region rolls roll (All-weaker P (λ pair. S pair.1) sized rolls sight.listed) known

-- and so of the one that is read
pub read-sizes : (summaries : Summaries) (rolls : Rolls) (region : ℕ) (read : Option (Bor (List Member))) → IsSight summaries rolls
    → option_copied read ≡ at_region region rolls → IfSome read (λ roll. 0 < length roll.now) × IfSome read (λ roll. length roll.now ≤ most_summed)
read-sizes summaries rolls region None sight is = (tt, tt)
read-sizes summaries rolls region (Some roll) sight is = known-sizes summaries rolls region roll.now sight (sym is)

-- where a region is listed there is some region
pub some-listed : {T : Type 0} (region : ℕ) (pairs : List (ℕ × T)) → IsSome (at_region region pairs) → 0 < length pairs
some-listed region [] listed = absurd (cc)
some-listed region (pair ∷ pairs) listed = omega arith

-- the region that is read at a place is listed
pub listed-place : {T : Type 0} (pairs : List (ℕ × T)) (place r : ℕ) → place < length pairs
    → option_map (λ (pair : ℕ × T). pair.0) (slice_get pairs place) ≡ Some r → IsSome (at_region r pairs)
listed-place [] place r lt read = absurd (omega arith)
listed-place (pair ∷ pairs) zero r lt read = (let is : (pair.0 == r) ≡ true = eq-eqb pair.0 r (same_Some pair.0 r read) in rw is refl)
listed-place {T} (pair ∷ pairs) (suc place) r lt read = go (pair.0 == r) refl (listed-place pairs place r (omega arith) read)
  where
    go : (b : Bool) → (pair.0 == r) ≡ b → IsSome (at_region r pairs) → IsSome (at_region r (pair ∷ pairs))
    go true e later = rw e refl
    go false e later = rw e later
