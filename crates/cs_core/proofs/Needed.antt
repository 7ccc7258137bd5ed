-- The regions that a step needs: that of the least whole slice, and the known ones that its head calls touched.
use Rattle.std.proofs.Common.{◌≡◌, ◌∙◌, ℕ, ◌<◌, ◌≤◌, ◌==◌, nat_lt, Bool, true, false, cond, List, [], ◌∷◌, ◌++◌, length, map, take, get_or}
use Rattle.std.proofs.Common.{Option, Some, None, refl, sym, ap, subst, arith}
use Rattle.std.specs.List.{AllByRecursion, cons_option, filter, find}
use Rattle.std.specs.Option.{is_some}
use Rattle.std.proofs.lemmas.Bool.{and_parts, eqb-true, false≢true}
use Rattle.std.proofs.lemmas.List.{length-map, map-append}
use Rattle.std.proofs.lemmas.List.Elements.{filter_passes, recursion_from_All}
use Rattle.cs_base.specs.Ascending.{at_key, IsAscending, IsAscendingBy, placed_by}
use Rattle.cs_base.specs.declared.member.Member.{Member}
use Rattle.cs_base.proofs.Ascending.{All-placed, at_key-first, find-placed, IsAscendingBy-filter, IsAscendingBy-placed}
use Rattle.cs_base.proofs.Elements.{All-changed, All-find, All-weaker}
use Rattle.cs_hold.specs.Held.{Held}
use Rattle.cs_item.specs.declared.part.Part.{Part}
use Rattle.cs_item.specs.declared.picture.Picture.{Picture}
use Rattle.cs_item.specs.declared.slice.Slice.{Slice}
use Rattle.cs_roll.specs.Sight.{at_region}
use Rattle.cs_view.specs.Causes.{HasParts}
use Rattle.cs_view.specs.Step.{is_known, part_of}
use Rattle.cs_view.specs.View.{IsListed, IsView}
use Rattle.cs_view.proofs.Finding.{find_passes, is_some-find}
use Rattle.cs_view.proofs.Listed.{length-listed}
use Rattle.cs_core.proofs.Ascents.{IsAscendingBy-next}
use Rattle.cs_core.specs.Holding.{region_fault, slice_in, slice_region}
use Rattle.cs_core.specs.Node.{lists}
use Rattle.cs_core.specs.Taking.{are_whole, needed, parts_of, slices_in}
use Rattle.cs_core.proofs.Used.{IsSliceOf-in}

-- ---- they are listed
-- a known region is
pub known-listed : (view : Picture) → IsView view → (region : ℕ) → is_known view.rolls region ≡ true → lists view region ≡ true
known-listed view is region known =
    let at : ℕ × List Member → Bool = λ pair. pair.0 == region in
    by_found (find at view.rolls) refl (is_some-find at view.rolls ∙ known)
  where
    by_found : (o : Option (ℕ × List Member)) → find (λ (pair : ℕ × List Member). pair.0 == region) view.rolls ≡ o → is_some o ≡ true
        → lists view region ≡ true
    by_found None e there = absurd (false≢true there)
    by_found (Some pair) e there =
        let at : ℕ × List Member → Bool = λ pair. pair.0 == region in
        let listed = All-find (IsListed view.summaries) at view.rolls pair is.listed e in
        let same : pair.0 ≡ region = eqb-true pair.0 region (find_passes at view.rolls pair e) in
        subst (λ r. lists view r ≡ true) same (ap is_some listed.summary)

-- and so are all that are needed
pub listed-needed : (view : Picture) (w : Slice) → IsView view → lists view w.part.region ≡ true
    → AllByRecursion (λ r. lists view r ≡ true) (needed view w)
listed-needed view w is listed =
    let P : ℕ → Type 0 = λ r. lists view r ≡ true in
    let known : List ℕ = filter (is_known view.rolls) w.head.touched in
    All-placed (λ n. n) P w.part.region known listed
    (All-weaker (λ r. is_known view.rolls r ≡ true) P (known-listed view is) known
    (recursion_from_All (λ r. is_known view.rolls r ≡ true) known (filter_passes (is_known view.rolls) w.head.touched)))

-- ---- they ascend, and there is at least one
pub IsAscending-needed : (view : Picture) (w : Slice) → IsAscending w.head.touched → IsAscending (needed view w)
IsAscending-needed view w up =
    let key : ℕ → ℕ = λ n. n in
    IsAscendingBy-placed key w.part.region (filter (is_known view.rolls) w.head.touched)
    (IsAscendingBy-filter key (is_known view.rolls) w.head.touched up)

some-placed : (x : ℕ) (xs : List ℕ) → 0 < length (placed_by (λ n. n) x xs)
some-placed x [] = omega arith
some-placed x (y ∷ ys) =
    elim (nat_lt x y) as (λ b. 0 < length (cond b (x ∷ y ∷ ys) (cond (x == y) (x ∷ ys) (y ∷ placed_by (λ n. n) x ys)))) [
      | true ↦ omega arith
      | false ↦ elim (x == y) as (λ b. 0 < length (cond b (x ∷ ys) (y ∷ placed_by (λ n. n) x ys))) [ true ↦ omega arith | false ↦ omega arith ]
    ]

pub some-needed : (view : Picture) (w : Slice) → 0 < length (needed view w)
some-needed view w = some-placed w.part.region (filter (is_known view.rolls) w.head.touched)

-- ---- few slices are used
-- images ascend where what they are of does
IsAscendingBy-map : {S T : Type 0} (key : T → ℕ) (f : S → T) (xs : List S) → IsAscendingBy (λ x. key (f x)) xs → IsAscendingBy key (map f xs)
IsAscendingBy-map key f [] up = tt
IsAscendingBy-map key f (x ∷ xs) up =
    (All-changed (λ y. key (f x) < key (f y)) (λ y. key (f x) < key y) f (λ y above. above) xs up.0, IsAscendingBy-map key f xs up.1)

-- slices of listed regions are no more than there are listed regions
pub few-used : (view : Picture) (used : List Slice) → IsAscendingBy slice_region used
    → AllByRecursion (λ (s : Slice). lists view s.part.region ≡ true) used → length used ≤ length view.summaries
few-used view used up all =
    let pair : Slice → ℕ × Slice = λ s. (s.part.region, s) in
    let few : length (map pair used) ≤ length view.summaries =
    length-listed (map pair used) view.summaries (IsAscendingBy-map (λ (p : ℕ × Slice). p.0) pair used up)
    (All-changed (λ (s : Slice). lists view s.part.region ≡ true) (λ (p : ℕ × Slice). is_some (at_region p.0 view.summaries) ≡ true) pair
    (λ s there. there) used all) in
    omega (arith, few, length-map used pair)

-- and parts of ascending slices ascend
pub IsAscendingBy-parts : (used : List Slice) → IsAscendingBy slice_region used → IsAscendingBy (λ (p : Part). p.region) (parts_of used)
IsAscendingBy-parts used up = IsAscendingBy-map (λ (p : Part). p.region) (λ (s : Slice). s.part) used up

-- so the part of the next slice ascends behind those so far
pub parts_of-next : (used : List Slice) (i : ℕ) (d : Slice) → i < length used → IsAscendingBy slice_region used
    → IsAscendingBy (λ (p : Part). p.region) (parts_of (take i used) ++ (get_or used i d).part ∷ [])
parts_of-next used i d lt up =
    subst (IsAscendingBy (λ (p : Part). p.region)) (map-append (λ (s : Slice). s.part) (take i used) (get_or used i d ∷ []))
    (IsAscendingBy-parts (take i used ++ get_or used i d ∷ []) (IsAscendingBy-next slice_region used i d lt up))

-- ---- no part is missing
-- a number that is among these
abbrev IsAmong : List ℕ → ℕ → Type 0
IsAmong ns r = is_some (at_key (λ n. n) r ns) ≡ true

-- is among more of them
among-more : (n : ℕ) (ns : List ℕ) (r : ℕ) → IsAmong ns r → IsAmong (n ∷ ns) r
among-more n ns r there =
    elim (n == r) as (λ b. is_some (cond b (Some n) (at_key (λ m. m) r ns)) ≡ true) [ true ↦ refl | false ↦ there ]

-- where one is put in
among-placed : (x : ℕ) (ns : List ℕ) (r : ℕ) → IsAmong ns r → IsAmong (placed_by (λ n. n) x ns) r
among-placed x ns r there =
    let later : is_some (cond (x == r) (Some x) (find (λ y. y == r) ns)) ≡ true =
    elim (x == r) as (λ b. is_some (cond b (Some x) (find (λ y. y == r) ns)) ≡ true) [ true ↦ refl | false ↦ there ] in
    ap is_some (find-placed (λ n. n) x r ns) ∙ later

-- and among those that are kept where it passes
among-kept : (p : ℕ → Bool) (ns : List ℕ) → AllByRecursion (λ r. p r ≡ true → IsAmong (filter p ns) r) ns
among-kept p [] = tt
among-kept p (n ∷ ns) = (
  λ passes. first (p n) passes,
  All-weaker (λ r. p r ≡ true → IsAmong (filter p ns) r) (λ r. p r ≡ true → IsAmong (filter p (n ∷ ns)) r)
      (λ r later passes. more r (later passes)) ns (among-kept p ns),
)
  where
    first : (b : Bool) → b ≡ true → IsAmong (cond b (n ∷ filter p ns) (filter p ns)) n
    first true passes = ap is_some (at_key-first (λ m. m) n (filter p ns))
    first false passes = absurd (false≢true passes)

    more : (r : ℕ) → IsAmong (filter p ns) r → IsAmong (cond (p n) (n ∷ filter p ns) (filter p ns)) r
    more r there =
        elim (p n) as (λ b. IsAmong (cond b (n ∷ filter p ns) (filter p ns)) r) [ true ↦ among-more n (filter p ns) r there | false ↦ there ]

module _ (epoch : ℕ) (held : List Held) (whole : (region : ℕ) → region_fault epoch region held ≡ None) where
  -- where the slices of some regions are all there, each of these has a part
  pub part-in : (regions : List ℕ) (r : ℕ) → are_whole held regions ≡ true → IsAmong regions r
      → is_some (part_of r (parts_of (slices_in held regions))) ≡ true
  part-in [] r all among = absurd (false≢true among)
  part-in (k ∷ ks) r all among =
      let tests = and_parts (is_some (slice_in k held)) (are_whole held ks) all in
      by_slice (slice_in k held) refl tests.0 (part-in ks r tests.1)
    where
      by_key : (s : Slice) (b : Bool) → is_some (cond b (Some k) (at_key (λ m. m) r ks)) ≡ true
          → (IsAmong ks r → is_some (part_of r (parts_of (slices_in held ks))) ≡ true)
          → is_some (cond b (Some s.part) (part_of r (parts_of (slices_in held ks)))) ≡ true
      by_key s true there later = refl
      by_key s false there later = later there

      by_slice : (o : Option Slice) → slice_in k held ≡ o → is_some o ≡ true
          → (IsAmong ks r → is_some (part_of r (parts_of (slices_in held ks))) ≡ true)
          → is_some (part_of r (parts_of (cons_option o (slices_in held ks)))) ≡ true
      by_slice None is there later = absurd (false≢true there)
      by_slice (Some s) is there later =
          let same : s.part.region ≡ k = (IsSliceOf-in epoch k held s (whole k) is).region in
          subst (λ n. is_some (cond (n == r) (Some s.part) (part_of r (parts_of (slices_in held ks)))) ≡ true) (sym same)
          (by_key s (k == r) among later)

  -- so each touched region that is known has one
  pub HasParts-needed : (view : Picture) (w : Slice) → are_whole held (needed view w) ≡ true
      → HasParts view w.head (parts_of (slices_in held (needed view w)))
  HasParts-needed view w all =
      let known : ℕ → Bool = is_known view.rolls in
      let kept : List ℕ = filter known w.head.touched in
      All-weaker (λ r. known r ≡ true → IsAmong kept r)
      (λ r. known r ≡ true → is_some (part_of r (parts_of (slices_in held (needed view w)))) ≡ true)
      (λ r there is. part-in (needed view w) r all (among-placed w.part.region kept r (there is))) w.head.touched
      (among-kept known w.head.touched)
