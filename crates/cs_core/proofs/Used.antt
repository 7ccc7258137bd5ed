-- The slices that a step uses: those of the regions that it needs.
use Rattle.std.proofs.Common.{◌≡◌, ◌∙◌, ℕ, ◌<◌, ◌==◌, Bool, true, false, cond, List, [], ◌∷◌, ◌++◌, length, take, get_or, Option, Some, None, IfSome}
use Rattle.std.proofs.Common.{Result, Ok, Err, refl, sym, ap, subst, arith}
use Rattle.std.specs.List.{AllByRecursion, cons_option}
use Rattle.std.specs.Option.{is_some, option_and_then}
use Rattle.std.specs.Result.{result_ok}
use Rattle.std.proofs.lemmas.Bool.{and_parts, eqb-true, false≢true}
use Rattle.std.proofs.lemmas.Option.{none-some, same_Some}
use Rattle.std.proofs.lemmas.List.Elements.{filter_map-append}
use Rattle.cs_base.specs.Ascending.{IsAscending, IsAscendingBy}
use Rattle.cs_fields.specs.declared.fault.PacketFault.{PacketFault}
use Rattle.cs_hold.specs.Held.{Held}
use Rattle.cs_hold.specs.Whole.{whole_in}
use Rattle.cs_item.specs.declared.slice.Slice.{Slice}
use Rattle.cs_core.proofs.Ascents.{IsAscendingBy-next}
use Rattle.cs_core.specs.Holding.{bytes_fault, region_fault, slice_in, slice_of, slice_region}
use Rattle.cs_core.specs.Taking.{are_whole, slices_in}
use Rattle.cs_core.specs.declared.plan.Unfit.{Unfit}
use Rattle.cs_core.specs.declared.plan.Unfit.TheVariants as unfit

-- a slice of an epoch and a region
pub record IsSliceOf (e r : ℕ) (s : Slice) : Type 0 where
  pub epoch : s.head.epoch ≡ e
  pub region : s.part.region ≡ r

-- the slice of a region without a fault is that of the epoch and the region
pub IsSliceOf-in : (epoch region : ℕ) (held : List Held) (s : Slice) → region_fault epoch region held ≡ None → slice_in region held ≡ Some s
    → IsSliceOf epoch region s
IsSliceOf-in epoch region held s fits is = by_whole (whole_in region held) fits is
  where
    by_test : (b : Bool) → cond b None (Some unfit.Name) ≡ None → b ≡ true
    by_test true e = refl
    by_test false e = absurd (none-some unfit.Name (sym e))

    by_slice : (r : Result Slice PacketFault) → bytes_fault epoch region r ≡ None → result_ok r ≡ Some s → IsSliceOf epoch region s
    by_slice (Err fault) e there = absurd (none-some s there)
    by_slice (Ok t) e there =
        let same : t ≡ s = same_Some t s there in
        let parts = and_parts (t.head.epoch == epoch) (t.part.region == region) (by_test _ e) in
        subst (IsSliceOf epoch region) same
        (record { epoch = eqb-true t.head.epoch epoch parts.0; region = eqb-true t.part.region region parts.1 })

    by_whole : (o : Option (List ℕ)) → option_and_then (λ bytes. bytes_fault epoch region (slice_of bytes)) o ≡ None
        → option_and_then (λ bytes. result_ok (slice_of bytes)) o ≡ Some s → IsSliceOf epoch region s
    by_whole None e there = absurd (none-some s there)
    by_whole (Some bytes) e there = by_slice (slice_of bytes) e there

module _ (held : List Held) (named : (region : ℕ) → IfSome (slice_in region held) (λ (s : Slice). s.part.region ≡ region)) where
  -- what holds of each region holds of the regions of the slices
  pub All-slices_in : (P : ℕ → Type 0) (regions : List ℕ) → AllByRecursion P regions
      → AllByRecursion (λ (s : Slice). P s.part.region) (slices_in held regions)
  All-slices_in P [] all = tt
  All-slices_in P (region ∷ regions) all = by_slice (slice_in region held) (named region) (All-slices_in P regions all.1)
    where
      by_slice : (o : Option Slice) → IfSome o (λ (s : Slice). s.part.region ≡ region)
          → AllByRecursion (λ (s : Slice). P s.part.region) (slices_in held regions)
          → AllByRecursion (λ (s : Slice). P s.part.region) (cons_option o (slices_in held regions))
      by_slice None is rest = rest
      by_slice (Some s) is rest = (subst P (sym is) all.0, rest)

  -- the slices of ascending regions ascend
  pub IsAscendingBy-slices_in : (regions : List ℕ) → IsAscending regions → IsAscendingBy slice_region (slices_in held regions)
  IsAscendingBy-slices_in [] up = tt
  IsAscendingBy-slices_in (region ∷ regions) up = by_slice (slice_in region held) (named region) (IsAscendingBy-slices_in regions up.1)
    where
      by_slice : (o : Option Slice) → IfSome o (λ (s : Slice). s.part.region ≡ region)
          → IsAscendingBy slice_region (slices_in held regions) → IsAscendingBy slice_region (cons_option o (slices_in held regions))
      by_slice None is rest = rest
      by_slice (Some s) is rest = (All-slices_in (λ r. s.part.region < r) regions (subst (λ n. AllByRecursion (λ r. n < r) regions) (sym is) up.0), rest)

  -- the slice of the next region ascends behind those so far
  pub slices_in-next : (regions : List ℕ) (i : ℕ) (d : ℕ) (s : Slice) → i < length regions → slice_in (get_or regions i d) held ≡ Some s
      → IsAscending regions → IsAscendingBy slice_region (slices_in held (take i regions) ++ s ∷ [])
  slices_in-next regions i d s lt is up =
      let front : List ℕ = take i regions in
      let region : ℕ = get_or regions i d in
      let more : IsAscendingBy slice_region (slices_in held (front ++ region ∷ [])) =
      IsAscendingBy-slices_in (front ++ region ∷ []) (IsAscendingBy-next (λ n. n) regions i d lt up) in
      subst (IsAscendingBy slice_region)
      (filter_map-append (λ r. slice_in r held) front (region ∷ []) ∙ ap (λ (o : Option Slice). slices_in held front ++ cons_option o []) is) more

-- slices without a fault are named so
pub named-whole : (epoch : ℕ) (held : List Held) → ((region : ℕ) → region_fault epoch region held ≡ None)
    → (region : ℕ) → IfSome (slice_in region held) (λ (s : Slice). s.part.region ≡ region)
named-whole epoch held whole region = by_slice (slice_in region held) refl
  where
    by_slice : (o : Option Slice) → slice_in region held ≡ o → IfSome o (λ (s : Slice). s.part.region ≡ region)
    by_slice None is = tt
    by_slice (Some s) is = (IsSliceOf-in epoch region held s (whole region) is).region

-- and are of the epoch
pub epochs-in : (epoch : ℕ) (held : List Held) → ((region : ℕ) → region_fault epoch region held ≡ None) → (regions : List ℕ)
    → AllByRecursion (λ (s : Slice). s.head.epoch ≡ epoch) (slices_in held regions)
epochs-in epoch held whole [] = tt
epochs-in epoch held whole (region ∷ regions) = by_slice (slice_in region held) refl (epochs-in epoch held whole regions)
  where
    by_slice : (o : Option Slice) → slice_in region held ≡ o → AllByRecursion (λ (s : Slice). s.head.epoch ≡ epoch) (slices_in held regions)
        → AllByRecursion (λ (s : Slice). s.head.epoch ≡ epoch) (cons_option o (slices_in held regions))
    by_slice None is rest = rest
    by_slice (Some s) is rest = ((IsSliceOf-in epoch region held s (whole region) is).epoch, rest)

-- where the slices of some regions are all there, there are some
pub some-slices_in : (held : List Held) (regions : List ℕ) → are_whole held regions ≡ true → 0 < length regions
    → 0 < length (slices_in held regions)
some-slices_in held [] all some = absurd (omega (arith, some))
some-slices_in held (region ∷ regions) all some = by_slice (slice_in region held) (and_parts _ _ all).0
  where
    by_slice : (o : Option Slice) → is_some o ≡ true → 0 < length (cons_option o (slices_in held regions))
    by_slice None there = absurd (false≢true there)
    by_slice (Some s) there = omega arith
