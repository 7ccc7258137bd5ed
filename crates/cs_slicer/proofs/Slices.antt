-- The slices of a turn together: each old region has its own, which is well formed, and the parts tell what is touched.
use Rattle.std.proofs.Common.{◌≡◌, ℕ, ◌<◌, ◌==◌, Bool, true, false, not, if◌then◌else◌, List, [], ◌∷◌, map, Option, Some, None}
use Rattle.std.proofs.Common.{refl, sym, ap, subst, ◌∙◌, arith}
use Rattle.std.specs.List.{AllByRecursion, filter}
use Rattle.std.specs.Option.{option_map}
use Rattle.std.proofs.lemmas.Bool.{eqb-true}
use Rattle.std.proofs.lemmas.Option.{same_Some}
use Rattle.cs_base.specs.Ascending.{at_key}
use Rattle.cs_base.proofs.Elements.{All-find, All-weaker}
use Rattle.cs_group.specs.Group.{GroupState, is_among}
use Rattle.cs_group.specs.Rows.{regions}
use Rattle.cs_group.specs.declared.next.Turn.{Turn}
use Rattle.cs_item.specs.SliceField.{IsPart, IsSlice}
use Rattle.cs_item.specs.declared.head.Head.{Head}
use Rattle.cs_item.specs.declared.part.Part.{Part}
use Rattle.cs_item.specs.declared.slice.Slice.{Slice}
use Rattle.cs_slicer.specs.Head.{head_in, is_same_kind, touched_in}
use Rattle.cs_slicer.specs.Part.{part_in}
use Rattle.cs_slicer.specs.Slice.{slice_in}
use Rattle.cs_slicer.specs.Slicer.{AreWellFormed, Slices, slice_of, slices_in}
use Rattle.cs_slicer.proofs.Beside.{filter-map}
use Rattle.cs_slicer.proofs.Summaries.{regions-listed}

-- the slice of a part
abbrev with_head : Head → Part → Slice
with_head head part = record { head = head; part = part }

-- a slice of well-formed slices of a later epoch is well formed
pub IsSlice-found : (slices : Slices) (region : ℕ) (s : Slice) → AreWellFormed slices → 0 < slices.head.epoch → slice_of slices region ≡ Some s → IsSlice s
IsSlice-found slices region s formed later found = by_part (at_key (λ (p : Part). p.region) region slices.parts) refl
  where
    by_part : (o : Option Part) → at_key (λ (p : Part). p.region) region slices.parts ≡ o → IsSlice s
    by_part None e = absurd (let none : slice_of slices region ≡ None = ap (option_map (with_head slices.head)) e in cc)
    by_part (Some part) e =
        let same = same_Some (with_head slices.head part) s (sym (ap (option_map (with_head slices.head)) e) ∙ found) in
        let is_part = All-find IsPart (λ (p : Part). p.region == region) slices.parts part formed.parts e in
        let made : IsSlice (with_head slices.head part) = record {
          head = record { epoch = (omega (arith, later), formed.epoch); lists = formed.lists };
          part = is_part;
        } in
        subst IsSlice same made

module _ (before : GroupState) (turn : Turn) where
  abbrev part : ℕ → Part
  part region = part_in before turn region

  -- at an old region stands its part
  at_key-parts : (region : ℕ) (ns : List ℕ) → at_key (λ (p : Part). p.region) region (map part ns) ≡ (if is_among ns region then Some (part region) else None)
  at_key-parts region [] = refl
  at_key-parts region (n ∷ ns) = by_key (n == region) refl (at_key-parts region ns)
    where
      by_key : (same : Bool) → (n == region) ≡ same
          → at_key (λ (p : Part). p.region) region (map part ns) ≡ (if is_among ns region then Some (part region) else None)
          → at_key (λ (p : Part). p.region) region (map part (n ∷ ns)) ≡ (if is_among (n ∷ ns) region then Some (part region) else None)
      by_key true e rest = (let same : n ≡ region = eqb-true n region e in rw e (ap (λ m. Some (part m)) same))
      by_key false e rest = rw e rest

  -- so each has its slice
  pub slice_of-slices_in : (epoch region : ℕ) → is_among (regions before.rows) region ≡ true
      → slice_of (slices_in before turn epoch) region ≡ Some (slice_in before turn epoch region)
  slice_of-slices_in epoch region there =
      ap (option_map (with_head (head_in before turn epoch)))
      (at_key-parts region (regions before.rows) ∙ ap (λ b. if b then Some (part region) else None) there)

  pub slices-found : (epoch : ℕ)
      → AllByRecursion (λ region. slice_of (slices_in before turn epoch) region ≡ Some (slice_in before turn epoch region)) (regions before.rows)
  slices-found epoch =
      All-weaker (λ region. is_among (regions before.rows) region ≡ true)
      (λ region. slice_of (slices_in before turn epoch) region ≡ Some (slice_in before turn epoch region))
      (slice_of-slices_in epoch) (regions before.rows) (regions-listed before.rows)

  -- the regions of the parts are the numbers that they are of
  regions-of_parts : (ns : List ℕ) → map (λ (p : Part). p.region) (map part ns) ≡ ns
  regions-of_parts [] = refl
  regions-of_parts (n ∷ ns) = ap (λ ms. n ∷ ms) (regions-of_parts ns)

  -- and the touched ones are those of the parts that aren't the same
  pub touched-parts : map (λ (p : Part). p.region) (filter (λ (p : Part). not (is_same_kind p.kind)) (map (part_in before turn) (regions before.rows)))
      ≡ touched_in before turn
  touched-parts =
      ap (map (λ (p : Part). p.region)) (filter-map (λ (p : Part). not (is_same_kind p.kind)) part (regions before.rows))
      ∙ regions-of_parts (touched_in before turn)
