-- A snapshot of a group is taken without a fault by a member of its regions.
use Rattle.std.proofs.Common.{◌≡◌, ◌==◌, ◌&&◌, ℕ, Bool, true, List, [], ◌∷◌, map, Option, None, Result, Ok, refl, sym, ap, ◌∙◌, inl, inr}
use Rattle.std.specs.List.{AllByRecursion, filter, find, list_any}
use Rattle.std.specs.Option.{is_some, option_or}
use Rattle.std.proofs.lemmas.Bool.{and_from, and_parts, eqb-true, eq-eqb, false≢true, or_cases, or_left, or_right}
use Rattle.cs_base.specs.declared.change.Mode.{Mode}
use Rattle.cs_base.specs.declared.change.Mode.TheVariants.{Partial, Full}
use Rattle.cs_base.specs.declared.member.Member.{Member}
use Rattle.cs_base.proofs.Ascending.{All-of_filter, IsAscendingBy-filter}
use Rattle.cs_group.specs.Group.{GroupState, IsGroup, is_among}
use Rattle.cs_group.specs.Rows.{members_in, regions}
use Rattle.cs_group.proofs.Known.{among-holds}
use Rattle.cs_group.proofs.Regions.{IsAscending-regions}
use Rattle.cs_item.specs.declared.picture.Picture.{Picture}
use Rattle.cs_roll.specs.Roll.{member_of}
use Rattle.cs_slicer.specs.Projection.{known_by, projection, rolls_of}
use Rattle.cs_slicer.specs.Turn.{summaries_of}
use Rattle.cs_slicer.proofs.Beside.{among-filter, beside}
use Rattle.cs_slicer.proofs.Summaries.{regions-listed}
use Rattle.cs_view.specs.Taking.{few_members, few_regions, or_fault, picture_fault, taken, unless, view_from}
use Rattle.cs_view.specs.View.{holder, kept}
use Rattle.cs_view.specs.declared.fault.ViewFault.{ViewFault}
use Rattle.cs_view.specs.declared.fault.ViewFault.TheVariants as faults
use Rattle.cs_view.proofs.Finding.{is_some-find, is_some-map}
use Rattle.cs_projection.proofs.Faultless.{few_members-regions, roll_fault-none}
use Rattle.cs_projection.proofs.Kept.{find-map, kept-known}
use Rattle.cs_projection.proofs.Numbers.{same_tests}
use Rattle.cs_projection.proofs.Summaries.{few_regions-group}

module _ (p : ℕ → Bool) where
  -- where one of some numbers passes, it is among them
  one-passes : (ns : List ℕ) → list_any p ns ≡ true → (n : ℕ) × (is_among ns n ≡ true) × (p n ≡ true)
  one-passes [] some = absurd (false≢true some)
  one-passes (n ∷ ns) some = elim (or_cases (p n) (list_any p ns) some) [
    | inl here ↦ (n, or_left (n == n) (is_among ns n) (eq-eqb n n refl), here)
    | inr later ↦ (let rest = one-passes ns later in (rest.0, or_right (n == rest.0) (is_among ns rest.0) rest.1, rest.2))
  ]

  -- and where one among them passes, one of them does
  any-passes : (ns : List ℕ) (n : ℕ) → is_among ns n ≡ true → p n ≡ true → list_any p ns ≡ true
  any-passes [] n there passes = absurd (false≢true there)
  any-passes (m ∷ ms) n there passes = elim (or_cases (m == n) (is_among ms n) there) [
    | inl same ↦ or_left (p m) (list_any p ms) (ap p (eqb-true m n same) ∙ passes)
    | inr later ↦ or_right (p m) (list_any p ms) (any-passes ms n later passes)
  ]

-- of faults that aren't there none is
no_fault : (a b c : Option ViewFault) → a ≡ None → b ≡ None → c ≡ None → option_or a (option_or b c) ≡ None
no_fault a b c no_a no_b no_c = rw (no_a, no_b, no_c) refl

module _ (g : GroupState) (epoch : ℕ) (known : List ℕ) (me : ℕ) (mode : Mode) (is : IsGroup g)
    (there : AllByRecursion (λ region. is_among (regions g.rows) region ≡ true) known) where
  -- the members of a region
  abbrev roll : ℕ → List Member
  roll region = members_in region g.rows

  -- whether the member is in the region
  abbrev has : ℕ → Bool
  has region = is_some (member_of me (members_in region g.rows))

  -- the known regions, ascending
  abbrev ns : List ℕ
  ns = filter (λ region. is_among known region) (regions g.rows)

  -- they are the known ones
  same-known : (k : ℕ) → is_among ns k ≡ is_among known k
  same-known k =
      among-filter (λ region. is_among known region) k (regions g.rows)
      ∙ same_tests (is_among (regions g.rows) k && is_among known k) (is_among known k)
      (λ both. (and_parts (is_among (regions g.rows) k) (is_among known k) both).1)
      (λ here. and_from (is_among (regions g.rows) k) (is_among known k)
      (among-holds (λ region. is_among (regions g.rows) region ≡ true) k known there here) here)

  -- and a node knows the same of them
  same-known_by : (m : Mode) (k : ℕ) → is_among (known_by me m g.rows ns) k ≡ is_among (known_by me m g.rows known) k
  same-known_by Full k = same-known k
  same-known_by Partial k = among-filter has k ns ∙ (ap (λ b. b && has k) (same-known k) ∙ sym (among-filter has k known))

  -- so it keeps their rolls
  kept-are : kept me mode (rolls_of known g.rows) ≡ rolls_of (known_by me mode g.rows known) g.rows
  kept-are =
      kept-known g.rows me mode (λ region. is_among known region) is.staffed.distinct
      ∙ (λ i. map (beside roll) (filter (λ k. same-known_by mode k i) (regions g.rows)))

  -- each of them is a region
  each-there : AllByRecursion (λ n. is_among (regions g.rows) n ≡ true) ns
  each-there =
      All-of_filter (λ n. is_among (regions g.rows) n ≡ true) (λ region. is_among known region) (regions g.rows) (regions-listed g.rows)

  module _ (some : list_any (λ region. is_some (member_of me (members_in region g.rows))) known ≡ true) where
    -- a roll has the member
    held : is_some (holder me (rolls_of known g.rows)) ≡ true
    held =
        let one = one-passes has known some in
        ap (λ o. is_some o) (find-map (λ (pair : ℕ × List Member). is_some (member_of me pair.1)) (beside roll) ns)
        ∙ (is_some-map (beside roll) (find has ns)
        ∙ (is_some-find has ns ∙ any-passes has ns one.0 (same-known one.0 ∙ one.1) one.2))

    -- so nothing is wrong with the picture
    faultless : picture_fault me (projection epoch known g) ≡ None
    faultless =
        no_fault _ _ _
        (ap (λ b. unless b faults.Size)
        (and_from (few_regions (summaries_of g.rows)) (few_members (rolls_of known g.rows)) (few_regions-group g is)
        (few_members-regions g.rows ns is.staffed.few_members
        (IsAscendingBy-filter (λ n. n) (λ region. is_among known region) (regions g.rows) (IsAscending-regions g.rows)))))
        (roll_fault-none g.rows ns each-there) (ap (λ b. unless b faults.Absent) held)

    -- and it is taken
    takes-it : (let wanted : Result Picture ViewFault = Ok (projection epoch (known_by me mode g.rows known) g) in
        taken me mode (projection epoch known g) ≡ wanted)
    takes-it =
        ap (λ fault. or_fault fault (view_from me mode (projection epoch known g))) faultless
        ∙ (λ i. Ok (record { epoch = epoch; summaries = summaries_of g.rows; rolls = kept-are i }))

-- a member of one of the regions takes the snapshot
pub takes : (g : GroupState) (epoch : ℕ) (known : List ℕ) (me : ℕ) (mode : Mode) → IsGroup g
    → AllByRecursion (λ region. is_among (regions g.rows) region ≡ true) known
    → list_any (λ region. is_some (member_of me (members_in region g.rows))) known ≡ true
    → taken me mode (projection epoch known g) ≡ Ok (projection epoch (known_by me mode g.rows known) g)
takes = takes-it
