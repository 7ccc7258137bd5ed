-- The lines that tell of one region alone, among lines that tell of each roll.
use Rattle.std.proofs.Common.{◌≡◌, ◌≢◌, ◌==◌, ℕ, ◌<◌, Bool, true, false, List, [], ◌∷◌, Some, decimal, bytes_eq, refl, sym, ap, ◌∙◌, arith}
use Rattle.std.proofs.Common.{append-nil, ◌⊎◌, inl, inr, ⊎_elim}
use Rattle.std.specs.List.{AllByRecursion, filter, flat_map}
use Rattle.std.proofs.lemmas.Bool.{cases_Bool, eq-eqb, false_from_ne_true, false≢true, ne_eqb}
use Rattle.std.proofs.lemmas.Fmt.{decimal_injective}
use Rattle.std.proofs.lemmas.List.Elements.{filter-append}
use Rattle.std.proofs.lemmas.Slice.Eq.{bytes_eq-Decides}
use Rattle.cs_base.specs.Ranges.{IsRegion}
use Rattle.cs_base.specs.declared.member.Member.{Member}
use Rattle.cs_base.proofs.Elements.{All-append, All-weaker}
use Rattle.cs_roll.specs.Sight.{IsByRegion, Rolls, at_region}
use Rattle.cs_show.specs.Text.{Line}
use Rattle.cs_show.proofs.LineLemmas.{filter-all, filter-none}

-- a region and its roll
abbrev Known : Type 0
Known = ℕ × List Member

-- what stands beside the first region
at_region-first : (number : ℕ) (pair : Known) (rolls : Rolls) → pair.0 ≡ number → at_region number (pair ∷ rolls) ≡ Some pair.1
at_region-first number pair rolls same = (let is : (pair.0 == number) ≡ true = eq-eqb pair.0 number same in rw is refl)

-- and beside another one
at_region-later : (number : ℕ) (pair : Known) (rolls : Rolls) → pair.0 ≢ number → at_region number (pair ∷ rolls) ≡ at_region number rolls
at_region-later number pair rolls other = (let isnt : (pair.0 == number) ≡ false = ne_eqb pair.0 number other in rw isnt refl)

module _ (region : List ℕ) where
  -- the pair's number is the region
  abbrev pub is_of : Known → Bool
  is_of pair = bytes_eq (decimal pair.0) region

  -- of the lines of a roll just those of this region pass
  abbrev pub TellsRegion : (Line → Bool) → (Known → List Line) → Type 0
  TellsRegion test lines = (pair : Known) → AllByRecursion (λ line. test line ≡ is_of pair) (lines pair)

  -- they pass, or they don't
  all-of : (test : Line → Bool) (lines : Known → List Line) → TellsRegion test lines → (pair : Known) (b : Bool) → is_of pair ≡ b
      → AllByRecursion (λ line. test line ≡ b) (lines pair)
  all-of test lines tells pair b is =
      All-weaker (λ line. test line ≡ is_of pair) (λ line. test line ≡ b) (λ line same. same ∙ is) (lines pair) (tells pair)

  -- of rolls of other regions no line passes
  pub All-others : (test : Line → Bool) (lines : Known → List Line) → TellsRegion test lines → (rolls : Rolls)
      → AllByRecursion (λ pair. is_of pair ≡ false) rolls → AllByRecursion (λ line. test line ≡ false) (flat_map lines rolls)
  All-others test lines tells [] others = tt
  All-others test lines tells (pair ∷ rolls) others =
      All-append (λ line. test line ≡ false) (lines pair) (flat_map lines rolls) (all-of test lines tells pair false others.0)
      (All-others test lines tells rolls others.1)

  -- the roll of the region, whose lines are all that pass
  pub record IsTold (rolls : Rolls) : Type 0 where
    pub number : ℕ
    pub members : List Member
    pub is : decimal number ≡ region
    pub small : IsRegion number
    pub there : at_region number rolls ≡ Some members
    pub lines : (test : Line → Bool) (lines : Known → List Line) → TellsRegion test lines
        → filter test (flat_map lines rolls) ≡ lines (number, members)

  -- a number that is the region is another one than those above it
  others-above : (number : ℕ) → decimal number ≡ region → IsRegion number → (rolls : Rolls)
      → AllByRecursion (λ (pair : Known). number < pair.0) rolls → AllByRecursion (λ (pair : Known). IsRegion pair.0) rolls
      → AllByRecursion (λ pair. is_of pair ≡ false) rolls
  others-above number is low [] above small = tt
  others-above number is low (pair ∷ rolls) above small = (
    false_from_ne_true (is_of pair) (λ e.
        let same : pair.0 ≡ number =
        decimal_injective pair.0 number (omega (arith, small.0.1)) (omega (arith, low.1)) ((bytes_eq-Decides (decimal pair.0) region).0 e ∙ sym is) in
        omega (arith, above.0)),
    others-above number is low rolls above.1 small.1,
  )

  -- the first roll is that of the region
  told-first : (pair : Known) (rolls : Rolls) → IsByRegion (pair ∷ rolls) → AllByRecursion (λ (pair : Known). IsRegion pair.0) (pair ∷ rolls)
      → is_of pair ≡ true → IsTold (pair ∷ rolls)
  told-first pair rolls ascending small here =
      let is : decimal pair.0 ≡ region = (bytes_eq-Decides (decimal pair.0) region).0 here in
      let others = others-above pair.0 is small.0 rolls ascending.0 small.1 in
      record {
        number = pair.0;
        members = pair.1;
        is = is;
        small = small.0;
        there = at_region-first pair.0 pair rolls refl;
        lines = λ test lines tells.
            filter-append test (lines pair) (flat_map lines rolls)
            ∙ rw (
              filter-all test (lines pair) (all-of test lines tells pair true here),
              filter-none test (flat_map lines rolls) (All-others test lines tells rolls others),
            )
            (append-nil (lines pair));
      }

  -- the first roll is that of another region
  told-later : (pair : Known) (rolls : Rolls) → is_of pair ≡ false → IsTold rolls → IsTold (pair ∷ rolls)
  told-later pair rolls other later =
      let another : pair.0 ≢ later.number =
      λ e. false≢true (sym other ∙ (bytes_eq-Decides (decimal pair.0) region).1 (ap decimal e ∙ later.is)) in
      record {
        number = later.number;
        members = later.members;
        is = later.is;
        small = later.small;
        there = at_region-later later.number pair rolls another ∙ later.there;
        lines = λ test lines tells.
            filter-append test (lines pair) (flat_map lines rolls)
            ∙ rw (filter-none test (lines pair) (all-of test lines tells pair false other)) (later.lines test lines tells);
      }

  -- the region has a roll, or all rolls are of other regions
  pub told : (rolls : Rolls) → IsByRegion rolls → AllByRecursion (λ (pair : Known). IsRegion pair.0) rolls
      → IsTold rolls ⊎ AllByRecursion (λ pair. is_of pair ≡ false) rolls
  told [] ascending small = inr tt
  told (pair ∷ rolls) ascending small = elim (cases_Bool (is_of pair)) [
    | inl here ↦ inl (told-first pair rolls ascending small here)
    | inr other ↦
        ⊎_elim (λ later. inl (told-later pair rolls other later)) (λ others. inr (other, others)) (told rolls ascending.1 small.1)
  ]
