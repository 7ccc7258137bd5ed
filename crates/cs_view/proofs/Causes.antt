-- What the first fault of a picture and of a step can't be.
use Rattle.std.proofs.Common.{◌≡◌, ◌≢◌, ◌+◌, ◌==◌, ◌&&◌, ◌∙◌, ℕ, Bool, true, false, not, if◌then◌else◌, List, Option, Some, None, IfSome, Result, Ok, Err}
use Rattle.std.proofs.Common.{refl, sym, ap, subst}
use Rattle.std.specs.List.{find}
use Rattle.std.specs.Option.{is_some, option_map, option_or}
use Rattle.std.proofs.lemmas.Bool.{and_parts, eq-eqb, true≢false}
use Rattle.cs_base.specs.declared.change.Mode.{Mode}
use Rattle.cs_base.specs.declared.member.Member.{Member}
use Rattle.cs_base.proofs.Elements.{All-find}
use Rattle.cs_item.specs.declared.head.Head.{Head}
use Rattle.cs_item.specs.declared.part.Part.{Part}
use Rattle.cs_item.specs.declared.picture.Picture.{Picture}
use Rattle.cs_roll.specs.Sight.{Rolls, Summaries}
use Rattle.cs_view.specs.Causes.{IsStepFault}
use Rattle.cs_view.specs.Faults.{epoch_fault, gone_or_next, missing_fault, part_fault, region_fault, step, step_fault}
use Rattle.cs_view.specs.Step.{is_among, is_known, next_rolls, next_summaries, next_view, part_of}
use Rattle.cs_view.specs.Taking.{few_members, few_regions, or_fault, picture_fault, roll_fault, taken, unless, view_from}
use Rattle.cs_view.specs.View.{holder}
use Rattle.cs_view.specs.declared.fault.ViewFault.{ViewFault}
use Rattle.cs_view.specs.declared.fault.ViewFault.TheVariants as faults
use Rattle.cs_view.specs.declared.next.Next.{Next}
use Rattle.cs_view.specs.declared.next.Next.TheVariants as next
use Rattle.cs_view.proofs.Finding.{find_passes}

-- ---- what holds of a first fault
module _ (P : ViewFault → Type 0) where
  -- what holds of the fault of either test holds of the first one
  holds-or : (first rest : Option ViewFault) → IfSome first P → IfSome rest P → IfSome (option_or first rest) P
  holds-or None rest here later = later
  holds-or (Some fault) rest here later = here

  -- what holds where a test fails
  holds-unless : (b : Bool) (fault : ViewFault) → (b ≡ false → P fault) → IfSome (unless b fault) P
  holds-unless true fault holds = tt
  holds-unless false fault holds = holds refl

  -- what holds of the fault of what is found
  holds-map : {X : Type 0} (f : X → ViewFault) (found : Option X) → ((x : X) → found ≡ Some x → P (f x)) → IfSome (option_map f found) P
  holds-map f None holds = tt
  holds-map f (Some x) holds = holds x refl

  -- what holds of the first fault holds of the one that comes
  holds-comes : {T : Type 0} (first : Option ViewFault) (value : T) (fault : ViewFault) → IfSome first P → or_fault first value ≡ Err fault → P fault
  holds-comes None value fault holds e = absurd (cc)
  holds-comes (Some other) value fault holds e = let same : other ≡ fault = cc in subst P same holds

-- ---- a picture
-- a picture has no fault of memory
pub no_memory-taken : (me : ℕ) (mode : Mode) (p : Picture) (fault : ViewFault) → taken me mode p ≡ Err fault → fault ≢ faults.Memory
no_memory-taken me mode p fault e =
    let P : ViewFault → Type 0 = λ f. f ≢ faults.Memory in
    let absent : Option ViewFault = unless (is_some (holder me p.rolls)) faults.Absent in
    let few : Bool = few_regions p.summaries && few_members p.rolls in
    let size : IfSome (unless few faults.Size) P = holds-unless P few faults.Size (λ _ same. cc) in
    let rolls : IfSome (roll_fault p.summaries p.rolls) P =
    holds-map P (λ (pair : ℕ × List Member). faults.Roll pair.0) _ (λ pair found same. cc) in
    let there : IfSome absent P = holds-unless P (is_some (holder me p.rolls)) faults.Absent (λ _ same. cc) in
    holds-comes P (picture_fault me p) (view_from me mode p) fault
    (holds-or P (unless few faults.Size) (option_or (roll_fault p.summaries p.rolls) absent) size
    (holds-or P (roll_fault p.summaries p.rolls) absent rolls there)) e

-- ---- a step
module _ (view : Picture) (head : Head) (parts : List Part) where
  -- none of these faults is one of memory, of an epoch or of a missing part
  IsStepFault-region : (r : ℕ) → IsStepFault view head parts (faults.Region r)
  IsStepFault-region r = record { memory = λ same. cc; epoch = λ is have given same. cc; missing = λ full region same. cc }

  IsStepFault-part : (r : ℕ) → IsStepFault view head parts (faults.Part r)
  IsStepFault-part r = record { memory = λ same. cc; epoch = λ is have given same. cc; missing = λ full region same. cc }

  IsStepFault-roll : (r : ℕ) → IsStepFault view head parts (faults.Roll r)
  IsStepFault-roll r = record { memory = λ same. cc; epoch = λ is have given same. cc; missing = λ full region same. cc }

  IsStepFault-size : IsStepFault view head parts faults.Size
  IsStepFault-size = record { memory = λ same. cc; epoch = λ is have given same. cc; missing = λ full region same. cc }

  -- an epoch is at fault where it isn't the next one
  IsStepFault-epoch : (head.epoch == view.epoch + 1) ≡ false → IsStepFault view head parts (faults.Epoch view.epoch head.epoch)
  IsStepFault-epoch differs = record {
    memory = λ same. cc;
    epoch = λ is have given same. true≢false (sym (eq-eqb head.epoch (view.epoch + 1) is) ∙ differs);
    missing = λ full region same. cc;
  }

  -- whether a region is known and has no part
  abbrev lacks : ℕ → Bool
  lacks r = is_known view.rolls r && not (is_some (part_of r parts))

  -- and a part is missing where not all are there
  IsStepFault-missing : (r : ℕ) → find lacks head.touched ≡ Some r → IsStepFault view head parts (faults.Missing r)
  IsStepFault-missing r found = record {
    memory = λ same. cc;
    epoch = λ is have given same. cc;
    missing = λ full region same.
        let tests = and_parts (is_known view.rolls r) (not (is_some (part_of r parts))) (find_passes lacks head.touched r found) in
        let there : is_some (part_of r parts) ≡ true =
        All-find (λ r. is_known view.rolls r ≡ true → is_some (part_of r parts) ≡ true) lacks head.touched r full found tests.0 in
        true≢false (sym tests.1 ∙ ap not there);
  }

  -- so the first fault of a step has its cause
  first-caused : IfSome (step_fault view head parts) (IsStepFault view head parts)
  first-caused =
      let P : ViewFault → Type 0 = IsStepFault view head parts in
      let summaries : Summaries = next_summaries view.summaries head in
      let rolls : Rolls = next_rolls view.rolls head parts in
      let size : Option ViewFault = unless (few_regions summaries) faults.Size in
      let five : Option ViewFault = option_or (part_fault view head parts) (roll_fault summaries rolls) in
      let four : Option ViewFault = option_or size five in
      let three : Option ViewFault = option_or (missing_fault view head parts) four in
      let two : Option ViewFault = option_or (region_fault view head) three in
      holds-or P (epoch_fault view head) two
      (holds-unless P (head.epoch == view.epoch + 1) (faults.Epoch view.epoch head.epoch) IsStepFault-epoch)
      (holds-or P (region_fault view head) three (holds-map P faults.Region _ (λ r found. IsStepFault-region r))
      (holds-or P (missing_fault view head parts) four (holds-map P faults.Missing (find lacks head.touched) IsStepFault-missing)
      (holds-or P size five (holds-unless P (few_regions summaries) faults.Size (λ _. IsStepFault-size))
      (holds-or P (part_fault view head parts) (roll_fault summaries rolls)
      (holds-map P (λ (pair : ℕ × List Member). faults.Part pair.0) _ (λ pair found. IsStepFault-part pair.0))
      (holds-map P (λ (pair : ℕ × List Member). faults.Roll pair.0) _ (λ pair found. IsStepFault-roll pair.0))))))

  -- and so has the one that comes
  pub IsStepFault-comes : (me : ℕ) (mode : Mode) (fault : ViewFault) → step me mode view head parts ≡ Err fault → IsStepFault view head parts fault
  IsStepFault-comes me mode fault is = by_fault (step_fault view head parts) first-caused is
    where
      after : Picture
      after = next_view me mode view head parts

      by_test : (left few : Bool)
          → (let given : Result Next ViewFault = (if left then Ok next.Departed else or_fault (unless few faults.Size) (next.Member after)) in given)
          ≡ Err fault → IsStepFault view head parts fault
      by_test true few e = absurd (cc)
      by_test false few e =
          holds-comes (IsStepFault view head parts) (unless few faults.Size) (next.Member after) fault
          (holds-unless (IsStepFault view head parts) few faults.Size (λ _. IsStepFault-size)) e

      by_fault : (first : Option ViewFault) → IfSome first (IsStepFault view head parts) → gone_or_next me mode view head parts first ≡ Err fault
          → IsStepFault view head parts fault
      by_fault None holds e = by_test (is_among head.left me) (few_members after.rolls) e
      by_fault (Some first) holds e =
          holds-comes (IsStepFault view head parts) (Some first) next.Departed fault holds e
