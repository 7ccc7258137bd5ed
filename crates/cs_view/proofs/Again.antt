-- What a node took it takes again unchanged.
use Rattle.std.proofs.Common.{◌≡◌, ◌&&◌, ◌∙◌, ℕ, Bool, true, List, Option, Some, None, Ok, refl, ap, subst}
use Rattle.std.specs.List.{find}
use Rattle.std.specs.Option.{is_some, option_or, option_to_list}
use Rattle.std.proofs.lemmas.Bool.{and_parts}
use Rattle.cs_base.specs.declared.change.Mode.{Mode}
use Rattle.cs_base.specs.declared.change.Mode.TheVariants.{Partial, Full}
use Rattle.cs_base.specs.declared.member.Member.{Member}
use Rattle.cs_item.specs.declared.picture.Picture.{Picture}
use Rattle.cs_roll.specs.Roll.{member_of}
use Rattle.cs_roll.specs.Sight.{Rolls}
use Rattle.cs_view.specs.Taking.{few_members, few_regions, is_listed, or_fault, picture_fault, roll_fault, taken, unless, view_from}
use Rattle.cs_view.specs.View.{holder, kept}
use Rattle.cs_view.specs.declared.fault.ViewFault.{ViewFault}
use Rattle.cs_view.specs.declared.fault.ViewFault.TheVariants as faults
use Rattle.cs_view.proofs.Faultless.{All-kept, All-tested, few_members-kept, no_picture_fault, no_roll_fault, none_of_both, passes-unless}
use Rattle.cs_view.proofs.Finding.{find_passes}
use Rattle.cs_view.proofs.Outcomes.{without_fault}

-- the one that was found is found again
find-found : {X : Type 0} (test : X → Bool) (xs : List X) → find test (option_to_list (find test xs)) ≡ find test xs
find-found {X} test xs = by_found (find test xs) refl
  where
    by_found : (found : Option X) → find test xs ≡ found → find test (option_to_list found) ≡ found
    by_found None e = refl
    by_found (Some x) e = rw (find_passes test xs x e) refl

-- what is kept is kept again
kept-kept : (me : ℕ) (mode : Mode) (rolls : Rolls) → kept me mode (kept me mode rolls) ≡ kept me mode rolls
kept-kept me Full rolls = refl
kept-kept me Partial rolls = ap option_to_list (find-found (λ (pair : ℕ × List Member). is_some (member_of me pair.1)) rolls)

-- and one who was among all is among those that are kept
held-kept : (me : ℕ) (mode : Mode) (rolls : Rolls) → is_some (holder me rolls) ≡ true → is_some (holder me (kept me mode rolls)) ≡ true
held-kept me Full rolls held = held
held-kept me Partial rolls held = ap is_some (find-found (λ (pair : ℕ × List Member). is_some (member_of me pair.1)) rolls) ∙ held

-- what is taken from a picture without a fault has none
no_fault-again : (me : ℕ) (mode : Mode) (p : Picture) → picture_fault me p ≡ None → picture_fault me (view_from me mode p) ≡ None
no_fault-again me mode p none =
    let absent : Option ViewFault = unless (is_some (holder me p.rolls)) faults.Absent in
    let few : Bool = few_regions p.summaries && few_members p.rolls in
    let size = none_of_both (unless few faults.Size) (option_or (roll_fault p.summaries p.rolls) absent) none in
    let rolls = none_of_both (roll_fault p.summaries p.rolls) absent size.1 in
    let both = and_parts (few_regions p.summaries) (few_members p.rolls) (passes-unless few faults.Size size.0) in
    let listed = All-kept (λ pair. is_listed p.summaries pair ≡ true) me mode p.rolls (All-tested p.summaries p.rolls rolls.0) in
    no_picture_fault me (view_from me mode p) both.0 (few_members-kept me mode p.rolls both.1)
    (no_roll_fault p.summaries (kept me mode p.rolls) listed)
    (held-kept me mode p.rolls (passes-unless (is_some (holder me p.rolls)) faults.Absent rolls.1))

-- so it is taken as it is
pub taken-again : (me : ℕ) (mode : Mode) (p view : Picture) → taken me mode p ≡ Ok view → taken me mode view ≡ Ok view
taken-again me mode p view took =
    let whole = without_fault (picture_fault me p) (view_from me mode p) view took in
    let one : Picture = view_from me mode p in
    let same : view_from me mode one ≡ one =
    ap (λ (rolls : Rolls). record { epoch = p.epoch; summaries = p.summaries; rolls = rolls }) (kept-kept me mode p.rolls) in
    subst (λ (v : Picture). taken me mode v ≡ Ok v) whole.1
    (ap (λ first. or_fault first (view_from me mode one)) (no_fault-again me mode p whole.0) ∙ ap Ok same)
