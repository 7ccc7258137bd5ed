-- What the faults of a picture and of a step leave out.
use Rattle.std.proofs.Common.{◌≡◌, ℕ, ◌≤◌, Bool, true, false, cond, not, ◌&&◌, List, [], ◌∷◌, length, Option, Some, None, inl, inr, refl, sym, ap}
use Rattle.std.proofs.Common.{arith}
use Rattle.std.specs.List.{find, AllByRecursion}
use Rattle.std.specs.Option.{is_some, option_map, option_map_or, option_or, option_to_list}
use Rattle.std.specs.Prelude.{nat_lt, nat_le}
use Rattle.std.proofs.lemmas.Bool.{and_from, and_parts}
use Rattle.std.proofs.lemmas.Bool.Decides.{nat_tests}
use Rattle.std.proofs.lemmas.List.Sums.{sum_by-cons}
use Rattle.std.proofs.lemmas.Option.{none-some}
use Rattle.cs_base.specs.Limits.{most_regions}
use Rattle.cs_base.specs.declared.change.Mode.{Mode}
use Rattle.cs_base.specs.declared.change.Mode.TheVariants.{Partial, Full}
use Rattle.cs_base.specs.declared.member.Member.{Member}
use Rattle.cs_base.proofs.Elements.{All-weaker}
use Rattle.cs_item.specs.Picture.{members_in}
use Rattle.cs_item.specs.declared.head.Head.{Head}
use Rattle.cs_item.specs.declared.part.Part.{Part}
use Rattle.cs_item.specs.declared.picture.Picture.{Picture}
use Rattle.cs_roll.specs.Roll.{member_of}
use Rattle.cs_roll.specs.Same.{is_same_summary}
use Rattle.cs_roll.specs.Sight.{Rolls, Summaries, at_region}
use Rattle.cs_roll.specs.Summary.{RegionSummary, summary_of}
use Rattle.cs_roll.proofs.Same.{Decides-summary}
use Rattle.cs_view.specs.Faults.{epoch_fault, missing_fault, part_fault, region_fault, step_fault}
use Rattle.cs_view.specs.Step.{next_rolls, next_summaries, next_view}
use Rattle.cs_view.specs.Taking.{few_members, few_regions, is_listed, IsFirst, picture_fault, roll_fault, unless, view_from}
use Rattle.cs_view.specs.View.{holder, IsListed, IsView, kept}
use Rattle.cs_view.specs.declared.fault.ViewFault.{ViewFault}
use Rattle.cs_view.specs.declared.fault.ViewFault.TheVariants as faults

-- ---- first faults
-- the first fault is that of the first test, if that has one
pub first_now : (first rest : Option ViewFault) (fault : ViewFault) → IsFirst first fault → IsFirst (option_or first rest) fault
first_now first rest fault (inl memory) = inl memory
first_now first rest fault (inr is) = inr (rw is refl)

-- and otherwise that of the later tests
pub first_later : (first rest : Option ViewFault) (fault : ViewFault) → first ≡ None → IsFirst rest fault → IsFirst (option_or first rest) fault
first_later first rest fault none (inl memory) = inl memory
first_later first rest fault none (inr is) = inr (rw none is)

-- there is no fault where no test has one
pub no_fault : (first rest : Option ViewFault) → first ≡ None → rest ≡ None → option_or first rest ≡ None
no_fault first rest none none_later = rw none none_later

-- what is found has its fault
pub first_found : {X : Type 0} (f : X → ViewFault) (x : X) (found : Option X) → Some x ≡ found → IsFirst (option_map f found) (f x)
first_found f x found is = inr (ap (option_map f) (sym is))

-- a picture without any of the faults has none
pub no_picture_fault : (me : ℕ) (p : Picture) → few_regions p.summaries ≡ true → few_members p.rolls ≡ true → roll_fault p.summaries p.rolls ≡ None
    → is_some (holder me p.rolls) ≡ true → picture_fault me p ≡ None
no_picture_fault me p regions members rolls held =
    no_fault (unless (few_regions p.summaries && few_members p.rolls) faults.Size)
    (option_or (roll_fault p.summaries p.rolls) (unless (is_some (holder me p.rolls)) faults.Absent))
    (ap (λ b. unless b faults.Size) (and_from (few_regions p.summaries) (few_members p.rolls) regions members))
    (no_fault (roll_fault p.summaries p.rolls) (unless (is_some (holder me p.rolls)) faults.Absent) rolls (ap (λ b. unless b faults.Absent) held))

-- where all pass the test none is found that fails it
unfound : {X : Type 0} (p : X → Bool) (xs : List X) → AllByRecursion (λ x. p x ≡ true) xs → find (λ x. not (p x)) xs ≡ None
unfound p [] all = refl
unfound p (x ∷ xs) all = rw all.0 (unfound p xs all.1)

-- no roll is at fault where each is listed
pub no_roll_fault : (summaries : Summaries) (rolls : Rolls) → AllByRecursion (λ pair. is_listed summaries pair ≡ true) rolls
    → roll_fault summaries rolls ≡ None
no_roll_fault summaries rolls all = ap (option_map (λ (pair : ℕ × List Member). faults.Roll pair.0)) (unfound (is_listed summaries) rolls all)

-- ---- a picture without a fault is a view
-- a test without its fault passes
pub passes-unless : (b : Bool) (fault : ViewFault) → unless b fault ≡ None → b ≡ true
passes-unless true fault none = refl
passes-unless false fault none = absurd (none-some fault (sym none))

-- the summary that stands there is that of the roll, where the test says so
same_there : (members : List Member) (there : Option RegionSummary)
    → option_map_or (λ s. is_same_summary (summary_of members) s) there false ≡ true → there ≡ Some (summary_of members)
same_there members None test = absurd (cc)
same_there members (Some s) test = ap Some (sym ((Decides-summary (summary_of members) s).0 test))

-- a roll that is listed by the test is listed
IsListed-test : (summaries : Summaries) (pair : ℕ × List Member) → is_listed summaries pair ≡ true → IsListed summaries pair
IsListed-test summaries pair test =
    let its : Bool = option_map_or (λ (s : RegionSummary). is_same_summary (summary_of pair.1) s) (at_region pair.0 summaries) false in
    let parts : (nat_lt 0 (length pair.1) ≡ true) × (its ≡ true) = and_parts (nat_lt 0 (length pair.1)) its test in
    record { some = grind (arith, nat_tests, parts.0); summary = same_there pair.1 (at_region pair.0 summaries) parts.1 }

-- where none is found that fails the test each passes
All-unfound : {X : Type 0} (p : X → Bool) (xs : List X) → find (λ x. not (p x)) xs ≡ None → AllByRecursion (λ x. p x ≡ true) xs
All-unfound p [] none = tt
All-unfound {X} p (x ∷ xs) none = by_test (All-unfound p xs) (p x) refl
  where
    by_test : (find (λ y. not (p y)) xs ≡ None → AllByRecursion (λ y. p y ≡ true) xs) → (b : Bool) → p x ≡ b
        → AllByRecursion (λ y. p y ≡ true) (x ∷ xs)
    by_test rest true e = (e, rest (rw e at none))
    by_test rest false e = absurd (none-some x (sym (rw e at none)))

-- what is changed isn't there where nothing was
none-map : {X Y : Type 0} (f : X → Y) (o : Option X) → option_map f o ≡ None → o ≡ None
none-map f None none = refl
none-map f (Some x) none = absurd (none-some (f x) (sym none))

-- where no roll is at fault each passes the test
pub All-tested : (summaries : Summaries) (rolls : Rolls) → roll_fault summaries rolls ≡ None
    → AllByRecursion (λ pair. is_listed summaries pair ≡ true) rolls
All-tested summaries rolls none = All-unfound (is_listed summaries) rolls (none-map _ _ none)

-- so each is listed
AllListed : (summaries : Summaries) (rolls : Rolls) → roll_fault summaries rolls ≡ None → AllByRecursion (IsListed summaries) rolls
AllListed summaries rolls none =
    All-weaker (λ pair. is_listed summaries pair ≡ true) (IsListed summaries) (IsListed-test summaries) rolls (All-tested summaries rolls none)

-- what holds of all holds of the one that is found
pub All-found : {T : Type 0} (P : T → Type 0) (test : T → Bool) (xs : List T) → AllByRecursion P xs → AllByRecursion P (option_to_list (find test xs))
All-found P test [] all = tt
All-found P test (x ∷ xs) all =
    elim (test x) as (λ b. AllByRecursion P (option_to_list (cond b (Some x) (find test xs)))) [
      | true ↦ (all.0, tt)
      | false ↦ All-found P test xs all.1
    ]

-- the roll that is found has no more members than all of them
pub members_in-found : (test : ℕ × List Member → Bool) (rolls : Rolls) → members_in (option_to_list (find test rolls)) ≤ members_in rolls
members_in-found test [] = omega arith
members_in-found test (roll ∷ rolls) =
    let more = sum_by-cons (λ (pair : ℕ × List Member). length pair.1) roll rolls in
    elim (test roll) as (λ b. members_in (option_to_list (cond b (Some roll) (find test rolls))) ≤ members_in (roll ∷ rolls)) [
      | true ↦ omega arith
      | false ↦ omega (arith, members_in-found test rolls)
    ]

-- what is kept are no more members
members_in-kept : (me : ℕ) (mode : Mode) (rolls : Rolls) → members_in (kept me mode rolls) ≤ members_in rolls
members_in-kept me Full rolls = omega arith
members_in-kept me Partial rolls = members_in-found (λ pair. is_some (member_of me pair.1)) rolls

-- what is kept of few members are few
pub few_members-kept : (me : ℕ) (mode : Mode) (rolls : Rolls) → few_members rolls ≡ true → few_members (kept me mode rolls) ≡ true
few_members-kept me mode rolls few = let less = members_in-kept me mode rolls in grind (arith, nat_tests)

-- what is kept of listed rolls is listed
pub All-kept : (P : ℕ × List Member → Type 0) (me : ℕ) (mode : Mode) (rolls : Rolls) → AllByRecursion P rolls → AllByRecursion P (kept me mode rolls)
All-kept P me Full rolls all = all
All-kept P me Partial rolls all = All-found P (λ pair. is_some (member_of me pair.1)) rolls all

-- with what a node keeps of its rolls a picture without a fault is a view
pub IsView-kept : (me : ℕ) (mode : Mode) (p : Picture) → few_regions p.summaries ≡ true → few_members (kept me mode p.rolls) ≡ true
    → roll_fault p.summaries p.rolls ≡ None → IsView (view_from me mode p)
IsView-kept me mode p regions members none =
    let count : ℕ = length p.summaries in
    let parts : (nat_lt 0 count ≡ true) × (nat_le count most_regions ≡ true) = and_parts (nat_lt 0 count) (nat_le count most_regions) regions in
    record {
      size = record {
        some = grind (arith, nat_tests, parts.0);
        few = grind (arith, nat_tests, parts.1);
        members = grind (arith, nat_tests, members);
      };
      listed = All-kept (IsListed p.summaries) me mode p.rolls (AllListed p.summaries p.rolls none);
    }

-- ---- what a view takes and what it becomes
-- without a fault no test has one
pub none_of_both : (first rest : Option ViewFault) → option_or first rest ≡ None → (first ≡ None) × (rest ≡ None)
none_of_both None rest none = (refl, none)
none_of_both (Some fault) rest none = absurd (none-some fault (sym none))

-- what a node takes from a picture without a fault is a view
pub IsView-taken : (me : ℕ) (mode : Mode) (p : Picture) → picture_fault me p ≡ None → IsView (view_from me mode p)
IsView-taken me mode p none =
    let absent : Option ViewFault = unless (is_some (holder me p.rolls)) faults.Absent in
    let size = none_of_both (unless (few_regions p.summaries && few_members p.rolls) faults.Size) (option_or (roll_fault p.summaries p.rolls) absent) none in
    let rolls = none_of_both (roll_fault p.summaries p.rolls) absent size.1 in
    let few = and_parts (few_regions p.summaries) (few_members p.rolls) (passes-unless (few_regions p.summaries && few_members p.rolls) faults.Size size.0) in
    IsView-kept me mode p few.0 (few_members-kept me mode p.rolls few.1) rolls.0

-- a step without a fault has no fault by any test
pub record HasNoFault (view : Picture) (head : Head) (parts : List Part) : Type 0 where
  pub epoch : epoch_fault view head ≡ None
  pub regions : few_regions (next_summaries view.summaries head) ≡ true
  pub rolls : roll_fault (next_summaries view.summaries head) (next_rolls view.rolls head parts) ≡ None

pub HasNoFault-step : (view : Picture) (head : Head) (parts : List Part) → step_fault view head parts ≡ None → HasNoFault view head parts
HasNoFault-step view head parts none =
    let summaries : Summaries = next_summaries view.summaries head in
    let rolls : Rolls = next_rolls view.rolls head parts in
    let five : Option ViewFault = option_or (part_fault view head parts) (roll_fault summaries rolls) in
    let four : Option ViewFault = option_or (unless (few_regions summaries) faults.Size) five in
    let three : Option ViewFault = option_or (missing_fault view head parts) four in
    let two : Option ViewFault = option_or (region_fault view head) three in
    let regions = none_of_both (epoch_fault view head) two none in
    let missing = none_of_both (region_fault view head) three regions.1 in
    let size = none_of_both (missing_fault view head parts) four missing.1 in
    let part = none_of_both (unless (few_regions summaries) faults.Size) five size.1 in
    let roll = none_of_both (part_fault view head parts) (roll_fault summaries rolls) part.1 in
    record { epoch = regions.0; regions = passes-unless (few_regions summaries) faults.Size part.0; rolls = roll.1 }

-- what a view becomes by a step without a fault is a view
pub IsView-stepped : (me : ℕ) (mode : Mode) (view : Picture) (head : Head) (parts : List Part) → step_fault view head parts ≡ None
    → few_members (kept me mode (next_rolls view.rolls head parts)) ≡ true → IsView (next_view me mode view head parts)
IsView-stepped me mode view head parts none few =
    let no = HasNoFault-step view head parts none in
    let gathered : Picture = record {
      epoch = head.epoch;
      summaries = next_summaries view.summaries head;
      rolls = next_rolls view.rolls head parts;
    } in
    IsView-kept me mode gathered no.regions few no.rolls
