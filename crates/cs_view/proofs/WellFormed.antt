-- What is taken from a well-formed picture, shown of it, and reached from it by a well-formed head and parts is well formed.
use Rattle.std.proofs.Common.{◌≡◌, ℕ, ◌≤◌, ◌==◌, Bool, true, not, List, [], ◌∷◌, length, Option, Some, None, IfSome, Ok, refl, ap, subst, arith}
use Rattle.std.specs.List.{AllByRecursion, filter, find, flat_map, fold}
use Rattle.std.specs.Option.{is_some, option_to_list}
use Rattle.std.proofs.lemmas.Bool.{cond_both}
use Rattle.std.proofs.lemmas.List.Sums.{sum_by-cons}
use Rattle.cs_base.specs.Limits.{most_members}
use Rattle.cs_base.specs.Ranges.{IsCut, IsFromTo, IsMember, IsRegion}
use Rattle.cs_base.specs.declared.change.Mode.{Mode}
use Rattle.cs_base.specs.declared.change.Mode.TheVariants.{Partial, Full}
use Rattle.cs_base.specs.declared.member.Member.{Member}
use Rattle.cs_base.specs.declared.split.Cut.{Cut}
use Rattle.cs_base.proofs.Ascending.{All-of_filter, IsAscendingBy-filter, IsOrderedBy-filter, IsOrderedBy-placed}
use Rattle.cs_base.proofs.Elements.{All-append, All-find, All-weaker}
use Rattle.cs_item.specs.Beside.{IsBeside}
use Rattle.cs_item.specs.Picture.{members_in}
use Rattle.cs_item.specs.PictureField.{AreRolls, IsPicture}
use Rattle.cs_item.specs.RollField.{AreMembers}
use Rattle.cs_item.specs.SliceField.{IsHead, IsKind, IsPart}
use Rattle.cs_item.specs.SummaryField.{IsShortSummary}
use Rattle.cs_item.specs.declared.head.Head.{Head}
use Rattle.cs_item.specs.declared.part.Part.{Part}
use Rattle.cs_item.specs.declared.part.PartKind.{PartKind}
use Rattle.cs_item.specs.declared.part.PartKind.TheVariants.{Same, Diff, Whole}
use Rattle.cs_item.specs.declared.picture.Picture.{Picture}
use Rattle.cs_roll.specs.Roll.{IsRoll, member_id, with_member}
use Rattle.cs_roll.specs.Sight.{IsByRegion, Rolls, Summaries, at_region}
use Rattle.cs_roll.specs.Summary.{IsSummary, RegionSummary}
use Rattle.cs_roll.proofs.Parts.{IsRoll-lower, IsRoll-upper}
use Rattle.cs_view.specs.Faults.{step}
use Rattle.cs_view.specs.Place.{place_in}
use Rattle.cs_view.specs.Step.{changed, cut_in_two, given, given_by_kind, given_by_part, is_among, is_known, next_rolls, next_view, part_of, unchanged}
use Rattle.cs_view.specs.Taking.{picture_fault, taken, view_from}
use Rattle.cs_view.specs.View.{holder, IsListed, IsView, kept, shown}
use Rattle.cs_view.specs.declared.next.Next.TheVariants as next
use Rattle.cs_view.proofs.Faultless.{All-found, All-kept, IsView-stepped, IsView-taken, members_in-found}
use Rattle.cs_view.proofs.Listed.{All-placed_each, IsByRegion-placed_each, length-listed}
use Rattle.cs_view.proofs.Outcomes.{faultless, goes_on, without_fault}
use Rattle.cs_view.proofs.Placed.{place-allowed}

-- a region with a roll, both allowed
abbrev IsPair : ℕ × List Member → Type 0
IsPair pair = IsRegion pair.0 × IsRoll pair.1

-- ---- rolls
-- the members of a field are a roll
IsRoll-members : (most : ℕ) (members : List Member) → AreMembers 0 most members → IsRoll members
IsRoll-members most members are = record { ascending = are.ascending; allowed = are.allowed }

-- so the rolls of a field are allowed
pairs-allowed : (rolls : Rolls) → AreRolls rolls → AllByRecursion IsPair rolls
pairs-allowed rolls are =
    All-weaker (IsBeside (AreMembers 0 most_members) 0) IsPair (λ pair is. (is.0, IsRoll-members most_members pair.1 is.1)) rolls are.allowed

-- each of some rolls has no more members than all of them
allowed_beside : (most : ℕ) (rolls : Rolls) → members_in rolls ≤ most → AllByRecursion IsPair rolls
    → AllByRecursion (IsBeside (AreMembers 0 most) 0) rolls
allowed_beside most [] few all = tt
allowed_beside most (pair ∷ rolls) few all =
    let more = sum_by-cons (λ (p : ℕ × List Member). length p.1) pair rolls in
    let roll : AreMembers 0 most pair.1 = record {
      enough = omega arith;
      few = omega (arith, more, few);
      allowed = all.0.1.allowed;
      ascending = all.0.1.ascending;
    } in
    ((all.0.0, roll), allowed_beside most rolls (omega (arith, more, few)) all.1)

-- and each that has members has at most so many
sizes : (most : ℕ) (summaries : Summaries) (rolls : Rolls) → members_in rolls ≤ most → AllByRecursion (IsListed summaries) rolls
    → AllByRecursion (λ (pair : ℕ × List Member). IsFromTo 1 most (length pair.1)) rolls
sizes most summaries [] few all = tt
sizes most summaries (pair ∷ rolls) few all =
    let more = sum_by-cons (λ (p : ℕ × List Member). length p.1) pair rolls in
    ((omega (arith, all.0.some), omega (arith, more, few)), sizes most summaries rolls (omega (arith, more, few)) all.1)

-- the known rolls of a view have members, and none has too many
pub sizes-known : (view : Picture) → IsView view
    → AllByRecursion (λ (pair : ℕ × List Member). IsFromTo 1 most_members (length pair.1)) view.rolls
sizes-known view is = sizes most_members view.summaries view.rolls is.size.members is.listed

-- one pair at most is in order
IsByRegion-one : (found : Option (ℕ × List Member)) → IsByRegion (option_to_list found)
IsByRegion-one None = tt
IsByRegion-one (Some pair) = (tt, tt)

-- what is kept of rolls in order is in order
IsByRegion-kept : (me : ℕ) (mode : Mode) (rolls : Rolls) → IsByRegion rolls → IsByRegion (kept me mode rolls)
IsByRegion-kept me Full rolls up = up
IsByRegion-kept me Partial rolls up = IsByRegion-one (holder me rolls)

-- ---- pictures
-- a view of allowed summaries and rolls is a picture: its rolls are no more than its summaries
IsPicture-view : (p : Picture) → IsView p → IsRegion p.epoch → AllByRecursion (IsBeside IsShortSummary 0) p.summaries → IsByRegion p.summaries
    → AllByRecursion IsPair p.rolls → IsByRegion p.rolls → IsPicture p
IsPicture-view p view epoch summaries up pairs pairs_up =
    let there : AllByRecursion (λ (pair : ℕ × List Member). is_some (at_region pair.0 p.summaries) ≡ true) p.rolls =
    All-weaker (IsListed p.summaries) (λ (pair : ℕ × List Member). is_some (at_region pair.0 p.summaries) ≡ true) (λ pair listed. ap is_some listed.summary)
    p.rolls view.listed in
    let fewer : length p.rolls ≤ length p.summaries = length-listed p.rolls p.summaries pairs_up there in
    record {
      epoch = epoch;
      summaries = record { enough = omega (arith, view.size.some); few = view.size.few; allowed = summaries; ascending = up };
      rolls = record {
        few = omega (arith, fewer, view.size.few);
        allowed = allowed_beside most_members p.rolls view.size.members pairs;
        ascending = pairs_up;
        members = view.size.members;
      };
    }

-- what is taken from a picture is one
pub IsPicture-taken : (me : ℕ) (mode : Mode) (p view : Picture) → IsPicture p → taken me mode p ≡ Ok view → IsPicture view
IsPicture-taken me mode p view is took =
    let whole = without_fault (picture_fault me p) (view_from me mode p) view took in
    subst IsPicture whole.1
    (IsPicture-view (view_from me mode p) (IsView-taken me mode p whole.0) is.epoch is.summaries.allowed is.summaries.ascending
    (All-kept IsPair me mode p.rolls (pairs-allowed p.rolls is.rolls)) (IsByRegion-kept me mode p.rolls is.rolls.ascending))

-- at most one pair is found
length-found : (found : Option (ℕ × List Member)) → length (option_to_list found) ≤ 1
length-found None = omega arith
length-found (Some pair) = omega arith

-- what is shown of a picture is one
pub IsPicture-shown : (only : Option ℕ) (view : Picture) → IsPicture view → IsPicture (shown only view)
IsPicture-shown None view is = is
IsPicture-shown (Some region) view is =
    let its : ℕ × List Member → Bool = λ pair. pair.0 == region in
    record {
      epoch = is.epoch;
      summaries = is.summaries;
      rolls = record {
        few = omega (arith, length-found (find its view.rolls));
        allowed = All-found (IsBeside (AreMembers 0 most_members) 0) its view.rolls is.rolls.allowed;
        ascending = IsByRegion-one (find its view.rolls);
        members = omega (arith, members_in-found its view.rolls, is.rolls.members);
      };
    }

-- ---- the rolls of a step
-- a roll with allowed members put in is a roll
IsRoll-with_members : (here members : List Member) → AllByRecursion IsMember here → IsRoll members
    → IsRoll (fold (λ before m. with_member m before) members here)
IsRoll-with_members [] members allowed is = is
IsRoll-with_members (m ∷ here) members allowed is =
    IsRoll-with_members here (with_member m members) allowed.1 (IsOrderedBy-placed member_id IsMember m members allowed.0 is)

-- what a roll becomes by a part is a roll
IsRoll-changed : (gone : List ℕ) (here roll : List Member) → AllByRecursion IsMember here → IsRoll roll → IsRoll (changed gone here roll)
IsRoll-changed gone here roll allowed is =
    let stays : Member → Bool = λ m. not (is_among gone m.id) in
    IsRoll-with_members here (filter stays roll) allowed (IsOrderedBy-filter member_id IsMember stays roll is)

-- a roll that is cut has two allowed parts
pairs-cut : (region : ℕ) (roll : List Member) (cut : Option Cut) → IsRegion region → IsRoll roll → IfSome cut IsCut
    → AllByRecursion IsPair (cut_in_two region roll cut)
pairs-cut region roll None number is allowed = ((number, is), tt)
pairs-cut region roll (Some cut) number is allowed =
    ((number, IsRoll-lower cut.split roll is), ((allowed.upper, IsRoll-upper cut.split roll is), tt))

-- a region of which nothing changed gives an allowed pair
pairs-unchanged : (head : Head) (pair : ℕ × List Member) → IsPair pair → AllByRecursion IsPair (unchanged head pair)
pairs-unchanged head pair is =
    cond_both (is_among head.dropped pair.0) [] (pair ∷ []) (AllByRecursion IsPair) (λ _. tt) (λ _. (is, tt))

-- a region that changed by an allowed part gives allowed pairs
pairs-by_kind : (rolls : Rolls) (head : Head) (pair : ℕ × List Member) (cut : Option Cut) (kind : PartKind) → IsPair pair → IsKind kind cut
    → IfSome cut IsCut → AllByRecursion IsPair (given_by_kind rolls head pair cut kind)
pairs-by_kind rolls head pair cut Same is allowed cuts = pairs-unchanged head pair is
pairs-by_kind rolls head pair cut (Diff gone here) is allowed cuts =
    pairs-cut pair.0 (changed gone here pair.1) cut is.0 (IsRoll-changed gone here pair.1 allowed.1.allowed is.1) cuts
pairs-by_kind rolls head pair cut (Whole into roll) is allowed cuts =
    cond_both (is_known rolls into) [] (cut_in_two into roll cut) (AllByRecursion IsPair) (λ _. tt)
    (λ _. pairs-cut into roll cut allowed.0 (IsRoll-members most_members roll allowed.1) cuts)

-- and so does a touched region, whether it has a part or none
pairs-by_part : (rolls : Rolls) (head : Head) (pair : ℕ × List Member) (part : Option Part) → IsPair pair → IfSome part IsPart
    → AllByRecursion IsPair (given_by_part rolls head pair part)
pairs-by_part rolls head pair None is allowed = tt
pairs-by_part rolls head pair (Some part) is allowed = pairs-by_kind rolls head pair part.cut part.kind is allowed.kind allowed.cut

-- what is found of allowed parts is allowed
part-allowed : (region : ℕ) (parts : List Part) → AllByRecursion IsPart parts → IfSome (part_of region parts) IsPart
part-allowed region parts all = by_part (part_of region parts) refl
  where
    by_part : (found : Option Part) → part_of region parts ≡ found → IfSome found IsPart
    by_part None e = tt
    by_part (Some part) e = All-find IsPart (λ (p : Part). p.region == region) parts part all e

-- so each known region does
pairs-given : (rolls : Rolls) (head : Head) (parts : List Part) (pair : ℕ × List Member) → AllByRecursion IsPart parts → IsPair pair
    → AllByRecursion IsPair (given rolls head parts pair)
pairs-given rolls head parts pair all is =
    cond_both (is_among head.touched pair.0) (given_by_part rolls head pair (part_of pair.0 parts)) (unchanged head pair) (AllByRecursion IsPair)
    (λ _. pairs-by_part rolls head pair (part_of pair.0 parts) is (part-allowed pair.0 parts all)) (λ _. pairs-unchanged head pair is)

-- and all of them together
pairs-all_given : (rolls some : Rolls) (head : Head) (parts : List Part) → AllByRecursion IsPart parts → AllByRecursion IsPair some
    → AllByRecursion IsPair (flat_map (given rolls head parts) some)
pairs-all_given rolls [] head parts all is = tt
pairs-all_given rolls (pair ∷ some) head parts all is =
    All-append IsPair (given rolls head parts pair) (flat_map (given rolls head parts) some) (pairs-given rolls head parts pair all is.0)
    (pairs-all_given rolls some head parts all is.1)

-- so the next rolls are allowed
pairs-next : (rolls : Rolls) (head : Head) (parts : List Part) → AllByRecursion IsPart parts → AllByRecursion IsPair rolls
    → AllByRecursion IsPair (next_rolls rolls head parts)
pairs-next rolls head parts all is =
    All-placed_each IsPair (flat_map (given rolls head parts) rolls) [] (pairs-all_given rolls rolls head parts all is) tt

-- ---- the next view
-- what a picture steps to by a well-formed head and parts is a picture
pub IsPicture-next : (me : ℕ) (mode : Mode) (view : Picture) (head : Head) (parts : List Part) (after : Picture) → IsPicture view → IsHead head
    → AllByRecursion IsPart parts → step me mode view head parts ≡ Ok (next.Member after) → IsPicture after
IsPicture-next me mode view head parts after is is_head all steps =
    let goes = goes_on me mode view head parts after steps in
    let stays : ℕ × RegionSummary → Bool = λ p. not (is_among head.dropped p.0) in
    let old : Summaries = filter stays view.summaries in
    let rolls : Rolls = next_rolls view.rolls head parts in
    subst IsPicture goes.1
    (IsPicture-view (next_view me mode view head parts)
    (IsView-stepped me mode view head parts (faultless me mode view head parts (next.Member after) steps) goes.0)
    (omega arith, is_head.epoch.1)
    (All-placed_each (IsBeside IsShortSummary 0) head.summaries old is_head.lists.summaries.allowed
    (All-of_filter (IsBeside IsShortSummary 0) stays view.summaries is.summaries.allowed))
    (IsByRegion-placed_each head.summaries old (IsAscendingBy-filter (λ (p : ℕ × RegionSummary). p.0) stays view.summaries is.summaries.ascending))
    (All-kept IsPair me mode rolls (pairs-next view.rolls head parts all (pairs-allowed view.rolls is.rolls)))
    (IsByRegion-kept me mode rolls (IsByRegion-placed_each (flat_map (given view.rolls head parts) view.rolls) [] tt)))

-- ---- places
-- what stands in a place of a picture is allowed
pub place-well_formed : (id : ℕ) (view : Picture) → IsPicture view → IfSome (place_in id view) (λ (place : ℕ × Member). IsMember place.1)
place-well_formed id view is =
    place-allowed id view (pairs-allowed view.rolls is.rolls)
    (All-weaker (IsBeside IsShortSummary 0) (λ (pair : ℕ × RegionSummary). IsRegion pair.0 × IsSummary pair.1) (λ pair allowed. (allowed.0, allowed.1.summary))
    view.summaries is.summaries.allowed)
