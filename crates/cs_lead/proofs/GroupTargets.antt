-- What a leader sees of a group are members of it, and so are those that its pieces start at.
use Rattle.std.proofs.Common.{◌≡◌, ◌==◌, ℕ, true, List, [], ◌∷◌, Option, Some, None, Contains, refl, sym, ap, subst, inl, inr}
use Rattle.std.specs.List.{AllByRecursion, filter, find}
use Rattle.std.specs.Option.{option_map}
use Rattle.std.proofs.lemmas.Bool.{eq-eqb, or_left, or_right}
use Rattle.std.proofs.lemmas.List.Elements.{All-contains, All-from_recursion}
use Rattle.std.proofs.lemmas.Option.{none-some, same_Some}
use Rattle.cs_base.specs.Limits.{most_globals}
use Rattle.cs_base.specs.declared.member.Member.{Member}
use Rattle.cs_base.proofs.Ascending.{All-of_filter}
use Rattle.cs_base.proofs.Elements.{All-changed, All-find, All-map, All-take, All-weaker}
use Rattle.cs_group.specs.Group.{GroupState, is_among}
use Rattle.cs_group.specs.Rows.{has_member, members_in, regions}
use Rattle.cs_group.specs.declared.row.Row.{Row}
use Rattle.cs_item.specs.declared.picture.Picture.{Picture}
use Rattle.cs_roll.specs.Sight.{at_region}
use Rattle.cs_roll.specs.Summary.{RegionSummary}
use Rattle.cs_slicer.proofs.Beside.{beside}
use Rattle.cs_slicer.proofs.Summaries.{summary_in}
use Rattle.cs_tree.specs.Route.{Target, target_id}
use Rattle.cs_tree.specs.Seen.{IsSeen}
use Rattle.cs_tree.specs.Start.{start}
use Rattle.cs_tree.proofs.SeenTargets.{seen-start}
use Rattle.cs_lead.specs.Kept.{IsLeading}
use Rattle.cs_lead.specs.Laws.{StartsAtMembers}
use Rattle.cs_lead.specs.Leading.{Leading, whole_view}

-- what holds of all that stands beside regions holds of what stands beside one
All-at_region : {T : Type 0} (P : T → Type 0) (region : ℕ) (pairs : List (ℕ × T)) (x : T) → AllByRecursion (λ pair. P pair.1) pairs
    → at_region region pairs ≡ Some x → P x
All-at_region {T} P region pairs x all found = by (find (λ (pair : ℕ × T). pair.0 == region) pairs) refl found
  where
    by : (o : Option (ℕ × T)) → find (λ (pair : ℕ × T). pair.0 == region) pairs ≡ o → option_map (λ (pair : ℕ × T). pair.1) o ≡ Some x → P x
    by None is e = absurd (none-some x e)
    by (Some pair) is e =
        subst P (same_Some pair.1 x e) (All-find (λ (p : ℕ × T). P p.1) (λ (p : ℕ × T). p.0 == region) pairs pair all is)

-- the member has a row
abbrev HasRow : List Row → Member → Type 0
HasRow rows m = has_member m.id rows ≡ true

-- so has the member of each row
has-own : (rows : List Row) → AllByRecursion (λ (r : Row). HasRow rows r.member) rows
has-own [] = tt
has-own (r ∷ rs) = (
  or_left (r.member.id == r.member.id) (has_member r.member.id rs) (eq-eqb r.member.id r.member.id refl),
  All-weaker (λ (s : Row). HasRow rs s.member) (λ s. HasRow (r ∷ rs) s.member)
      (λ s some. or_right (r.member.id == s.member.id) (has_member s.member.id rs) some) rs (has-own rs),
)

-- and each member of a region
has-members_in : (rows : List Row) (region : ℕ) → AllByRecursion (HasRow rows) (members_in region rows)
has-members_in rows region =
    let mine = filter (λ (r : Row). r.region == region) rows in
    All-changed (λ (r : Row). HasRow rows r.member) (HasRow rows) (λ (r : Row). r.member) (λ r has. has) mine
    (All-of_filter (λ (r : Row). HasRow rows r.member) (λ (r : Row). r.region == region) rows (has-own rows))

module _ (view : Picture) (group : GroupState) (whole : view ≡ whole_view view.epoch group) where
  -- so have those that a view of the whole group names in its summaries
  globals-have : AllByRecursion (λ (pair : ℕ × RegionSummary). AllByRecursion (HasRow group.rows) pair.1.globals) view.summaries
  globals-have =
      let P : ℕ × RegionSummary → Type 0 = λ pair. AllByRecursion (HasRow group.rows) pair.1.globals in
      subst (λ (p : Picture). AllByRecursion P p.summaries) (sym whole)
      (All-map P (beside (summary_in group.rows))
      (λ region. All-take (HasRow group.rows) most_globals (members_in region group.rows) (has-members_in group.rows region)) (regions group.rows))

  -- and those in its rolls
  rolls-have : AllByRecursion (λ (pair : ℕ × List Member). AllByRecursion (HasRow group.rows) pair.1) view.rolls
  rolls-have =
      let P : ℕ × List Member → Type 0 = λ pair. AllByRecursion (HasRow group.rows) pair.1 in
      subst (λ (p : Picture). AllByRecursion P p.rolls) (sym whole)
      (All-map P (beside (λ region. members_in region group.rows)) (has-members_in group.rows)
      (filter (λ region. is_among (regions group.rows) region) (regions group.rows)))

  -- so has each of such members
  has-one : (ms : List Member) (m : Member) → AllByRecursion (HasRow group.rows) ms → Contains ms m → HasRow group.rows m
  has-one ms m all one = All-contains (HasRow group.rows) ms m (All-from_recursion (HasRow group.rows) ms all) one

  -- so a target that is seen is a member
  has-seen : (target : Target) → IsSeen view.summaries view.rolls target → has_member target.0 group.rows ≡ true
  has-seen target seen =
      let Here : ℕ → Type 0 = λ id. has_member id group.rows ≡ true in
      let AllHave : List Member → Type 0 = λ ms. AllByRecursion (HasRow group.rows) ms in
      let of_globals : RegionSummary → Type 0 = λ s. AllHave s.globals in
      subst Here (sym (ap target_id seen.is)) (elim seen.seen [
        | inl global ↦ has-one global.summary.globals seen.member
            (All-at_region of_globals global.region view.summaries global.summary globals-have global.listed) global.global
        | inr there ↦ has-one there.roll seen.member (All-at_region AllHave there.region view.rolls there.roll rolls-have there.known) there.stands
      ])

-- and the pieces start at such targets
pub starts-at_members : (leader : Leading) (region colour : ℕ) → IsLeading leader → StartsAtMembers leader region colour
starts-at_members leader region colour is =
    let view = leader.view in
    All-weaker (IsSeen view.summaries view.rolls) (λ (target : Target). has_member target.0 leader.group.rows ≡ true)
    (has-seen view leader.group is.view) (start leader.me.id view.summaries view.rolls region colour)
    (seen-start view.summaries view.rolls leader.me.id region colour)
