-- The group of each epoch: it is a group, stays the same as items are added, and is followed by that of a turn.
use Rattle.std.proofs.Common.{◌≡◌, ◌==◌, ℕ, zero, suc, ◌+◌, ◌≤◌, Bool, true, false, List, [], ◌∷◌, ◌++◌, length, take, Option, Some, None, refl}
use Rattle.std.proofs.Common.{sym, ap, subst, ◌∙◌, arith, inl, inr}
use Rattle.std.specs.List.{AllByRecursion, fold}
use Rattle.std.specs.Option.{IsSome, option_map}
use Rattle.std.proofs.Math.Seq.{take-append-add, take-length}
use Rattle.std.proofs.lemmas.Bool.{or_left, eq-eqb, cases_Bool}
use Rattle.std.proofs.lemmas.List.{take-append-le}
use Rattle.std.proofs.lemmas.List.Sums.{fold-append}
use Rattle.cs_base.specs.Ranges.{IsChange, IsMember}
use Rattle.cs_base.specs.declared.change.Change.{Change}
use Rattle.cs_base.specs.declared.change.Change.TheVariants.{Join, Move, Leave}
use Rattle.cs_base.specs.declared.member.Member.{Member}
use Rattle.cs_base.proofs.Elements.{All-take}
use Rattle.cs_group.specs.declared.next.Turn.{Turn}
use Rattle.cs_group.specs.Group.{GroupState, IsGroup, first_group}
use Rattle.cs_group.specs.History.{next_group, group_at}
use Rattle.cs_group.specs.Judging.{item_of}
use Rattle.cs_group.specs.Cut.{cut_due}
use Rattle.cs_group.specs.Next.{before_cut, cut_group, is_spent, next_turn, with_all_accepted}
use Rattle.cs_group.specs.Taking.{FitsRow}
use Rattle.cs_group.proofs.Again.{same-turn}
use Rattle.cs_group.proofs.Lists.{ByRecursion-weaken}
use Rattle.cs_group.proofs.Sound.{IsGroup-next}

-- the leader alone is a group
pub IsGroup-first : (leader : Member) → IsMember leader → IsGroup (first_group leader)
IsGroup-first leader allowed = record {
  staffed = record {
    in_order = (tt, tt);
    distinct = (tt, tt);
    allowed = (record { region = (omega arith, omega arith); member = allowed; seq = (omega arith, omega arith) }, tt);
    retired_ascend = tt;
    none_retired = (refl, tt);
    few_members = omega arith;
    few_together = omega arith;
    leader_there = or_left (leader.id == leader.id) false (eq-eqb leader.id leader.id refl);
  };
  numbered = (omega arith, tt);
  next_number = omega arith;
  few_regions = omega arith;
}

-- an allowed change fits a row
pub FitsRow-allowed : (c : Change) → IsChange c → FitsRow c
FitsRow-allowed (Join member) is = is
FitsRow-allowed (Move id seq at) is = ((omega arith, is.1.1), is.2)
FitsRow-allowed (Leave id) is = tt

-- the group of a turn is one
IsGroup-turn : (g h : GroupState) (item : List Change) → AllByRecursion IsChange item → IsGroup g → next_group (Some g) item ≡ Some h → IsGroup h
IsGroup-turn g h item allowed is e = elim (cases_Bool (is_spent (before_cut g item))) [
  | inl spent ↦ absurd (let none : next_group (Some g) item ≡ None = rw spent refl in cc)
  | inr left ↦ subst IsGroup (the_group left) (IsGroup-next g item (ByRecursion-weaken IsChange FitsRow FitsRow-allowed item allowed) is left)
]
  where
    the_group : is_spent (before_cut g item) ≡ false
        → cut_group (cut_due (before_cut g item).next_region (before_cut g item).rows) (before_cut g item) ≡ h
    the_group left =
        let before : GroupState = before_cut g item in
        let some : next_group (Some g) item ≡ Some (cut_group (cut_due before.next_region before.rows) before) = rw left refl in
        cc

-- without a group there is none later
none-later : (items : List (List Change)) → fold next_group None items ≡ None
none-later [] = refl
none-later (item ∷ items) = none-later items

-- each later group is one
IsGroup-later : (items : List (List Change)) (g h : GroupState) → AllByRecursion (AllByRecursion IsChange) items → IsGroup g
    → fold next_group (Some g) items ≡ Some h → IsGroup h
IsGroup-later [] g h allowed is e = (let same : g ≡ h = cc in subst IsGroup same is)
IsGroup-later (item ∷ items) g h allowed is e = go (next_group (Some g) item) refl (λ k is_group later. IsGroup-later items k h allowed.1 is_group later)
  where
    go : (o : Option GroupState) → next_group (Some g) item ≡ o
        → ((k : GroupState) → IsGroup k → fold next_group (Some k) items ≡ Some h → IsGroup h) → IsGroup h
    go None none later_group =
        absurd (let later : fold next_group (Some g) (item ∷ items) ≡ None = ap (λ o. fold next_group o items) none ∙ none-later items in cc)
    go (Some k) some later_group = later_group k (IsGroup-turn g k item allowed.0 is some) (sym (ap (λ o. fold next_group o items) some) ∙ e)

pub IsGroup-at : (leader : Member) (items : List (List Change)) (epoch : ℕ) (g : GroupState) → IsMember leader
    → AllByRecursion (AllByRecursion IsChange) items → group_at leader items epoch ≡ Some g → IsGroup g
IsGroup-at leader items epoch g is allowed e =
    IsGroup-later (take epoch items) (first_group leader) g (All-take (AllByRecursion IsChange) epoch items allowed) (IsGroup-first leader is) e

-- so a group stays when items are added
pub group_at-longer : (leader : Member) (items more : List (List Change)) (epoch : ℕ) → epoch ≤ length items
    → group_at leader (items ++ more) epoch ≡ group_at leader items epoch
group_at-longer leader items more epoch le = ap (fold next_group (Some (first_group leader))) (take-append-le epoch items more le)

-- the groups before a group
some-before : (o : Option GroupState) (items : List (List Change)) (epoch later : ℕ) → epoch ≤ later → IsSome (fold next_group o (take later items))
    → IsSome (fold next_group o (take epoch items))
some-before (Some g) items zero later le some = refl
some-before None items zero later le some = absurd (let none = none-later (take later items) in (cc))
some-before o items (suc epoch) zero le some = absurd (omega arith)
some-before o [] (suc epoch) (suc later) le some = some
some-before o (item ∷ items) (suc epoch) (suc later) le some = some-before (next_group o item) items epoch later (omega arith) some

pub group_at-before : (leader : Member) (items : List (List Change)) (epoch later : ℕ) → epoch ≤ later → IsSome (group_at leader items later)
    → IsSome (group_at leader items epoch)
group_at-before leader items epoch later le some = some-before (Some (first_group leader)) items epoch later le some

-- the item of a turn
turn-item : (g : GroupState) (changes : List Change) (turn : Turn) → next_turn g changes ≡ Some turn → turn.item ≡ item_of g changes
turn-item g changes turn made = go (is_spent (before_cut g changes)) refl
  where
    go : (b : Bool) → is_spent (before_cut g changes) ≡ b → turn.item ≡ item_of g changes
    go true e = absurd (let none : next_turn g changes ≡ None = rw e refl in cc)
    go false e =
        let item : option_map (λ (t : Turn). t.item) (next_turn g changes) ≡ Some (item_of g changes) = rw e refl in
        let same : Some turn.item ≡ Some (item_of g changes) = sym (ap (option_map (λ (t : Turn). t.item)) made) ∙ item in
        cc

-- one more item
pub group_at-more : (leader : Member) (items : List (List Change)) (item : List Change)
    → group_at leader (items ++ item ∷ []) (length items + 1) ≡ next_group (group_at leader items (length items)) item
group_at-more leader items item =
    let first = Some (first_group leader) in
    ap (fold next_group first) (take-append-add items (item ∷ []) 1) ∙ fold-append next_group first items (item ∷ [])
    ∙ ap (λ (front : List (List Change)). next_group (fold next_group first front) item) (sym (take-length items))

-- the next group is that of the turn
pub group_at-turn : (leader : Member) (items : List (List Change)) (changes : List Change) (g : GroupState) (turn : Turn)
    → group_at leader items (length items) ≡ Some g → next_turn g changes ≡ Some turn
    → group_at leader (items ++ turn.item ∷ []) (length items + 1) ≡ Some turn.group
group_at-turn leader items changes g turn before made =
    let again : next_turn g turn.item ≡ Some (with_all_accepted turn) =
    ap (next_turn g) (turn-item g changes turn made) ∙ (same-turn g changes ∙ ap (option_map with_all_accepted) made) in
    group_at-more leader items turn.item
    ∙ (ap (λ o. next_group o turn.item) before ∙ ap (option_map (λ (t : Turn). t.group)) again)
