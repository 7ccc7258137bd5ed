-- What is made of some changes by the next turn of a group is a turn of that group.
use Rattle.std.proofs.Common.{◌≡◌, ◌≢◌, ◌≤◌, Bool, true, false, List, [], ◌∷◌, length, Some, None, refl, ap, sym, subst, ◌∙◌, arith}
use Rattle.std.specs.List.{AllByRecursion}
use Rattle.std.specs.Option.{option_map}
use Rattle.std.proofs.lemmas.Option.{none-some, same_Some}
use Rattle.cs_base.specs.Ascending.{IsDistinctBy}
use Rattle.cs_base.specs.Changes.{id_of}
use Rattle.cs_base.specs.Limits.{most_changes}
use Rattle.cs_base.specs.declared.change.Change.{Change}
use Rattle.cs_near.specs.declared.keyed.RegionSum.{RegionSum}
use Rattle.cs_group.specs.Group.{GroupState}
use Rattle.cs_group.specs.Judging.{accepted, after_change, is_accepted, item_of, judged, verdict_on}
use Rattle.cs_group.specs.Next.{before_cut, is_spent, next_turn, with_all_accepted}
use Rattle.cs_group.specs.Place.{region_sums}
use Rattle.cs_group.specs.declared.next.Turn.{Turn}
use Rattle.cs_group.proofs.Again.{accepted-first, accepted-rest, same-turn}
use Rattle.cs_slicer.specs.Turn.{IsTurnOf}
use Rattle.cs_slicer.proofs.Leavers.{length-item_of}

module _ (sums : List RegionSum) where
  -- what holds of each change holds of each accepted one
  pub All-accepted : (P : Change → Type 0) (changes : List Change) (g : GroupState) → AllByRecursion P changes
      → AllByRecursion P (accepted (judged sums g changes))
  All-accepted P [] g all = tt
  All-accepted P (c ∷ cs) g all = go (is_accepted (verdict_on g c)) refl (All-accepted P cs (after_change sums g c) all.1)
    where
      go : (b : Bool) → is_accepted (verdict_on g c) ≡ b → AllByRecursion P (accepted (judged sums (after_change sums g c) cs))
          → AllByRecursion P (accepted (judged sums g (c ∷ cs)))
      go true e rest = subst (AllByRecursion P) (sym (accepted-first sums g c cs e)) (all.0, rest)
      go false e rest = subst (AllByRecursion P) (sym (accepted-rest sums g c cs e)) rest

  -- the accepted ones of distinct changes are distinct
  distinct-accepted : (changes : List Change) (g : GroupState) → IsDistinctBy id_of changes → IsDistinctBy id_of (accepted (judged sums g changes))
  distinct-accepted [] g apart = tt
  distinct-accepted (c ∷ cs) g apart = go (is_accepted (verdict_on g c)) refl (distinct-accepted cs (after_change sums g c) apart.1)
    where
      go : (b : Bool) → is_accepted (verdict_on g c) ≡ b → IsDistinctBy id_of (accepted (judged sums (after_change sums g c) cs))
          → IsDistinctBy id_of (accepted (judged sums g (c ∷ cs)))
      go true e rest =
          subst (IsDistinctBy id_of) (sym (accepted-first sums g c cs e))
          (All-accepted (λ d. id_of c ≢ id_of d) cs (after_change sums g c) apart.0, rest)
      go false e rest = subst (IsDistinctBy id_of) (sym (accepted-rest sums g c cs e)) rest

-- the item of a turn is what was accepted
pub turn-item : (g : GroupState) (changes : List Change) (turn : Turn) → next_turn g changes ≡ Some turn → turn.item ≡ item_of g changes
turn-item g changes turn made = go (is_spent (before_cut g changes)) refl
  where
    go : (b : Bool) → is_spent (before_cut g changes) ≡ b → turn.item ≡ item_of g changes
    go true e = absurd (let none : next_turn g changes ≡ None = rw e refl in none-some turn (sym none ∙ made))
    go false e =
        let item : option_map (λ (t : Turn). t.item) (next_turn g changes) ≡ Some (item_of g changes) = rw e refl in
        same_Some turn.item (item_of g changes) (sym (ap (option_map (λ (t : Turn). t.item)) made) ∙ item)

-- so it is a turn of the group
pub IsTurnOf-next : (g : GroupState) (changes : List Change) (turn : Turn) → IsDistinctBy id_of changes → length changes ≤ most_changes
    → next_turn g changes ≡ Some turn → IsTurnOf g turn
IsTurnOf-next g changes turn apart few made =
    let item = turn-item g changes turn made in
    record {
      distinct = subst (IsDistinctBy id_of) (sym item) (distinct-accepted (region_sums g.rows) changes g apart);
      few = omega (arith, few, ap length item, length-item_of g changes);
      next = ap (next_turn g) item ∙ (same-turn g changes ∙ ap (option_map with_all_accepted) made);
    }
