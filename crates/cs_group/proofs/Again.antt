-- The accepted changes are accepted again, and lead to the same turn.
use Rattle.std.proofs.Common.{◌≡◌, Bool, true, false, if◌then◌else◌, List, [], ◌∷◌, Option, Some, None, refl, ap, sym, ◌∙◌}
use Rattle.std.specs.Option.{option_map}
use Rattle.cs_base.specs.declared.change.Change.{Change}
use Rattle.cs_near.specs.declared.keyed.RegionSum.{RegionSum}
use Rattle.cs_group.specs.declared.next.Turn.{Turn}
use Rattle.cs_group.specs.declared.verdict.Verdict.{Verdict}
use Rattle.cs_group.specs.declared.verdict.Verdict.TheVariants.{Accepted, Retired, Present, Full, Absent, Leader, Stale}
use Rattle.cs_group.specs.Cut.{cut_due}
use Rattle.cs_group.specs.Group.{GroupState}
use Rattle.cs_group.specs.Judging.{accepted, after_change, all_accepted, is_accepted, item_of, judged, verdict_on, verdicts_on}
use Rattle.cs_group.specs.Merge.{merge_due}
use Rattle.cs_group.specs.Next.{cut_group, is_spent, merged_group, next_turn, with_all_accepted}
use Rattle.cs_group.specs.Place.{region_sums}
use Rattle.cs_group.specs.Taking.{with_change, with_item}

-- the one verdict that is accepted
accepted-is : (v : Verdict) → is_accepted v ≡ true → v ≡ Accepted
accepted-is Accepted e = refl
accepted-is Retired e = absurd (cc)
accepted-is Present e = absurd (cc)
accepted-is Full e = absurd (cc)
accepted-is Absent e = absurd (cc)
accepted-is Leader e = absurd (cc)
accepted-is Stale e = absurd (cc)

module _ (sums : List RegionSum) where
  -- an accepted change leaves the group with it
  pub after-accepted : (g : GroupState) (c : Change) → is_accepted (verdict_on g c) ≡ true → after_change sums g c ≡ with_change sums g c
  after-accepted g c e = rw e refl

  -- and a refused one leaves it as it was
  pub after-refused : (g : GroupState) (c : Change) → is_accepted (verdict_on g c) ≡ false → after_change sums g c ≡ g
  after-refused g c e = rw e refl

  -- the accepted changes of a list, the first of which is accepted
  pub accepted-first : (g : GroupState) (c : Change) (cs : List Change) → is_accepted (verdict_on g c) ≡ true
      → accepted (judged sums g (c ∷ cs)) ≡ c ∷ accepted (judged sums (after_change sums g c) cs)
  accepted-first g c cs e = rw e refl

  -- and of one, the first of which is refused
  pub accepted-rest : (g : GroupState) (c : Change) (cs : List Change) → is_accepted (verdict_on g c) ≡ false
      → accepted (judged sums g (c ∷ cs)) ≡ accepted (judged sums (after_change sums g c) cs)
  accepted-rest g c cs e = rw e refl

  -- the group after the first, with the accepted ones of the others, is the group with all accepted ones
  pub taken-later : (g : GroupState) (c : Change) (cs : List Change)
      → with_item sums (after_change sums g c) (accepted (judged sums (after_change sums g c) cs))
      ≡ with_item sums g (accepted (judged sums g (c ∷ cs)))
  taken-later g c cs = go (is_accepted (verdict_on g c)) refl
    where
      later : List Change
      later = accepted (judged sums (after_change sums g c) cs)

      go : (b : Bool) → is_accepted (verdict_on g c) ≡ b
          → with_item sums (after_change sums g c) later ≡ with_item sums g (accepted (judged sums g (c ∷ cs)))
      go true e = ap (λ h. with_item sums h later) (after-accepted g c e) ∙ ap (with_item sums g) (sym (accepted-first g c cs e))
      go false e = ap (λ h. with_item sums h later) (after-refused g c e) ∙ ap (with_item sums g) (sym (accepted-rest g c cs e))

  -- each accepted change is accepted among them alone
  pub judged-again : (g : GroupState) (changes : List Change)
      → judged sums g (accepted (judged sums g changes)) ≡ all_accepted (accepted (judged sums g changes))
  judged-again g [] = refl
  judged-again g (c ∷ cs) = go (is_accepted (verdict_on g c)) refl (judged-again (after_change sums g c) cs)
    where
      go : (b : Bool) → is_accepted (verdict_on g c) ≡ b
          → judged sums (after_change sums g c) (accepted (judged sums (after_change sums g c) cs))
          ≡ all_accepted (accepted (judged sums (after_change sums g c) cs))
          → judged sums g (accepted (judged sums g (c ∷ cs))) ≡ all_accepted (accepted (judged sums g (c ∷ cs)))
      go true e rest =
          let item = accepted-first g c cs e in
          let first : verdict_on g c ≡ Accepted = accepted-is (verdict_on g c) e in
          rw item (cc)
      go false e rest =
          let item = accepted-rest g c cs e in
          let same = after-refused g c e in
          rw item (ap (λ h. judged sums h (accepted (judged sums (after_change sums g c) cs))) (sym same) ∙ rest)

-- changes that are all accepted are the item
accepted-all : (changes : List Change) → accepted (all_accepted changes) ≡ changes
accepted-all [] = refl
accepted-all (c ∷ cs) = ap (λ rest. c ∷ rest) (accepted-all cs)

-- a turn is read off the item, but for its verdicts
abbrev pub turn_by : GroupState → List (Change × Verdict) → List Change → Option Turn
turn_by g verdicts item =
    let taken = with_item (region_sums g.rows) g item in
    let before = merged_group taken in
    let cut = cut_due before.next_region before.rows in
    if is_spent before then None
    else Some (record { group = cut_group cut before; verdicts = verdicts; item = item; merged = merge_due taken.rows; cut = cut })

-- so with other verdicts it is the same
turn_by-again : (g : GroupState) (verdicts : List (Change × Verdict)) (item : List Change)
    → turn_by g (all_accepted item) item ≡ option_map with_all_accepted (turn_by g verdicts item)
turn_by-again g verdicts item = go (is_spent (merged_group (with_item (region_sums g.rows) g item))) refl
  where
    go : (b : Bool) → is_spent (merged_group (with_item (region_sums g.rows) g item)) ≡ b
        → turn_by g (all_accepted item) item ≡ option_map with_all_accepted (turn_by g verdicts item)
    go true e = rw e refl
    go false e = rw e refl

-- and the item has the accepted changes as its item again
pub same-turn : (g : GroupState) (changes : List Change) → next_turn g (item_of g changes) ≡ option_map with_all_accepted (next_turn g changes)
same-turn g changes =
    let item = item_of g changes in
    let verdicts : verdicts_on g item ≡ all_accepted item = judged-again (region_sums g.rows) g changes in
    ap (λ v. turn_by g v (accepted v)) verdicts ∙ (ap (turn_by g (all_accepted item)) (accepted-all item) ∙ turn_by-again g (verdicts_on g changes) item)
