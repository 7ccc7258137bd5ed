-- The turn that was made is the next one, and the fault tells where there is none.
use Rattle.std.proofs.Common.{◌≡◌, ℕ, ◌<◌, nat_lt, true, false, List, [], ◌∷◌, Option, Some, None, refl, ap, sym, subst, ◌∙◌}
use Rattle.std.proofs.lemmas.Bool.{and_parts, ltb-true}
use Rattle.std.specs.Option.{is_some}
use Rattle.cs_base.specs.Axes.{Axes}
use Rattle.cs_base.specs.Limits.{last_number}
use Rattle.cs_base.specs.declared.change.Change.{Change}
use Rattle.cs_base.specs.declared.change.Change.TheVariants.{Join, Move, Leave}
use Rattle.cs_near.specs.declared.keyed.RegionSum.{RegionSum}
use Rattle.cs_group.specs.declared.row.Row.{Row}
use Rattle.cs_group.specs.declared.next.GroupFault.{GroupFault}
use Rattle.cs_group.specs.declared.next.GroupFault.TheVariants.{Spent, Memory}
use Rattle.cs_group.specs.declared.next.Turn.{Turn}
use Rattle.cs_group.specs.Cut.{cut_due, region_to_cut}
use Rattle.cs_group.specs.Group.{GroupState}
use Rattle.cs_group.specs.Judging.{item_of, verdicts_on}
use Rattle.cs_group.specs.Merge.{merge_due}
use Rattle.cs_group.specs.Next.{before_cut, cut_group, is_spent, next_turn, with_accepted, IsTurnFault}
use Rattle.cs_group.specs.Place.{region_sums}
use Rattle.cs_group.specs.Rows.{row_of}
use Rattle.cs_group.specs.Taking.{with_change, with_item, with_mover, without_leaver}

-- a move keeps the next region number
number-mover : (sums : List RegionSum) (g : GroupState) (id seq : ℕ) (at : Axes) (o : Option Row) → (with_mover sums g id seq at o).next_region ≡ g.next_region
number-mover sums g id seq at None = refl
number-mover sums g id seq at (Some row) = refl

-- and so does each change of an item
number-item : (sums : List RegionSum) (item : List Change) (g : GroupState) → (with_item sums g item).next_region ≡ g.next_region
number-item sums [] g = refl
number-item sums (Join member ∷ item) g = number-item sums item (with_change sums g (Join member))
number-item sums (Move id seq at ∷ item) g =
    number-item sums item (with_change sums g (Move id seq at)) ∙ number-mover sums g id seq at (row_of id g.rows)
number-item sums (Leave id ∷ item) g = number-item sums item (without_leaver g id)

module _ (g : GroupState) (changes : List Change) where
  -- where the numbers aren't spent, its parts are these
  pub turn-made : (t : Turn) → is_spent (before_cut g changes) ≡ false
      → t.group ≡ cut_group (cut_due (before_cut g changes).next_region (before_cut g changes).rows) (before_cut g changes)
      → t.verdicts ≡ verdicts_on g changes → t.item ≡ item_of g changes → t.merged ≡ merge_due (with_accepted g changes).rows
      → t.cut ≡ cut_due (before_cut g changes).next_region (before_cut g changes).rows → next_turn g changes ≡ Some t
  turn-made t left group verdicts item merge cut =
      let made : (let turn : Turn = record {
        group = cut_group (cut_due (before_cut g changes).next_region (before_cut g changes).rows) (before_cut g changes);
        verdicts = verdicts_on g changes;
        item = item_of g changes;
        merged = merge_due (with_accepted g changes).rows;
        cut = cut_due (before_cut g changes).next_region (before_cut g changes).rows;
      } in turn) ≡ t = λ i. record { group = (sym group) i; verdicts = (sym verdicts) i; item = (sym item) i; merged = (sym merge) i; cut = (sym cut) i } in
      rw left (ap Some made)

  -- where they are, there is none
  pub no_turn : is_spent (before_cut g changes) ≡ true → next_turn g changes ≡ None
  no_turn spent = rw spent refl

  -- so a fault tells the truth
  pub fault_told : (fault : GroupFault) → (fault ≡ Spent → is_spent (before_cut g changes) ≡ true) → IsTurnFault (next_turn g changes) fault
  fault_told Spent told = no_turn (told refl)
  fault_told Memory told = tt

  -- the numbers are spent before the cut where they were spent before
  pub number_spent : is_spent (before_cut g changes) ≡ true → last_number < g.next_region
  number_spent spent =
      let parts = and_parts (is_some (region_to_cut (before_cut g changes).rows)) (nat_lt last_number (before_cut g changes).next_region) spent in
      subst (λ n. last_number < n) (number-item (region_sums g.rows) (item_of g changes) g) (ltb-true last_number (before_cut g changes).next_region parts.1)
