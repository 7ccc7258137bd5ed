-- A leader stands as it is in each group that follows, and whoever leaves had an id.
use Rattle.std.proofs.Common.{◌≡◌, ℕ, ◌==◌, true, not, List, [], ◌∷◌, Option, Some, None}
use Rattle.std.proofs.Common.{refl, sym, ap, subst, ◌∙◌, inl, inr}
use Rattle.std.specs.List.{AllByRecursion}
use Rattle.std.specs.Option.{option_map}
use Rattle.std.proofs.lemmas.Bool.{cases_Bool, cond_both, eqb-true, eqb-false, or_cases}
use Rattle.cs_base.proofs.Ascending.{All-of_filter, All-placed}
use Rattle.cs_base.specs.Axes.{Axes}
use Rattle.cs_base.specs.Ranges.{IsId}
use Rattle.cs_base.specs.declared.change.Change.{Change}
use Rattle.cs_base.specs.declared.change.Change.TheVariants.{Join, Move, Leave}
use Rattle.cs_base.specs.declared.member.Member.{Member}
use Rattle.cs_near.specs.declared.keyed.RegionSum.{RegionSum}
use Rattle.cs_near.proofs.Found.{find-holds}
use Rattle.cs_base.specs.declared.split.Cut.{Cut}
use Rattle.cs_group.specs.Cut.{cut_due}
use Rattle.cs_group.specs.Group.{GroupState, IsGroup, first_group, is_among}
use Rattle.cs_group.specs.Judging.{accepted, after_change, is_accepted, is_full, join_verdict, judged, leave_verdict, move_verdict, verdict_on}
use Rattle.cs_group.specs.Led.{HasAsItIs, IsLedBy}
use Rattle.cs_group.specs.Merge.{after_merge, merge_due}
use Rattle.cs_group.specs.Next.{before_cut, cut_group, is_spent, next_turn, with_accepted}
use Rattle.cs_group.specs.Place.{place_of, region_sums}
use Rattle.cs_group.specs.Rows.{IsRow, has_member, regions, row_of, rows_in, rows_outside, without}
use Rattle.cs_group.specs.Taking.{FitsRow, joined_row, moved_row, with_change, with_item, with_mover, without_leaver}
use Rattle.cs_group.specs.declared.next.Turn.{Turn}
use Rattle.cs_group.specs.declared.row.Row.{Row}
use Rattle.cs_group.proofs.Again.{taken-later}
use Rattle.cs_group.proofs.Cutting.{all-cut}
use Rattle.cs_group.proofs.Lists.{ByRecursion-weaken}
use Rattle.cs_group.proofs.Merging.{all-placed_all}
use Rattle.cs_group.proofs.Order.{ByRecursion-placed}
use Rattle.cs_group.proofs.Sound.{place-among, taking-group}
use Rattle.cs_group.proofs.Taking.{IsTaking, join-tells, leave-tells, move-tells, taking-after}

-- what all members' ids are, that of one of them is
member-holds : (P : ℕ → Type 0) (id : ℕ) (rows : List Row) → AllByRecursion (λ (r : Row). P r.member.id) rows → has_member id rows ≡ true → P id
member-holds P id [] all some = absurd (cc)
member-holds P id (r ∷ rs) all some = elim (or_cases (r.member.id == id) (has_member id rs) some) [
  | inl here ↦ subst P (eqb-true r.member.id id here) all.0
  | inr later ↦ member-holds P id rs all.1 later
]

module _ (me : Member) where
  -- the leader alone
  pub led-first : IsLedBy me (first_group me)
  led-first = record { leader = refl; row = ((λ same. refl), tt); retired = tt }

  module _ (known : List ℕ) (sums : List RegionSum) (places : (at : Axes) → is_among known (place_of sums at) ≡ true) where
    -- who joins isn't the leader, who is there
    led-joiner : (g : GroupState) (m : Member) → IsTaking known g → IsLedBy me g → is_accepted (join_verdict g m.id) ≡ true
        → IsLedBy me (with_change sums g (Join m))
    led-joiner g m is led e =
        let tells = join-tells (is_among g.retired m.id) (has_member m.id g.rows) (is_full g) e in
        let absent : m.id ≡ me.id → ⊥ = λ same.
        (let there : has_member m.id g.rows ≡ true = ap (λ id. has_member id g.rows) (same ∙ sym led.leader) ∙ is.staffed.leader_there in cc) in
        record {
          leader = led.leader;
          row = ByRecursion-placed (HasAsItIs me) (joined_row sums m) g.rows (λ same. absurd (absent same)) led.row;
          retired = led.retired;
        }

    -- who leaves was a member
    led-leaver : (g : GroupState) (id : ℕ) → IsTaking known g → IsLedBy me g → is_accepted (leave_verdict g id) ≡ true → IsLedBy me (without_leaver g id)
    led-leaver g id is led e =
        let tells = leave-tells (has_member id g.rows) (id == g.leader) e in
        let ids = ByRecursion-weaken IsRow (λ (r : Row). IsId r.member.id) (λ r row. row.member.id) g.rows is.staffed.allowed in
        record {
          leader = led.leader;
          row = All-of_filter (HasAsItIs me) (λ (r : Row). not (r.member.id == id)) g.rows led.row;
          retired = All-placed (λ n. n) IsId id g.retired (member-holds IsId id g.rows ids tells.0) led.retired;
        }

    -- who moves isn't the leader
    led-mover : (g : GroupState) (id seq : ℕ) (at : Axes) (o : Option Row) → row_of id g.rows ≡ o → IsLedBy me g
        → is_accepted (move_verdict g id seq o) ≡ true → IsLedBy me (with_mover sums g id seq at o)
    led-mover g id seq at None found led e = led
    led-mover g id seq at (Some row) found led e =
        let not_leader = eqb-false id g.leader (move-tells (id == g.leader) _ e) in
        let held = find-holds (HasAsItIs me) (λ (r : Row). r.member.id == id) g.rows row led.row found in
        let same : row.member.id ≡ id = eqb-true row.member.id id held.1 in
        record {
          leader = led.leader;
          row = ByRecursion-placed (HasAsItIs me) (moved_row sums seq at row) (without id g.rows)
              (λ of_leader. absurd (not_leader (sym same ∙ (of_leader ∙ sym led.leader))))
              (All-of_filter (HasAsItIs me) (λ (r : Row). not (r.member.id == id)) g.rows led.row);
          retired = led.retired;
        }

    led-change : (g : GroupState) (c : Change) → IsTaking known g → IsLedBy me g → is_accepted (verdict_on g c) ≡ true
        → IsLedBy me (with_change sums g c)
    led-change g (Join m) is led e = led-joiner g m is led e
    led-change g (Move id seq at) is led e = led-mover g id seq at (row_of id g.rows) refl led e
    led-change g (Leave id) is led e = led-leaver g id is led e

    -- so it is after each change, as a refused one changes nothing
    led-after : (g : GroupState) (c : Change) → IsTaking known g → IsLedBy me g → IsLedBy me (after_change sums g c)
    led-after g c is led = cond_both (is_accepted (verdict_on g c)) (with_change sums g c) g (IsLedBy me) (λ e. led-change g c is led e) (λ e. led)

    -- and after all accepted ones
    led-all : (changes : List Change) (g : GroupState) → AllByRecursion FitsRow changes → IsTaking known g → IsLedBy me g
        → IsLedBy me (with_item sums g (accepted (judged sums g changes)))
    led-all [] g allowed is led = led
    led-all (c ∷ cs) g allowed is led =
        subst (IsLedBy me) (taken-later sums g c cs)
        (led-all cs (after_change sums g c) allowed.1 (taking-after known sums places g c allowed.0 is) (led-after g c is led))

  -- a merge leaves each member as it is
  led-merge : (g : GroupState) (m : Option (ℕ × ℕ)) → IsLedBy me g → IsLedBy me (record g { rows = after_merge m g.rows })
  led-merge g None led = led
  led-merge g (Some merge) led = record {
    leader = led.leader;
    row = all-placed_all merge.1 (HasAsItIs me) (rows_outside merge.0 g.rows) (rows_in merge.0 g.rows)
        (All-of_filter (HasAsItIs me) (λ (r : Row). not (r.region == merge.0)) g.rows led.row)
        (All-of_filter (HasAsItIs me) (λ (r : Row). r.region == merge.0) g.rows led.row);
    retired = led.retired;
  }

  -- and so does a cut
  led-cut : (g : GroupState) (cut : Option (ℕ × Cut)) → IsLedBy me g → IsLedBy me (cut_group cut g)
  led-cut g None led = record { leader = led.leader; row = led.row; retired = led.retired }
  led-cut g (Some cut) led = record { leader = led.leader; row = all-cut (HasAsItIs me) cut.0 cut.1 g.rows led.row led.row; retired = led.retired }

  -- so it is in the next group
  pub led-next : (g : GroupState) (changes : List Change) (turn : Turn) → IsGroup g → IsLedBy me g → AllByRecursion FitsRow changes
      → next_turn g changes ≡ Some turn → IsLedBy me turn.group
  led-next g changes turn is led fits made =
      let taken : IsLedBy me (with_accepted g changes) =
      led-all (regions g.rows) (region_sums g.rows) (place-among g.leader g.rows is.staffed.leader_there) changes g fits (taking-group g is) led in
      let before : IsLedBy me (before_cut g changes) = led-merge (with_accepted g changes) (merge_due (with_accepted g changes).rows) taken in
      let after = led-cut (before_cut g changes) (cut_due (before_cut g changes).next_region (before_cut g changes).rows) before in
      elim (cases_Bool (is_spent (before_cut g changes))) [
        | inl spent ↦ absurd (let none : next_turn g changes ≡ None = rw spent refl in cc)
        | inr left ↦
            let group : option_map (λ (t : Turn). t.group) (next_turn g changes)
            ≡ Some (cut_group (cut_due (before_cut g changes).next_region (before_cut g changes).rows) (before_cut g changes)) = rw left refl in
            let is_this : Some turn.group
            ≡ Some (cut_group (cut_due (before_cut g changes).next_region (before_cut g changes).rows) (before_cut g changes)) =
            sym (ap (option_map (λ (t : Turn). t.group)) made) ∙ group in
            let same : cut_group (cut_due (before_cut g changes).next_region (before_cut g changes).rows) (before_cut g changes) ≡ turn.group = cc in
            subst (IsLedBy me) same after
      ]
