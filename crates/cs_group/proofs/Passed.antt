-- Rows without a fault are those of a group.
use Rattle.std.proofs.Common.{◌≡◌, ◌≢◌, ℕ, suc, ◌+◌, ◌-◌, ◌<◌, ◌≤◌, ◌&&◌, Bool, true, false, nat_lt, nat_le}
use Rattle.std.proofs.Common.{List, [], ◌∷◌, length, get_or, Some, None}
use Rattle.std.proofs.Common.{refl, sym, ap, subst, ◌∙◌, arith, inl, inr}
use Rattle.std.specs.List.{AllByRecursion, list_all}
use Rattle.std.proofs.lemmas.Bool.{and_parts, and_from, cases_Bool, ltb-true, leb-true, false_from_ne_true}
use Rattle.std.proofs.lemmas.List.{get_or_default}
use Rattle.cs_base.specs.Ascending.{IsAscending, placed_by}
use Rattle.cs_base.specs.Limits.{last_number, most_members, most_regions, most_together}
use Rattle.cs_group.specs.declared.row.Row.{Row}
use Rattle.cs_group.specs.Faults.{first_repeat, is_in_order, is_in_size}
use Rattle.cs_group.specs.Group.{GroupState, IsGroup, is_among}
use Rattle.cs_group.specs.Rows.{IsInOrder, IsRow, HasDistinctIds, has_member, is_before, regions}
use Rattle.cs_group.proofs.Cutting.{is_among-placed, is_among-placed_itself}
use Rattle.cs_group.proofs.Lists.{ByRecursion-weaken}
use Rattle.cs_group.proofs.Members.{AllPairs-from_pairwise}
use Rattle.cs_group.proofs.Order.{before-trans}
use Rattle.cs_group.proofs.ListTests.{all_pass}

-- where all pass, each does
each_passes : {T : Type 0} (p : T → Bool) (xs : List T) → list_all p xs ≡ true → AllByRecursion (λ x. p x ≡ true) xs
each_passes p [] all = tt
each_passes p (x ∷ xs) all = (let parts = and_parts (p x) (list_all p xs) all in (parts.0, each_passes p xs parts.1))

-- the test of the order tells it
pub in_order-tells : (rows : List Row) → is_in_order rows ≡ true → IsInOrder rows
in_order-tells [] passes = tt
in_order-tells (r ∷ rs) passes =
    (let parts = and_parts (list_all (is_before r) rs) (is_in_order rs) passes in (each_passes (is_before r) rs parts.0, in_order-tells rs parts.1))

-- where no id repeats, they are distinct, and none was seen before
repeats-none : (seen : List ℕ) (rows : List Row) → first_repeat seen rows ≡ None
    → AllByRecursion (λ (r : Row). is_among seen r.member.id ≡ false) rows × HasDistinctIds rows
repeats-none seen [] none = (tt, tt)
repeats-none seen (r ∷ rs) none = go (is_among seen r.member.id) refl (repeats-none (placed_by (λ n. n) r.member.id seen) rs)
  where
    go : (b : Bool) → is_among seen r.member.id ≡ b
        → (first_repeat (placed_by (λ n. n) r.member.id seen) rs ≡ None
        → AllByRecursion (λ (s : Row). is_among (placed_by (λ n. n) r.member.id seen) s.member.id ≡ false) rs × HasDistinctIds rs)
        → AllByRecursion (λ (s : Row). is_among seen s.member.id ≡ false) (r ∷ rs) × HasDistinctIds (r ∷ rs)
    go true e later = absurd (let some : first_repeat seen (r ∷ rs) ≡ Some r.member.id = rw e refl in cc)
    go false e later =
        let step : first_repeat seen (r ∷ rs) ≡ first_repeat (placed_by (λ n. n) r.member.id seen) rs = rw e refl in
        let rest = later (sym step ∙ none) in
        let P : Row → Type 0 = λ (s : Row). is_among (placed_by (λ n. n) r.member.id seen) s.member.id ≡ false in
        let old : (s : Row) → P s → is_among seen s.member.id ≡ false = λ s fresh. elim (cases_Bool (is_among seen s.member.id)) [
          | inl there ↦ absurd (let still = is_among-placed r.member.id s.member.id seen there in cc)
          | inr not_there ↦ not_there
        ] in
        let other : (s : Row) → P s → r.member.id ≢ s.member.id = λ s fresh same.
        (let here = subst (λ n. is_among (placed_by (λ n. n) r.member.id seen) n ≡ true) same (is_among-placed_itself r.member.id seen) in cc) in (
          (e, ByRecursion-weaken P (λ (s : Row). is_among seen s.member.id ≡ false) old rs rest.0),
          (ByRecursion-weaken P (λ (s : Row). r.member.id ≢ s.member.id) other rs rest.0, rest.1),
        )

-- rows that pass all checks are a group's
pub IsGroup-checked : (g : GroupState) → AllByRecursion IsRow g.rows → g.next_region ≤ last_number + 1 → IsAscending g.retired
    → is_in_order g.rows ≡ true → first_repeat g.retired g.rows ≡ None
    → list_all (λ (r : Row). nat_lt r.region g.next_region) g.rows ≡ true → is_in_size g.rows g.retired ≡ true → has_member g.leader g.rows ≡ true → IsGroup g
IsGroup-checked g allowed next_number retired_ascend in_order fresh below in_size leader =
    let apart = repeats-none g.retired g.rows fresh in
    let size = and_parts (nat_le (length g.rows) most_members)
    (nat_le (length (regions g.rows)) most_regions && nat_le (length g.rows + length g.retired) most_together) in_size in
    let sizes = and_parts (nat_le (length (regions g.rows)) most_regions) (nat_le (length g.rows + length g.retired) most_together) size.1 in
    record {
      staffed = record {
        in_order = in_order-tells g.rows in_order;
        distinct = apart.1;
        allowed = allowed;
        retired_ascend = retired_ascend;
        none_retired = apart.0;
        few_members = leb-true (length g.rows) most_members size.0;
        few_together = leb-true (length g.rows + length g.retired) most_together sizes.1;
        leader_there = leader;
      };
      numbered = ByRecursion-weaken (λ (r : Row). nat_lt r.region g.next_region ≡ true) (λ (r : Row). r.region < g.next_region)
          (λ r e. ltb-true r.region g.next_region e) g.rows
          (each_passes (λ (r : Row). nat_lt r.region g.next_region) g.rows below);
      next_number = next_number;
      few_regions = leb-true (length (regions g.rows)) most_regions sizes.0;
    }

-- a row whose id is new leaves the rest to be looked through
pub repeat-later : (seen : List ℕ) (r : Row) (rs : List Row) → is_among seen r.member.id ≡ false
    → first_repeat seen (r ∷ rs) ≡ first_repeat (placed_by (λ n. n) r.member.id seen) rs
repeat-later seen r rs e = rw e refl

-- rows of which each stands before the next are in order
pub adjacent-in_order : (rows : List Row) → ((k : ℕ) (d : Row) → suc k < length rows → is_before (get_or rows k d) (get_or rows (suc k) d) ≡ true)
    → is_in_order rows ≡ true
adjacent-in_order [] each = refl
adjacent-in_order (r ∷ []) each = refl
adjacent-in_order (r ∷ s ∷ ss) each =
    let rest = adjacent-in_order (s ∷ ss) (λ k d lt. each (suc k) d (omega arith)) in
    let first : is_before r s ≡ true = each 0 r (omega arith) in
    let parts = and_parts (list_all (is_before s) ss) (is_in_order ss) rest in
    let later = ByRecursion-weaken (λ t. is_before s t ≡ true) (λ t. is_before r t ≡ true) (λ t after. before-trans r s t first after) ss
    (each_passes (is_before s) ss parts.0) in
    and_from (list_all (is_before r) (s ∷ ss)) (is_in_order (s ∷ ss)) (all_pass (is_before r) (s ∷ ss) (first, later)) rest

-- and where one doesn't, they aren't
pub not_in_order : (rows : List Row) (k : ℕ) (d : Row) → suc k < length rows
    → is_before (get_or rows k d) (get_or rows (suc k) d) ≡ false → is_in_order rows ≡ false
not_in_order rows k d lt no_rise =
    false_from_ne_true (is_in_order rows)
    (λ e. let rise = AllPairs-from_pairwise (λ (r : Row) s. is_before r s ≡ true) rows (in_order-tells rows e) k (suc k) d (omega arith) lt in (cc))

-- what was read at a place and at the one before it
pub adjacent-read : (rows : List Row) (i : ℕ) (a b : Row) → 1 ≤ i → i < length rows → a ≡ get_or rows (i - 1) a → b ≡ get_or rows i b
    → (v : Bool) → v ≡ is_before a b → (k : ℕ) (d : Row) → suc k ≡ i → is_before (get_or rows k d) (get_or rows (suc k) d) ≡ v
adjacent-read rows i a b some lt a_is b_is v told k d place =
    let before : i - 1 ≡ k = omega arith in
    let here : i ≡ suc k = sym place in
    let k_lt : k < length rows = omega arith in
    let next_lt : suc k < length rows = omega arith in
    let first : get_or rows k d ≡ a = get_or_default rows k d a k_lt ∙ sym (a_is ∙ ap (λ n. get_or rows n a) before) in
    let second : get_or rows (suc k) d ≡ b = get_or_default rows (suc k) d b next_lt ∙ sym (b_is ∙ ap (λ n. get_or rows n b) here) in
    rw (first, second) (sym told)
