-- What holds of a group while changes are taken in. Its regions are among those that the old group had.
use Rattle.std.proofs.Common.{◌≡◌, ◌≢◌, ℕ, suc, ◌+◌, ◌<◌, ◌≤◌, ◌==◌, Bool, true, false, not, if◌then◌else◌, nat_le}
use Rattle.std.proofs.Common.{List, [], ◌∷◌, length, Option, Some, None}
use Rattle.std.proofs.Common.{refl, sym, subst, ◌∙◌, arith}
use Rattle.std.specs.List.{AllByRecursion}
use Rattle.std.proofs.lemmas.Bool.{cond_both, eqb-true, eqb-false, ne_eqb, leb-false, or_parts, or_left, or_right, not-true}
use Rattle.std.proofs.lemmas.Bool.{not_from_true, not_from_false}
use Rattle.cs_base.specs.Ascending.{placed_by}
use Rattle.cs_base.proofs.Ascending.{IsAscendingBy-placed, All-of_filter, All-placed}
use Rattle.cs_base.specs.Axes.{Axes, IsPoint}
use Rattle.cs_base.specs.Limits.{last_id, last_number, most_members, most_together}
use Rattle.cs_base.specs.Ranges.{IsFromTo, IsMember, IsRegion}
use Rattle.cs_base.specs.declared.change.Change.{Change}
use Rattle.cs_base.specs.declared.change.Change.TheVariants.{Join, Move, Leave}
use Rattle.cs_base.specs.declared.member.Member.{Member}
use Rattle.cs_near.specs.declared.keyed.RegionSum.{RegionSum}
use Rattle.cs_near.proofs.Found.{find-holds}
use Rattle.cs_group.specs.declared.row.Row.{Row}
use Rattle.cs_group.specs.declared.verdict.Verdict.TheVariants.{Accepted, Retired, Present, Full, Absent, Leader, Stale}
use Rattle.cs_group.specs.Group.{GroupState, IsStaffed, is_among}
use Rattle.cs_group.specs.Judging.{accepted, after_change, is_accepted, is_full, join_verdict, judged, leave_verdict, move_verdict, verdict_on}
use Rattle.cs_group.specs.Place.{place_of}
use Rattle.cs_group.specs.Rows.{IsRow, has_member, is_before, placed, row_of, without}
use Rattle.cs_group.specs.Taking.{FitsRow, joined_row, moved_row, with_change, with_item, with_mover, without_leaver}
use Rattle.cs_group.proofs.Again.{taken-later}
use Rattle.cs_group.proofs.Edits.{others-absent}
use Rattle.cs_group.proofs.Lists.{ByRecursion-weaken, ByRecursion-both, ByRecursion-passes, IsPairwise-filter, IsDistinctBy-filter}
use Rattle.cs_group.proofs.Known.{among-holds}
use Rattle.cs_group.proofs.Order.{ByRecursion-placed, IsInOrder-placed, HasDistinctIds-placed, length-placed}
use Rattle.cs_group.proofs.Regions.{length-placed_number}
use Rattle.cs_group.proofs.ListTests.{each_fails, none_passes, any-found, length-filter-lt, any-filter}

-- what holds of a group, with its regions among those that are known
pub record IsTaking (known : List ℕ) (g : GroupState) : Type 0 where
  pub staffed : IsStaffed g
  pub in_known : AllByRecursion (λ (r : Row). is_among known r.region ≡ true) g.rows
  pub numbered : AllByRecursion (λ n. n < g.next_region) known
  pub next_number : g.next_region ≤ last_number + 1

-- these are allowed
pub known-region : (known : List ℕ) (g : GroupState) (n : ℕ) → IsTaking known g → is_among known n ≡ true → IsRegion n
known-region known g n is some =
    (let below = among-holds (λ m. m < g.next_region) n known is.numbered some in (omega arith, omega (arith, below, is.next_number)))

-- the rows without an id have others
pub others-without : (id : ℕ) (rows : List Row) → AllByRecursion (λ (s : Row). s.member.id ≢ id) (without id rows)
others-without id rows =
    ByRecursion-weaken (λ (s : Row). not (s.member.id == id) ≡ true) (λ (s : Row). s.member.id ≢ id)
    (λ s e. eqb-false s.member.id id (not-true (s.member.id == id) e)) (without id rows) (ByRecursion-passes (λ (s : Row). not (s.member.id == id)) rows)

-- a row more is there, and those that were
pub has_member-placed : (j : ℕ) (r : Row) (rows : List Row) → has_member j rows ≡ true → has_member j (placed r rows) ≡ true
has_member-placed j r [] some = absurd (cc)
has_member-placed j r (s ∷ ss) some =
    let rest = has_member-placed j r ss in
    cond_both (is_before r s) (r ∷ s ∷ ss) (s ∷ placed r ss) (λ rows. has_member j rows ≡ true)
    (λ e. or_right (r.member.id == j) (has_member j (s ∷ ss)) some)
    (λ e. go (s.member.id == j) refl rest)
  where
    go : (b : Bool) → (s.member.id == j) ≡ b → (has_member j ss ≡ true → has_member j (placed r ss) ≡ true) → has_member j (s ∷ placed r ss) ≡ true
    go true e later = or_left (s.member.id == j) (has_member j (placed r ss)) e
    go false e later =
        or_right (s.member.id == j) (has_member j (placed r ss))
        (later (let step : has_member j (s ∷ ss) ≡ has_member j ss = rw e refl in sym step ∙ some))

-- another member stays when one goes
has_member-without : (j id : ℕ) (rows : List Row) → (j ≡ id → ⊥) → has_member j rows ≡ true → has_member j (without id rows) ≡ true
has_member-without j id rows other some =
    any-filter (λ (r : Row). not (r.member.id == id)) (λ (r : Row). r.member.id == j) rows
    (λ r e. not_from_false (r.member.id == id) (ne_eqb r.member.id id (λ same. other (sym (eqb-true r.member.id j e) ∙ same)))) some

-- when a member goes there are fewer rows
length-without : (id : ℕ) (rows : List Row) → has_member id rows ≡ true → suc (length (without id rows)) ≤ length rows
length-without id rows some =
    length-filter-lt (λ (r : Row). not (r.member.id == id)) (λ (r : Row). r.member.id == id) (λ r e. not_from_true (r.member.id == id) e) rows some

-- what an accepted join tells
pub join-tells : (a b c : Bool) → is_accepted (if a then Retired else (if b then Present else (if c then Full else Accepted))) ≡ true
    → (a ≡ false) × (b ≡ false) × (c ≡ false)
join-tells true b c e = absurd (cc)
join-tells false true c e = absurd (cc)
join-tells false false true e = absurd (cc)
join-tells false false false e = (refl, refl, refl)

-- an accepted leave
pub leave-tells : (a b : Bool) → is_accepted (if a then (if b then Leader else Accepted) else Absent) ≡ true → (a ≡ true) × (b ≡ false)
leave-tells true true e = absurd (cc)
leave-tells true false e = (refl, refl)
leave-tells false b e = absurd (cc)

-- and an accepted move
pub move-tells : (a b : Bool) → is_accepted (if a then Leader else (if b then Stale else Accepted)) ≡ true → a ≡ false
move-tells true b e = absurd (cc)
move-tells false b e = refl

module _ (known : List ℕ) (sums : List RegionSum) (places : (at : Axes) → is_among known (place_of sums at) ≡ true) where
  taking-joiner : (g : GroupState) (m : Member) → IsMember m → IsTaking known g → is_accepted (join_verdict g m.id) ≡ true
      → IsTaking known (with_change sums g (Join m))
  taking-joiner g m allowed is e =
      let was = is.staffed in
      let tells = join-tells (is_among g.retired m.id) (has_member m.id g.rows) (is_full g) e in
      let row = joined_row sums m in
      let new = others-absent m.id g.rows tells.1 in
      let room = or_parts (nat_le most_members (length g.rows)) (nat_le most_together (length g.rows + length g.retired)) tells.2 in
      let long = length-placed row g.rows in
      record {
        staffed = record {
          in_order = IsInOrder-placed row g.rows was.in_order new;
          distinct = HasDistinctIds-placed row g.rows was.distinct new;
          allowed = ByRecursion-placed IsRow row g.rows (record {
            region = known-region known g (place_of sums m.at) is (places m.at);
            member = allowed;
            seq = (omega arith, omega arith);
          }) was.allowed;
          retired_ascend = was.retired_ascend;
          none_retired = ByRecursion-placed (λ (r : Row). is_among g.retired r.member.id ≡ false) row g.rows tells.0 was.none_retired;
          few_members = omega (arith, long, leb-false most_members (length g.rows) room.0);
          few_together = omega (arith, long, leb-false most_together (length g.rows + length g.retired) room.1);
          leader_there = has_member-placed g.leader row g.rows was.leader_there;
        };
        in_known = ByRecursion-placed (λ (r : Row). is_among known r.region ≡ true) row g.rows (places m.at) is.in_known;
        numbered = is.numbered;
        next_number = is.next_number;
      }

  taking-leaver : (g : GroupState) (id : ℕ) → IsTaking known g → is_accepted (leave_verdict g id) ≡ true → IsTaking known (without_leaver g id)
  taking-leaver g id is e =
      let was = is.staffed in
      let tells = leave-tells (has_member id g.rows) (id == g.leader) e in
      let kept : Row → Bool = λ (r : Row). not (r.member.id == id) in
      let fewer = length-without id g.rows tells.0 in
      let more = length-placed_number id g.retired in
      let not_leader : g.leader ≡ id → ⊥ = λ same. eqb-false id g.leader tells.1 (sym same) in
      record {
        staffed = record {
          in_order = IsPairwise-filter _ kept g.rows was.in_order;
          distinct = IsDistinctBy-filter _ kept g.rows was.distinct;
          allowed = All-of_filter IsRow kept g.rows was.allowed;
          retired_ascend = IsAscendingBy-placed (λ n. n) id g.retired was.retired_ascend;
          none_retired = ByRecursion-weaken (λ (r : Row). (r.member.id ≢ id) × (is_among g.retired r.member.id ≡ false))
              (λ (r : Row). is_among (placed_by (λ n. n) id g.retired) r.member.id ≡ false)
              (λ r facts. none_passes (λ n. n == r.member.id) (placed_by (λ n. n) id g.retired)
              (All-placed (λ m. m) (λ n. (n == r.member.id) ≡ false) id g.retired (ne_eqb id r.member.id (λ same. facts.0 (sym same)))
              (each_fails (λ n. n == r.member.id) g.retired facts.1))) (without id g.rows)
              (ByRecursion-both (λ (r : Row). r.member.id ≢ id) (λ (r : Row). is_among g.retired r.member.id ≡ false) (without id g.rows)
              (others-without id g.rows)
              (All-of_filter (λ (r : Row). is_among g.retired r.member.id ≡ false) kept g.rows was.none_retired));
          few_members = omega (arith, fewer, was.few_members);
          few_together = omega (arith, fewer, more, was.few_together);
          leader_there = has_member-without g.leader id g.rows not_leader was.leader_there;
        };
        in_known = All-of_filter (λ (r : Row). is_among known r.region ≡ true) kept g.rows is.in_known;
        numbered = is.numbered;
        next_number = is.next_number;
      }

  taking-mover : (g : GroupState) (id seq : ℕ) (at : Axes) (o : Option Row) → IsFromTo 0 last_id seq → IsPoint at → row_of id g.rows ≡ o → IsTaking known g
      → is_accepted (move_verdict g id seq o) ≡ true → IsTaking known (with_mover sums g id seq at o)
  taking-mover g id seq at None is_seq is_point found is e = absurd (cc)
  taking-mover g id seq at (Some row) is_seq is_point found is e =
      let was = is.staffed in
      let not_leader = eqb-false id g.leader (move-tells (id == g.leader) (nat_le seq row.seq) e) in
      let kept : Row → Bool = λ (r : Row). not (r.member.id == id) in
      let P : Row → Type 0 = λ (r : Row). is_among g.retired r.member.id ≡ false in
      let held = find-holds (λ (r : Row). P r × IsRow r) (λ (r : Row). r.member.id == id) g.rows row
      (ByRecursion-both P IsRow g.rows was.none_retired was.allowed) found in
      let same : row.member.id ≡ id = eqb-true row.member.id id held.1 in
      let moved = moved_row sums seq at row in
      let rest = without id g.rows in
      let new = subst (λ n. AllByRecursion (λ (s : Row). s.member.id ≢ n) rest) (sym same) (others-without id g.rows) in
      let fewer = length-without id g.rows (any-found (λ (r : Row). r.member.id == id) g.rows row found) in
      let long = length-placed moved rest in
      record {
        staffed = record {
          in_order = IsInOrder-placed moved rest (IsPairwise-filter _ kept g.rows was.in_order) new;
          distinct = HasDistinctIds-placed moved rest (IsDistinctBy-filter _ kept g.rows was.distinct) new;
          allowed = ByRecursion-placed IsRow moved rest (record {
            region = known-region known g (place_of sums at) is (places at);
            member = record { id = held.0.1.member.id; addr = held.0.1.member.addr; at = is_point };
            seq = is_seq;
          }) (All-of_filter IsRow kept g.rows was.allowed);
          retired_ascend = was.retired_ascend;
          none_retired = ByRecursion-placed P moved rest held.0.0 (All-of_filter P kept g.rows was.none_retired);
          few_members = omega (arith, fewer, long, was.few_members);
          few_together = omega (arith, fewer, long, was.few_together);
          leader_there = has_member-placed g.leader moved rest (has_member-without g.leader id g.rows (λ e. not_leader (sym e)) was.leader_there);
        };
        in_known = ByRecursion-placed (λ (r : Row). is_among known r.region ≡ true) moved rest (places at)
            (All-of_filter (λ (r : Row). is_among known r.region ≡ true) kept g.rows is.in_known);
        numbered = is.numbered;
        next_number = is.next_number;
      }

  -- an accepted change keeps it
  taking-change : (g : GroupState) (c : Change) → FitsRow c → IsTaking known g → is_accepted (verdict_on g c) ≡ true
      → IsTaking known (with_change sums g c)
  taking-change g (Join member) allowed is e = taking-joiner g member allowed is e
  taking-change g (Move id seq at) allowed is e = taking-mover g id seq at (row_of id g.rows) allowed.0 allowed.1 refl is e
  taking-change g (Leave id) allowed is e = taking-leaver g id is e

  -- and a refused one changes nothing
  pub taking-after : (g : GroupState) (c : Change) → FitsRow c → IsTaking known g → IsTaking known (after_change sums g c)
  taking-after g c allowed is =
      cond_both (is_accepted (verdict_on g c)) (with_change sums g c) g (IsTaking known) (λ e. taking-change g c allowed is e) (λ e. is)

  -- so all accepted ones do
  pub taking-all : (changes : List Change) (g : GroupState) → AllByRecursion FitsRow changes → IsTaking known g
      → IsTaking known (with_item sums g (accepted (judged sums g changes)))
  taking-all [] g allowed is = is
  taking-all (c ∷ cs) g allowed is =
      subst (IsTaking known) (taken-later sums g c cs) (taking-all cs (after_change sums g c) allowed.1 (taking-after g c allowed.0 is))
