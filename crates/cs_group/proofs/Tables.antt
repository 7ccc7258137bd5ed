-- A table stays one as a row comes or goes.
use Rattle.std.proofs.Common.{◌≡◌, ℕ, ◌+◌, ◌-◌, ◌<◌, ◌==◌, Bool, true, false, not, if◌then◌else◌, List, [], length, Some, None}
use Rattle.std.proofs.Common.{refl, sym, ap, ◌∙◌, arith}
use Rattle.std.specs.Option.{option_map}
use Rattle.cs_base.specs.Ascending.{placed_by, without_key}
use Rattle.cs_base.specs.Limits.{most_summed}
use Rattle.cs_base.proofs.Ascending.{All-of_filter, find-placed, find-without}
use Rattle.cs_group.specs.declared.kept.KeptSum.{KeptSum}
use Rattle.cs_group.specs.declared.member_region.MemberRegion.{MemberRegion}
use Rattle.cs_group.specs.declared.row.Row.{Row}
use Rattle.cs_group.specs.Rows.{IsRow, has_member, is_before, placed, row_of, without}
use Rattle.cs_group.specs.Table.{IsTable, entry, entry_of, sums_less, sums_with}
use Rattle.cs_group.proofs.Edits.{length-without-one, others-absent, row_of-holds, row_of-placed, row_of-without}
use Rattle.cs_group.proofs.Lists.{IsDistinctBy-filter, IsPairwise-filter}
use Rattle.cs_group.proofs.Order.{ByRecursion-placed, HasDistinctIds-placed, IsInOrder-placed, length-placed}
use Rattle.cs_group.proofs.Ranks.{HasShortId, placed-rank, rank_of, short-ids, without-rank}
use Rattle.cs_group.proofs.Sums.{sums-came, sums-went}

-- the id of an entry of the index
abbrev pub entry_id : MemberRegion → ℕ
entry_id e = e.id

module _ (rows : List Row) (sums : List KeptSum) (index : List MemberRegion) (count : ℕ) (is : IsTable rows sums index count) where
  module _ (row : Row) (new : has_member row.member.id rows ≡ false) (allowed : IsRow row) (few : length rows < most_summed) where
    -- a row that comes is placed by its rank
    pub came-placed : placed_by rank_of row rows ≡ placed row rows
    came-placed = sym (placed-rank row rows allowed.member.id.1 (short-ids rows is.allowed) (others-absent row.member.id rows new))

    came-indexed : (id : ℕ) → option_map (λ (e : MemberRegion). e.region) (entry_of id (placed_by entry_id (entry row) index))
        ≡ option_map (λ (r : Row). r.region) (row_of id (placed row rows))
    came-indexed id =
        ap (option_map (λ (e : MemberRegion). e.region)) (find-placed entry_id (entry row) id index)
        ∙ (elim (row.member.id == id) as (λ b. option_map (λ (e : MemberRegion). e.region) (if b then Some (entry row) else entry_of id index)
        ≡ option_map (λ (r : Row). r.region) (if b then Some row else row_of id rows)) [
          | true ↦ refl
          | false ↦ is.indexed id
        ]
        ∙ sym (ap (option_map (λ (r : Row). r.region)) (row_of-placed id row rows (others-absent row.member.id rows new))))

    -- and with it there is a table
    pub IsTable-came : IsTable (placed row rows) (sums_with row.region row.member.at sums) (placed_by entry_id (entry row) index) (count + 1)
    IsTable-came =
        let others = others-absent row.member.id rows new in
        record {
          in_order = IsInOrder-placed row rows is.in_order others;
          distinct = HasDistinctIds-placed row rows is.distinct others;
          allowed = ByRecursion-placed IsRow row rows allowed is.allowed;
          sums_now = sums-came rows sums is.sums_now row;
          indexed = came-indexed;
          counted = omega (arith, is.counted, length-placed row rows);
          few = omega (arith, few, length-placed row rows);
        }

  module _ (row : Row) (here : row_of row.member.id rows ≡ Some row) where
    -- a row that goes is taken out by its rank
    pub went-taken : without_key rank_of (rank_of row) rows ≡ without row.member.id rows
    went-taken =
        without-rank row rows is.distinct (short-ids rows is.allowed)
        (row_of-holds HasShortId row.member.id rows row (short-ids rows is.allowed) here) here

    went-indexed : (id : ℕ) → option_map (λ (e : MemberRegion). e.region) (entry_of id (without_key entry_id row.member.id index))
        ≡ option_map (λ (r : Row). r.region) (row_of id (without row.member.id rows))
    went-indexed id =
        ap (option_map (λ (e : MemberRegion). e.region)) (find-without entry_id row.member.id id index)
        ∙ (elim (row.member.id == id) as (λ b. option_map (λ (e : MemberRegion). e.region) (if b then None else entry_of id index)
        ≡ option_map (λ (r : Row). r.region) (if b then None else row_of id rows)) [
          | true ↦ refl
          | false ↦ is.indexed id
        ]
        ∙ sym (ap (option_map (λ (r : Row). r.region)) (row_of-without id row.member.id rows)))

    -- and without it there is a table
    pub IsTable-went : IsTable (without row.member.id rows) (sums_less row.region row.member.at sums) (without_key entry_id row.member.id index) (count - 1)
    IsTable-went =
        let kept : Row → Bool = λ (r : Row). not (r.member.id == row.member.id) in
        let one = length-without-one row.member.id rows row is.distinct here in
        record {
          in_order = IsPairwise-filter (λ (r : Row) s. is_before r s ≡ true) kept rows is.in_order;
          distinct = IsDistinctBy-filter (λ (r : Row). r.member.id) kept rows is.distinct;
          allowed = All-of_filter IsRow kept rows is.allowed;
          sums_now = sums-went rows sums is.sums_now row is.distinct here;
          indexed = went-indexed;
          counted = omega (arith, is.counted, one);
          few = omega (arith, is.few, one);
        }

-- an empty table is one
pub IsTable-none : IsTable [] [] [] 0
IsTable-none = record {
  in_order = tt;
  distinct = tt;
  allowed = tt;
  sums_now = refl;
  indexed = λ id. refl;
  counted = refl;
  few = omega arith;
}
