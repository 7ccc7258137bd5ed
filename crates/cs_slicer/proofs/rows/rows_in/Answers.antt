use Rattle.std.proofs.Common.{◌≡◌, ◌-◌, nat_lt, nat_le, drop, length, take, take_all, arith, rules}
use Rattle.std.proofs.lemmas.List.{length-drop}
use Rattle.std.proofs.lemmas.List.Sorted.{IsNonDecreasingBy-drop, IsPartitionPoint-from_clause, IsPartitionedBy-leb, IsPartitionedBy-ltb}
use Rattle.cs_group.specs.declared.row.Row.{Row}
use Rattle.cs_slicer.proofs.Searched.{regions-rise, rows-between}
use Rattle.cs_slicer.proofs.rows.rows_in.Goals as goal

-- two searches find where the region begins and where it ends
pub returns : goal.returns
returns c =
    let rows = c.args.rows.now in
    let region = c.args.region in
    let start = c.partition_point-start.result in
    let size = c.partition_point-size.result in
    let up = regions-rise rows c.requires in
    let rest : take (length rows - start) (drop start rows) ≡ drop start rows =
    take_all (length rows - start) (drop start rows) (omega (arith, length-drop {A = Row} start rows)) in
    let first =
    IsPartitionPoint-from_clause (λ (r : Row). nat_lt r.region region) rows start c.partition_point-start.ensures.partitioned
    (IsPartitionedBy-ltb (λ (r : Row). r.region) rows region up) (λ a r f called. search rules) in
    let second =
    IsPartitionPoint-from_clause (λ (r : Row). nat_le r.region region) (drop start rows) size (rw rest at c.partition_point-size.ensures.partitioned)
    (IsPartitionedBy-leb (λ (r : Row). r.region) (drop start rows) region (IsNonDecreasingBy-drop (λ (r : Row). r.region) start rows up))
    (λ a r f called. search rules) in
    rw rest (rows-between region rows start size first c.partition_point-start.ensures.bound second (rw rest at c.partition_point-size.ensures.bound))
