use Rattle.std.proofs.Common.{◌≡◌, ◌<◌, Some, map, rules}
use Rattle.std.proofs.lemmas.Fn.{always_returns_same}
use Rattle.std.specs.List.{AllByRecursion}
use Rattle.std.specs.List.Sorted.{IsPermutation, IsSortedBy}
use Rattle.cs_group.specs.Cut.{cut_rows}
use Rattle.cs_group.specs.Rows.{is_before}
use Rattle.cs_group.specs.declared.row.Row.{Row}
use Rattle.cs_slicer.specs.Rejoined.{rejoined_row}
use Rattle.cs_slicer.proofs.Rejoined.{rejoined-sorted}
use Rattle.cs_slicer.proofs.rows.before_cut.Goals as goal

-- the rejoined rows, put in order
pub returns : goal.returns
returns c before up below after =
    let region = c.in-Some.region in
    let cut = c.in-Some.cut in
    let is : c.args.cut.now ≡ Some (region, cut) = search rules in
    let sorted = c.sort_unstable_by_key.new.self.items in
    let lower : AllByRecursion (λ (r : Row). r.region < cut.upper) before = rw is at below in
    let rows : c.args.rows.now ≡ cut_rows region cut before = rw is at after in
    let order : IsSortedBy is_before sorted =
    c.sort_unstable_by_key.ensures.sorted (λ r. (r.region, r.member.id)) (always_returns_same _ _ _ (λ a r h e. search rules)) in
    let same : IsPermutation (map (rejoined_row region cut.upper) (cut_rows region cut before)) sorted =
    rw (c.in_ok-all.ensures, rows) at c.sort_unstable_by_key.ensures.permutation in
    rejoined-sorted region cut before sorted up lower same order
