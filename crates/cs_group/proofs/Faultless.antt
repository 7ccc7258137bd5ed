-- A group has no fault.
use Rattle.std.proofs.Common.{◌≡◌, ◌≢◌, ℕ, ◌+◌, ◌<◌, ◌==◌, ◌&&◌, Bool, true, false, nat_lt, nat_le, List, [], ◌∷◌, length, Option, None, refl, ◌∙◌}
use Rattle.std.proofs.Common.{lt-ltb, le-leb}
use Rattle.std.specs.List.{AllByRecursion, list_all}
use Rattle.std.specs.Option.{option_map}
use Rattle.std.proofs.lemmas.Bool.{and_from, ne_eqb}
use Rattle.cs_base.specs.Ascending.{placed_by}
use Rattle.cs_base.specs.Limits.{most_members, most_regions, most_together}
use Rattle.cs_base.proofs.Ascending.{All-placed}
use Rattle.cs_group.specs.declared.checks.RowsFault.TheVariants.{Order, Repeat, Region, Size, Leader}
use Rattle.cs_group.specs.declared.row.Row.{Row}
use Rattle.cs_group.specs.Faults.{first_of, first_repeat, is_in_order, is_in_size, rows_fault, unless}
use Rattle.cs_group.specs.Group.{GroupState, IsGroup, is_among}
use Rattle.cs_group.specs.Rows.{IsInOrder, HasDistinctIds, has_member, is_before, regions}
use Rattle.cs_group.proofs.Lists.{ByRecursion-both, ByRecursion-weaken}
use Rattle.cs_group.proofs.ListTests.{all_pass, each_fails, none_passes}
use Rattle.cs_group.proofs.Passed.{repeat-later}

-- rows in order pass its test
in_order-passes : (rows : List Row) → IsInOrder rows → is_in_order rows ≡ true
in_order-passes [] up = refl
in_order-passes (r ∷ rs) up =
    and_from (list_all (is_before r) rs) (is_in_order rs) (all_pass (is_before r) rs up.0) (in_order-passes rs up.1)

-- a number that isn't there isn't there either when another is placed
not_among-placed : (n m : ℕ) (ns : List ℕ) → n ≢ m → is_among ns m ≡ false → is_among (placed_by (λ k. k) n ns) m ≡ false
not_among-placed n m ns other absent =
    none_passes (λ k. k == m) (placed_by (λ k. k) n ns)
    (All-placed (λ m. m) (λ k. (k == m) ≡ false) n ns (ne_eqb n m other) (each_fails (λ k. k == m) ns absent))

-- of distinct ids that weren't seen none repeats
none-repeats : (seen : List ℕ) (rows : List Row) → AllByRecursion (λ (r : Row). is_among seen r.member.id ≡ false) rows → HasDistinctIds rows
    → first_repeat seen rows ≡ None
none-repeats seen [] fresh distinct = refl
none-repeats seen (r ∷ rs) fresh distinct =
    let now_seen = placed_by (λ n. n) r.member.id seen in
    let IsOther : Row → Type 0 = λ s. r.member.id ≢ s.member.id in
    let IsNew : Row → Type 0 = λ s. is_among seen s.member.id ≡ false in
    let later = ByRecursion-weaken (λ s. IsOther s × IsNew s) (λ (s : Row). is_among now_seen s.member.id ≡ false)
    (λ s both. not_among-placed r.member.id s.member.id seen both.0 both.1) rs (ByRecursion-both IsOther IsNew rs distinct.0 fresh.1) in
    repeat-later seen r rs fresh.0 ∙ none-repeats now_seen rs later distinct.1

-- each region is below the next region number
numbered-passes : (rows : List Row) (next_region : ℕ) → AllByRecursion (λ (r : Row). r.region < next_region) rows
    → list_all (λ (r : Row). nat_lt r.region next_region) rows ≡ true
numbered-passes rows next_region below =
    all_pass (λ (r : Row). nat_lt r.region next_region) rows
    (ByRecursion-weaken (λ (r : Row). r.region < next_region) (λ (r : Row). nat_lt r.region next_region ≡ true)
    (λ r lt. lt-ltb r.region next_region lt) rows below)

-- where all tests pass there is no fault
no_fault-found : (in_order : Bool) (repeat : Option ℕ) (below in_size leader : Bool)
    → in_order ≡ true → repeat ≡ None → below ≡ true → in_size ≡ true → leader ≡ true
    → first_of (
    unless in_order Order ∷ option_map Repeat repeat ∷ unless below Region ∷ unless in_size Size ∷ unless leader Leader ∷ []
    ) ≡ None
no_fault-found in_order repeat below in_size leader a b c d e = rw (a, b, c, d, e) refl

pub no_fault : (g : GroupState) → IsGroup g → rows_fault g ≡ None
no_fault g is =
    let was = is.staffed in
    let in_size = and_from (nat_le (length g.rows) most_members)
    (nat_le (length (regions g.rows)) most_regions && nat_le (length g.rows + length g.retired) most_together)
    (le-leb (length g.rows) most_members was.few_members)
    (and_from (nat_le (length (regions g.rows)) most_regions) (nat_le (length g.rows + length g.retired) most_together)
    (le-leb (length (regions g.rows)) most_regions is.few_regions)
    (le-leb (length g.rows + length g.retired) most_together was.few_together)) in
    no_fault-found (is_in_order g.rows) (first_repeat g.retired g.rows) (list_all (λ (r : Row). nat_lt r.region g.next_region) g.rows)
    (is_in_size g.rows g.retired) (has_member g.leader g.rows) (in_order-passes g.rows was.in_order)
    (none-repeats g.retired g.rows was.none_retired was.distinct) (numbered-passes g.rows g.next_region is.numbered) in_size was.leader_there
