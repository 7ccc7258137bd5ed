-- Want of memory is no fault of bytes: no reader of a slice gives it.
use Rattle.std.proofs.Common.{◌≢◌, ℕ, zero, suc, ◌==◌, Bool, true, false, if◌then◌else◌, List, length, nat_lt, ◌+◌, take, drop}
use Rattle.std.proofs.Common.{Result, Ok, Err}
use Rattle.std.specs.Prelude.{ℤ, neg_ℤ, pos}
use Rattle.std.specs.Int.{Width}
use Rattle.cs_base.specs.Axes.{Axes}
use Rattle.cs_base.specs.Limits.{farthest, last_id, last_number, most_changes, most_members, most_regions}
use Rattle.cs_fields.specs.Counted.{counted_at, elements_at}
use Rattle.cs_fields.specs.Fields.{address_at, axis_at, axis_of, cut_at, member_from, numbers_at, point_at}
use Rattle.cs_fields.specs.Numbers.{axis_from, number_at, number_in, raw_at, signed_at}
use Rattle.cs_fields.specs.Reading.{Reader, ◌>>=◌, checked}
use Rattle.cs_fields.specs.Whole.{whole_of}
use Rattle.cs_fields.specs.declared.fault.PacketFault.{PacketFault}
use Rattle.cs_fields.specs.declared.fault.PacketFault.TheVariants.{Extra, Memory, Short, Value}
use Rattle.cs_item.specs.Beside.{beside_from}
use Rattle.cs_item.specs.RegionsField.{regions_at}
use Rattle.cs_item.specs.RollField.{roll_at}
use Rattle.cs_item.specs.SliceField.{cut_behind, diff_at, head_at, optional_cut_at, part_at, part_rest, slice_at, whole_at}
use Rattle.cs_item.specs.SummaryField.{globals_at, high_at, is_sum_of, sum_at, summary_at, sums_fit}

-- a reader's fault is another one
abbrev pub HasFault : {T : Type 0} → Result T PacketFault → Type 0
HasFault r = r ≢ Err Memory

-- wherever it reads
abbrev pub HasFaults : {T : Type 0} → Reader T → Type 0
HasFaults read = (bytes : List ℕ) (at : ℕ) → HasFault (read bytes at)

ok-fault : {T : Type 0} (x : T) → HasFault (Ok x)
ok-fault x = λ same. absurd (cc)

-- one step and then another
then-fault : {A B : Type 0} (r : Result A PacketFault) (f : A → Result B PacketFault) → HasFault r → ((x : A) → HasFault (f x)) → HasFault (r >>= f)
then-fault (Ok x) f one two = two x
then-fault (Err fault) f one two = λ same. one (cc)

test-fault : {T : Type 0} (b : Bool) (r s : Result T PacketFault) → HasFault r → HasFault s → HasFault (if b then r else s)
test-fault true r s one two = one
test-fault false r s one two = two

-- a fault that isn't want of memory
err-fault : {T : Type 0} (fault : PacketFault) → fault ≢ Memory → HasFault {T = T} (Err fault)
err-fault fault other = λ same. other (cc)

value-fault : {T : Type 0} (at : ℕ) → HasFault {T = T} (Err (Value at))
value-fault {T} at = err-fault {T = T} (Value at) (λ same. absurd (cc))

-- ---- numbers
raw-faults : (n : ℕ) → HasFaults (raw_at n)
unfolding raw_at
raw-faults n bytes at =
    test-fault (nat_lt (length bytes) (at + n)) (Err (Short at)) (Ok (take n (drop at bytes), at + n)) (err-fault (Short at) (λ same. absurd (cc)))
    (ok-fault _)

number-faults : (n : ℕ) → HasFaults (number_at n)
unfolding number_at
number-faults n bytes at = then-fault (raw_at n bytes at) _ (raw-faults n bytes at) (λ x. ok-fault _)

checked-faults : {T : Type 0} (test : T → Bool) (read : Reader T) → HasFaults read → HasFaults (checked test read)
checked-faults test read law bytes at =
    then-fault (read bytes at) _ (law bytes at) (λ x. test-fault (test x.0) (Ok x) (Err (Value at)) (ok-fault x) (value-fault at))

number_in-faults : (n least most : ℕ) → HasFaults (number_in n least most)
number_in-faults n least most = checked-faults _ (number_at n) (number-faults n)

signed-faults : (w : Width) → HasFaults (signed_at w)
unfolding signed_at
signed-faults w bytes at = then-fault _ _ (number-faults _ bytes at) (λ x. ok-fault _)

axis-faults : (low : ℤ) → HasFaults (axis_from low)
axis-faults low = checked-faults _ _ (signed-faults _)

-- ---- lists
elements-faults : {S T : Type 0} (element : S → Reader T) (after : S → T → S) → ((s : S) → HasFaults (element s)) → (n : ℕ) (before : S)
    → HasFaults (elements_at element after n before)
unfolding elements_at
elements-faults element after law zero before bytes at = ok-fault _
elements-faults element after law (suc n) before bytes at =
    then-fault (element before bytes at) _ (law before bytes at)
    (λ x. then-fault _ _ (elements-faults element after law n (after before x.0) bytes x.1) (λ xs. ok-fault _))

counted-faults : {S T : Type 0} (width least most : ℕ) (element : S → Reader T) (after : S → T → S) (before : S) → ((s : S) → HasFaults (element s))
    → HasFaults (counted_at width least most element after before)
unfolding counted_at
counted-faults width least most element after before law bytes at =
    then-fault _ _ (number_in-faults width least most bytes at) (λ count. elements-faults element after law count.0 before bytes count.1)

numbers-faults : (width most first last : ℕ) → HasFaults (numbers_at width most first last)
unfolding numbers_at
numbers-faults width most first last = counted-faults width 0 most _ _ first (λ least. number_in-faults 4 least last)

-- ---- fields
address-faults : HasFaults address_at
unfolding address_at
address-faults bytes at = then-fault _ _ (raw-faults 4 bytes at) (λ ip. then-fault _ _ (number_in-faults 2 1 65535 bytes ip.1) (λ port. ok-fault _))

axis_at-faults : HasFaults axis_at
axis_at-faults = axis-faults (neg_ℤ (pos farthest))

point-faults : HasFaults point_at
unfolding point_at
point-faults bytes at =
    then-fault _ _ (axis_at-faults bytes at)
    (λ x. then-fault _ _ (axis_at-faults bytes x.1)
    (λ y. then-fault _ _ (axis_at-faults bytes y.1) (λ z. ok-fault (record { x = x.0; y = y.0; z = z.0 }, z.1))))

member-faults : (least : ℕ) → HasFaults (member_from least)
unfolding member_from
member-faults least bytes at =
    then-fault _ _ (number_in-faults 4 least last_id bytes at)
    (λ id. then-fault _ _ (address-faults bytes id.1) (λ addr. then-fault _ _ (point-faults bytes addr.1) (λ point. ok-fault _)))

cut-faults : HasFaults cut_at
unfolding cut_at
cut-faults bytes at =
    then-fault _ _ (number_in-faults 1 0 2 bytes at)
    (λ axis. then-fault _ _ (axis_at-faults bytes axis.1)
    (λ place. then-fault _ _ (number_in-faults 4 1 last_id bytes place.1)
    (λ id. then-fault _ _ (number_in-faults 4 0 last_number bytes id.1)
    (λ upper. ok-fault (record { split = record { axis = axis_of axis.0; at = place.0; id = id.0 }; upper = upper.0 }, upper.1)))))

-- ---- summaries
sum-faults : HasFaults sum_at
unfolding sum_at
sum-faults bytes at =
    then-fault _ _ (signed-faults _ bytes at)
    (λ x. then-fault _ _ (signed-faults _ bytes x.1) (λ y. then-fault _ _ (signed-faults _ bytes y.1) (λ z. ok-fault _)))

high-faults : (low : Axes) → HasFaults (high_at low)
unfolding high_at
high-faults low bytes at =
    then-fault _ _ (axis-faults _ bytes at)
    (λ x. then-fault _ _ (axis-faults _ bytes x.1) (λ y. then-fault _ _ (axis-faults _ bytes y.1) (λ z. ok-fault _)))

fit-fault : (size : ℕ) (sum low high : Axes) (at : ℕ) → HasFault (sums_fit size sum low high at)
unfolding sums_fit
fit-fault size sum low high at =
    test-fault (is_sum_of size low.x high.x sum.x) _ _
    (test-fault (is_sum_of size low.y high.y sum.y) _ _
    (test-fault (is_sum_of size low.z high.z sum.z) _ _ (ok-fault tt) (value-fault (at + 16)))
    (value-fault (at + 8)))
    (value-fault at)

globals-faults : (size : ℕ) → HasFaults (globals_at size)
unfolding globals_at
globals-faults size = counted-faults 1 _ _ member_from _ 1 member-faults

summary-faults : HasFaults summary_at
unfolding summary_at
summary-faults bytes at =
    then-fault _ _ (number_in-faults 4 1 most_members bytes at)
    (λ size. then-fault _ _ (sum-faults bytes size.1)
    (λ sum. then-fault _ _ (point-faults bytes sum.1)
    (λ low. then-fault _ _ (high-faults low.0 bytes low.1)
    (λ high. then-fault _ _ (globals-faults size.0 bytes high.1)
    (λ globals. then-fault _ _ (fit-fault size.0 sum.0 low.0 high.0 size.1) (λ fit. ok-fault _))))))

beside-faults : {T : Type 0} (read : Reader T) → HasFaults read → (least : ℕ) → HasFaults (beside_from read least)
unfolding beside_from
beside-faults read law least bytes at =
    then-fault _ _ (number_in-faults 4 least last_number bytes at) (λ region. then-fault _ _ (law bytes region.1) (λ item. ok-fault _))

regions-faults : (least : ℕ) → HasFaults (regions_at least)
unfolding regions_at
regions-faults least = counted-faults 1 least _ _ _ 0 (beside-faults summary_at summary-faults)

roll-faults : (most : ℕ) → HasFaults (roll_at most)
unfolding roll_at
roll-faults most = counted-faults 2 0 most member_from _ 1 member-faults

-- ---- slices
head-faults : (epoch : ℕ) → HasFaults (head_at epoch)
unfolding head_at
head-faults epoch bytes at =
    then-fault _ _ (numbers-faults 1 most_changes 1 last_id bytes at)
    (λ left. then-fault _ _ (numbers-faults 1 most_regions 0 last_number bytes left.1)
    (λ dropped. then-fault _ _ (regions-faults 0 bytes dropped.1)
    (λ summaries. then-fault _ _ (numbers-faults 1 most_regions 0 last_number bytes summaries.1) (λ touched. ok-fault _))))

cut_behind-faults : (flag : ℕ) → HasFaults (cut_behind flag)
cut_behind-faults zero bytes at = ok-fault _
cut_behind-faults (suc n) bytes at = then-fault _ _ (cut-faults bytes at) (λ cut. ok-fault _)

optional_cut-faults : HasFaults optional_cut_at
unfolding optional_cut_at
optional_cut-faults bytes at = then-fault _ _ (number_in-faults 1 0 1 bytes at) (λ flag. cut_behind-faults flag.0 bytes flag.1)

diff-faults : (region : ℕ) → HasFaults (diff_at region)
unfolding diff_at
diff-faults region bytes at =
    then-fault _ _ (numbers-faults 1 most_changes 1 last_id bytes at)
    (λ gone. then-fault _ _ (roll-faults most_members bytes gone.1) (λ here. then-fault _ _ (optional_cut-faults bytes here.1) (λ cut. ok-fault _)))

whole-faults : (region : ℕ) → HasFaults (whole_at region)
unfolding whole_at
whole-faults region bytes at =
    then-fault _ _ (number_in-faults 4 0 last_number bytes at)
    (λ into. then-fault _ _ (roll-faults most_members bytes into.1) (λ roll. then-fault _ _ (optional_cut-faults bytes roll.1) (λ cut. ok-fault _)))

part_rest-faults : (kind region : ℕ) → HasFaults (part_rest kind region)
part_rest-faults zero region bytes at = ok-fault _
part_rest-faults (suc zero) region bytes at = diff-faults region bytes at
part_rest-faults (suc (suc n)) region bytes at = whole-faults region bytes at

part-faults : (region : ℕ) → HasFaults (part_at region)
unfolding part_at
part-faults region bytes at = then-fault _ _ (number_in-faults 1 0 2 bytes at) (λ kind. part_rest-faults kind.0 region bytes kind.1)

pub slice-faults : HasFaults slice_at
unfolding slice_at
slice-faults bytes at =
    then-fault _ _ (number_in-faults 4 1 last_number bytes at)
    (λ epoch. then-fault _ _ (number_in-faults 4 0 last_number bytes epoch.1)
    (λ region. then-fault _ _ (head-faults epoch.0 bytes region.1) (λ head. then-fault _ _ (part-faults region.0 bytes head.1) (λ part. ok-fault _))))

-- nor does one that reads bytes as a whole
pub whole_of-fault : {T : Type 0} (read : Reader T) → HasFaults read → (bytes : List ℕ) → HasFault (whole_of read bytes)
unfolding whole_of
whole_of-fault read law bytes =
    then-fault (read bytes 0) _ (law bytes 0)
    (λ x. test-fault (x.1 == length bytes) (Ok x.0) (Err (Extra x.1)) (ok-fault x.0) (err-fault (Extra x.1) (λ same. absurd (cc))))
