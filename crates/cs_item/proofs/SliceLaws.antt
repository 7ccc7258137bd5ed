-- The laws of a slice.
use Rattle.std.proofs.Common.{◌≡◌, ℕ, zero, suc, ◌≤◌, List, [], ◌∷◌, ◌++◌, length, Option, Some, None}
use Rattle.std.proofs.Common.{IfSome, Result, Ok}
use Rattle.std.proofs.Common.{refl, sym, ap, subst, ◌∙◌, append_assoc, arith}
use Rattle.std.specs.Prelude.{pos}
use Rattle.std.specs.List.{sum}
use Rattle.std.proofs.lemmas.List.{append-nil}
use Rattle.cs_base.specs.Limits.{most_changes, most_members, most_regions}
use Rattle.cs_base.specs.Ranges.{IsCut, IsFromTo, IsId, IsRegion}
use Rattle.cs_base.specs.declared.member.Member.{Member}
use Rattle.cs_base.specs.declared.point.Axis.TheVariants.{X}
use Rattle.cs_base.specs.declared.split.Cut.{Cut}
use Rattle.cs_fields.specs.declared.fault.PacketFault.{PacketFault}
use Rattle.cs_fields.specs.Reading.{◌>>=◌, Gives, IsTaken}
use Rattle.cs_fields.specs.Numbers.{number_bytes}
use Rattle.cs_fields.specs.Fields.{cut_bytes, cut_sizes, id_bytes, ids_bytes, ids_sizes, IsIds, IsLaterEpoch}
use Rattle.cs_fields.specs.Fields.{region_at, region_list_at}
use Rattle.cs_fields.proofs.Codec.{IsBytes, IsCodec, IsCodec-bind, IsCodec-done, IsCodec-text, sum-append, sum-cons, taken}
use Rattle.cs_fields.proofs.Fields.{cut_codec, region_from_codec}
use Rattle.cs_fields.proofs.Lists.{ids_codec, numbers_size, region_list_codec}
use Rattle.cs_fields.proofs.Numbers.{number_in_codec}
use Rattle.cs_item.specs.RegionsField.{regions_at, regions_sizes}
use Rattle.cs_item.specs.RollField.{AreMembers, roll_at, roll_bytes, roll_sizes}
use Rattle.cs_item.specs.SliceField.{cut_behind, diff_at, HasLists, head_at, head_bytes, head_len, head_sizes, IsHeadOf, IsKind, IsSlice, kind_bytes}
use Rattle.cs_item.specs.SliceField.{kind_sizes, optional_cut_at, optional_cut_bytes, optional_cut_sizes, part_at, part_bytes, part_len, part_rest, part_sizes}
use Rattle.cs_item.specs.SliceField.{slice_at, slice_bytes, slice_len, slice_sizes, whole_at}
use Rattle.cs_item.specs.declared.head.Head.{Head}
use Rattle.cs_item.specs.declared.part.Part.{Part}
use Rattle.cs_item.specs.declared.part.PartKind.{PartKind}
use Rattle.cs_item.specs.declared.part.PartKind.TheVariants.{Same, Diff, Whole}
use Rattle.cs_item.specs.declared.slice.Slice.{Slice}
use Rattle.cs_item.proofs.RegionLaws.{regions_codec, regions_size}
use Rattle.cs_item.proofs.RollLaws.{members_size, roll_codec}

-- ---- the head
pub head_codec : (epoch : ℕ) → IsCodec (head_at epoch) head_bytes head_sizes (IsHeadOf epoch)
unfolding head_at head_bytes
head_codec epoch =
    IsCodec-text
    (IsCodec-bind
    (λ left. λ bytes at. region_list_at bytes at >>= λ dropped. regions_at 0 bytes dropped.1 >>= λ summaries. region_list_at bytes summaries.1 >>= λ touched.
    Ok (record { epoch = epoch; left = left.0; dropped = dropped.0; summaries = summaries.0; touched = touched.0 }, touched.1))
    (λ h. h.left) ids_codec
    (λ left are_left. IsCodec-bind
    (λ dropped. λ bytes at. regions_at 0 bytes at >>= λ summaries. region_list_at bytes summaries.1 >>= λ touched.
    Ok (record { epoch = epoch; left = left.0; dropped = dropped.0; summaries = summaries.0; touched = touched.0 }, touched.1))
    (λ h. h.dropped) region_list_codec
    (λ dropped are_dropped. IsCodec-bind
    (λ summaries. λ bytes at. region_list_at bytes at >>= λ touched.
    Ok (record { epoch = epoch; left = left.0; dropped = dropped.0; summaries = summaries.0; touched = touched.0 }, touched.1))
    (λ h. h.summaries) (regions_codec 0)
    (λ summaries are_summaries. IsCodec-bind
    (λ touched. λ bytes at. Ok (record { epoch = epoch; left = left.0; dropped = dropped.0; summaries = summaries.0; touched = touched.0 }, at))
    (λ h. h.touched) region_list_codec
    (λ touched are_touched. IsCodec-done (record { epoch = epoch; left = left.0; dropped = dropped.0; summaries = summaries.0; touched = touched.0 })
    (refl, (refl, (refl, (refl, (refl, record { left = are_left; dropped = are_dropped; summaries = are_summaries; touched = are_touched })))))
    (λ h is. rw (← is.0, ← is.1.0, ← is.1.1.0, ← is.1.1.1.0, ← is.1.1.1.1.0) refl))
    (λ h is. is.1.1.1.1.touched))
    (λ h is. is.1.1.1.summaries))
    (λ h is. is.1.1.dropped))
    (λ h is. is.1.left))
    (λ h is. (simp (append_assoc, append-nil), simp (append_assoc, append-nil)))

head_size : (h : Head) → HasLists h → sum (head_sizes h) ≤ head_len
head_size h is =
    let left = ids_sizes h.left in
    let dropped = ids_sizes h.dropped in
    let summaries = regions_sizes h.summaries in
    omega (
      arith,
      sum-append (left ++ dropped ++ summaries) (ids_sizes h.touched),
      sum-append (left ++ dropped) summaries,
      sum-append left dropped,
      numbers_size IsId 1 most_changes h.left is.left,
      numbers_size IsRegion 1 most_regions h.dropped is.dropped,
      regions_size 0 h.summaries is.summaries,
      numbers_size IsRegion 1 most_regions h.touched is.touched,
    )

pub head_taken : (epoch : ℕ) (bytes : List ℕ) (at : ℕ) (r : Result (Head × ℕ) PacketFault) → IsBytes bytes → at ≤ length bytes
    → Gives r (head_at epoch bytes at) → IsTaken head_bytes (IsHeadOf epoch) head_len bytes at r
head_taken epoch bytes at r are_bytes within given = taken head_len bytes at r (head_codec epoch) (λ h is. head_size h is.1) are_bytes within given

-- ---- a cut that may be there
abbrev flag_of : Option Cut → ℕ
flag_of None = 0
flag_of (Some cut) = 1

abbrev cut_or : Option Cut → Cut
cut_or None = record { split = record { axis = X; at = pos 0; id = 0 }; upper = 0 }
cut_or (Some cut) = cut

abbrev cut_rest : Option Cut → List ℕ
cut_rest None = []
cut_rest (Some cut) = cut_bytes cut

abbrev cut_rest_sizes : Option Cut → List ℕ
cut_rest_sizes None = []
cut_rest_sizes (Some cut) = cut_sizes cut

abbrev IsFlagged : ℕ → Option Cut → Type 0
IsFlagged flag o = (flag_of o ≡ flag) × IfSome o IsCut

none_is : (o : Option Cut) → IsFlagged 0 o → o ≡ None
none_is None is = refl
none_is (Some cut) is = cc

none_text : (o : Option Cut) → IsFlagged 0 o → ([] ≡ cut_rest o) × ([] ≡ cut_rest_sizes o)
none_text None is = (refl, refl)
none_text (Some cut) is = cc

some_is : (cut : Cut) (o : Option Cut) → cut_or o ≡ cut → IsFlagged 1 o → o ≡ Some cut
some_is cut None e is = cc
some_is cut (Some c) e is = ap Some e

some_text : (o : Option Cut) → IsFlagged 1 o → (cut_bytes (cut_or o) ++ [] ≡ cut_rest o) × (cut_sizes (cut_or o) ++ [] ≡ cut_rest_sizes o)
some_text None is = cc
some_text (Some cut) is = (append-nil (cut_bytes cut), refl)

some_cut : (o : Option Cut) → IsFlagged 1 o → IsCut (cut_or o)
some_cut None is = cc
some_cut (Some cut) is = is.1

cut_behind_codec : (flag : ℕ) → flag ≤ 1 → IsCodec (cut_behind flag) cut_rest cut_rest_sizes (IsFlagged flag)
cut_behind_codec zero small = IsCodec-text (IsCodec-done None (refl, tt) none_is) none_text
cut_behind_codec (suc zero) small =
    IsCodec-text
    (IsCodec-bind (λ cut. λ bytes at. Ok (Some cut.0, at)) cut_or cut_codec
    (λ cut is_cut. IsCodec-done (Some cut.0) (refl, (refl, is_cut)) (λ o is. some_is cut.0 o is.0 is.1))
    some_cut)
    some_text
cut_behind_codec (suc (suc n)) small = absurd (omega arith)

flag_small : (o : Option Cut) → IsFromTo 0 1 (flag_of o)
flag_small None = (omega arith, omega arith)
flag_small (Some cut) = (omega arith, omega arith)

optional_text : (o : Option Cut)
    → (number_bytes 1 (flag_of o) ++ cut_rest o ≡ optional_cut_bytes o) × (1 ∷ cut_rest_sizes o ≡ optional_cut_sizes o)
unfolding optional_cut_bytes
optional_text None = (append-nil (number_bytes 1 0), refl)
optional_text (Some cut) = (refl, refl)

pub optional_cut_codec : IsCodec optional_cut_at optional_cut_bytes optional_cut_sizes (λ o. IfSome o IsCut)
unfolding optional_cut_at
optional_cut_codec =
    IsCodec-text
    (IsCodec-bind (λ flag. cut_behind flag.0) flag_of (number_in_codec 1 0 1 (omega arith) (omega arith))
    (λ flag small. cut_behind_codec flag.0 small.1) (λ o is. flag_small o))
    (λ o _. optional_text o)

optional_size : (o : Option Cut) → sum (optional_cut_sizes o) ≤ 14
optional_size None = omega arith
optional_size (Some cut) = omega arith

-- ---- the part
abbrev kind_number : PartKind → ℕ
kind_number Same = 0
kind_number (Diff gone here) = 1
kind_number (Whole into roll) = 2

abbrev gone_of : PartKind → List ℕ
gone_of Same = []
gone_of (Diff gone here) = gone
gone_of (Whole into roll) = []

abbrev into_of : PartKind → ℕ
into_of Same = 0
into_of (Diff gone here) = 0
into_of (Whole into roll) = into

abbrev members_of : PartKind → List Member
members_of Same = []
members_of (Diff gone here) = here
members_of (Whole into roll) = roll

-- what is spelt behind the number of the kind
abbrev kind_rest : PartKind → List ℕ → List ℕ
kind_rest Same cut = []
kind_rest (Diff gone here) cut = ids_bytes gone ++ (roll_bytes here ++ cut)
kind_rest (Whole into roll) cut = id_bytes into ++ (roll_bytes roll ++ cut)

abbrev part_text : Part → List ℕ
part_text p = kind_rest p.kind (optional_cut_bytes p.cut)

-- the sizes of the fields of that
abbrev kind_rest_sizes : PartKind → List ℕ → List ℕ
kind_rest_sizes Same cut = []
kind_rest_sizes (Diff gone here) cut = ids_sizes gone ++ (roll_sizes here ++ cut)
kind_rest_sizes (Whole into roll) cut = 4 ∷ (roll_sizes roll ++ cut)

abbrev part_lengths : Part → List ℕ
part_lengths p = kind_rest_sizes p.kind (optional_cut_sizes p.cut)

-- the part of this region
abbrev IsPartOf : ℕ → Part → Type 0
IsPartOf region p = (p.region ≡ region) × (IsKind p.kind p.cut × IfSome p.cut IsCut)

-- and of this kind
abbrev IsKindOf : ℕ → ℕ → Part → Type 0
IsKindOf kind region p = (kind_number p.kind ≡ kind) × IsPartOf region p

same_kind : (k : PartKind) → kind_number k ≡ 0 → k ≡ Same
same_kind Same e = refl
same_kind (Diff gone here) e = cc
same_kind (Whole into roll) e = cc

same_cut : (k : PartKind) (cut : Option Cut) → kind_number k ≡ 0 → IsKind k cut → cut ≡ None
same_cut Same cut e is = is
same_cut (Diff gone here) cut e is = cc
same_cut (Whole into roll) cut e is = cc

same_text : (k : PartKind) (cut sizes : List ℕ) → kind_number k ≡ 0 → ([] ≡ kind_rest k cut) × ([] ≡ kind_rest_sizes k sizes)
same_text Same cut sizes e = (refl, refl)
same_text (Diff gone here) cut sizes e = cc
same_text (Whole into roll) cut sizes e = cc

-- a part of these values
abbrev part_with : ℕ → PartKind → Option Cut → Part
part_with region kind cut = record { region = region; kind = kind; cut = cut }

part_is : (p : Part) (region : ℕ) (kind : PartKind) (cut : Option Cut) → p.region ≡ region → p.kind ≡ kind → p.cut ≡ cut → p ≡ part_with region kind cut
part_is p region kind cut er ek ec = rw (← er, ← ek, ← ec) refl

same_codec : (region : ℕ) → IsCodec (part_rest 0 region) part_text part_lengths (IsKindOf 0 region)
same_codec region =
    IsCodec-text
    (IsCodec-done (part_with region Same None) (refl, (refl, (refl, tt)))
    (λ p is. part_is p region Same None is.1.0 (same_kind p.kind is.0) (same_cut p.kind p.cut is.0 is.1.1.0)))
    (λ p is. same_text p.kind (optional_cut_bytes p.cut) (optional_cut_sizes p.cut) is.0)

diff_kind : (k : PartKind) → kind_number k ≡ 1 → k ≡ Diff (gone_of k) (members_of k)
diff_kind Same e = cc
diff_kind (Diff gone here) e = refl
diff_kind (Whole into roll) e = cc

diff_allowed : (k : PartKind) (cut : Option Cut) → kind_number k ≡ 1 → IsKind k cut → IsIds (gone_of k) × AreMembers 0 most_members (members_of k)
diff_allowed Same cut e is = cc
diff_allowed (Diff gone here) cut e is = is
diff_allowed (Whole into roll) cut e is = cc

diff_text : (k : PartKind) (cut sizes : List ℕ) → kind_number k ≡ 1
    → (ids_bytes (gone_of k) ++ (roll_bytes (members_of k) ++ (cut ++ [])) ≡ kind_rest k cut)
    × (ids_sizes (gone_of k) ++ (roll_sizes (members_of k) ++ (sizes ++ [])) ≡ kind_rest_sizes k sizes)
diff_text Same cut sizes e = cc
diff_text (Diff gone here) cut sizes e = (
  ap (λ (s : List ℕ). ids_bytes gone ++ (roll_bytes here ++ s)) (append-nil cut),
  ap (λ (s : List ℕ). ids_sizes gone ++ (roll_sizes here ++ s)) (append-nil sizes),
)
diff_text (Whole into roll) cut sizes e = cc

diff_codec : (region : ℕ) → IsCodec (diff_at region) part_text part_lengths (IsKindOf 1 region)
unfolding diff_at
diff_codec region =
    IsCodec-text
    (IsCodec-bind
    (λ gone. λ bytes at. roll_at most_members bytes at >>= λ here. optional_cut_at bytes here.1 >>= λ cut.
    Ok (part_with region (Diff gone.0 here.0) cut.0, cut.1))
    (λ p. gone_of p.kind) ids_codec
    (λ gone are_gone. IsCodec-bind
    (λ here. λ bytes at. optional_cut_at bytes at >>= λ cut. Ok (part_with region (Diff gone.0 here.0) cut.0, cut.1))
    (λ p. members_of p.kind) (roll_codec most_members (omega arith))
    (λ here are_here. IsCodec-bind (λ cut. λ bytes at. Ok (part_with region (Diff gone.0 here.0) cut.0, at)) (λ p. p.cut) optional_cut_codec
    (λ cut is_cut. IsCodec-done (part_with region (Diff gone.0 here.0) cut.0)
    (refl, (refl, (refl, (refl, (refl, ((are_gone, are_here), is_cut))))))
    (λ p is. part_is p region (Diff gone.0 here.0) cut.0 is.1.1.1.1.0
    (diff_kind p.kind is.1.1.1.0 ∙ rw (is.1.1.0, is.1.0) refl) is.0))
    (λ p is. is.1.1.1.1.1))
    (λ p is. (diff_allowed p.kind p.cut is.1.0 is.1.1.1.0).1))
    (λ p is. (diff_allowed p.kind p.cut is.0 is.1.1.0).0))
    (λ p is. diff_text p.kind (optional_cut_bytes p.cut) (optional_cut_sizes p.cut) is.0)

whole_kind : (k : PartKind) → kind_number k ≡ 2 → k ≡ Whole (into_of k) (members_of k)
whole_kind Same e = cc
whole_kind (Diff gone here) e = cc
whole_kind (Whole into roll) e = refl

whole_allowed : (k : PartKind) (cut : Option Cut) → kind_number k ≡ 2 → IsKind k cut → IsRegion (into_of k) × AreMembers 0 most_members (members_of k)
whole_allowed Same cut e is = cc
whole_allowed (Diff gone here) cut e is = cc
whole_allowed (Whole into roll) cut e is = is

whole_text : (k : PartKind) (cut sizes : List ℕ) → kind_number k ≡ 2
    → (id_bytes (into_of k) ++ (roll_bytes (members_of k) ++ (cut ++ [])) ≡ kind_rest k cut)
    × (4 ∷ (roll_sizes (members_of k) ++ (sizes ++ [])) ≡ kind_rest_sizes k sizes)
whole_text Same cut sizes e = cc
whole_text (Diff gone here) cut sizes e = cc
whole_text (Whole into roll) cut sizes e = (
  ap (λ (s : List ℕ). id_bytes into ++ (roll_bytes roll ++ s)) (append-nil cut),
  ap (λ (s : List ℕ). 4 ∷ (roll_sizes roll ++ s)) (append-nil sizes),
)

whole_codec : (region : ℕ) → IsCodec (whole_at region) part_text part_lengths (IsKindOf 2 region)
unfolding whole_at
whole_codec region =
    IsCodec-text
    (IsCodec-bind
    (λ into. λ bytes at. roll_at most_members bytes at >>= λ roll. optional_cut_at bytes roll.1 >>= λ cut.
    Ok (part_with region (Whole into.0 roll.0) cut.0, cut.1))
    (λ p. into_of p.kind) (region_from_codec 0)
    (λ into is_into. IsCodec-bind
    (λ roll. λ bytes at. optional_cut_at bytes at >>= λ cut. Ok (part_with region (Whole into.0 roll.0) cut.0, cut.1))
    (λ p. members_of p.kind) (roll_codec most_members (omega arith))
    (λ roll are_roll. IsCodec-bind (λ cut. λ bytes at. Ok (part_with region (Whole into.0 roll.0) cut.0, at)) (λ p. p.cut) optional_cut_codec
    (λ cut is_cut. IsCodec-done (part_with region (Whole into.0 roll.0) cut.0)
    (refl, (refl, (refl, (refl, (refl, ((is_into, are_roll), is_cut))))))
    (λ p is. part_is p region (Whole into.0 roll.0) cut.0 is.1.1.1.1.0
    (whole_kind p.kind is.1.1.1.0 ∙ rw (is.1.1.0, is.1.0) refl) is.0))
    (λ p is. is.1.1.1.1.1))
    (λ p is. (whole_allowed p.kind p.cut is.1.0 is.1.1.1.0).1))
    (λ p is. (whole_allowed p.kind p.cut is.0 is.1.1.0).0))
    (λ p is. whole_text p.kind (optional_cut_bytes p.cut) (optional_cut_sizes p.cut) is.0)

part_rest_codec : (kind region : ℕ) → kind ≤ 2 → IsCodec (part_rest kind region) part_text part_lengths (IsKindOf kind region)
part_rest_codec zero region small = same_codec region
part_rest_codec (suc zero) region small = diff_codec region
part_rest_codec (suc (suc zero)) region small = whole_codec region
part_rest_codec (suc (suc (suc n))) region small = absurd (omega arith)

kind_small : (k : PartKind) → IsFromTo 0 2 (kind_number k)
kind_small Same = (omega arith, omega arith)
kind_small (Diff gone here) = (omega arith, omega arith)
kind_small (Whole into roll) = (omega arith, omega arith)

kind_text : (k : PartKind) (cut sizes : List ℕ)
    → (number_bytes 1 (kind_number k) ++ kind_rest k cut ≡ kind_bytes k cut) × (1 ∷ kind_rest_sizes k sizes ≡ kind_sizes k sizes)
kind_text Same cut sizes = (append-nil (number_bytes 1 0), refl)
kind_text (Diff gone here) cut sizes = (simp append_assoc, simp append_assoc)
kind_text (Whole into roll) cut sizes = (simp append_assoc, refl)

pub part_codec : (region : ℕ) → IsCodec (part_at region) part_bytes part_sizes (IsPartOf region)
unfolding part_at part_bytes
part_codec region =
    IsCodec-text
    (IsCodec-bind (λ kind. part_rest kind.0 region) (λ p. kind_number p.kind) (number_in_codec 1 0 2 (omega arith) (omega arith))
    (λ kind small. part_rest_codec kind.0 region small.1) (λ p is. kind_small p.kind))
    (λ p _. kind_text p.kind (optional_cut_bytes p.cut) (optional_cut_sizes p.cut))

kind_size : (k : PartKind) (cut : Option Cut) (sizes : List ℕ) → IsKind k cut → sum sizes ≤ 14 → sum (kind_sizes k sizes) ≤ part_len
kind_size Same cut sizes is short = omega arith
kind_size (Diff gone here) cut sizes is short =
    omega (
      arith,
      sum-append (1 ∷ ids_sizes gone ++ roll_sizes here) sizes,
      sum-append (1 ∷ ids_sizes gone) (roll_sizes here),
      sum-cons 1 (ids_sizes gone),
      numbers_size IsId 1 most_changes gone is.0,
      members_size 2 most_members here is.1.allowed is.1.few,
    )
kind_size (Whole into roll) cut sizes is short =
    omega (
      arith,
      sum-append (1 ∷ 4 ∷ roll_sizes roll) sizes,
      sum-append (1 ∷ 4 ∷ []) (roll_sizes roll),
      members_size 2 most_members roll is.1.allowed is.1.few,
    )

-- ---- the slice
pub slice_codec : IsCodec slice_at slice_bytes slice_sizes IsSlice
unfolding slice_at slice_bytes
slice_codec =
    IsCodec-text
    (IsCodec-bind
    (λ epoch. λ bytes at. region_at bytes at >>= λ region. head_at epoch.0 bytes region.1 >>= λ head. part_at region.0 bytes head.1 >>= λ part.
    Ok (record { head = head.0; part = part.0 }, part.1))
    (λ s. s.head.epoch) (region_from_codec 1)
    (λ epoch is_epoch. IsCodec-bind
    (λ region. λ bytes at. head_at epoch.0 bytes at >>= λ head. part_at region.0 bytes head.1 >>= λ part. Ok
    (record { head = head.0; part = part.0 }, part.1))
    (λ s. s.part.region) (region_from_codec 0)
    (λ region is_region. IsCodec-bind (λ head. λ bytes at. part_at region.0 bytes at >>= λ part. Ok (record { head = head.0; part = part.0 }, part.1))
    (λ s. s.head) (head_codec epoch.0)
    (λ head is_head. IsCodec-bind (λ part. λ bytes at. Ok (record { head = head.0; part = part.0 }, at)) (λ s. s.part) (part_codec region.0)
    (λ part is_part. IsCodec-done (record { head = head.0; part = part.0 }) (
      refl,
      (
        refl,
        (
          is_part.0,
          (
            is_head.0,
            record {
              head = record { epoch = subst IsLaterEpoch (sym is_head.0) is_epoch; lists = is_head.1 };
              part = record { region = subst IsRegion (sym is_part.0) is_region; kind = is_part.1.0; cut = is_part.1.1 };
            },
          ),
        ),
      ),
    )
    (λ s is. rw (← is.0, ← is.1.0) refl))
    (λ s is. (is.1.0, (is.1.1.1.part.kind, is.1.1.1.part.cut))))
    (λ s is. (is.1.0, is.1.1.head.lists)))
    (λ s is. is.1.part.region))
    (λ s is. is.head.epoch))
    (λ s is. (simp (append_assoc, append-nil), ap (λ (sizes : List ℕ). 4 ∷ 4 ∷ (head_sizes s.head ++ sizes)) (append-nil (part_sizes s.part))))

pub slice_size : (s : Slice) → IsSlice s → sum (slice_sizes s) ≤ slice_len
slice_size s is =
    omega (
      arith,
      sum-append (4 ∷ 4 ∷ head_sizes s.head) (part_sizes s.part),
      sum-append (4 ∷ 4 ∷ []) (head_sizes s.head),
      head_size s.head is.head.lists,
      kind_size s.part.kind s.part.cut (optional_cut_sizes s.part.cut) is.part.kind (optional_size s.part.cut),
    )

pub slice_taken : (bytes : List ℕ) (at : ℕ) (r : Result (Slice × ℕ) PacketFault) → IsBytes bytes → at ≤ length bytes
    → Gives r (slice_at bytes at) → IsTaken slice_bytes IsSlice slice_len bytes at r
slice_taken bytes at r are_bytes within given = taken slice_len bytes at r slice_codec slice_size are_bytes within given
