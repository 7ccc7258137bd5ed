-- The two parts of a roll: both ascend, together they are the roll, and no id is in both.
use Rattle.std.proofs.Common.{◌≡◌, true, not, List, get_or, None, All, Contains}
use Rattle.std.proofs.Common.{ap, sym, ◌∙◌, inl, inr, arith}
use Rattle.std.proofs.lemmas.Bool.{cases_lt}
use Rattle.std.proofs.lemmas.List.{get_or_default}
use Rattle.std.proofs.lemmas.List.Elements.{All-filter, All-get_or, All-contains_itself, filter_passes}
use Rattle.cs_base.specs.declared.member.Member.{Member}
use Rattle.cs_base.specs.declared.split.Split.{Split}
use Rattle.cs_base.specs.Split.{is_lower, is_upper, lower_part, upper_part}
use Rattle.cs_base.specs.Ranges.{IsMember}
use Rattle.cs_base.proofs.Ascending.{key-lt, find-absent, IsOrderedBy-filter}
use Rattle.cs_roll.specs.Roll.{IsById, IsRoll, member_id, member_of}

-- the lower part is a roll
pub IsRoll-lower : (s : Split) (members : List Member) → IsRoll members → IsRoll (lower_part s members)
IsRoll-lower s members up = IsOrderedBy-filter member_id IsMember (is_lower s) members up

-- and so is the upper one
pub IsRoll-upper : (s : Split) (members : List Member) → IsRoll members → IsRoll (upper_part s members)
IsRoll-upper s members up = IsOrderedBy-filter member_id IsMember (is_upper s) members up

-- two members of a roll with one id are the same
same-id : (members : List Member) → IsById members → (m k : Member) → Contains members m → Contains members k → m.id ≡ k.id → m ≡ k
same-id members up m k has_m has_k same =
    let m_is : get_or members has_m.0 m ≡ m = has_m.2 in
    let k_is : get_or members has_k.0 m ≡ k = get_or_default members has_k.0 m k has_k.1 ∙ has_k.2 in
    let ids : (get_or members has_m.0 m).id ≡ (get_or members has_k.0 m).id = ap member_id m_is ∙ (same ∙ sym (ap member_id k_is)) in
    elim (cases_lt has_m.0 has_k.0) [
      | inl before ↦ absurd (omega (arith, ids, key-lt member_id members up has_m.0 has_k.0 m before has_k.1))
      | inr not_before ↦ elim (cases_lt has_k.0 has_m.0) [
        | inl after ↦ absurd (omega (arith, ids, key-lt member_id members up has_k.0 has_m.0 m after has_m.1))
        | inr not_after ↦ (let one : has_m.0 ≡ has_k.0 = omega arith in sym m_is ∙ (ap (λ i. get_or members i m) one ∙ k_is))
      ]
    ]

-- no lower member's id is found among the upper ones
pub disjoint-parts : (s : Split) (members : List Member) → IsById members
    → All (λ (m : Member). member_of m.id (upper_part s members) ≡ None) (lower_part s members)
disjoint-parts s members up k d lt =
    let lower = lower_part s members in
    let upper = upper_part s members in
    let m = get_or lower k d in
    let m_in = All-get_or (Contains members) lower k d lt (All-filter (is_lower s) (Contains members) members (All-contains_itself members)) in
    let m_lower : is_lower s m ≡ true = All-get_or (λ n. is_lower s n ≡ true) lower k d lt (filter_passes (is_lower s) members) in
    find-absent member_id m.id upper (λ j e in_range same.
    let n = get_or upper j e in
    let n_in = All-get_or (Contains members) upper j e in_range (All-filter (is_upper s) (Contains members) members (All-contains_itself members)) in
    let n_upper : not (is_lower s n) ≡ true = All-get_or (λ o. is_upper s o ≡ true) upper j e in_range (filter_passes (is_upper s) members) in
    let one : n ≡ m = same-id members up n m n_in m_in same in
    let clash : not true ≡ true = sym (ap not (ap (is_lower s) one ∙ m_lower)) ∙ n_upper in
    cc)
