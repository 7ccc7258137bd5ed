-- The laws of changes and of lists of changes.
use Rattle.std.proofs.Common.{◌≡◌, ◌≢◌, ℕ, zero, suc, ◌≤◌, true, List, [], ◌∷◌, ◌++◌, Ok}
use Rattle.std.proofs.Common.{refl, ap, ◌∙◌, append_assoc, arith}
use Rattle.std.specs.Prelude.{pos}
use Rattle.std.specs.List.{AllByRecursion, sum}
use Rattle.std.proofs.lemmas.Bool.Decides.{nat_tests}
use Rattle.std.proofs.lemmas.List.{append-nil}
use Rattle.cs_base.specs.Address.{Address, IsAddress}
use Rattle.cs_base.specs.Ascending.{IsDistinctBy}
use Rattle.cs_base.specs.Axes.{Axes, IsPoint}
use Rattle.cs_base.specs.Changes.{id_of}
use Rattle.cs_base.specs.Limits.{last_id, most_changes}
use Rattle.cs_base.specs.Ranges.{IsFromTo, IsId, IsSeq, IsChange}
use Rattle.cs_base.specs.declared.change.Change.{Change}
use Rattle.cs_base.specs.declared.change.Change.TheVariants.{Join, Move, Leave}
use Rattle.cs_fields.specs.Reading.{◌>>=◌, checked}
use Rattle.cs_fields.specs.Numbers.{number_bytes}
use Rattle.cs_fields.specs.Fields.{id_at, id_bytes, address_bytes, address_sizes, point_at, point_bytes, point_sizes, member_bytes}
use Rattle.cs_fields.specs.Changes.{join_at, move_at, change_rest, is_new, change_after, change_at, change_bytes, change_sizes, change_len, IsNewChange}
use Rattle.cs_fields.specs.Changes.{IsChanges, with_change, changes_at, changes_bytes, changes_sizes, changes_len}
use Rattle.cs_fields.proofs.Codec.{IsCodec, IsCodec-done, IsCodec-bind, IsCodec-same, IsCodec-text, IsCodec-checked}
use Rattle.cs_fields.proofs.Numbers.{number_in_codec}
use Rattle.cs_fields.proofs.Counted.{IsAllowedFrom, counted_codec, counted_size}
use Rattle.cs_fields.proofs.Fields.{id_from_codec, address_codec, point_codec}

-- ---- the parts of a change, where it has them
abbrev tag_of : Change → ℕ
tag_of (Join member) = 1
tag_of (Move id seq at) = 2
tag_of (Leave id) = 3

abbrev addr_of : Change → Address
addr_of (Join member) = member.addr
addr_of (Move id seq at) = record { ip = []; port = 0 }
addr_of (Leave id) = record { ip = []; port = 0 }

abbrev seq_of : Change → ℕ
seq_of (Join member) = 0
seq_of (Move id seq at) = seq
seq_of (Leave id) = 0

abbrev at_of : Change → Axes
at_of (Join member) = member.at
at_of (Move id seq at) = at
at_of (Leave id) = record { x = pos 0; y = pos 0; z = pos 0 }

-- what is spelt behind the tag and the id
abbrev rest_bytes : Change → List ℕ
rest_bytes (Join member) = address_bytes member.addr ++ point_bytes member.at
rest_bytes (Move id seq at) = number_bytes 4 seq ++ point_bytes at
rest_bytes (Leave id) = []

abbrev rest_sizes : Change → List ℕ
rest_sizes (Join member) = address_sizes member.addr ++ point_sizes member.at
rest_sizes (Move id seq at) = 4 ∷ point_sizes at
rest_sizes (Leave id) = []

-- an allowed change of this tag and this id
abbrev IsOf : ℕ → ℕ → Change → Type 0
IsOf tag id c = (id_of c ≡ id) × ((tag_of c ≡ tag) × IsChange c)

join_addr : (id : ℕ) (c : Change) → IsOf 1 id c → IsAddress (addr_of c)
join_addr id (Join member) is = is.1.1.addr
join_addr id c is = cc

join_point : (id : ℕ) (c : Change) → IsOf 1 id c → IsPoint (at_of c)
join_point id (Join member) is = is.1.1.at
join_point id c is = cc

join_text : (id : ℕ) (c : Change) → IsOf 1 id c
    → (address_bytes (addr_of c) ++ (point_bytes (at_of c) ++ []) ≡ rest_bytes c) × (address_sizes (addr_of c) ++ (point_sizes (at_of c) ++ []) ≡ rest_sizes c)
join_text id (Join member) is = (ap (λ (s : List ℕ). address_bytes member.addr ++ s) (append-nil (point_bytes member.at)), refl)
join_text id c is = cc

join_is : (id : ℕ) (addr : Address) (point : Axes) (c : Change) → at_of c ≡ point → addr_of c ≡ addr → IsOf 1 id c
    → c ≡ Join (record { id = id; addr = addr; at = point })
join_is id addr point (Join member) ep ea is = rw (← ep, ← ea, ← is.0) refl
join_is id addr point c ep ea is = cc

join_codec : (id : ℕ) → IsId id → IsCodec (join_at id) rest_bytes rest_sizes (IsOf 1 id)
unfolding join_at
join_codec id is_id =
    IsCodec-text
    (IsCodec-bind (λ addr. λ bytes at. point_at bytes at >>= λ point. Ok (Join (record { id = id; addr = addr.0; at = point.0 }), point.1))
    addr_of address_codec
    (λ addr is_addr. IsCodec-bind (λ point. λ bytes at. Ok (Join (record { id = id; addr = addr.0; at = point.0 }), at)) at_of point_codec
    (λ point is_point. IsCodec-done (Join (record { id = id; addr = addr.0; at = point.0 }))
    (refl, (refl, (refl, (refl, record { id = is_id; addr = is_addr; at = is_point }))))
    (λ c is. join_is id addr.0 point.0 c is.0 is.1.0 is.1.1))
    (λ c is. join_point id c is.1))
    (join_addr id))
    (join_text id)

move_seq : (id : ℕ) (c : Change) → IsOf 2 id c → IsSeq (seq_of c)
move_seq id (Move i seq at) is = is.1.1.1
move_seq id c is = cc

move_point : (id : ℕ) (c : Change) → IsOf 2 id c → IsPoint (at_of c)
move_point id (Move i seq at) is = is.1.1.2
move_point id c is = cc

move_text : (id : ℕ) (c : Change) → IsOf 2 id c
    → (number_bytes 4 (seq_of c) ++ (point_bytes (at_of c) ++ []) ≡ rest_bytes c) × (4 ∷ point_sizes (at_of c) ++ [] ≡ rest_sizes c)
move_text id (Move i seq at) is = (ap (λ (s : List ℕ). number_bytes 4 seq ++ s) (append-nil (point_bytes at)), refl)
move_text id c is = cc

move_is : (id seq : ℕ) (point : Axes) (c : Change) → at_of c ≡ point → seq_of c ≡ seq → IsOf 2 id c → c ≡ Move id seq point
move_is id seq point (Move i s at) ep es is = cc (ep, es, is.0)
move_is id seq point c ep es is = cc

move_codec : (id : ℕ) → IsId id → IsCodec (move_at id) rest_bytes rest_sizes (IsOf 2 id)
unfolding move_at
move_codec id is_id =
    IsCodec-text
    (IsCodec-bind (λ seq. λ bytes at. point_at bytes at >>= λ point. Ok (Move id seq.0 point.0, point.1)) seq_of
    (number_in_codec 4 1 last_id (omega arith) (omega arith))
    (λ seq is_seq. IsCodec-bind (λ point. λ bytes at. Ok (Move id seq.0 point.0, at)) at_of point_codec
    (λ point is_point. IsCodec-done (Move id seq.0 point.0) (refl, (refl, (refl, (refl, (is_id, is_seq, is_point)))))
    (λ c is. move_is id seq.0 point.0 c is.0 is.1.0 is.1.1))
    (λ c is. move_point id c is.1))
    (move_seq id))
    (move_text id)

leave_is : (id : ℕ) (c : Change) → IsOf 3 id c → c ≡ Leave id
leave_is id (Leave i) is = ap Leave is.0
leave_is id c is = cc

leave_text : (id : ℕ) (c : Change) → IsOf 3 id c → ([] ≡ rest_bytes c) × ([] ≡ rest_sizes c)
leave_text id (Leave i) is = (refl, refl)
leave_text id c is = cc

change_rest_codec : (tag id : ℕ) → IsFromTo 1 3 tag → IsId id → IsCodec (change_rest tag id) rest_bytes rest_sizes (IsOf tag id)
change_rest_codec zero id small is_id = absurd (omega (arith, small.0))
change_rest_codec (suc zero) id small is_id = join_codec id is_id
change_rest_codec (suc (suc zero)) id small is_id = move_codec id is_id
change_rest_codec (suc (suc (suc zero))) id small is_id =
    IsCodec-text (IsCodec-done (Leave id) (refl, (refl, is_id)) (leave_is id)) (leave_text id)
change_rest_codec (suc (suc (suc (suc n)))) id small is_id = absurd (omega (arith, small.1))

tag_small : (c : Change) → IsFromTo 1 3 (tag_of c)
tag_small (Join member) = (omega arith, omega arith)
tag_small (Move id seq at) = (omega arith, omega arith)
tag_small (Leave id) = (omega arith, omega arith)

id_allowed : (c : Change) → IsChange c → IsId (id_of c)
id_allowed (Join member) is = is.id
id_allowed (Move id seq at) is = is.0
id_allowed (Leave id) is = is

change_text : (c : Change)
    → (number_bytes 1 (tag_of c) ++ (id_bytes (id_of c) ++ rest_bytes c) ≡ change_bytes c) × (1 ∷ 4 ∷ rest_sizes c ≡ change_sizes c)
unfolding change_bytes member_bytes
change_text (Join member) = (simp append_assoc, refl)
change_text (Move id seq at) = (simp append_assoc, refl)
change_text (Leave id) = (simp append-nil, refl)

pub change_after_codec : (changes : List Change) → IsCodec (change_after changes) change_bytes change_sizes (IsNewChange changes)
unfolding change_after
change_after_codec changes =
    IsCodec-text
    (IsCodec-bind (λ tag. λ bytes at. checked (is_new changes) id_at bytes at >>= λ id. change_rest tag.0 id.0 bytes id.1)
    tag_of (number_in_codec 1 1 3 (omega arith) (omega arith))
    (λ tag small. IsCodec-bind (λ id. change_rest tag.0 id.0) id_of (IsCodec-checked (is_new changes) (id_from_codec 1))
    (λ id is_id. IsCodec-same (change_rest_codec tag.0 id.0 small is_id.0)
    (λ c is. (is.0, (is.1.0, (is.1.1, ap (is_new changes) is.0 ∙ is_id.1)))) (λ c is. (is.0, (is.1.0, is.1.1.0))) (λ c _. (refl, refl)))
    (λ c is. (id_allowed c is.1.0, is.1.1)))
    (λ c is. tag_small c))
    (λ c _. change_text c)

pub change_codec : IsCodec change_at change_bytes change_sizes IsChange
change_codec = IsCodec-same (change_after_codec []) (λ c is. is.0) (λ c is. (is, refl)) (λ c _. (refl, refl))

pub change_size : (c : Change) → sum (change_sizes c) ≤ change_len
change_size (Join m) = omega arith
change_size (Move id seq at) = omega arith
change_size (Leave id) = omega arith

-- ---- lists of changes
-- an id is new to the changes before and one more, where it is new to both
new_of_push : (cs : List Change) (c : Change) (id : ℕ) → is_new (cs ++ c ∷ []) id ≡ true → (is_new cs id ≡ true) × (id_of c ≢ id)
new_of_push [] c id e = (refl, grind (arith, nat_tests))
new_of_push (d ∷ ds) c id e = let rest = new_of_push ds c id in grind (arith, nat_tests, rest)

push_of_new : (cs : List Change) (c : Change) (id : ℕ) → is_new cs id ≡ true → id_of c ≢ id → is_new (cs ++ c ∷ []) id ≡ true
push_of_new [] c id e other = grind (arith, nat_tests)
push_of_new (d ∷ ds) c id e other = let rest = push_of_new ds c id in grind (arith, nat_tests, rest)

-- the same for a whole list
all_new_of_push : (seen : List Change) (c : Change) (cs : List Change) → AllByRecursion (λ d. is_new (seen ++ c ∷ []) (id_of d) ≡ true) cs
    → AllByRecursion (λ d. is_new seen (id_of d) ≡ true) cs × AllByRecursion (λ d. id_of c ≢ id_of d) cs
all_new_of_push seen c [] all = (tt, tt)
all_new_of_push seen c (d ∷ ds) all =
    let here = new_of_push seen c (id_of d) all.0 in
    let rest = all_new_of_push seen c ds all.1 in
    ((here.0, rest.0), (here.1, rest.1))

all_push_of_new : (seen : List Change) (c : Change) (cs : List Change) → AllByRecursion (λ d. is_new seen (id_of d) ≡ true) cs
    → AllByRecursion (λ d. id_of c ≢ id_of d) cs → AllByRecursion (λ d. is_new (seen ++ c ∷ []) (id_of d) ≡ true) cs
all_push_of_new seen c [] all other = tt
all_push_of_new seen c (d ∷ ds) all other = (push_of_new seen c (id_of d) all.0 other.0, all_push_of_new seen c ds all.1 other.1)

-- changes that are each new to those before have each another id
changes_from : (seen cs : List Change) → IsAllowedFrom IsNewChange with_change seen cs
    → AllByRecursion IsChange cs × IsDistinctBy id_of cs × AllByRecursion (λ d. is_new seen (id_of d) ≡ true) cs
changes_from seen [] is = (tt, tt, tt)
changes_from seen (c ∷ cs) is =
    let rest = changes_from (seen ++ c ∷ []) cs is.1 in
    let parted = all_new_of_push seen c cs rest.2 in
    ((is.0.0, rest.0), (parted.1, rest.1), (is.0.1, parted.0))

-- and the other way round
changes_to : (seen cs : List Change) → AllByRecursion IsChange cs → IsDistinctBy id_of cs → AllByRecursion (λ d. is_new seen (id_of d) ≡ true) cs
    → IsAllowedFrom IsNewChange with_change seen cs
changes_to seen [] all each unseen = tt
changes_to seen (c ∷ cs) all each unseen =
    ((all.0, unseen.0), changes_to (seen ++ c ∷ []) cs all.1 each.1 (all_push_of_new seen c cs unseen.1 each.0))

all_unseen : (cs : List Change) → AllByRecursion (λ d. is_new [] (id_of d) ≡ true) cs
all_unseen [] = tt
all_unseen (c ∷ cs) = (refl, all_unseen cs)

pub changes_codec : (least : ℕ) → IsCodec (changes_at least) changes_bytes changes_sizes (IsChanges least)
unfolding changes_at
changes_codec least =
    IsCodec-same
    (counted_codec with_change (λ cs. Unit {0}) (λ cs _. change_after_codec cs) (λ cs c _ _. tt) 1 least most_changes [] tt (omega arith) (omega arith))
    (λ cs is. let parts = changes_from [] cs is.1 in record { enough = is.0.0; few = is.0.1; allowed = parts.0; distinct = parts.1 })
    (λ cs is. ((is.enough, is.few), changes_to [] cs is.allowed is.distinct (all_unseen cs)))
    (λ cs _. (refl, refl))

pub changes_size : (least : ℕ) (cs : List Change) → IsChanges least cs → sum (changes_sizes cs) ≤ changes_len
changes_size least cs is = counted_size change_sizes IsChange 1 change_len most_changes (λ c _. change_size c) cs is.allowed is.few
