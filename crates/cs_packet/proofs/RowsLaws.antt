-- The laws of rows one behind the other.
use Rattle.std.proofs.Common.{◌≡◌, ℕ, ◌^◌, ◌+◌, ◌*◌, ◌<◌, ◌≤◌, true, List, [], ◌∷◌, ◌++◌, length, Ok, refl, sym, ◌∙◌, append_assoc, arith}
use Rattle.std.specs.List.{AllByRecursion}
use Rattle.std.specs.Prelude.{sum}
use Rattle.std.proofs.lemmas.Bool.Decides.{nat_tests}
use Rattle.std.proofs.lemmas.List.{append-nil}
use Rattle.cs_base.proofs.Elements.{All-weaker}
use Rattle.cs_base.specs.Limits.{last_id, last_number, most_members}
use Rattle.cs_base.specs.Ranges.{IsFromTo, IsId, IsRegion}
use Rattle.cs_fields.specs.Fields.{address_at, address_bytes, address_sizes, id_at, id_bytes, member_bytes, point_at, point_bytes, point_sizes, region_from}
use Rattle.cs_fields.specs.Numbers.{number_bytes, number_in}
use Rattle.cs_fields.specs.Reading.{◌>>=◌}
use Rattle.cs_fields.proofs.Codec.{IsCodec, IsCodec-bind, IsCodec-checked, IsCodec-done, IsCodec-same, IsCodec-text}
use Rattle.cs_fields.proofs.Counted.{counted_codec, counted_size, IsAllowedFrom}
use Rattle.cs_fields.proofs.Fields.{address_codec, id_from_codec, point_codec, region_from_codec}
use Rattle.cs_fields.proofs.Numbers.{number_in_codec}
use Rattle.cs_group.specs.declared.row.Row.{Row}
use Rattle.cs_group.specs.Rows.{IsInOrder, IsRow}
use Rattle.cs_packet.specs.RowsField.{AreRows, is_behind, IsRowAfter, place_after, place_from, place_of, row_after, row_bytes, row_len, row_sizes}
use Rattle.cs_packet.specs.RowsField.{rows_at, rows_bytes, rows_len, rows_sizes}

-- ---- places
-- the bytes of a place
abbrev place_bytes : ℕ × ℕ → List ℕ
place_bytes place = id_bytes place.0 ++ id_bytes place.1

-- the sizes of its fields
abbrev place_sizes : ℕ × ℕ → List ℕ
place_sizes place = 4 ∷ 4 ∷ []

place_codec : (least : ℕ) → IsCodec (place_from least) place_bytes place_sizes (λ p. IsFromTo least last_number p.0 × IsId p.1)
unfolding place_from
place_codec least =
    IsCodec-text
    (IsCodec-bind (λ region. λ bytes at. id_at bytes at >>= λ id. Ok ((region.0, id.0), id.1)) (λ p. p.0) (region_from_codec least)
    (λ region is_region. IsCodec-bind (λ id. λ bytes at. Ok ((region.0, id.0), at)) (λ p. p.1) (id_from_codec 1)
    (λ id is_id. IsCodec-done (region.0, id.0) (refl, (refl, (is_region, is_id)))
    (λ p is. rw (← is.0, ← is.1.0) refl))
    (λ p is. is.1.1))
    (λ p is. is.0))
    (λ p is. (simp append-nil, refl))

-- a place isn't in a region below that of the one before
behind_region : (before place : ℕ × ℕ) → is_behind before place ≡ true → before.0 ≤ place.0
behind_region before place e = grind (arith, nat_tests)

place_after_codec : (before : ℕ × ℕ)
    → IsCodec (place_after before) place_bytes place_sizes (λ p. (is_behind before p ≡ true) × IsRegion p.0 × IsId p.1)
place_after_codec before =
    IsCodec-same (IsCodec-checked (is_behind before) (place_codec before.0))
    (λ p is. (is.1, (omega arith, is.0.0.1), is.0.1))
    (λ p is. (((behind_region before p is.0, is.1.1), is.2), is.0))
    (λ p _. (refl, refl))

-- ---- a row
pub row_codec : (before : ℕ × ℕ) → IsCodec (row_after before) row_bytes row_sizes (IsRowAfter before)
unfolding row_after row_bytes member_bytes
row_codec before =
    IsCodec-text
    (IsCodec-bind
    (λ place. λ bytes at. address_at bytes at >>= λ addr. point_at bytes addr.1 >>= λ point. number_in 4 0 last_id bytes point.1 >>= λ seq.
    Ok (record { region = place.0.0; member = record { id = place.0.1; addr = addr.0; at = point.0 }; seq = seq.0 }, seq.1))
    place_of (place_after_codec before)
    (λ place is_place. IsCodec-bind
    (λ addr. λ bytes at. point_at bytes at >>= λ point. number_in 4 0 last_id bytes point.1 >>= λ seq.
    Ok (record { region = place.0.0; member = record { id = place.0.1; addr = addr.0; at = point.0 }; seq = seq.0 }, seq.1))
    (λ r. r.member.addr) address_codec
    (λ addr is_addr. IsCodec-bind
    (λ point. λ bytes at. number_in 4 0 last_id bytes at >>= λ seq.
    Ok (record { region = place.0.0; member = record { id = place.0.1; addr = addr.0; at = point.0 }; seq = seq.0 }, seq.1))
    (λ r. r.member.at) point_codec
    (λ point is_point. IsCodec-bind
    (λ seq. λ bytes at. Ok (record { region = place.0.0; member = record { id = place.0.1; addr = addr.0; at = point.0 }; seq = seq.0 }, at))
    (λ r. r.seq) (number_in_codec 4 0 last_id (omega arith) (omega arith))
    (λ seq is_seq. IsCodec-done (record { region = place.0.0; member = record { id = place.0.1; addr = addr.0; at = point.0 }; seq = seq.0 }) (
      refl,
      (
        refl,
        (
          refl,
          (
            refl,
            (
              is_place.0,
              record { region = is_place.1; member = record { id = is_place.2; addr = is_addr; at = is_point }; seq = is_seq },
            ),
          ),
        ),
      ),
    )
    (λ r is. rw (← is.0, ← is.1.0, ← is.1.1.0, ← is.1.1.1.0) refl))
    (λ r is. is.1.1.1.1.seq))
    (λ r is. is.1.1.1.member.at))
    (λ r is. is.1.1.member.addr))
    (λ r is. (is.0, is.1.region, is.1.member.id)))
    (λ r is. (simp (append_assoc, append-nil), refl))

pub row_size : (r : Row) → sum (row_sizes r) ≤ row_len
row_size r = omega arith

-- ---- rows
-- what is behind a place that is behind another is behind that one
behind-trans : (a b c : ℕ × ℕ) → is_behind a b ≡ true → is_behind b c ≡ true → is_behind a c ≡ true
behind-trans a b c first second = grind (arith, nat_tests)

-- rows that are each behind the one before are in order
rows_from : (before : ℕ × ℕ) (rows : List Row) → IsAllowedFrom IsRowAfter (λ b r. place_of r) before rows
    → AllByRecursion IsRow rows × IsInOrder rows × AllByRecursion (λ r. is_behind before (place_of r) ≡ true) rows
rows_from before [] is = (tt, tt, tt)
rows_from before (r ∷ rs) is =
    let rest = rows_from (place_of r) rs is.1 in (
      (is.0.1, rest.0),
      (rest.2, rest.1),
      (
        is.0.0,
        All-weaker (λ (s : Row). is_behind (place_of r) (place_of s) ≡ true) (λ s. is_behind before (place_of s) ≡ true)
            (λ s h. behind-trans before (place_of r) (place_of s) is.0.0 h) rs rest.2,
      ),
    )

-- and rows in order are each behind the one before
rows_to : (before : ℕ × ℕ) (rows : List Row) → AllByRecursion IsRow rows → IsInOrder rows → AllByRecursion (λ r. is_behind before (place_of r) ≡ true) rows
    → IsAllowedFrom IsRowAfter (λ b r. place_of r) before rows
rows_to before [] all up later = tt
rows_to before (r ∷ rs) all up later = ((later.0, all.0), rows_to (place_of r) rs all.1 up.1 up.0)

-- each is behind the first place
first_behind : (r : Row) → IsRow r → is_behind (0, 0) (place_of r) ≡ true
first_behind r is = let some : 1 ≤ r.member.id = is.member.id.0 in grind (arith, nat_tests)

pub rows_codec : IsCodec rows_at rows_bytes rows_sizes AreRows
unfolding rows_at rows_bytes
rows_codec =
    IsCodec-same
    (counted_codec (λ before row. place_of row) (λ before. Unit {0}) (λ before _. row_codec before) (λ before r _ _. tt) 2 1 most_members (0, 0) tt
    (omega arith) (omega arith))
    (λ rows is. let parts = rows_from (0, 0) rows is.1 in record { some = is.0.0; few = is.0.1; allowed = parts.0; in_order = parts.1 })
    (λ rows is. (
      (is.some, is.few),
      rows_to (0, 0) rows is.allowed is.in_order (All-weaker IsRow (λ r. is_behind (0, 0) (place_of r) ≡ true) first_behind rows is.allowed),
    ))
    (λ rows _. (refl, refl))

pub rows_size : (rows : List Row) → AreRows rows → sum (rows_sizes rows) ≤ rows_len
rows_size rows are = counted_size row_sizes IsRow 2 row_len most_members (λ r _. row_size r) rows are.allowed are.few
