-- The laws of a packet.
use Rattle.std.proofs.Common.{◌≡◌, ◌≤◌, ◌==◌, List, ℕ, ◌∷◌, length, Ok, refl, sym, ap, ◌∙◌, append_assoc, arith, eq-eqb}
use Rattle.std.proofs.lemmas.Bool.{eqb-true}
use Rattle.std.proofs.lemmas.List.{append-nil}
use Rattle.cs_fields.specs.declared.fault.PacketFault.TheVariants.{Version}
use Rattle.cs_fields.specs.Fields.{id_at}
use Rattle.cs_fields.specs.Numbers.{number_bytes}
use Rattle.cs_fields.specs.Reading.{◌>>=◌}
use Rattle.cs_fields.specs.Whole.{one_field}
use Rattle.cs_fields.proofs.Codec.{IsCodec, IsCodec-bind, IsCodec-done, IsCodec-same, IsCodec-text, sum-cons, whole_only}
use Rattle.cs_fields.proofs.Fields.{id_from_codec}
use Rattle.cs_packet.specs.BodyField.{body_at, body_sizes, kind_of}
use Rattle.cs_packet.specs.PacketField.{IsPacket, packet_at, packet_bytes, packet_len, packet_of, packet_sizes, version_at}
use Rattle.cs_packet.specs.KindField.{kind_at}
use Rattle.cs_packet.specs.declared.packet.Packet.{Packet}
use Rattle.cs_packet.proofs.KindLaws.{kind_codec, tested_codec}
use Rattle.cs_packet.proofs.BodyLaws.{body_codec, body_size, kind_small}

version_codec : IsCodec version_at (number_bytes 1) (one_field 1) (λ n. n ≡ 1)
unfolding version_at
version_codec =
    IsCodec-same (tested_codec (λ n. n == 1) Version)
    (λ n is. eqb-true n 1 is.1) (λ n is. (omega (arith, is), eq-eqb n 1 is)) (λ n _. (refl, refl))

-- ---- the packet
pub packet_codec : IsCodec packet_at packet_bytes packet_sizes IsPacket
unfolding packet_at packet_bytes
packet_codec =
    IsCodec-text
    (IsCodec-bind
    (λ version. λ bytes at. kind_at 7 bytes at >>= λ kind. id_at bytes kind.1 >>= λ from. id_at bytes from.1 >>= λ to. body_at kind.0 bytes to.1 >>= λ body.
    Ok (record { from = from.0; to = to.0; body = body.0 }, body.1))
    (λ p. 1) version_codec
    (λ version is_version. IsCodec-bind
    (λ kind. λ bytes at. id_at bytes at >>= λ from. id_at bytes from.1 >>= λ to. body_at kind.0 bytes to.1 >>= λ body.
    Ok (record { from = from.0; to = to.0; body = body.0 }, body.1))
    (λ p. kind_of p.body) (kind_codec 7 (omega arith))
    (λ kind is_kind. IsCodec-bind
    (λ from. λ bytes at. id_at bytes at >>= λ to. body_at kind.0 bytes to.1 >>= λ body. Ok (record { from = from.0; to = to.0; body = body.0 }, body.1))
    (λ p. p.from) (id_from_codec 1)
    (λ from is_from. IsCodec-bind
    (λ to. λ bytes at. body_at kind.0 bytes at >>= λ body. Ok (record { from = from.0; to = to.0; body = body.0 }, body.1))
    (λ p. p.to) (id_from_codec 1)
    (λ to is_to. IsCodec-bind
    (λ body. λ bytes at. Ok (record { from = from.0; to = to.0; body = body.0 }, at))
    (λ p. p.body) (body_codec kind.0 is_kind)
    (λ body is_body. IsCodec-done (record { from = from.0; to = to.0; body = body.0 })
    (refl, (refl, (refl, (is_body.0, (sym is_version, record { from = is_from; to = is_to; body = is_body.1 })))))
    (λ p is. rw (← is.0, ← is.1.0, ← is.1.1.0) refl))
    (λ p is. (is.1.1.0, is.1.1.1.1.body)))
    (λ p is. is.1.1.1.to))
    (λ p is. is.1.1.from))
    (λ p is. kind_small p.body))
    (λ p is. refl))
    (λ p is. (simp (append_assoc, append-nil), ap (λ (s : List ℕ). 1 ∷ 1 ∷ 4 ∷ 4 ∷ s) (append-nil (body_sizes p.body))))

pub packet_size : (p : Packet) → IsPacket p → length (packet_bytes p) ≤ packet_len
packet_size p is =
    let rest = body_sizes p.body in
    omega (
      arith,
      packet_codec.sized p is,
      body_size p.body is.body,
      sum-cons 1 (1 ∷ 4 ∷ 4 ∷ rest),
      sum-cons 1 (4 ∷ 4 ∷ rest),
      sum-cons 4 (4 ∷ rest),
      sum-cons 4 rest,
    )

-- what is spelt as a packet is read as it
pub packet_only : (bytes : List ℕ) (p : Packet) → IsPacket p → bytes ≡ packet_bytes p → packet_of bytes ≡ Ok p
packet_only bytes p is spelt = ap packet_of spelt ∙ whole_only packet_codec p is
