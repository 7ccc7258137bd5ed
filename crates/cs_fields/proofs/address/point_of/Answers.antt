use Rattle.std.proofs.Common.{◌≡◌, ℤ, to_z, of_z, refl, ap, ◌∙◌, arith}
use Rattle.std.specs.Int.{w32}
use Rattle.std.proofs.lemmas.Int.{ints}
use Rattle.cs_base.specs.Axes.{IsNear}
use Rattle.cs_fields.specs.Fields.{point_bytes}
use Rattle.cs_fields.specs.Numbers.{number_bytes, signed_bytes}
use Rattle.cs_fields.proofs.address.point_of.Goals as goal

-- a coordinate without its sign, as the code passes it on
unsigned : (a b : ℤ) → IsNear 1000000 a → a ≡ b → of_z w32 (to_z w32 (of_z w32 a)) ≡ of_z w32 b
unsigned a b near e = let kept : to_z w32 (of_z w32 a) ≡ a = omega (arith, ints) in ap (of_z w32) (kept ∙ e)

pub returns : goal.returns
unfolding point_bytes signed_bytes number_bytes
returns c =
    let x = c.cast_unsigned.ensures ∙ unsigned _ _ c.axis.ensures.near c.axis.ensures.value in
    let y = c.cast_unsigned-2.ensures ∙ unsigned _ _ c.axis-2.ensures.near c.axis-2.ensures.value in
    let z = c.cast_unsigned-3.ensures ∙ unsigned _ _ c.axis-3.ensures.near c.axis-3.ensures.value in
    rw (c.to_be_bytes.ensures, c.to_be_bytes-2.ensures, c.to_be_bytes-3.ensures, x, y, z) refl
