use Rattle.std.proofs.Common.{◌≡◌, ◌++◌, ℕ, List, [], ◌∷◌, refl, ap, ◌∙◌}
use Rattle.cs_fields.proofs.Entries.{four_entries}
use Rattle.cs_fields.specs.Fields.{address_bytes, member_bytes, point_bytes}
use Rattle.cs_fields.specs.Numbers.{number_bytes, signed_bytes}
use Rattle.cs_fields.proofs.member.bytes_of.Goals as goal

pub returns : goal.returns
unfolding member_bytes address_bytes point_bytes number_bytes signed_bytes
returns c =
    let ip = four_entries c.ip.result c.ip.ensures.four ∙ c.ip.ensures.value in
    rw (← ip, c.to_be_bytes.ensures, c.get.ensures.value, c.to_be_bytes-2.ensures, c.port.ensures.value, c.point_of.ensures) refl
