-- Two addresses are equal in their order where they are the same.
use Rattle.std.proofs.Common.{◌≡◌, ◌∙◌, ◌&&◌, ℕ, true, eqb, refl, ap, arith}
use Rattle.std.specs.Ordering.{nat_cmp, ordering_then, is_eq}
use Rattle.std.specs.declared.cmp.Ordering.{Ordering}
use Rattle.std.specs.declared.cmp.Ordering.TheVariants.{Less, Equal, Greater}
use Rattle.std.specs.Cmp.Lexicographic.{slice_cmp}
use Rattle.std.specs.BTreeMap.{is_at}
use Rattle.std.specs.Bool.{Decides}
use Rattle.std.specs.Str.{bytes_eq}
use Rattle.std.proofs.lemmas.Bool.Decides.{nat_tests, Decides-and, Decides-eqb}
use Rattle.std.proofs.lemmas.Map.Text.{is_eq-slice_cmp}
use Rattle.std.proofs.lemmas.Slice.Eq.{bytes_eq-Decides}
use Rattle.cs_base.specs.Address.{Address}
use Rattle.cs_machine.specs.Happens.{same_address}
use Rattle.cs_world.specs.Addresses.{address_cmp}

-- a part of an order that isn't equal decides
pub is_eq-then : (o p : Ordering) → is_eq (ordering_then o p) ≡ (is_eq o && is_eq p)
is_eq-then Less p = refl
is_eq-then Equal p = refl
is_eq-then Greater p = refl

-- numbers are equal in their order where they are equal
pub is_eq-nat_cmp : (a b : ℕ) → is_eq (nat_cmp a b) ≡ eqb a b
is_eq-nat_cmp a b = grind (arith, nat_tests)

-- two addresses are equal in their order where they are the same
pub same-address_cmp : (a b : Address) → is_at (address_cmp a) b ≡ same_address a b
same-address_cmp a b =
    is_eq-then (slice_cmp nat_cmp a.ip b.ip) (nat_cmp a.port b.port)
    ∙ ap (λ x. x && is_eq (nat_cmp a.port b.port)) (is_eq-slice_cmp a.ip b.ip)
    ∙ ap (λ x. bytes_eq a.ip b.ip && x) (is_eq-nat_cmp a.port b.port)

-- they are the same where they are equal
same_address-Decides : (a b : Address) → Decides (same_address a b) ((a.ip ≡ b.ip) × (a.port ≡ b.port))
same_address-Decides a b =
    Decides-and (bytes_eq a.ip b.ip) (eqb a.port b.port) (bytes_eq-Decides a.ip b.ip) (Decides-eqb a.port b.port)

-- an address is the same as itself
pub same_address-itself : (a : Address) → same_address a a ≡ true
same_address-itself a = (same_address-Decides a a).1 (refl, refl)

-- and as no other
pub same_address-only : (a b : Address) → same_address a b ≡ true → a ≡ b
same_address-only a b same =
    let parts = (same_address-Decides a b).0 same in
    let left : a ≡ record { ip = b.ip; port = a.port } = ap (λ ip. record { ip = ip; port = a.port }) parts.0 in
    left ∙ ap (λ port. record { ip = b.ip; port = port }) parts.1
