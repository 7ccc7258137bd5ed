-- The tests for same values decide whether they are the same.
use Rattle.std.proofs.Common.{◌≡◌, ap, List, refl}
use Rattle.std.specs.Bool.{Decides}
use Rattle.std.proofs.lemmas.Bool.Decides.{Decides-eqb, Decides-int_eq, Decides-and, Decides-like}
use Rattle.std.proofs.lemmas.Slice.Eq.{bytes_eq-Decides, slice_eq-Decides}
use Rattle.cs_base.specs.declared.member.Member.{Member}
use Rattle.cs_base.specs.Address.{Address}
use Rattle.cs_base.specs.Axes.{Axes}
use Rattle.cs_roll.specs.Same.{are_same_axes, are_same_members, is_same_address, is_same_member, is_same_summary}
use Rattle.cs_roll.specs.Summary.{RegionSummary}

-- points are the same where each axis is
pub Decides-axes : (p q : Axes) → Decides (are_same_axes p q) (p ≡ q)
Decides-axes p q =
    Decides-like _ (λ e. λ i. record { x = e.0 i; y = e.1.0 i; z = e.1.1 i })
    (λ (e : p ≡ q). (ap (λ (r : Axes). r.x) e, (ap (λ (r : Axes). r.y) e, ap (λ (r : Axes). r.z) e)))
    (Decides-and _ _ (Decides-int_eq p.x q.x) (Decides-and _ _ (Decides-int_eq p.y q.y) (Decides-int_eq p.z q.z)))

-- addresses are the same where the bytes and the port are
pub Decides-address : (a b : Address) → Decides (is_same_address a b) (a ≡ b)
Decides-address a b =
    Decides-like _ (λ e. λ i. record { ip = e.0 i; port = e.1 i })
    (λ (e : a ≡ b). (ap (λ (c : Address). c.ip) e, ap (λ (c : Address). c.port) e))
    (Decides-and _ _ (bytes_eq-Decides a.ip b.ip) (Decides-eqb a.port b.port))

-- members are the same where the id, the address and the point are
pub Decides-member : (m n : Member) → Decides (is_same_member m n) (m ≡ n)
Decides-member m n =
    Decides-like _ (λ e. λ i. record { id = e.0 i; addr = e.1.0 i; at = e.1.1 i })
    (λ (e : m ≡ n). (ap (λ (k : Member). k.id) e, (ap (λ (k : Member). k.addr) e, ap (λ (k : Member). k.at) e)))
    (Decides-and _ _ (Decides-eqb m.id n.id) (Decides-and _ _ (Decides-address m.addr n.addr) (Decides-axes m.at n.at)))

-- and lists of them where they are one by one
pub Decides-members : (ms ns : List Member) → Decides (are_same_members ms ns) (ms ≡ ns)
Decides-members ms ns = slice_eq-Decides Decides-member ms ns (are_same_members ms ns) refl

-- summaries are the same where each part is
pub Decides-summary : (s t : RegionSummary) → Decides (is_same_summary s t) (s ≡ t)
Decides-summary s t =
    Decides-like _ (λ e. λ i. record { size = e.0 i; sum = e.1.0 i; low = e.1.1.0 i; high = e.1.1.1.0 i; globals = e.1.1.1.1 i })
    (λ (e : s ≡ t). (
      ap (λ (r : RegionSummary). r.size) e,
      (
        ap (λ (r : RegionSummary). r.sum) e,
        (ap (λ (r : RegionSummary). r.low) e, (ap (λ (r : RegionSummary). r.high) e, ap (λ (r : RegionSummary). r.globals) e)),
      ),
    ))
    (Decides-and _ _ (Decides-eqb s.size t.size)
    (Decides-and _ _ (Decides-axes s.sum t.sum)
    (Decides-and _ _ (Decides-axes s.low t.low)
    (Decides-and _ _ (Decides-axes s.high t.high) (Decides-members s.globals t.globals)))))
