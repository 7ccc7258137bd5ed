-- Whether two values are the same, as a test: what depends on a difference can be computed by it.
use Rattle.std.specs.Prelude.{Bool, ◌&&◌, ◌==◌, List}
use Rattle.std.specs.Ordering.{int_eq}
use Rattle.std.specs.Cmp.Lexicographic.{pointwise}
use Rattle.std.specs.Str.{bytes_eq}
use Rattle.cs_base.specs.Address.{Address}
use Rattle.cs_base.specs.Axes.{Axes}
use Rattle.cs_base.specs.declared.member.Member.{Member}
use Rattle.cs_roll.specs.Summary.{RegionSummary}

abbrev pub is_same_address : Address → Address → Bool
is_same_address a b = bytes_eq a.ip b.ip && (a.port == b.port)

abbrev pub are_same_axes : Axes → Axes → Bool
are_same_axes p q = int_eq p.x q.x && (int_eq p.y q.y && int_eq p.z q.z)

abbrev pub is_same_member : Member → Member → Bool
is_same_member m n = (m.id == n.id) && (is_same_address m.addr n.addr && are_same_axes m.at n.at)

-- one by one
abbrev pub are_same_members : List Member → List Member → Bool
are_same_members ms ns = pointwise is_same_member ms ns

abbrev pub is_same_summary : RegionSummary → RegionSummary → Bool
is_same_summary s t =
    (s.size == t.size)
    && (are_same_axes s.sum t.sum
    && (are_same_axes s.low t.low && (are_same_axes s.high t.high && are_same_members s.globals t.globals)))
