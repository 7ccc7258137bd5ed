-- The order of what has a key and a point on an axis, its median, and the split of some members there.
use Rattle.std.specs.Prelude.{ℕ, ℤ, ◌==◌, Bool, List, length, Option, IsPermutation, IsSorted}
use Rattle.std.specs.List.{filter, find}
use Rattle.std.specs.Int.{div_ceil}
use Rattle.std.specs.Option.{option_map}
use Rattle.std.specs.Ordering.{is_lt}
use Rattle.cs_base.specs.Axes.{Axes, on_axis}
use Rattle.cs_base.specs.Split.{pair_cmp}
use Rattle.cs_base.specs.declared.member.Member.{Member}
use Rattle.cs_base.specs.declared.point.Axis.{Axis}
use Rattle.cs_base.specs.declared.split.Split.{Split}
use Rattle.cs_near.specs.Widest.{widest_axis}

-- the coordinate on an axis, and the key
abbrev pub order_pair : {T : Type 0} → (T → ℕ) → (T → Axes) → Axis → T → ℤ × ℕ
order_pair key point axis t = (on_axis axis (point t), key t)

-- the one with the lower coordinate is below, and of equal coordinates the one with the lower key
abbrev pub is_below_on : {T : Type 0} → (T → ℕ) → (T → Axes) → Axis → T → T → Bool
is_below_on key point axis t u = is_lt (pair_cmp (order_pair key point axis t) (order_pair key point axis u))

-- the same elements, of which none is below the one before it
pub record IsInOrder {T : Type 0} (key : T → ℕ) (point : T → Axes) (axis : Axis) (ts ordered : List T) : Type 0 where
  pub same : IsPermutation ts ordered
  pub up : IsSorted (λ t u. pair_cmp (order_pair key point axis t) (order_pair key point axis u)) ordered

-- the one that stands at a place of the order: so many are below it
abbrev pub placed_on : {T : Type 0} → (T → ℕ) → (T → Axes) → Axis → ℕ → List T → Option T
placed_on key point axis place ts = find (λ u. length (filter (λ t. is_below_on key point axis t u) ts) == place) ts

-- the middle one, which has half of them, rounded up, below it
abbrev pub middle_on : {T : Type 0} → (T → ℕ) → (T → Axes) → Axis → List T → Option T
middle_on key point axis ts = placed_on key point axis (div_ceil (length ts) 2) ts

-- the split at a member: those below its pair are lower, and the member itself is the first of the upper ones
abbrev pub split_at : Axis → Member → Split
split_at axis m = record { axis = axis; at = on_axis axis m.at; id = m.id }

-- the split at the middle member on the widest axis
abbrev pub middle_split : List Member → Option Split
middle_split members =
    let axis = widest_axis (λ (m : Member). m.at) members in
    option_map (split_at axis) (middle_on (λ (m : Member). m.id) (λ (m : Member). m.at) axis members)
