use Rattle.std.proofs.Common.{ℤ, pos, ◌≤ℤ◌, to_z, of_z, Option, Some, None, refl, arith}
use Rattle.std.specs.Int.{w32}
use Rattle.std.specs.Option.{IsSome, SomeIff}
use Rattle.std.proofs.lemmas.Int.{ints}
use Rattle.cs_base.specs.Axes.{IsNear}
use Rattle.cs_base.specs.Limits.{farthest}
use Rattle.cs_item.proofs.codec.summary.read_high.Goals as goal

-- a value that comes exactly where the fact holds is there where it holds
there : {T P : Type 0} (o : Option T) (v : T) → SomeIff o P v → P → IsSome o
there None v iff fact = absurd (iff fact)
there (Some x) v iff fact = refl

-- a coordinate that isn't below one near 0, and on the axis
near_too : (low n : ℤ) → IsNear farthest low → to_z w32 (of_z w32 low) ≤ℤ n → n ≤ℤ pos farthest → IsNear farthest (to_z w32 (of_z w32 n))
near_too low n near above below = (omega (arith, ints, near.0, near.1), omega (arith, ints, near.0, near.1))

pub unwrap-requires : goal.unwrap-requires
unwrap-requires c =
    let x = c.in_ok-x.ensures.spelt.found.0 in
    let y = c.in_ok-y.ensures.spelt.found.0 in
    let z = c.in_ok-z.ensures.spelt.found.0 in
    there c.new.result _ c.new.ensures (record {
      x = near_too c.axis.result c.in_ok-x.x c.axis.ensures.near x.0 x.1;
      y = near_too c.axis-2.result c.in_ok-y.y c.axis-2.ensures.near y.0 y.1;
      z = near_too c.axis-3.result c.in_ok-z.z c.axis-3.ensures.near z.0 z.1;
    })
