-- What is there and what isn't, once something is made of it.
use Rattle.std.proofs.Common.{◌≡◌, Option, None, Some, false, is_some, refl, sym}
use Rattle.std.specs.Option.{option_map}
use Rattle.std.proofs.lemmas.Option.{none-some}

-- what isn't there is none
pub absent_none : {X : Type 0} (o : Option X) → is_some o ≡ false → o ≡ None
absent_none None absent = refl
absent_none (Some x) absent = cc

-- what nothing is made of isn't there
pub map-none : {X Y : Type 0} (f : X → Y) (o : Option X) → option_map f o ≡ None → o ≡ None
map-none f None is = refl
map-none f (Some x) is = absurd (none-some (f x) (sym is))
