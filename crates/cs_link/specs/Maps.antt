-- Maps by id: what stands under each id.
use Rattle.std.specs.Prelude.{◌≡◌, ◌≢◌, ℕ, List, Option, Some, IfSome}
use Rattle.std.specs.Option.{IsSomeAnd, option_map}
use Rattle.cs_base.specs.Ascending.{at_key}
use Rattle.cs_link.specs.declared.kept.Kept.{Kept}

-- a map by id: a value, or none
abbrev pub ById : Type 0 → Type 0
ById T = ℕ → Option T

-- the value stands under the id now, and under every other id what stood there
abbrev pub Enters : {T : Type 0} → ℕ → T → ById T → ById T → Type 0
Enters id x before after = (after id ≡ Some x) × ((other : ℕ) → other ≢ id → after other ≡ before other)

-- the same where the map is told; where the value isn't, nothing is said of its id
abbrev pub EntersTold : {T : Type 0} → ℕ → Option T → Option (ById T) → Option (ById T) → Type 0
EntersTold id told before after = IfSome before (λ before. IsSomeAnd after (λ after.
    IfSome told (λ x. after id ≡ Some x) × ((other : ℕ) → other ≢ id → after other ≡ before other)))

-- what was kept under each id
abbrev pub kept_by_id : {L G : Type 0} → List (Kept L G) → ById (Kept L G)
kept_by_id list id = at_key (λ kept. kept.id) id list

-- a part of what was kept under each id
abbrev pub part_by_id : {L G T : Type 0} → (Kept L G → T) → List (Kept L G) → ById T
part_by_id part list id = option_map part (kept_by_id list id)
