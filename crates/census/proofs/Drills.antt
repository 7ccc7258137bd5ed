-- Events that happen in a world, one after the other.
use Rattle.std.proofs.Common.{◌≡◌, ℕ, suc, ◌+◌, ◌<◌, ◌≤◌, true, ◌||◌, List, ◌∷◌, length, get_or, drop, arith}
use Rattle.std.proofs.Common.{Option, Some, None, Result, Ok, Err, OnOk, OnErr}
use Rattle.std.specs.Prelude.{IfErr, IsSome}
use Rattle.std.proofs.Common.{ap, refl, sym, ◌∙◌}
use Rattle.std.proofs.Math.Seq.{drop-cons}
use Rattle.std.proofs.lemmas.Bool.{le-ltb, lt-ltb}
use Rattle.cs_base.specs.Limits.{most_sent}
use Rattle.cs_link.specs.Maps.{ById}
use Rattle.cs_machine.specs.Happens.{happens}
use Rattle.cs_machine.specs.Names.{World}
use Rattle.cs_machine.specs.Packets.{bytes_sent}
use Rattle.cs_script.specs.declared.event.Event.{Event}
use Rattle.census.specs.Drilled.{passes, world_behind}
use Rattle.census.specs.Run.{TellsLogs}
use Rattle.census.specs.Systems.{System}

-- where nothing stands behind a result, what follows from it
pub on-ok : {T E P Q : Type 0} (result : Result T E) → (P → Q) → OnOk result P → OnOk result Q
on-ok (Ok value) step holds = step holds
on-ok (Err error) step holds = tt

-- where something stands behind an error, what follows from it and from the error
pub on-err : {T E P : Type 0} {Q R : E → Type 0} (result : Result T E) → OnErr result P → IfErr result Q → ((error : E) → P → Q error → R error)
    → IfErr result R
on-err (Ok value) holds known step = tt
on-err (Err error) holds known step = step error holds known

-- what a desk tells of its logs, where that needs that it tells them
pub on-logs : {T E : Type 0} (before after : Option (ById (List ℕ))) (system : System) (result : Result T E)
    → (IsSome before → OnOk result (TellsLogs before after system)) → OnOk result (TellsLogs before after system)
on-logs None after system (Ok value) told = tt
on-logs None after system (Err error) told = tt
on-logs (Some logs) after system result told = told refl

-- some events have happened, and others are left: they lead on to what all of them lead to
pub record IsOnTheWay (Stand : World → Type 0) (begun : World) (all left : List Event) : Type 0 where
  pub world : World
  pub stands : Stand world
  pub behind : world_behind begun all ≡ world_behind world left
  pub beyond : passes begun all ≡ passes world left

-- none has happened
pub none-happened : (Stand : World → Type 0) (begun : World) (all : List Event) → Stand begun → IsOnTheWay Stand begun all all
none-happened Stand begun all stands = record { world = begun; stands = stands; behind = refl; beyond = refl }

-- the first of those that are left stands behind the others
pub first-left : {T : Type 0} (all : List T) (i : ℕ) (first : T) → i < length all → first ≡ get_or all i first
    → drop i all ≡ first ∷ drop (i + 1) all
first-left all i first below is =
    let more : suc i ≡ i + 1 = omega arith in
    drop-cons all i first below ∙ ap (λ x. x ∷ drop (suc i) all) (sym is) ∙ ap (λ n. first ∷ drop n all) more

module _ (Stand : World → Type 0) (begun : World) (all left : List Event) (event : Event)
    (way : IsOnTheWay Stand begun all (event ∷ left)) where
  -- one more happens, within the limit
  pub next-happened : (StandNow : World → Type 0) → StandNow (happens way.world event).world
      → bytes_sent (happens way.world event).world ≤ most_sent → IsOnTheWay StandNow begun all left
  next-happened StandNow stands few = record {
    world = (happens way.world event).world;
    stands = stands;
    behind = way.behind;
    beyond = way.beyond ∙ ap (λ b. b || passes (happens way.world event).world left) (le-ltb most_sent _ few);
  }

  -- the next goes beyond it
  pub next-goes-beyond : most_sent < bytes_sent (happens way.world event).world → passes begun all ≡ true
  next-goes-beyond many = way.beyond ∙ ap (λ b. b || passes (happens way.world event).world left) (lt-ltb most_sent _ many)
