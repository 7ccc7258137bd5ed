-- Changes that are a report: those that are taken out of pending ones, and a change alone.
use Rattle.std.proofs.Common.{◌≡◌, ◌≢◌, Bool, false, IsTrue, ◌↔◌, List, [], ◌∷◌, take, refl, arith, length-take}
use Rattle.cs_base.proofs.Elements.{All-take}
use Rattle.cs_base.specs.Ascending.{IsDistinctBy}
use Rattle.cs_base.specs.Changes.{id_of}
use Rattle.cs_base.specs.Limits.{most_changes}
use Rattle.cs_base.specs.Ranges.{IsChange, IsChangeButSeq}
use Rattle.cs_base.specs.declared.change.Change.{Change}
use Rattle.cs_base.specs.declared.change.Change.TheVariants.{Join, Leave, Move}
use Rattle.cs_fields.specs.Changes.{IsChanges}
use Rattle.cs_pending.specs.Reportable.{CanBeReported}
use Rattle.cs_core.specs.Reported.{HasNumber}

-- there are some where a test finds that it isn't empty
pub some-tested : (empty : Bool) (pending : List Change) → (IsTrue empty ↔ (pending ≡ [])) → empty ≡ false → pending ≢ []
some-tested empty pending test failed = λ none. let yes : IsTrue empty = test.1 none in cc

-- those that are taken out are a report, where there are any
pub IsChanges-take : (pending : List Change) → pending ≢ [] → CanBeReported pending → IsDistinctBy id_of (take most_changes pending)
    → IsChanges 1 (take most_changes pending)
IsChanges-take [] some is distinct = absurd (some refl)
IsChanges-take (change ∷ changes) some is distinct = record {
  enough = omega (arith, length-take most_changes (change ∷ changes));
  few = omega (arith, length-take most_changes (change ∷ changes));
  allowed = All-take IsChange most_changes (change ∷ changes) is.changes;
  distinct = distinct;
}

-- and so is a change alone
pub IsChanges-one : (change : Change) → IsChange change → IsChanges 1 (change ∷ [])
IsChanges-one change allowed = record {
  enough = omega arith;
  few = omega arith;
  allowed = (allowed, tt);
  distinct = (tt, tt);
}

-- a change whose number isn't 0 has the ranges of its kind
pub IsChange-numbered : (change : Change) → IsChangeButSeq change → HasNumber change → IsChange change
IsChange-numbered (Join member) is number = is
IsChange-numbered (Move id seq at) is number = (is.0, number, is.1)
IsChange-numbered (Leave id) is number = is
