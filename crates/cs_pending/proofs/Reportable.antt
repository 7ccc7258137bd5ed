-- Pending changes can still be reported after each thing that is done with them.
use Rattle.std.proofs.Common.{ℕ, List, [], ◌∷◌, take, drop}
use Rattle.std.specs.List.{AllByRecursion}
use Rattle.cs_base.proofs.Elements.{All-drop, All-take}
use Rattle.cs_base.specs.Ranges.{IsChange}
use Rattle.cs_base.specs.declared.change.Change.{Change}
use Rattle.cs_pending.specs.Counting.{all_offered}
use Rattle.cs_pending.specs.Pending.{after_offer, offer_of}
use Rattle.cs_pending.specs.Reportable.{CanBeReported}
use Rattle.cs_pending.proofs.Offers.{All-all_offered, IsPending-all_offered, IsPending-drop, IsPending-take}

-- several changes are offered
pub reportable-all_offered : (pending changes : List Change) → CanBeReported pending → AllByRecursion IsChange changes
    → CanBeReported (all_offered pending changes).0
reportable-all_offered pending changes is all = record {
  pending = IsPending-all_offered pending changes is.pending;
  changes = All-all_offered IsChange pending changes is.changes all;
}

-- one is offered
pub reportable-offered : (pending : List Change) (change : Change) → CanBeReported pending → IsChange change
    → CanBeReported (after_offer (offer_of pending change) pending change)
reportable-offered pending change is allowed = reportable-all_offered pending (change ∷ []) is (allowed, tt)

-- the first of them are taken out
pub reportable-take : (n : ℕ) (pending : List Change) → CanBeReported pending → CanBeReported (take n pending)
reportable-take n pending is = record {
  pending = IsPending-take n pending is.pending;
  changes = All-take IsChange n pending is.changes;
}

-- and those behind them stay
pub reportable-drop : (n : ℕ) (pending : List Change) → CanBeReported pending → CanBeReported (drop n pending)
reportable-drop n pending is = record {
  pending = IsPending-drop n pending is.pending;
  changes = All-drop IsChange n pending is.changes;
}
