-- What becomes of a node's own change.
use Rattle.std.proofs.Common.{◌≡◌, ◌==◌, true, false, [], ◌∷◌, Some, None, Result, Ok, Err, sym, if◌then◌else◌}
use Rattle.std.specs.Result.{IfOk, OnOk}
use Rattle.cs_base.specs.declared.change.Change.{Change}
use Rattle.cs_packet.specs.PacketField.{AreSends}
use Rattle.cs_packet.specs.declared.own.Own.{Own}
use Rattle.cs_packet.specs.declared.packet.Body.TheVariants.{Report}
use Rattle.cs_pending.specs.Pending.{after_offer, offer_of}
use Rattle.cs_pending.specs.Reportable.{CanBeReported}
use Rattle.cs_core.specs.Addresses.{reports_to, send_to}
use Rattle.cs_core.specs.Changes.{is_reporter}
use Rattle.cs_core.specs.Node.{Following}
use Rattle.cs_core.specs.Reported.{IsReported}
use Rattle.cs_core.specs.declared.changes.Reported.{Reported}

module _ {E : Type 0} (own : Own) (m : Following) (change : Change) where
  -- a reporter keeps it
  pub reported-kept : (r : Result Reported E) → is_reporter own m ≡ true
      → IfOk r (λ (x : Reported). x.sends ≡ [])
      → IfOk r (λ (x : Reported). x.kept ≡ Some (offer_of m.pending change))
      → IfOk r (λ (x : Reported). x.pending ≡ after_offer (offer_of m.pending change) m.pending change)
      → IfOk r (λ (x : Reported). CanBeReported x.pending)
      → IfOk r (IsReported own m change)
  reported-kept (Err e) is sends kept pending can = tt
  reported-kept (Ok x) is sends kept pending can = record {
    sends = rw is sends;
    allowed = rw sends tt;
    kept = rw is kept;
    pending = rw is pending;
    reportable = can;
  }

  -- any other node sends it on
  pub reported-sent : (r : Result Reported E) → is_reporter own m ≡ false
      → IfOk r (λ (x : Reported). x.sends ≡ send_to own m.view (reports_to own m.view) (Report (change ∷ [])))
      → IfOk r (λ (x : Reported). AreSends x.sends)
      → IfOk r (λ (x : Reported). x.kept ≡ None)
      → IfOk r (λ (x : Reported). x.pending ≡ m.pending)
      → IfOk r (λ (x : Reported). CanBeReported x.pending)
      → IfOk r (IsReported own m change)
  reported-sent (Err e) is sends allowed kept pending can = tt
  reported-sent (Ok x) is sends allowed kept pending can = record {
    sends = rw is sends;
    allowed = allowed;
    kept = rw is kept;
    pending = rw is pending;
    reportable = can;
  }

-- what holds anyhow holds where there is a value
pub anyhow : {T E P : Type 0} (r : Result T E) → P → OnOk r P
anyhow (Ok x) holds = holds
anyhow (Err e) holds = tt
