use Rattle.std.proofs.Common.{◌≡◌, sym, subst, rules}
use Rattle.cs_pending.specs.Pending.{after_offer, offer_of}
use Rattle.cs_pending.specs.Reportable.{CanBeReported}
use Rattle.cs_pending.proofs.Reportable.{reportable-offered}
use Rattle.cs_core.proofs.following.Following.kept.Goals as goal

-- one more change can be reported too
pub returns-clause-reportable : goal.returns-clause-reportable
returns-clause-reportable c =
    let pending = c.args.self.now.pending in
    let after : c.offer-offer.new.self ≡ after_offer (offer_of pending c.args.change) pending c.args.change = search rules in
    subst CanBeReported (sym after) (reportable-offered pending c.args.change c.pending.ensures.keeps c.requires)
