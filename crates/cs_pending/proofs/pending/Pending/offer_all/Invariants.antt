use Rattle.cs_pending.proofs.Offers.{AreOffered}
use Rattle.cs_pending.proofs.pending.Pending.offer_all.Given as goal

-- the changes so far were offered
abbrev pub invariant-loop-change : goal.invariant-loop-change
invariant-loop-change l = AreOffered l.initial.self l.changes l.self l.counts l.change-index
