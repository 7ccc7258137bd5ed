use Rattle.std.proofs.Common.{◌≡◌, rules, sym, subst}
use Rattle.cs_lead.specs.Kept.{IsLeading}
use Rattle.cs_lead.specs.Leading.{Leading}
use Rattle.cs_lead.proofs.KeptLeader.{IsLeading-pending}
use Rattle.cs_lead.proofs.leader.Leader.with_pending.Goals as goal

-- it is the leader with these pending changes
pub invariant_of-result : goal.invariant_of-result
invariant_of-result c =
    let next : Leading = record {
      me = c.self.inside.me;
      group = c.in_ok-clone.field-0.value;
      view = c.in_ok-clone-2.field-0.value;
      slices = c.in_ok-clone-3.field-0.value;
      pending = c.in_ok-new.field-0.value;
    } in
    let is : IsLeading c.args.self.now = rw (← c.self.view_is) c.self.invariant in
    let same : next ≡ record c.args.self.now { pending = c.args.pending } = search rules in
    subst IsLeading (sym same) (IsLeading-pending c.args.self.now c.args.pending is c.requires)
