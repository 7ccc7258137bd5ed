use Rattle.std.proofs.Common.{◌≡◌, ◌<◌, length, rules, sym, subst}
use Rattle.cs_group.specs.Group.{IsGroup}
use Rattle.cs_item.specs.declared.picture.Picture.{Picture}
use Rattle.cs_lead.specs.Kept.{IsLeading}
use Rattle.cs_lead.specs.Leading.{Leading, begun}
use Rattle.cs_lead.proofs.KeptLeader.{IsLeading-begun}
use Rattle.cs_lead.proofs.WholeViews.{whole_listed}
use Rattle.cs_lead.proofs.leader.Leader.start.Goals as goal

-- its view lists a region
pub new-requires-3 : goal.new-requires-3
new-requires-3 c =
    subst (λ (p : Picture). 0 < length p.summaries) (sym c.in_ok-view.ensures.value)
    (whole_listed 0 c.in_ok-group.group c.in_ok-view.ensures.group)

-- it is alone in its group
pub invariant_of-result : goal.invariant_of-result
invariant_of-result c =
    let next : Leading = record {
      me = c.args.me;
      group = c.in_ok-new.field-0.value;
      view = c.in_ok-new-3.field-0.value;
      slices = c.in_ok-new-4.field-0.value;
      pending = c.in_ok-new-5.field-0.value;
    } in
    let same : next ≡ begun c.args.me = search rules in
    subst IsLeading (sym same) (IsLeading-begun c.args.me (subst IsGroup c.in_ok-group.ensures c.in_ok-view.ensures.group)
    (c.leaders_stay.ensures.first c.args.me))
