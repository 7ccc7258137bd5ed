use Rattle.std.proofs.Common.{◌≡◌, ◌<◌, length, rules, sym, subst}
use Rattle.std.specs.List.{AllByRecursion}
use Rattle.cs_group.specs.Led.{IsLedBy}
use Rattle.cs_group.specs.Next.{with_all_accepted}
use Rattle.cs_item.specs.SliceField.{IsSlice}
use Rattle.cs_item.specs.declared.picture.Picture.{Picture}
use Rattle.cs_lead.specs.Kept.{IsLeading}
use Rattle.cs_lead.specs.Leading.{Leading, led_to}
use Rattle.cs_lead.proofs.KeptLeader.{IsLeading-led_to}
use Rattle.cs_lead.proofs.WholeViews.{whole_listed}
use Rattle.cs_lead.proofs.leader.Leader.led_to.Goals as goal

-- its view lists a region
pub followed_by-requires : goal.followed_by-requires
followed_by-requires c =
    subst (λ (p : Picture). 0 < length p.summaries) (sym c.requires.view) (whole_listed c.args.view.epoch c.args.turn.group c.requires.group)

-- it is a leader of its epoch
pub invariant_of-result : goal.invariant_of-result
invariant_of-result c =
    let me = c.args.self.now.me in
    let before = c.args.before.now in
    let turn = c.args.turn in
    let next : Leading = record {
      me = c.self.inside.me;
      group = c.in_ok-new.field-0.value;
      view = c.in_ok-new-2.field-0.value;
      slices = c.in_ok-new-3.field-0.value;
      pending = c.in_ok-new-4.field-0.value;
    } in
    let same : next ≡ led_to me before turn c.args.view.epoch c.args.pending = search rules in
    let led : IsLedBy me turn.group =
    c.leaders_stay.ensures.next me before turn.item (with_all_accepted turn) c.count-regions.ensures.group c.requires.led
    c.requires.changes c.requires.turn.next in
    let allowed = subst (AllByRecursion IsSlice) c.requires.slices c.requires.allowed in
    subst IsLeading (sym same)
    (IsLeading-led_to me before turn c.args.view.epoch c.args.pending c.count-regions.ensures.group c.requires.turn c.requires.group led
    c.requires.epoch allowed c.requires.pending)
