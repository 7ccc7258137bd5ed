use Rattle.std.proofs.Common.{◌≡◌, ◌∙◌, true, refl, sym, subst}
use Rattle.std.specs.List.{list_all}
use Rattle.cs_group.specs.Group.{state_of}
use Rattle.cs_group.specs.Led.{IsLedBy}
use Rattle.cs_lead.specs.Resume.{has_as_it_is}
use Rattle.cs_lead.proofs.Bases.{all-from_test}
use Rattle.cs_lead.proofs.leader.Leader.after_base.Goals as goal

-- the rows make a group that the leader leads
pub after_changes-requires-clause-led : goal.after_changes-requires-clause-led
after_changes-requires-clause-led c =
    let me = c.args.self.now.me in
    let rows = c.args.rows.now in
    let same : c.in-Ok.before ≡ state_of me.id rows c.args.next_region c.args.retired.now =
    c.in-Ok.ensures.group.1 ∙ rw (c.me-me.ensures.value, c.as_slice-2.ensures.value) refl in
    let passes : list_all (has_as_it_is me) rows ≡ true = rw (← c.me-me.ensures.value, ← c.as_slice.ensures.value) (sym c.if-not-have_as_it_is.ensures) in
    subst (IsLedBy me) (sym same) (record { leader = refl; row = all-from_test me rows passes; retired = c.requires.retired })
