use Rattle.std.proofs.Common.{◌++◌, List, sym, ap, subst, ◌∙◌}
use Rattle.std.specs.List.{AllByRecursion}
use Rattle.cs_base.specs.Address.{Address}
use Rattle.cs_base.proofs.Ascending.{All-at}
use Rattle.cs_item.specs.SliceField.{IsSlice}
use Rattle.cs_packet.specs.declared.packet.Packet.{Packet}
use Rattle.cs_lead.specs.Closing.{slice_sends}
use Rattle.cs_lead.proofs.Loops.{flat_take_more}
use Rattle.cs_lead.proofs.leader.Leader.put_slices.Goals as goal

-- each slice is well formed
pub put_slice-requires : goal.put_slice-requires
put_slice-requires c =
    let items = c.as_slice-slice-items.result.now in
    let all = subst (AllByRecursion IsSlice) (sym c.as_slice-slice-items.ensures.value) c.requires in
    subst IsSlice (sym c.slice-item.is) (All-at IsSlice items all c.loop-slice.slice-index c.slice-item.result c.loop-slice-test.true)

-- the pieces of one more slice
pub loop-slice-preserved : goal.loop-slice-preserved
loop-slice-preserved c =
    let leader = c.args.self.now in
    let slice = c.slice-item.result in
    let items = c.as_slice-slice-items.result.now in
    let of_slice = slice_sends leader.me.id leader.view in
    record {
      value = c.in_ok-put_slice.ensures.value
          ∙ (ap (λ (was : List (Address × Packet)). was ++ of_slice slice) c.loop-slice.invariant.value
          ∙ flat_take_more of_slice c.args.sends.now items c.loop-slice.slice-index slice c.loop-slice-test.true c.slice-item.is);
      allowed = λ before. c.in_ok-put_slice.ensures.allowed (c.loop-slice.invariant.allowed before);
    }
