use Rattle.std.proofs.Common.{◌≡◌, ◌++◌, ◌≤◌, true, List, [], ◌∷◌, map, take, sym, ap, subst, ◌∙◌, arith}
use Rattle.std.specs.List.{AllByRecursion}
use Rattle.cs_base.specs.Address.{Address}
use Rattle.cs_base.specs.Limits.{last_number}
use Rattle.cs_base.specs.Ranges.{IsId, IsMember}
use Rattle.cs_base.specs.declared.member.Member.{Member}
use Rattle.cs_base.proofs.Ascending.{All-at}
use Rattle.cs_base.proofs.Elements.{All-append}
use Rattle.cs_group.specs.Rows.{has_member, regions}
use Rattle.cs_item.specs.PictureField.{IsPicture}
use Rattle.cs_packet.specs.PacketField.{AreSends, IsSend}
use Rattle.cs_packet.specs.declared.packet.Body.TheVariants.{Snap}
use Rattle.cs_packet.specs.declared.packet.Packet.{Packet}
use Rattle.cs_projection.proofs.Pictures.{IsPicture-projection}
use Rattle.cs_slicer.specs.Joiners.{joiners}
use Rattle.cs_slicer.proofs.LetIn.{AreMembersOf-turn}
use Rattle.cs_slicer.proofs.Steps.{image_more}
use Rattle.cs_lead.specs.Closing.{snapshot_to}
use Rattle.cs_lead.proofs.OwnRegion.{known-member, snapshot-made}
use Rattle.cs_lead.proofs.leader.Leader.snapshots.Goals as goal

-- a joiner is a member of the group
pub region_of-region-requires : goal.region_of-region-requires
region_of-region-requires c =
    let turn = c.args.turn.now in
    let items = c.as_slice-joiner-items.result.now in
    let m = c.joiner-item.result in
    let IsIn : Member → Type 0 = λ m. has_member m.id turn.group.rows ≡ true in
    let are : items ≡ joiners turn.item = c.as_slice-joiner-items.ensures.value ∙ (c.in_ok-joiners.ensures ∙ ap joiners c.as_slice.ensures) in
    let all : AllByRecursion IsIn items = subst (AllByRecursion IsIn) (sym are) (AreMembersOf-turn c.args.self.now.group turn c.requires.turn) in
    subst IsIn (sym c.joiner-item.is) (All-at IsIn items all c.loop-joiner.joiner-index m c.loop-joiner-test.true)

-- the view has the roll of its region
pub picture-requires : goal.picture-requires
picture-requires c =
    known-member c.args.view.now c.args.turn.now.group c.joiner-item.result.id c.region_of-region.result c.requires.view c.region_of-region.ensures

-- one more snapshot
pub loop-joiner-preserved : goal.loop-joiner-preserved
loop-joiner-preserved c =
    let group = c.args.turn.now.group in
    let view = c.args.view.now in
    let items = c.as_slice-joiner-items.result.now in
    let i = c.loop-joiner.joiner-index in
    let m = c.joiner-item.result in
    let me = c.args.self.now.me in
    let picture = c.in_ok-picture.field-0 in
    let to_each = snapshot_to me.id view.epoch group in
    let send : Address × Packet = (m.addr, record { from = c.me-me.result.id; to = m.id; body = Snap picture }) in
    let mine : send ≡ (m.addr, record { from = me.id; to = m.id; body = Snap picture }) =
    ap (λ (from : Member). (m.addr, record { from = from.id; to = m.id; body = Snap picture })) c.me-me.ensures.value in
    let made = snapshot-made me.id view picture group m c.region_of-region.result c.requires.view c.region_of-region.ensures c.in_ok-picture.ensures.value in
    let more = image_more to_each items i m c.loop-joiner-test.true c.joiner-item.is in
    let members : AllByRecursion IsMember items =
    subst (AllByRecursion IsMember) (sym c.as_slice-joiner-items.ensures.value) c.as_slice-joiner-items.ensures.roll.allowed in
    let member : IsMember m = subst IsMember (sym c.joiner-item.is) (All-at IsMember items members i m c.loop-joiner-test.true) in
    let small : view.epoch ≤ last_number = omega (arith, c.epoch.ensures, c.get-epoch.ensures.value, c.get-epoch.ensures.not_last) in
    let seen : IsPicture view =
    subst IsPicture (sym c.requires.view) (IsPicture-projection group view.epoch (regions group.rows) c.count-count.ensures.group small) in
    let from : IsId c.me-me.result.id = (omega (arith, c.get-sender.ensures.value, c.get-sender.ensures.not_zero), omega arith) in
    let fits : IsSend send = (member.addr, record { from = from; to = member.id; body = c.in_ok-picture.ensures.well_formed seen }) in
    record {
      value = c.in_ok-push.ensures.ok
          ∙ (ap (λ (sends : List (Address × Packet)). sends ++ send ∷ []) c.loop-joiner.invariant.value
          ∙ (ap (λ (last : Address × Packet). map to_each (take i items) ++ last ∷ []) (mine ∙ made) ∙ sym more));
      allowed = subst AreSends (sym c.in_ok-push.ensures.ok)
          (All-append IsSend c.loop-joiner.sends (send ∷ []) c.loop-joiner.invariant.allowed (fits, tt));
    }
